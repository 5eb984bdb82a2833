-- `natural::left_nodes` meets its contract. The invariant: the trees with fewer than `left` nodes on the left have been taken off the number.
-- Assumes nothing.
use Rattle.std.proofs.Common.{◌≡◌, ◌+◌}
use Rattle.shape.specs.Number.{fewer_left}
use Rattle.natural.proofs.left_nodes.Given as goal

abbrev pub invariant-loop-left : goal.invariant-loop-left
invariant-loop-left l = fewer_left l.others l.left + l.rest ≡ l.number
