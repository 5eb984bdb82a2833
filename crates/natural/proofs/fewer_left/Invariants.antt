-- `natural::fewer_left` meets its contract. The invariant: so far the trees with fewer than j nodes on the left are counted.
-- Assumes nothing.
use Rattle.std.proofs.Common.{◌≡◌}
use Rattle.shape.specs.Number.{fewer_left}
use Rattle.natural.proofs.fewer_left.Given as goal

abbrev pub invariant-loop-j : goal.invariant-loop-j
invariant-loop-j l = l.fewer ≡ fewer_left l.others l.j
