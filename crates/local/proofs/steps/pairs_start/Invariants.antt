-- The loop of `local::steps::pairs_start`: the pairs that end at place 2k begin where all of them do.
-- Assumes nothing.
use Rattle.std.proofs.Common.{◌≡◌, ◌*◌}
use Rattle.local.specs.Places.{pairs_start}
use Rattle.local.proofs.steps.pairs_start.Given as goal

abbrev pub invariant-loop-k : goal.invariant-loop-k
invariant-loop-k l = pairs_start l.places (2 * l.size) ≡ pairs_start l.places (2 * l.k)
