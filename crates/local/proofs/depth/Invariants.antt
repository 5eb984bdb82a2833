-- The loop of `local::depth`: the excess is that of the first 2k places, and the largest is that of all prefixes so far.
-- Assumes nothing.
use Rattle.local.proofs.Walks.{Climbed}
use Rattle.local.proofs.depth.Given as goal

abbrev pub invariant-loop-k : goal.invariant-loop-k
invariant-loop-k l = Climbed l.size l.places l.largest l.excess l.k
