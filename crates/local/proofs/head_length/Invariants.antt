-- The loop of `local::head_length`: place i - 1 stands in the head, and `open` is the excess of the first i places.
-- Assumes nothing.
use Rattle.std.proofs.Common.{◌-◌, length}
use Rattle.local.proofs.Walks.{Inside}
use Rattle.local.proofs.head_length.Given as goal

abbrev pub invariant-loop-open : goal.invariant-loop-open
invariant-loop-open l = Inside l.size l.places l.«open» l.i

abbrev pub decreases-loop-open : goal.decreases-loop-open
decreases-loop-open l = length l.places - l.i
