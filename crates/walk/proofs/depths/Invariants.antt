-- `walk::depths`: the depths up to place i are written, and the excess is that of the places before it.
-- Assumes nothing.
use Rattle.walk.proofs.Climbs.{Climbing}
use Rattle.walk.proofs.depths.Given as goal

abbrev pub invariant-loop-i : goal.invariant-loop-i
invariant-loop-i l = Climbing l.size l.places l.depths l.excess l.i
