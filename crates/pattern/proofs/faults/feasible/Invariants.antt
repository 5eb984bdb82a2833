-- `pattern::faults::feasible` meets its contract. The invariant: faults and ones of the pairs of places before k are counted.
-- Assumes nothing.
use Rattle.pattern.proofs.Pass.{Counted}
use Rattle.pattern.proofs.faults.feasible.Given as goal

abbrev pub invariant-loop-k : goal.invariant-loop-k
invariant-loop-k l = Counted l.size l.places l.faults l.ones l.k
