-- `permutation::faults::is_permutation` meets its contract. The invariant: the entries before this one are right, they are what has a link, and `closed` is the
-- largest of them that a larger one follows.
-- Assumes nothing.
use Rattle.permutation.proofs.Searches.{Passed}
use Rattle.permutation.proofs.faults.is_permutation.Given as goal

abbrev pub invariant-loop-entry : goal.invariant-loop-entry
invariant-loop-entry l = Passed l.size l.entries l.above l.closed l.entry-index
