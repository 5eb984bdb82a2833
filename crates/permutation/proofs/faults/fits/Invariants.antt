-- `permutation::faults::fits` meets its contract. The invariant: the entries before this one fit, and they are the ones marked.
-- Assumes nothing.
use Rattle.permutation.proofs.Entries.{Fitting}
use Rattle.permutation.proofs.faults.fits.Given as goal

abbrev pub invariant-loop-entry : goal.invariant-loop-entry
invariant-loop-entry l = Fitting l.size l.entries l.seen l.entry-index
