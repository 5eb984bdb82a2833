-- `permutation::faults::fits` meets its contract: the invariant at the start and after a turn.
-- Assumes nothing.
use Rattle.std.proofs.Common.{rules}
use Rattle.permutation.proofs.Entries.{fitting}
use Rattle.permutation.proofs.faults.fits.Goals as goal

pub loop-entry-init : goal.loop-entry-init
loop-entry-init c = search (rules, fitting)

pub loop-entry-preserved : goal.loop-entry-preserved
loop-entry-preserved c = search (rules, fitting)
