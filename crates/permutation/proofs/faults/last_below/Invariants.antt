-- `permutation::faults::last_below` meets its contract. The invariant: the label is linked, `closed` or above, and below the entry.
-- Assumes nothing.
use Rattle.std.proofs.Common.{◌-◌}
use Rattle.permutation.specs.Links.{LinkedBelow}
use Rattle.permutation.proofs.faults.last_below.Given as goal

abbrev pub invariant-loop-label : goal.invariant-loop-label
invariant-loop-label l = LinkedBelow l.above l.closed l.entry l.label

abbrev pub decreases-loop-label : goal.decreases-loop-label
decreases-loop-label l = l.entry - l.label
