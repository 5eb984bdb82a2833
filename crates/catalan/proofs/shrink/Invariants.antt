-- The loop of `catalan::shrink`: below a the row is as it came, from a on the one before.
-- Assumes nothing.
use Rattle.std.proofs.Common.{◌≡◌, ◌-◌, ◌≤◌, length}
use Rattle.catalan.specs.Table.{row_of}
use Rattle.catalan.proofs.Seams.{seam}
use Rattle.catalan.proofs.shrink.Given as goal

abbrev pub invariant-loop-a : goal.invariant-loop-a
invariant-loop-a l = (1 ≤ l.a) × (length l.row ≡ 36) × (l.row ≡ seam l.a (row_of l.zeros) (row_of (l.zeros - 1)))
