-- The loop of `catalan::grow`: below a the row is the next one, from a on as it came.
-- Assumes nothing.
use Rattle.std.proofs.Common.{◌≡◌, ◌+◌, length}
use Rattle.catalan.specs.Table.{row_of}
use Rattle.catalan.proofs.Seams.{seam}
use Rattle.catalan.proofs.grow.Given as goal

abbrev pub invariant-loop-a : goal.invariant-loop-a
invariant-loop-a l = (length l.row ≡ 36) × (l.row ≡ seam l.a (row_of (l.zeros + 1)) (row_of l.zeros))
