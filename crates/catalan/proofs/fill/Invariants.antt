-- The loop of `catalan::fill`: the row is that of b zeros.
-- Assumes nothing.
use Rattle.std.proofs.Common.{◌≡◌, length}
use Rattle.catalan.specs.Table.{row_of}
use Rattle.catalan.proofs.fill.Given as goal

abbrev pub invariant-loop-b : goal.invariant-loop-b
invariant-loop-b l = (length l.row ≡ 36) × (l.row ≡ row_of l.b)
