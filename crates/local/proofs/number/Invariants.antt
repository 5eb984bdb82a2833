-- The loop of `local::number`: the places from i on have been passed, and the row is that of one 0 fewer.
-- Assumes nothing.
use Rattle.std.proofs.Common.{◌≡◌, ◌-◌, length}
use Rattle.catalan.specs.Table.{row_of}
use Rattle.local.proofs.Numbers.{Passed}
use Rattle.local.proofs.number.Given as goal

abbrev pub invariant-loop-i : goal.invariant-loop-i
invariant-loop-i l = (length l.row ≡ 36) × (l.row ≡ row_of (l.zeros - 1)) × Passed l.size l.places l.i l.number l.ones l.zeros
