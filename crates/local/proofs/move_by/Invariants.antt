-- The loop of `local::move_by`: the places from `start` on are a word, `target` is its number and what the distance adds, and the row is that
-- of its zeros.
-- Assumes nothing.
use Rattle.std.proofs.Common.{◌≡◌, length, w64, of_z}
use Rattle.catalan.specs.Table.{row_of}
use Rattle.local.proofs.Targets.{Sought}
use Rattle.local.proofs.move_by.Given as goal

abbrev pub invariant-loop-row : goal.invariant-loop-row
invariant-loop-row l = (length l.row ≡ 36) × (l.row ≡ row_of l.zeros) × Sought l.size l.places (of_z w64 l.distance) l.start l.target l.ones l.zeros

abbrev pub decreases-loop-row : goal.decreases-loop-row
decreases-loop-row l = l.start
