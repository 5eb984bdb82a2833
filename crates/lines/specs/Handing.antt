-- A sheet that is handed out into one buffer after another. A room is how many bytes a buffer has.
--     pieces_from rooms s     the bytes handed out, joined
--     sheet_after rooms s     the sheet after them
--     lines_left s            how many lines are still to come
-- Assumes nothing.
use Rattle.std.specs.Prelude.{cond, List, [], ◌∷◌, ◌++◌, ℕ, ◌+◌, ◌-◌, eqb}
use Rattle.shape.specs.Check.{unless_refused}
use Rattle.lines.specs.declared.Sheet.{Sheet}
use Rattle.lines.specs.Calls.{fill_check, piece_text, fill_sheet}

unfoldable pub pieces_from : List ℕ → Sheet → List ℕ
pieces_from [] s = []
pieces_from (room ∷ rooms) s = unless_refused (fill_check s room) (piece_text s room) [] ++ pieces_from rooms (fill_sheet s room)

unfoldable pub sheet_after : List ℕ → Sheet → Sheet
sheet_after [] s = s
sheet_after (room ∷ rooms) s = sheet_after rooms (fill_sheet s room)

-- One for each shape, one for the first line and one for the last; a sheet that tells a refusal has one line in all.
unfoldable pub lines_left : Sheet → ℕ
lines_left s = cond s.ended 0 (cond (eqb s.refusal 0) (s.run.end - s.run.next + cond s.opened 1 2) 1)
