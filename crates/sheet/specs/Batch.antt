-- What the program writes in one batch.
--     Handed s text t      the text is pieces of the sheet s one behind another, each with room for a line of any length, and t is the sheet
--                          that they leave
--     Silent s room        a buffer of so many bytes, where that is room for a line, gets nothing of s
-- Assumes nothing.
use Rattle.std.specs.Prelude.{◌≡◌, List, ℕ, ◌≤◌}
use Rattle.shape.specs.Every.{All}
use Rattle.text.specs.Text.{line_room}
use Rattle.lines.specs.declared.Sheet.{Sheet}
use Rattle.lines.specs.Calls.{fill_reply}
use Rattle.lines.specs.Handing.{pieces_from, sheet_after}

pub record Handed (s : Sheet) (text : List ℕ) (t : Sheet) : Type 0 where
  pub rooms : List ℕ
  pub fits : All (λ room. line_room ≤ room) rooms
  pub handed : text ≡ pieces_from rooms s
  pub left : t ≡ sheet_after rooms s

abbrev pub Silent : Sheet → ℕ → Type 0
Silent s room = line_room ≤ room → (fill_reply s room).value ≡ 0
