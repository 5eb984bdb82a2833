-- Pieces of a sheet, one behind another.
--     piece s room                  the bytes that a buffer of so many bytes gets
--     pieces_then                   what rooms hand out, and then others
--     handed_none, handed_one       no piece, and one
--     handed_then                   a batch and then another
-- Assumes nothing.
use mathlib.Core.Path.{◌≡◌, refl, sym, ap, ◌∙◌}
use mathlib.Core.List.{List, [], ◌∷◌, ◌++◌, append_assoc, append-nil}
use Prim.Native.Nat.{ℕ, ◌≤◌}
use Rattle.shape.specs.Check.{unless_refused}
use Rattle.shape.proofs.Lists.{all_append}
use Rattle.text.specs.Text.{line_room}
use Rattle.lines.specs.declared.Sheet.{Sheet}
use Rattle.lines.specs.Calls.{fill_check, piece_text, fill_sheet}
use Rattle.lines.specs.Handing.{pieces_from, sheet_after}
use Rattle.sheet.specs.Batch.{Handed}

abbrev pub piece : Sheet → ℕ → List ℕ
piece s room = unless_refused (fill_check s room) (piece_text s room) []

pub pieces_then : (rooms more : List ℕ) (s : Sheet) → pieces_from (rooms ++ more) s ≡ pieces_from rooms s ++ pieces_from more (sheet_after rooms s)
unfolding pieces_from sheet_after
pieces_then [] more s = refl
pieces_then (room ∷ rooms) more s =
    ap (λ t. piece s room ++ t) (pieces_then rooms more (fill_sheet s room)) ∙ sym (append_assoc (piece s room) _ _)

after_then : (rooms more : List ℕ) (s : Sheet) → sheet_after (rooms ++ more) s ≡ sheet_after more (sheet_after rooms s)
unfolding sheet_after
after_then [] more s = refl
after_then (room ∷ rooms) more s = after_then rooms more (fill_sheet s room)

pub handed_none : (s : Sheet) → Handed s [] s
unfolding pieces_from sheet_after
handed_none s = record { rooms = []; fits = tt; handed = refl; left = refl }

pub handed_one : (s : Sheet) (room : ℕ) → line_room ≤ room → Handed s (piece s room) (fill_sheet s room)
unfolding pieces_from sheet_after
handed_one s room h = record { rooms = room ∷ []; fits = (h, tt); handed = sym (append-nil (piece s room)); left = refl }

pub handed_then : (s t u : Sheet) (text more : List ℕ) → Handed s text t → Handed t more u → Handed s (text ++ more) u
handed_then s t u text more a b =
    record {
      rooms = a.rooms ++ b.rooms;
      fits = all_append (λ room. line_room ≤ room) a.rooms b.rooms a.fits b.fits;
      handed =
          ap (λ (z : List ℕ). z ++ more) a.handed
          ∙ ap (λ (z : List ℕ). pieces_from a.rooms s ++ z) (b.handed ∙ ap (pieces_from b.rooms) a.left)
          ∙ sym (pieces_then a.rooms b.rooms s);
      left = b.left ∙ ap (sheet_after b.rooms) a.left ∙ sym (after_then a.rooms b.rooms s);
    }
