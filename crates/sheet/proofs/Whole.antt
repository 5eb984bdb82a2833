-- What the program reads, and what it writes, batch after batch.
--     first_bytes       the sheet of an input is that of its first 64 bytes
--     whole_sheet       the batches of an input up to a sheet of which a buffer gets nothing, joined by `handed_then`, are the input's sheet
-- Assumes nothing.
use mathlib.Core.Path.{◌≡◌, refl, sym, ap, ◌∙◌}
use mathlib.Core.Bool.{Bool, true, false}
use mathlib.Core.List.{List, [], ◌∷◌, ◌++◌, append-nil}
use Prim.Native.Nat.{ℕ, zero, suc, ◌+◌, ◌-◌, ◌≤◌, ◌<◌}
use native.Mathlib.Decide.{dec_lt, ℕ_discrete}
use native.Mathlib.Omega.{arith}
use lib.ListN.{length, take, replicate, length-append, length-replicate}
use lib.Seq.{take_all, length-take-le}
use borrow.Author.Tests.{eq-eqb, ne_eqb}
use Rattle.std.proofs.lemmas.List.{nil_from_length}
use Rattle.shape.specs.Every.{All}
use Rattle.shape.specs.Reply.{Outcome}
use Rattle.std.specs.Prelude.{Ok, Err}
use Rattle.shape.proofs.Lists.{all_append}
use Rattle.run.proofs.States.{step_handed}
use Rattle.text.specs.Text.{decimal, line, run_line, shape_text, shape_line, shape_lines, end_line, no_line, line_room}
use Rattle.text.specs.Input.{ask_line, reads, asked_size, asked_first, asked_end}
use Rattle.text.proofs.Lengths.{number_most}
use Rattle.text.proofs.Inputs.{asks_exactly}
use Rattle.lines.specs.declared.Sheet.{Sheet}
use Rattle.lines.specs.Sheet.{open_check, sheet_of}
use Rattle.lines.specs.Calls.{open_sheet, keeps, fill_check, listed, piece_text, piece_sheet, fill_reply, fill_sheet}
use Rattle.lines.specs.Handing.{pieces_from}
use Rattle.lines.proofs.Lines.{lines_last}
use Rattle.lines.proofs.Pieces.{fitting_next}
use Rattle.lines.proofs.Belonging.{fill_passed, kept_handed}
use Rattle.lines.proofs.Sheets.{sheet_handed_out}
use Rattle.sheet.specs.Batch.{Handed, Silent}
use Rattle.sheet.proofs.Batches.{piece, pieces_then}

-- ---- no line that is taken is longer than 63 bytes

short : (input : List ℕ) → reads input ≡ true → length input ≤ 63
unfolding ask_line line
short input e =
    let asked = (asks_exactly input _ _ _).1 (e, (refl, (refl, refl))) in
    let n = asked_size input in
    let first = asked_first input in
    let end = asked_end input in
    omega (
      arith,
      ap length asked.text,
      length-append (decimal n) (32 ∷ (decimal first ++ (32 ∷ (decimal end ++ (10 ∷ []))))),
      length-append (decimal first) (32 ∷ (decimal end ++ (10 ∷ []))),
      length-append (decimal end) (10 ∷ []),
      number_most n asked.size_fits,
      number_most first asked.first_fits,
      number_most end asked.end_fits,
    )

long : (b : Bool) (input : List ℕ) → reads input ≡ b → 64 ≤ length input → sheet_of input ≡ no_line 11
unfolding sheet_of open_check
long true input e h = absurd (omega (arith, short input e))
long false input e h = rw e

pub first_bytes : (input : List ℕ) → sheet_of (take 64 input) ≡ sheet_of input
first_bytes input =
    elim (dec_lt (length input) 64) [
      | yes h ↦ ap sheet_of (take_all 64 input (omega arith))
      | no h ↦
          let whole : length (take 64 input) ≡ 64 = length-take-le 64 input (omega arith) in
          long (reads (take 64 input)) (take 64 input) refl (omega arith) ∙ sym (long (reads input) input refl (omega arith))
    ]

-- ---- a piece that is handed out has bytes, but for an ended sheet

line_some : (field : List ℕ) (fields : List (List ℕ)) → 0 < length (line (field ∷ fields))
unfolding line
line_some field [] = rw (length-append field (10 ∷ [])) (omega arith)
line_some field (other ∷ fields) = rw (length-append field (32 ∷ line (other ∷ fields))) (omega arith)

shape_some : (n k : ℕ) → 0 < length (shape_line n k)
unfolding shape_line shape_text
shape_some n k = line_some _ _

shapes_some : (n k m : ℕ) → 0 < m → 0 < length (shape_lines n k (k + m))
shapes_some n k m some =
    let last = k + (m - 1) in
    let there : k + m ≡ last + 1 = omega arith in
    rw (there, lines_last n k last (omega arith), length-append (shape_lines n k last) (shape_line n last)) (omega (arith, shape_some n last))

module _ (s : Sheet) (room : ℕ) (kept : keeps s ≡ true) (fits : line_room ≤ room) (on : s.ended ≡ false) where
  module _ (told : s.refusal ≡ 0) where
    listed_some : (s.run.next ≡ s.run.end → ⊥) → 0 < listed s.run room
    listed_some other =
        let handed = kept_handed s told kept other in
        let more : s.run.end - s.run.next ≡ suc (s.run.end - s.run.next - 1) = omega (arith, ((step_handed s.run).0 handed).1) in
        rw (more, fitting_next s.run room (s.run.end - s.run.next - 1) fits handed) (omega arith)

    run_some : (b : Bool) → s.opened ≡ b → 0 < length (piece_text s room)
    unfolding piece_text run_line end_line
    run_some false o = rw (on, eq-eqb s.refusal 0 told, o) (line_some _ _)
    run_some true o =
        elim (ℕ_discrete s.run.next s.run.end) [
          | yes e ↦ rw (on, eq-eqb s.refusal 0 told, o, eq-eqb s.run.next s.run.end e) (line_some _ _)
          | no other ↦
              rw (on, eq-eqb s.refusal 0 told, o, ne_eqb s.run.next s.run.end other)
              (shapes_some s.run.size s.run.next (listed s.run room) (listed_some other))
        ]

  piece_some : 0 < length (piece_text s room)
  unfolding piece_text no_line
  piece_some =
      elim (ℕ_discrete s.refusal 0) [
        | yes told ↦ run_some told s.opened refl
        | no told ↦ rw (on, ne_eqb s.refusal 0 told) (line_some _ _)
      ]

-- ---- so a sheet of which a buffer gets nothing stays as it is

module _ (s : Sheet) (room : ℕ) where
  ended_still : (b : Bool) → s.ended ≡ b → fill_check s room ≡ Ok tt → length (piece_text s room) ≡ 0 → piece_sheet s room ≡ s
  unfolding piece_sheet
  ended_still true e check still = rw e
  ended_still false e check still =
      let (fits, kept) = (fill_passed s room).0 check in
      absurd (omega (arith, still, piece_some s room kept fits e))

  still : (o : Outcome) → fill_check s room ≡ o → (fill_reply s room).value ≡ 0 → (piece s room ≡ []) × (fill_sheet s room ≡ s)
  unfolding fill_reply fill_sheet
  still (Ok _) e = rw e (λ nothing. (nil_from_length _ nothing, ended_still s.ended refl e nothing))
  still (Err f) e = rw e (λ nothing. (refl, refl))

  silent_pieces : (fill_reply s room).value ≡ 0 → (m : ℕ) → pieces_from (replicate m room) s ≡ []
  unfolding pieces_from
  silent_pieces nothing zero = refl
  silent_pieces nothing (suc m) =
      let (nil, same) = still (fill_check s room) refl nothing in
      rw (nil, same) (silent_pieces nothing m)

all_same : (room m : ℕ) → line_room ≤ room → All (λ r. line_room ≤ r) (replicate m room)
all_same room zero h = tt
all_same room (suc m) h = (h, all_same room m h)

pub whole_sheet : (input text : List ℕ) (t : Sheet) (room : ℕ) → Handed (open_sheet input) text t → line_room ≤ room → Silent t room
    → text ≡ sheet_of input
whole_sheet input text t room batch fits silent =
    let m = asked_end input - asked_first input + 2 in
    let more = replicate m room in
    let rooms = batch.rooms in
    let enough : m ≤ length (rooms ++ more) = omega (arith, length-append rooms more, length-replicate m room) in
    batch.handed
    ∙ sym (append-nil (pieces_from rooms (open_sheet input)))
    ∙ ap (λ (z : List ℕ). pieces_from rooms (open_sheet input) ++ z)
    (sym (silent_pieces t room (silent fits) m) ∙ ap (pieces_from more) batch.left)
    ∙ sym (pieces_then rooms more (open_sheet input))
    ∙ sheet_handed_out input (rooms ++ more) (all_append (λ r. line_room ≤ r) rooms more batch.fits (all_same room m fits)) enough
