-- Of any sheet that is handed in, well formed or not, no more pieces are handed out than it has lines left.
--     pieces_some      a piece that is not refused has some bytes, unless the sheet has ended
--     pieces_fall      after each piece that has some bytes fewer lines are left
-- Assumes nothing.
use mathlib.Core.Path.{◌≡◌, refl, sym, ap, subst}
use mathlib.Core.Bool.{Bool, true, false}
use Prim.Native.Nat.{ℕ, ◌+◌, ◌-◌, ◌<◌}
use native.Mathlib.Decide.{dec_lt, ℕ_discrete}
use native.Mathlib.Omega.{arith}
use lib.ListN.{length}
use borrow.Author.Tests.{eq-eqb, ne_eqb}
use Rattle.shape.specs.Reply.{Outcome}
use Rattle.std.specs.Prelude.{Ok, Err}
use Rattle.run.specs.declared.Run.{Run}
use Rattle.text.specs.Text.{line, run_line, shape_lines, end_line, no_line}
use Rattle.lines.specs.declared.Sheet.{Sheet}
use Rattle.lines.specs.Calls.{keeps, fill_check, listed, piece_text, piece_sheet, fill_reply, fill_sheet}
use Rattle.lines.specs.Handing.{lines_left}
use Rattle.lines.proofs.Lines.{lines_none, lines_some}
use Rattle.lines.proofs.Pieces.{fitting_after, fitting_within, fitting_some}
use Rattle.lines.proofs.Belonging.{fill_passed, kept_sound, kept_handed}

abbrev Falls : Sheet → ℕ → Type 0
Falls s room = 0 < length (piece_text s room) → lines_left (piece_sheet s room) < lines_left s

-- a sheet that tells no refusal, before its last line
abbrev listing : Bool → ℕ → Run → Sheet
listing opened first run = record { refusal = 0; opened = opened; ended = false; first = first; run = run }

first_falls : (first : ℕ) (run : Run) (room : ℕ) → Falls (listing false first run) room
unfolding piece_sheet lines_left
first_falls first run room some = omega arith

last_falls : (first : ℕ) (run : Run) (room : ℕ) → run.next ≡ run.end → Falls (listing true first run) room
unfolding piece_sheet lines_left
last_falls first run room e some = rw (eq-eqb run.next run.end e) (omega arith)

-- a stretch with no shape in it has no lines
some_lines : (n k m : ℕ) → 0 < length (shape_lines n k (k + m)) → 0 < m
some_lines n k m some =
    elim (dec_lt 0 m) [
      | yes h ↦ h
      | no h ↦ absurd (omega (arith, ap length (lines_none n k (k + m) (omega arith))))
    ]

shapes_fall : (first : ℕ) (run : Run) (room : ℕ) → keeps (listing true first run) ≡ true → (run.next ≡ run.end → ⊥)
    → Falls (listing true first run) room
unfolding piece_text piece_sheet lines_left
shapes_fall first run room kept other =
    let sound = kept_sound (listing true first run) refl kept in
    rw (ne_eqb run.next run.end other, fitting_after (run.end - run.next) room run sound)
    (λ some. omega
    (arith, some_lines run.size run.next (listed run room) some, fitting_within (run.end - run.next) room run sound))

run_falls : (opened : Bool) (first : ℕ) (run : Run) (room : ℕ) → keeps (listing opened first run) ≡ true → Falls (listing opened first run) room
run_falls false first run room kept = first_falls first run room
run_falls true first run room kept =
    elim (ℕ_discrete run.next run.end) [
      | yes e ↦ last_falls first run room e
      | no other ↦ shapes_fall first run room kept other
    ]

module _ (s : Sheet) (room : ℕ) where
  over_falls : s.ended ≡ true → Falls s room
  unfolding piece_text
  over_falls e = rw e (λ some. absurd (omega arith))

  module _ (e : s.ended ≡ false) where
    no_falls : (s.refusal ≡ 0 → ⊥) → Falls s room
    unfolding piece_sheet lines_left
    no_falls told some = rw (e, ne_eqb s.refusal 0 told) (omega arith)

    listing_falls : s.refusal ≡ 0 → keeps s ≡ true → Falls s room
    listing_falls told kept =
        let plain : s ≡ listing s.opened s.first s.run =
        λ i. record { refusal = told i; opened = s.opened; ended = e i; first = s.first; run = s.run } in
        subst (λ (t : Sheet). Falls t room) (sym plain)
        (run_falls s.opened s.first s.run room (subst (λ (t : Sheet). keeps t ≡ true) plain kept))

  falls : (b : Bool) → s.ended ≡ b → keeps s ≡ true → Falls s room
  falls true e kept = over_falls e
  falls false e kept =
      elim (ℕ_discrete s.refusal 0) [
        | yes told ↦ listing_falls e told kept
        | no told ↦ no_falls e told
      ]

  by_check : (o : Outcome) → fill_check s room ≡ o → 0 < (fill_reply s room).value → lines_left (fill_sheet s room) < lines_left s
  unfolding fill_reply fill_sheet
  by_check (Ok _) e = rw e (falls s.ended refl ((fill_passed s room).0 e).1)
  by_check (Err f) e = rw e (λ some. absurd (omega arith))

  pub pieces_fall : 0 < (fill_reply s room).value → lines_left (fill_sheet s room) < lines_left s
  pieces_fall = by_check (fill_check s room) refl

-- ---- pieces with no bytes

module _ (s : Sheet) (room : ℕ) (passed : fill_check s room ≡ Ok tt) (going : s.ended ≡ false) where
  some_no : (s.refusal ≡ 0 → ⊥) → 0 < length (piece_text s room)
  unfolding piece_text no_line line
  some_no told = rw (going, ne_eqb s.refusal 0 told) (omega arith)

  module _ (told : s.refusal ≡ 0) where
    some_first : s.opened ≡ false → 0 < length (piece_text s room)
    unfolding piece_text run_line line
    some_first e = rw (going, eq-eqb s.refusal 0 told, e) (omega arith)

    some_last : s.opened ≡ true → s.run.next ≡ s.run.end → 0 < length (piece_text s room)
    unfolding piece_text end_line line
    some_last e last = rw (going, eq-eqb s.refusal 0 told, e, eq-eqb s.run.next s.run.end last) (omega arith)

    some_shapes : s.opened ≡ true → (s.run.next ≡ s.run.end → ⊥) → 0 < length (piece_text s room)
    unfolding piece_text
    some_shapes e other =
        let (fits, kept) = (fill_passed s room).0 passed in
        let taken = fitting_some s.run room fits (kept_handed s told kept other) in
        rw (going, eq-eqb s.refusal 0 told, e, ne_eqb s.run.next s.run.end other)
        (lines_some s.run.size s.run.next (s.run.next + listed s.run room) (omega arith))

    by_opened : (b : Bool) → s.opened ≡ b → 0 < length (piece_text s room)
    by_opened false e = some_first e
    by_opened true e =
        elim (ℕ_discrete s.run.next s.run.end) [
          | yes last ↦ some_last e last
          | no other ↦ some_shapes e other
        ]

  pub pieces_some : 0 < length (piece_text s room)
  pieces_some =
      elim (ℕ_discrete s.refusal 0) [
        | yes told ↦ by_opened told s.opened refl
        | no told ↦ some_no told
      ]
