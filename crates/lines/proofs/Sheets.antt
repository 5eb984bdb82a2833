-- What a sheet hands out, one buffer after another: for every input, and whatever the buffers' sizes, the pieces joined are the input's whole
-- sheet. Each buffer has room for any line, and there are as many as shapes, and two more.
--     sheet_handed_out     the pieces joined are the sheet
--     sheet_ended          then the sheet has ended
--     sheet_silent         and one more piece has no bytes
-- Assumes nothing.
use mathlib.Core.Path.{◌≡◌, refl, sym, ap, ◌∙◌, subst}
use mathlib.Core.Bool.{Bool, true, false}
use mathlib.Core.List.{List, [], ◌∷◌, ◌++◌, append_assoc, append-nil}
use Prim.Native.Nat.{ℕ, zero, suc, ◌+◌, ◌-◌, ◌≤◌, ◌<◌}
use native.Mathlib.Decide.{dec_lt}
use native.Mathlib.Omega.{arith}
use lib.Dec.{eqb}
use lib.Dec.{eqb}
use lib.ListN.{length}
use borrow.Author.Tests.{le-leb, eq-eqb, ne_eqb}
use Rattle.catalan.specs.Count.{C}
use Rattle.shape.specs.Every.{All}
use Rattle.shape.specs.Number.{change}
use Rattle.shape.specs.Check.{Sized}
use Rattle.shape.specs.Reply.{refusal_number, Outcome}
use Rattle.std.specs.Prelude.{Ok, Err}
use Rattle.shape.proofs.Replies.{refusal_least, refusal_most}
use Rattle.run.specs.declared.Run.{Run}
use Rattle.run.specs.declared.Progress.TheVariants.{Handed}
use Rattle.run.specs.Calls.{begun, no_run, progress}
use Rattle.run.specs.Walk.{figure_of}
use Rattle.run.specs.Sound.{Sound}
use Rattle.run.proofs.States.{step_handed, step_done}
use Rattle.run.proofs.Runs.{figure_none, figure_next, figure_join, figure_fits}
use Rattle.text.specs.Text.{run_line, shape_lines, end_line, no_line, line_room}
use Rattle.text.specs.Input.{asked_size, asked_first, asked_end}
use Rattle.lines.specs.declared.Sheet.{Sheet}
use Rattle.lines.specs.Sheet.{open_check, sheet_for, sheet_of}
use Rattle.lines.specs.Calls.{refusing, begun_sheet, open_sheet, walks, began, over, keeps, standing, listed}
use Rattle.lines.specs.Calls.{piece_text, piece_sheet, fill_reply, fill_sheet}
use Rattle.lines.specs.Handing.{pieces_from, sheet_after}
use Rattle.lines.proofs.Belonging.{fill_passed}
use Rattle.lines.proofs.Opening.{open_done}
use Rattle.lines.proofs.Lines.{lines_none, lines_join}
use Rattle.lines.proofs.Pieces.{standing_sound, fitting_after, fitting_within, fitting_some}

-- ---- one piece after another

abbrev Roomy : ℕ → Type 0
Roomy room = line_room ≤ room

-- rooms enough hand out the text, and then the sheet has ended
abbrev Over : Sheet → Type 0
Over s = (s.ended ≡ true) × (keeps s ≡ true)

abbrev HandsOut : Sheet → List ℕ → ℕ → Type 0
HandsOut s text m = (rooms : List ℕ) → All Roomy rooms → m ≤ length rooms → (pieces_from rooms s ≡ text) × Over (sheet_after rooms s)

over_text : (s : Sheet) (room : ℕ) → s.ended ≡ true → piece_text s room ≡ []
unfolding piece_text
over_text s room e = rw e

over_sheet : (s : Sheet) (room : ℕ) → s.ended ≡ true → piece_sheet s room ≡ s
unfolding piece_sheet
over_sheet s room e = rw e

module _ (s : Sheet) (room : ℕ) (rooms : List ℕ) (fits : Roomy room) (e : keeps s ≡ true) where
  pieces_next : pieces_from (room ∷ rooms) s ≡ piece_text s room ++ pieces_from rooms (piece_sheet s room)
  unfolding pieces_from fill_sheet
  pieces_next = rw ((fill_passed s room).1 (fits, e))

  after_next : sheet_after (room ∷ rooms) s ≡ sheet_after rooms (piece_sheet s room)
  unfolding sheet_after fill_sheet
  after_next = rw ((fill_passed s room).1 (fits, e))

over_hands : (s : Sheet) → Over s → HandsOut s [] 0
over_hands s o [] h m = unfold pieces_from sheet_after in (refl, o)
over_hands s o (room ∷ rooms) h m =
    let (pieces, last) = over_hands s o rooms h.1 (omega arith) in (
      pieces_next s room rooms h.0 o.1 ∙ rw (over_text s room o.0, over_sheet s room o.0) pieces,
      subst Over (sym (after_next s room rooms h.0 o.1 ∙ ap (sheet_after rooms) (over_sheet s room o.0))) last,
    )

piece_hands : (s : Sheet) (text : List ℕ) (m : ℕ) → keeps s ≡ true
    → ((room : ℕ) → Roomy room → (rest : List ℕ) × HandsOut (piece_sheet s room) rest m × (piece_text s room ++ rest ≡ text)) → HandsOut s text (suc m)
piece_hands s text m e p [] h l = absurd (omega arith)
piece_hands s text m e p (room ∷ rooms) h l =
    let (rest, hands, whole) = p room h.0 in
    let (pieces, last) = hands rooms h.1 (omega arith) in (
      pieces_next s room rooms h.0 e ∙ ap (λ t. piece_text s room ++ t) pieces ∙ whole,
      subst Over (sym (after_next s room rooms h.0 e)) last,
    )

-- ---- a sheet that tells a refusal

module _ (i : ℕ) (least : 1 ≤ i) (most : i ≤ 11) where
  tells : eqb i 0 ≡ false
  tells = ne_eqb i 0 (λ e. omega arith)

  -- before its line is handed out, and after
  abbrev telling : Bool → Sheet
  telling ended = record { refusal = i; opened = false; ended = ended; first = 0; run = no_run }

  telling_kept : (ended : Bool) → keeps (telling ended) ≡ true
  unfolding keeps
  telling_kept ended = rw (tells, le-leb i 11 most)

  refusing_after : (room : ℕ) → telling true ≡ piece_sheet (refusing i) room
  unfolding piece_sheet
  refusing_after room = rw tells

  refusing_text : (room : ℕ) → piece_text (refusing i) room ++ [] ≡ no_line i
  unfolding piece_text
  refusing_text room = rw tells (append-nil (no_line i))

  refusing_hands : HandsOut (refusing i) (no_line i) 1
  refusing_hands =
      piece_hands (refusing i) (no_line i) 0 (telling_kept false)
      (λ room fits. ([], over_hands _ (subst Over (refusing_after room) (refl, telling_kept true)), refusing_text room))

-- ---- a sheet of a run

module _ (n first end : ℕ) (sized : Sized n) (low : first ≤ end) (high : end ≤ C n) where
  -- the sheet whose run stands at number k
  abbrev stage : Bool → Bool → ℕ → Sheet
  stage opened ended k = record { refusal = 0; opened = opened; ended = ended; first = first; run = standing n k end (figure_of n first k) }

  -- the figure to the end, taken at k
  figure_raised : (k : ℕ) → first ≤ k → k < end → figure_of n first k + change n k ≡ figure_of n first (k + 1)
  figure_raised k l on =
      omega (
        arith,
        figure_join n first k end l (omega arith),
        figure_next n k end on,
        figure_join n first (k + 1) end (omega arith) (omega arith),
      )

  module _ (k : ℕ) (l : first ≤ k) (m : k ≤ end) where
    stage_handed : k < end → progress (standing n k end (figure_of n first k)) ≡ Handed
    stage_handed on =
        (step_handed (standing n k end (figure_of n first k))).1 (
          standing_sound n k end _ sized m high,
          on,
          omega (arith, figure_raised k l on, figure_fits n first (k + 1) sized.1 (omega arith) (omega arith)),
        )

    stage_walks : walks (progress (standing n k end (figure_of n first k))) ≡ true
    stage_walks =
        elim (dec_lt k end) [
          | yes on ↦ rw (stage_handed on)
          | no past ↦ rw ((step_done (standing n k end (figure_of n first k))).1 (standing_sound n k end _ sized m high, omega arith))
        ]

    stage_kept : (opened ended : Bool) → began opened first k ≡ true → over ended k end ≡ true → keeps (stage opened ended k) ≡ true
    unfolding keeps
    stage_kept opened ended b o = rw (stage_walks, b, o)

  -- ---- the last line

  end_over : (room : ℕ) → Over (piece_sheet (stage true false end) room)
  unfolding piece_sheet
  end_over room = rw (eq-eqb end end refl) (refl, stage_kept end low (omega arith) true true (le-leb first end low) (eq-eqb end end refl))

  end_text : (room : ℕ) → piece_text (stage true false end) room ++ [] ≡ end_line (end - first) (figure_of n first end)
  unfolding piece_text
  end_text room = rw (eq-eqb end end refl) (append-nil _)

  end_hands : HandsOut (stage true false end) (end_line (end - first) (figure_of n first end)) 1
  end_hands =
      piece_hands _ _ 0 (stage_kept end low (omega arith) true false (le-leb first end low) refl)
      (λ room fits. ([], over_hands _ (end_over room), end_text room))

  -- ---- the shapes' lines

  module _ (k : ℕ) (l : first ≤ k) (on : k < end) (room : ℕ) (fits : Roomy room) where
    abbrev here : Run
    here = standing n k end (figure_of n first k)

    abbrev taken : ℕ
    taken = listed here room

    here_sound : Sound here
    here_sound = standing_sound n k end _ sized (omega arith) high

    some_taken : 1 ≤ taken
    some_taken = fitting_some here room fits (stage_handed k l (omega arith) on)

    taken_within : k + taken ≤ end
    taken_within = fitting_within (end - k) room here here_sound

    other : eqb k end ≡ false
    other = ne_eqb k end (λ e. omega arith)

    shapes_text : piece_text (stage true false k) room ≡ shape_lines n k (k + taken)
    unfolding piece_text
    shapes_text = rw other

    shapes_sheet : stage true false (k + taken) ≡ piece_sheet (stage true false k) room
    unfolding piece_sheet
    shapes_sheet =
        rw other
        (ap (λ (r : Run). record { refusal = 0; opened = true; ended = false; first = first; run = r })
        (ap (standing n (k + taken) end) (sym (figure_join n first k (k + taken) l (omega arith)))
        ∙ sym (fitting_after (end - k) room here here_sound)))

  abbrev last_line : List ℕ
  last_line = end_line (end - first) (figure_of n first end)

  none_left : (k : ℕ) → end ≡ k → HandsOut (stage true false k) (shape_lines n k end ++ last_line) (suc (end - k))
  none_left k there rooms h enough =
      rw (lines_none n k end (omega arith)) (subst (λ (j : ℕ). HandsOut (stage true false j) last_line 1) there end_hands rooms h (omega arith))

  shapes_hands : (d k : ℕ) → first ≤ k → k ≤ end → end - k ≤ d → HandsOut (stage true false k) (shape_lines n k end ++ last_line) (suc (end - k))
  shapes_hands zero k l m most = none_left k (omega arith)
  shapes_hands (suc d) k l m most =
      elim (dec_lt k end) [
        | yes on ↦
            piece_hands _ _ (end - k) (stage_kept k l m true false (le-leb first k l) refl)
            (λ room fits.
            let j = k + taken k l on room fits in
            let more = some_taken k l on room fits in
            let within = taken_within k l on room fits in (
              shape_lines n j end ++ last_line,
              subst (λ (s : Sheet). HandsOut s (shape_lines n j end ++ last_line) (end - k)) (shapes_sheet k l on room fits)
                  (λ rooms h enough. shapes_hands d j (omega arith) within (omega arith) rooms h (omega arith)),
              rw (shapes_text k l on room fits)
                  (sym (append_assoc (shape_lines n k j) (shape_lines n j end) last_line)
                  ∙ ap (λ t. t ++ last_line) (lines_join n k j end (omega arith) within)),
            ))
        | no past ↦ none_left k (omega arith)
      ]

  -- ---- the whole sheet

  begun_stage : begun_sheet n first end ≡ stage false false first
  unfolding begun
  begun_stage =
      ap (λ (f : ℕ). record { refusal = 0; opened = false; ended = false; first = first; run = standing n first end f })
      (sym (figure_none n first first (omega arith)))

  sheet_hands : HandsOut (begun_sheet n first end) (sheet_for n first end) (suc (suc (end - first)))
  unfolding sheet_for piece_sheet piece_text
  sheet_hands =
      subst (λ (s : Sheet). HandsOut s (run_line n first end ++ (shape_lines n first end ++ last_line)) (suc (suc (end - first)))) (sym begun_stage)
      (piece_hands _ _ (suc (end - first)) (stage_kept first (omega arith) low false false (eq-eqb first first refl) refl)
      (λ room fits. (
        shape_lines n first end ++ last_line,
        shapes_hands (end - first) first (omega arith) low (omega arith),
        refl,
      )))

-- ---- any input

module _ (input : List ℕ) where
  by_check : (o : Outcome) → open_check input ≡ o → HandsOut (open_sheet input) (sheet_of input) (suc (suc (asked_end input - asked_first input)))
  unfolding open_sheet sheet_of
  by_check (Ok _) e =
      let (_, (sized, low, high)) = (open_done input).0 e in
      rw e (sheet_hands (asked_size input) (asked_first input) (asked_end input) sized low high)
  by_check (Err f) e = λ rooms h enough. rw e (refusing_hands (refusal_number f) (refusal_least f) (refusal_most f) rooms h (omega arith))

  open_hands : HandsOut (open_sheet input) (sheet_of input) (suc (suc (asked_end input - asked_first input)))
  open_hands = by_check (open_check input) refl

  -- rooms of which each takes any line, one for each shape and two besides
  module _ (rooms : List ℕ) (fits : All (λ room. line_room ≤ room) rooms) (enough : asked_end input - asked_first input + 2 ≤ length rooms) where
    pub sheet_handed_out : pieces_from rooms (open_sheet input) ≡ sheet_of input
    sheet_handed_out = (open_hands rooms fits (omega arith)).0

    pub sheet_ended : (sheet_after rooms (open_sheet input)).ended ≡ true
    sheet_ended = (open_hands rooms fits (omega arith)).1.0

    pub sheet_silent : (room : ℕ) → line_room ≤ room → fill_reply (sheet_after rooms (open_sheet input)) room ≡ record { refusal = 0; value = 0 }
    unfolding fill_reply
    sheet_silent room h =
        let last = sheet_after rooms (open_sheet input) in
        let (e, k) = (open_hands rooms fits (omega arith)).1 in
        rw ((fill_passed last room).1 (h, k), over_text last room e)
