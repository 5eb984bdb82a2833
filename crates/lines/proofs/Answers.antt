-- What the sheet library answers and leaves, each law in the words in which the code meets it.
--     refusing_made                                 the sheet that only tells a refusal
--     open_unread, open_refused, open_made          the sheet that an input opens, from what was read and what the run's start answered
--     places_over, places_going                     the places of a run that is done, and of one that is not
--     piece_room, piece_within, piece_handed        what handing out a piece asks of the buffer and of the sheet
--     piece_over, piece_no, piece_first, piece_last, piece_shapes      which piece is next, and the sheet that it leaves
--     piece_answers                                 all that handing it out answers
--     refused_.., fill_asked, passed_..             what filling a buffer answers, refused or not
--     answers, pieces, fills                        these laws, for `search`
-- Assumes nothing.
use mathlib.Core.Path.{◌≡◌, refl, sym, ap, ◌∙◌}
use mathlib.Core.Bool.{Bool, true, false, cond, not}
use mathlib.Core.List.{List, []}
use Prim.Native.Nat.{ℕ, ◌+◌, ◌-◌, ◌≤◌}
use native.Mathlib.Omega.{arith}
use lib.Dec.{eqb}
use lib.ListN.{length}
use borrow.Author.Rules.{rules}
use borrow.Author.Tests.{not-true, not-false, eq-eqb, ne_eqb}
use Rattle.shape.specs.Reply.{refusal_number, refused, outcome_reply, numbered_reply, Outcome}
use Rattle.shape.specs.Check.{reply}
use Rattle.shape.specs.declared.Refusal.{Refusal}
use Rattle.shape.specs.declared.Refusal.TheVariants.{Input}
use Rattle.std.specs.Prelude.{Option, Some, None, Ok, Err}
use Rattle.shape.proofs.Replies.{outcome_known}
use Rattle.run.specs.declared.Run.{Run}
use Rattle.run.specs.declared.Progress.TheVariants.{Handed}
use Rattle.run.specs.State.{no_places}
use Rattle.run.specs.Calls.{start_check, start_reply, start_run, begun, no_run, progress}
use Rattle.run.specs.Walk.{after}
use Rattle.text.specs.Text.{run_line, shape_lines, end_line, no_line, written, line_room}
use Rattle.text.specs.declared.input.Asked.{Asked}
use Rattle.text.specs.Input.{reads, asked_size, asked_first, asked_end, asked}
use Rattle.lines.specs.declared.Sheet.{Sheet}
use Rattle.lines.specs.declared.Filled.{Filled}
use Rattle.lines.specs.Sheet.{open_check}
use Rattle.lines.specs.Calls.{refusing, begun_sheet, open_sheet, keeps, fill_check, listed, piece_text, sheet_with, piece_sheet, fill_reply, fill_sheet, fill_end}
use Rattle.lines.proofs.Belonging.{fill_passed, kept_sound, kept_handed, kept_begun}

-- ---- opening

pub refusing_made : (f : Refusal) (i : ℕ) → i ≡ refusal_number f → ◌≡◌ {A = Sheet} (record {
  refusal = i;
  opened = false;
  ended = false;
  first = 0;
  run = record { size = 0; next = 0; end = 0; figure = 0; places = no_places };
}) (refusing (refusal_number f))
unfolding no_run
refusing_made f i e = rw e

-- o is what reading the input answered
module _ (input : List ℕ) (o : Option Asked) (read : o ≡ asked input) where
  pub open_unread : o ≡ None → (s : Sheet) → s ≡ refusing (refusal_number Input) → s ≡ open_sheet input
  unfolding open_sheet open_check asked
  open_unread h s e = rw (unread _ (reads input) (sym read ∙ h)) e
    where
      unread : (x : Asked) (t : Bool) → ◌≡◌ {A = Option Asked} (cond t (Some x) None) None → t ≡ false
      unread x false e = refl
      unread x true e = cc

  -- the numbers that were read, and what the run's start answered
  module _ (a : Asked) (some : o ≡ Some a) (r : Outcome) (started : outcome_reply r ≡ start_reply a.size a.first a.end) where
    told : (reads input ≡ true) × (record { size = asked_size input; first = asked_first input; end = asked_end input } ≡ a)
    unfolding asked
    told = by_test _ (reads input) (sym read ∙ some)
      where
        by_test : (x : Asked) (t : Bool) → ◌≡◌ {A = Option Asked} (cond t (Some x) None) (Some a) → (t ≡ true) × (x ≡ a)
        by_test x true e = (refl, cc)
        by_test x false e = absurd (let h : ⊥ = cc in h)

    known : start_check a.size a.first a.end ≡ r
    unfolding start_reply
    known = sym (outcome_known r (start_check a.size a.first a.end) started)

    checked : open_check input ≡ r
    unfolding open_check
    checked = rw told.0 (ap (λ (x : Asked). start_check x.size x.first x.end) told.1 ∙ known)

    pub open_refused : (f : Refusal) → r ≡ Err f → (s : Sheet) → s ≡ refusing (refusal_number f) → s ≡ open_sheet input
    unfolding open_sheet
    open_refused f e s made = rw (checked, e) made

    begins : r ≡ Ok tt → start_run a.size a.first a.end ≡ begun a.size a.first a.end
    unfolding start_run
    begins e = rw (known, e)

    pub open_made : r ≡ Ok tt → (run : Run) → run ≡ start_run a.size a.first a.end
        → ◌≡◌ {A = Sheet} (record { refusal = 0; opened = false; ended = false; first = a.first; run = run }) (open_sheet input)
    unfolding open_sheet
    open_made e run made =
        rw (checked, e, made, begins e) (ap (λ (x : Asked). begun_sheet x.size x.first x.end) (sym told.1))

-- ---- the shapes' lines

module _ (next end : ℕ) (places : List ℕ) where
  pub places_over : next ≡ end → no_places ≡ cond (eqb next end) no_places places
  places_over e = rw (eq-eqb next end e)

  pub places_going : (next ≡ end → ⊥) → places ≡ cond (eqb next end) no_places places
  places_going other = rw (ne_eqb next end other)

-- ---- a piece

-- all that handing out a piece answers, by the definitions
abbrev Answers : Sheet → List ℕ → Filled → List ℕ → Type 0
Answers s out r out' =
    record {
      bytes_value : numbered_reply r.bytes ≡ fill_reply s (length out);
      sheet_value : r.sheet ≡ piece_sheet s (length out);
      out_after : out' ≡ written out 0 (piece_text s (length out));
    }

module _ (s : Sheet) (out : List ℕ) (passed : fill_check s (length out) ≡ Ok tt) where
  pub piece_room : line_room ≤ length out
  piece_room = ((fill_passed s (length out)).0 passed).0

  kept : keeps s ≡ true
  kept = ((fill_passed s (length out)).0 passed).1

  -- the piece is this text, and leaves this sheet
  abbrev Piece : List ℕ → Sheet → Type 0
  Piece text after = (piece_text s (length out) ≡ text) × (piece_sheet s (length out) ≡ after)

  pub piece_answers : {text : List ℕ} {after : Sheet} → Piece text after → {n : ℕ} → n ≡ length text → {out' : List ℕ} → out' ≡ written out 0 text
      → (r : Filled) → r ≡ record { bytes = Ok n; sheet = after } → Answers s out r out'
  unfolding fill_reply
  piece_answers (t, u) count put r made =
      rw (passed, t, u) (record {
        bytes_value = ap (λ (x : Filled). numbered_reply x.bytes) made ∙ ap (reply (Ok tt)) count;
        sheet_value = ap (λ (x : Filled). x.sheet) made;
        out_after = put;
      })

  pub piece_over : s.ended ≡ true → Piece [] s
  unfolding piece_text piece_sheet
  piece_over e = rw e (refl, refl)

  module _ (going : s.ended ≡ false) where
    pub piece_no : (s.refusal ≡ 0 → ⊥) → Piece (no_line s.refusal) (sheet_with s s.opened true s.run)
    unfolding piece_text piece_sheet
    piece_no told = rw (going, ne_eqb s.refusal 0 told) (refl, refl)

    module _ (told : s.refusal ≡ 0) where
      pub piece_first : not s.opened ≡ true → Piece (run_line s.run.size s.first s.run.end) (sheet_with s true s.ended s.run)
      unfolding piece_text piece_sheet
      piece_first h = rw (going, eq-eqb s.refusal 0 told, not-true s.opened h) (refl, refl)

      pub piece_within : s.first ≤ s.run.end
      piece_within = omega (arith, kept_begun s told kept, (kept_sound s told kept).ordered)

      module _ (opened : not s.opened ≡ false) where
        pub piece_last : s.run.next ≡ s.run.end → Piece (end_line (s.run.end - s.first) s.run.figure) (sheet_with s s.opened true s.run)
        unfolding piece_text piece_sheet
        piece_last e = rw (going, eq-eqb s.refusal 0 told, not-false s.opened opened, eq-eqb s.run.next s.run.end e) (refl, refl)

        module _ (other : s.run.next ≡ s.run.end → ⊥) where
          pub piece_handed : progress s.run ≡ Handed
          piece_handed = kept_handed s told kept other

          -- run is the run that the lines left
          pub piece_shapes : (run : Run) → run ≡ after (listed s.run (length out)) s.run
              → Piece (shape_lines s.run.size s.run.next (s.run.next + listed s.run (length out))) (sheet_with s s.opened s.ended run)
          unfolding piece_text piece_sheet
          piece_shapes run moved = rw (moved, going, eq-eqb s.refusal 0 told, not-false s.opened opened, ne_eqb s.run.next s.run.end other) (refl, refl)

-- ---- filling

module _ (s : Sheet) (out : List ℕ) {o : Outcome} (checked : o ≡ fill_check s (length out)) where
  module _ (f : Refusal) (e : o ≡ Err f) where
    pub refused_bytes : refused f ≡ fill_reply s (length out)
    unfolding fill_reply
    refused_bytes = rw (← checked, e)

    pub refused_sheet : s ≡ fill_sheet s (length out)
    unfolding fill_sheet
    refused_sheet = rw (← checked, e)

    pub refused_out : out ≡ fill_end s out
    unfolding fill_end
    refused_out = rw (← checked, e)

  module _ (e : o ≡ Ok tt) where
    pub fill_asked : fill_check s (length out) ≡ Ok tt
    fill_asked = sym checked ∙ e

    pub passed_sheet : (r : Sheet) → r ≡ piece_sheet s (length out) → r ≡ fill_sheet s (length out)
    unfolding fill_sheet
    passed_sheet r made = rw fill_asked made

    pub passed_out : (out' : List ℕ) → out' ≡ written out 0 (piece_text s (length out)) → out' ≡ fill_end s out
    unfolding fill_end
    passed_out out' put = rw fill_asked put

pub ruleset answers = (rules, refusing_made, open_unread, open_refused, open_made, places_over, places_going)

pub ruleset fills = (rules, refused_bytes, refused_sheet, refused_out, fill_asked, passed_sheet, passed_out)

pub ruleset pieces = (rules, piece_room, piece_within, piece_handed)
