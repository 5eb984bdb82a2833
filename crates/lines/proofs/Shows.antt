-- What a sheet shows: 01, Sheet program.
--     sheet_lines      of an accepted input: the first line, then a line for each shape that its run hands out, from the run's start to its
--                      end, and last how many these are and the figure that the run ends with
--     input_repeated   the first line of an accepted input is the word RUN, a space and the input itself
--     sheet_refused    of a refused one: only the line that tells the refusal
-- Assumes nothing.
use mathlib.Core.Path.{◌≡◌, refl, sym, ap, ap₂, ◌∙◌}
use mathlib.Core.List.{List, ◌∷◌, ◌++◌, map, flat_map}
use Prim.Native.Nat.{ℕ, zero, suc, ◌+◌, ◌-◌, ◌≤◌, ◌<◌}
use native.Mathlib.Omega.{arith}
use lib.ListN.{length}
use Rattle.catalan.specs.Count.{C}
use Rattle.shape.specs.Number.{local_pattern, change}
use Rattle.shape.specs.Numbering.{numbers_from}
use Rattle.shape.specs.Check.{Sized}
use Rattle.shape.specs.Reply.{refusal_number}
use Rattle.shape.specs.declared.Refusal.{Refusal}
use Rattle.std.specs.Prelude.{Ok, Err}
use Rattle.shape.proofs.Lists.{length-map}
use Rattle.shape.proofs.Listing.{length_numbers}
use Rattle.shape.proofs.LocalNumbers.{local_lawful}
use Rattle.run.specs.Calls.{start_run}
use Rattle.run.specs.Walk.{handed, shown, run_figure}
use Rattle.run.proofs.Runs.{run_hands_out}
use Rattle.run.proofs.Cuts.{run_figure_lem}
use Rattle.text.specs.Text.{line, run_word, run_line, shape_line, shape_lines, end_line, no_line}
use Rattle.text.specs.Input.{ask_line, asked_size, asked_first, asked_end}
use Rattle.text.proofs.Inputs.{asks_exactly}
use Rattle.lines.specs.Sheet.{handed_line, open_check, sheet_for, sheet_of}
use Rattle.lines.proofs.Opening.{open_done}

module _ (n : ℕ) where
  line_shown : (k : ℕ) → k < C n → shape_line n k ≡ handed_line (local_pattern n k, change n k)
  unfolding shape_line handed_line
  line_shown k h = rw ((local_lawful n).number_shape k h)

  -- of d numbers, from k on
  lines_shown : (d k : ℕ) → k + d ≤ C n
      → flat_map (shape_line n) (numbers_from k d) ≡ flat_map handed_line (map (λ i. (local_pattern n i, change n i)) (numbers_from k d))
  unfolding numbers_from flat_map
  lines_shown zero k h = refl
  lines_shown (suc d) k h = ap₂ ◌++◌ (line_shown k (omega arith)) (lines_shown d (suc k) (omega arith))

  module _ (first end : ℕ) (sized : Sized n) (low : first ≤ end) (high : end ≤ C n) where
    abbrev shapes : List (List ℕ × ℕ)
    shapes = handed (end - first) (start_run n first end)

    shapes_shown : shapes ≡ shown n first end
    shapes_shown = run_hands_out n first end sized low high (end - first) (omega arith)

    shapes_lines : shape_lines n first end ≡ flat_map handed_line shapes
    unfolding shape_lines shown
    shapes_lines = lines_shown (end - first) first (omega arith) ∙ ap (flat_map handed_line) (sym shapes_shown)

    how_many : end - first ≡ length shapes
    unfolding shown
    how_many = sym (ap length shapes_shown ∙ length-map _ (numbers_from first (end - first)) ∙ length_numbers first (end - first))

    run_shown : sheet_for n first end ≡ run_line n first end ++ (flat_map handed_line shapes ++ end_line (length shapes) (run_figure n first end))
    unfolding sheet_for
    run_shown =
        ap (λ t. run_line n first end ++ t)
        (ap₂ ◌++◌ shapes_lines (ap₂ end_line how_many (sym (run_figure_lem n sized first end low high))))

module _ (input : List ℕ) where
  abbrev handed_out : List (List ℕ × ℕ)
  handed_out = handed (asked_end input - asked_first input) (start_run (asked_size input) (asked_first input) (asked_end input))

  pub sheet_lines : open_check input ≡ Ok tt → sheet_of input
      ≡ run_line (asked_size input) (asked_first input) (asked_end input)
      ++ (flat_map handed_line handed_out ++ end_line (length handed_out) (run_figure (asked_size input) (asked_first input) (asked_end input)))
  unfolding sheet_of
  sheet_lines e =
      let (_, (sized, low, high)) = (open_done input).0 e in
      rw e (run_shown (asked_size input) (asked_first input) (asked_end input) sized low high)

  pub input_repeated : open_check input ≡ Ok tt → run_line (asked_size input) (asked_first input) (asked_end input) ≡ run_word ++ (32 ∷ input)
  unfolding run_line line ask_line
  input_repeated e =
      let asks = (asks_exactly input _ _ _).1 (((open_done input).0 e).0, (refl, (refl, refl))) in
      ap {B = List ℕ} (λ l. run_word ++ (32 ∷ l)) (sym asks.text)

  pub sheet_refused : (f : Refusal) → open_check input ≡ Err f → sheet_of input ≡ no_line (refusal_number f)
  unfolding sheet_of
  sheet_refused f e = rw e
