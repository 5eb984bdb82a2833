-- The whole sheet: 01, Sheet program.
--     handed_line     the line of a pattern that a run hands out with its change
--     open_check      what an input is refused for: 11 first, then 1, then 8
--     sheet_for       the sheet of a run
--     sheet_of        the sheet that an input gives: that of its run, or only the line that tells the refusal
-- Assumes nothing.
use Rattle.std.specs.Prelude.{List, ◌++◌, ℕ, ◌-◌, Ok, Err}
use Rattle.shape.specs.Tree.{permutation}
use Rattle.shape.specs.Form.{pattern_tree}
use Rattle.shape.specs.Number.{local_number, depth}
use Rattle.shape.specs.Reply.{refusal_number, Outcome}
use Rattle.shape.specs.Check.{unless}
use Rattle.shape.specs.declared.Refusal.TheVariants.{Input}
use Rattle.run.specs.Calls.{start_check}
use Rattle.run.specs.Walk.{figure_of}
use Rattle.text.specs.Text.{decimal, shape_text, run_line, shape_lines, end_line, no_line}
use Rattle.text.specs.Input.{reads, asked_size, asked_first, asked_end}

unfoldable pub handed_line : List ℕ × ℕ → List ℕ
handed_line (p, c) = shape_text (decimal (local_number p)) p (permutation (pattern_tree p)) (depth p) c

unfoldable pub open_check : List ℕ → Outcome
open_check input = unless (reads input) Input (start_check (asked_size input) (asked_first input) (asked_end input))

unfoldable pub sheet_for : ℕ → ℕ → ℕ → List ℕ
sheet_for n first end = run_line n first end ++ (shape_lines n first end ++ end_line (end - first) (figure_of n first end))

abbrev pub or_no : Outcome → List ℕ → List ℕ
or_no (Ok _) text = text
or_no (Err f) text = no_line (refusal_number f)

unfoldable pub sheet_of : List ℕ → List ℕ
sheet_of input = or_no (open_check input) (sheet_for (asked_size input) (asked_first input) (asked_end input))
