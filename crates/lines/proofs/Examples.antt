-- Worked examples of sheets, computed from the definitions, byte for byte.
--     sheet_3_1_4           01's example
--     sheet_3_5_5           a run with no shape in it
--     sheet_3_5_6, sheet_36_0_0, sheet_x       inputs that are refused with 8, 1 and 11
-- Assumes nothing.
use mathlib.Core.Path.{◌≡◌, refl}
use mathlib.Core.List.{[], ◌∷◌, ◌++◌, flat_map}
use Rattle.catalan.specs.Count.{C, binom, binom_before, ways, sum}
use Rattle.shape.specs.Tree.{size, permutation_from, permutation}
use Rattle.shape.specs.Form.{count, forest, pattern_tree}
use Rattle.shape.specs.Number.{local_places, local_pattern, first_difference, change, largest, depth}
use Rattle.shape.specs.Numbering.{numbers_from}
use Rattle.run.specs.Calls.{start_check}
use Rattle.run.specs.Walk.{figure_of}
use Rattle.text.specs.Text.{spelled, decimal, bits, commas, line, run_line, shape_text, shape_line, shape_lines, end_line, no_line}
use Rattle.text.specs.Input.{front, behind, value_from, value, in_form, fits, ends_in, field, nothing, reads, asked_size, asked_first, asked_end}
use Rattle.lines.specs.Sheet.{open_check, sheet_for, sheet_of}

sheet_3_1_4 : sheet_of (51 ∷ 32 ∷ 49 ∷ 32 ∷ 52 ∷ 10 ∷ [])
    ≡ (82 ∷ 85 ∷ 78 ∷ 32 ∷ 51 ∷ 32 ∷ 49 ∷ 32 ∷ 52 ∷ 10 ∷ [])
    ++ (49 ∷ 32 ∷ 49 ∷ 48 ∷ 49 ∷ 49 ∷ 48 ∷ 48 ∷ 32 ∷ 49 ∷ 44 ∷ 51 ∷ 44 ∷ 50 ∷ 32 ∷ 50 ∷ 32 ∷ 51 ∷ 10 ∷ [])
    ++ (50 ∷ 32 ∷ 49 ∷ 49 ∷ 48 ∷ 48 ∷ 49 ∷ 48 ∷ 32 ∷ 50 ∷ 44 ∷ 49 ∷ 44 ∷ 51 ∷ 32 ∷ 50 ∷ 32 ∷ 53 ∷ 10 ∷ [])
    ++ (51 ∷ 32 ∷ 49 ∷ 49 ∷ 48 ∷ 49 ∷ 48 ∷ 48 ∷ 32 ∷ 51 ∷ 44 ∷ 49 ∷ 44 ∷ 50 ∷ 32 ∷ 50 ∷ 32 ∷ 51 ∷ 10 ∷ [])
    ++ (69 ∷ 78 ∷ 68 ∷ 32 ∷ 51 ∷ 32 ∷ 49 ∷ 49 ∷ 10 ∷ [])
unfolding C ways binom binom_before sum size permutation_from permutation count forest pattern_tree local_places local_pattern first_difference change
    largest depth numbers_from start_check figure_of flat_map spelled decimal bits commas line run_line shape_text shape_line shape_lines end_line no_line
    front behind value_from value in_form fits ends_in field nothing reads asked_size asked_first asked_end open_check sheet_for sheet_of
sheet_3_1_4 = refl

sheet_3_5_5 : sheet_of (51 ∷ 32 ∷ 53 ∷ 32 ∷ 53 ∷ 10 ∷ [])
    ≡ (82 ∷ 85 ∷ 78 ∷ 32 ∷ 51 ∷ 32 ∷ 53 ∷ 32 ∷ 53 ∷ 10 ∷ []) ++ (69 ∷ 78 ∷ 68 ∷ 32 ∷ 48 ∷ 32 ∷ 48 ∷ 10 ∷ [])
unfolding C sum numbers_from start_check figure_of flat_map spelled decimal line run_line shape_lines end_line
    front behind value_from value in_form fits ends_in field nothing reads asked_size asked_first asked_end open_check sheet_for sheet_of
sheet_3_5_5 = refl

sheet_3_5_6 : sheet_of (51 ∷ 32 ∷ 53 ∷ 32 ∷ 54 ∷ 10 ∷ []) ≡ 78 ∷ 79 ∷ 32 ∷ 56 ∷ 10 ∷ []
unfolding C start_check spelled decimal line no_line
    front behind value_from value in_form fits ends_in field nothing reads asked_size asked_first asked_end open_check sheet_of
sheet_3_5_6 = refl

sheet_36_0_0 : sheet_of (51 ∷ 54 ∷ 32 ∷ 48 ∷ 32 ∷ 48 ∷ 10 ∷ []) ≡ 78 ∷ 79 ∷ 32 ∷ 49 ∷ 10 ∷ []
unfolding start_check spelled decimal line no_line
    front behind value_from value in_form fits ends_in field nothing reads asked_size asked_first asked_end open_check sheet_of
sheet_36_0_0 = refl

sheet_x : sheet_of (120 ∷ 10 ∷ []) ≡ 78 ∷ 79 ∷ 32 ∷ 49 ∷ 49 ∷ 10 ∷ []
unfolding spelled decimal line no_line front behind in_form fits field reads open_check sheet_of
sheet_x = refl
