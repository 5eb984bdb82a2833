-- Worked examples of a sheet's lines, computed from the definitions: 01, Sheet program.
--     shape_line_lem         1 101100 1,3,2 2 3
--     run_line_lem           RUN 3 1 4
--     end_line_lem           END 3 11
--     no_line_lem            NO 11
-- Assumes nothing.
use mathlib.Core.Path.{◌≡◌, refl}
use mathlib.Core.List.{[], ◌∷◌}
use Rattle.catalan.specs.Count.{ways, binom, binom_before}
use Rattle.shape.specs.Tree.{size, permutation, permutation_from}
use Rattle.shape.specs.Form.{count, forest, pattern_tree}
use Rattle.shape.specs.Number.{local_places, local_pattern, first_difference, change, largest, depth}
use Rattle.text.specs.Text.{spelled, decimal, bits, commas, line, run_line, shape_text, shape_line, end_line, no_line}

shape_line_lem : shape_line 3 1
    ≡ 49 ∷ 32 ∷ 49 ∷ 48 ∷ 49 ∷ 49 ∷ 48 ∷ 48 ∷ 32 ∷ 49 ∷ 44 ∷ 51 ∷ 44 ∷ 50 ∷ 32 ∷ 50 ∷ 32 ∷ 51 ∷ 10 ∷ []
unfolding shape_line shape_text line bits commas decimal spelled local_pattern local_places ways binom binom_before
    change first_difference pattern_tree forest permutation permutation_from size depth largest count
shape_line_lem = refl

run_line_lem : run_line 3 1 4 ≡ 82 ∷ 85 ∷ 78 ∷ 32 ∷ 51 ∷ 32 ∷ 49 ∷ 32 ∷ 52 ∷ 10 ∷ []
unfolding run_line line decimal spelled
run_line_lem = refl

end_line_lem : end_line 3 11 ≡ 69 ∷ 78 ∷ 68 ∷ 32 ∷ 51 ∷ 32 ∷ 49 ∷ 49 ∷ 10 ∷ []
unfolding end_line line decimal spelled
end_line_lem = refl

no_line_lem : no_line 11 ≡ 78 ∷ 79 ∷ 32 ∷ 49 ∷ 49 ∷ 10 ∷ []
unfolding no_line line decimal spelled
no_line_lem = refl
