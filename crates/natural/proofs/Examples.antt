-- Worked examples of 004's working suffix, computed from its definition.
--     suffix_1234, suffix_4321      example 4
--     suffix_figure, figure_next    figures 4 and 5: a tree permutation of size 25 and the one after it
-- Assumes nothing.
use mathlib.Core.Path.{◌≡◌, refl}
use mathlib.Core.List.{List, [], ◌∷◌, ◌++◌}
use Prim.Native.Nat.{ℕ}
use Rattle.catalan.specs.Count.{C, sum}
use Rattle.shape.specs.Tree.{size, permutation, permutation_from}
use Rattle.shape.specs.Form.{count, below, cut_tree, permutation_tree}
use Rattle.shape.specs.Number.{fewer_left, natural_number, left_nodes, numbered_tree, natural_tree}
use Rattle.shape.specs.Numbering.{natural, next}
use Rattle.natural.specs.Suffix.{working_suffix}

suffix_1234 : working_suffix (1 ∷ 2 ∷ 3 ∷ 4 ∷ []) ≡ 3 ∷ 4 ∷ []
unfolding working_suffix count
suffix_1234 = refl

suffix_4321 : working_suffix (4 ∷ 3 ∷ 2 ∷ 1 ∷ []) ≡ []
unfolding working_suffix count
suffix_4321 = refl

-- what the permutations of both figures begin with, and how they go on
abbrev front : List ℕ
front = 9 ∷ 6 ∷ 3 ∷ 2 ∷ 1 ∷ 5 ∷ 4 ∷ 7 ∷ 8 ∷ 11 ∷ 10 ∷ 22 ∷ 19 ∷ 17 ∷ []

abbrev old : List ℕ
old = 13 ∷ 12 ∷ 16 ∷ 15 ∷ 14 ∷ 18 ∷ 21 ∷ 20 ∷ 25 ∷ 24 ∷ 23 ∷ []

abbrev new : List ℕ
new = 14 ∷ 12 ∷ 13 ∷ 15 ∷ 16 ∷ 18 ∷ 20 ∷ 21 ∷ 23 ∷ 24 ∷ 25 ∷ []

suffix_figure : working_suffix (front ++ old) ≡ old
unfolding working_suffix count
suffix_figure = refl

figure_next : next (natural 25) (front ++ old) ≡ front ++ new
unfolding next permutation_tree cut_tree below permutation permutation_from size natural_number fewer_left sum C natural_tree numbered_tree left_nodes
figure_next = refl
