-- Worked examples of document 01 and the papers, computed from the definitions.
--     local_.., natural_..     lines 4 and 5, and lines 9 and 10, which the two orders list the other way round
--     depth_..          the prefix excess of three shapes of size 3
--     figure_..         004, figure 2: a tree of seven nodes and its permutation
--     record_lengths    1 + ceil(n/4) bytes
--     moved_..          moves of lines 9 and 10: from local number 8, and from natural number 9; two on, one past the last, one back, one before the first
--     not_..            01's edges: 100110 is not feasible, 2,3,1 and 2,2,1 are no tree permutations
-- Assumes nothing.
use mathlib.Core.Path.{◌≡◌, refl}
use mathlib.Core.List.{List, [], ◌∷◌}
use Prim.Native.Nat.{ℕ}
use native.Mathlib.Omega.{arith}
use lib.Dec.{lit<}
use lib.IntN.{ℤ, pos, negsuc}
use Rattle.catalan.specs.Count.{C, binom, binom_before, ways, sum}
use Rattle.shape.specs.Tree.{Tree, empty, node, size, permutation, permutation_from}
use Rattle.shape.specs.Form.{count, below, every, cut_tree, permutation_tree, Feasible, TreePermutation}
use Rattle.shape.specs.Order.{Local, Natural}
use Rattle.shape.specs.Number.{local_number, local_places, local_pattern, natural_number, fewer_left, left_nodes, numbered_tree, natural_tree}
use Rattle.shape.specs.Number.{largest, depth}
use Rattle.shape.specs.Numbering.{Numbering, local, natural}
use Rattle.shape.specs.Check.{record_length, room_of, contents, checked}
use Rattle.shape.specs.Move.{target, moved, move_check, move_reply, move_end}

-- a node with no parts, and the shapes of lines 4, 5, 9 and 10
abbrev leaf : Tree
leaf = node empty empty

abbrev line4 : Tree
line4 = node empty (node empty leaf)

abbrev line5 : Tree
line5 = node empty (node leaf empty)

abbrev line9 : Tree
line9 = node line4 empty

abbrev line10 : Tree
line10 = node (node leaf empty) leaf

local_4_5 : Local line4 line5
local_4_5 = Local.right_first (Local.left_first Local.empty_first)

local_9_10 : Local line9 line10
local_9_10 = Local.left_first (Local.left_first Local.empty_first)

natural_4_5 : Natural line4 line5
natural_4_5 = unfold size in Natural.right_first refl (Natural.left_first refl (Natural.smaller_first (lit< tt)))

natural_10_9 : Natural line10 line9
natural_10_9 = unfold size in Natural.left_first refl (Natural.smaller_first (lit< tt))

depth_101010 : depth (1 ∷ 0 ∷ 1 ∷ 0 ∷ 1 ∷ 0 ∷ []) ≡ 1
unfolding depth largest count
depth_101010 = refl

depth_110100 : depth (1 ∷ 1 ∷ 0 ∷ 1 ∷ 0 ∷ 0 ∷ []) ≡ 2
unfolding depth largest count
depth_110100 = refl

depth_111000 : depth (1 ∷ 1 ∷ 1 ∷ 0 ∷ 0 ∷ 0 ∷ []) ≡ 3
unfolding depth largest count
depth_111000 = refl

figure : Tree
figure = node (node leaf (node empty leaf)) (node leaf empty)

figure_written : permutation figure ≡ 5 ∷ 2 ∷ 1 ∷ 3 ∷ 4 ∷ 7 ∷ 6 ∷ []
unfolding figure permutation permutation_from size
figure_written = refl

figure_read : permutation_tree (5 ∷ 2 ∷ 1 ∷ 3 ∷ 4 ∷ 7 ∷ 6 ∷ []) ≡ figure
unfolding figure permutation_tree cut_tree below
figure_read = refl

record_lengths : (record_length 1 ≡ 2) × (record_length 3 ≡ 2) × (record_length 4 ≡ 2) × (record_length 5 ≡ 3) × (record_length 35 ≡ 10)
record_lengths = (refl, refl, refl, refl, refl)

-- 11010100, which has local number 8 of 14, and 4,1,2,3, which has natural number 9
abbrev places9 : List ℕ
places9 = 1 ∷ 1 ∷ 0 ∷ 1 ∷ 0 ∷ 1 ∷ 0 ∷ 0 ∷ []

abbrev entries9 : List ℕ
entries9 = 4 ∷ 1 ∷ 2 ∷ 3 ∷ []

-- the refusal's number, 0 for none, and what the slice holds then
abbrev seen : Numbering → ℤ → List ℕ → ℕ × List ℕ
seen N d p = ((move_reply N d p).refusal, move_end N d p)

moved_two_on : seen (local 4) (pos 2) places9 ≡ (0, 1 ∷ 1 ∷ 1 ∷ 0 ∷ 0 ∷ 0 ∷ 1 ∷ 0 ∷ [])
unfolding move_reply move_end move_check moved target checked room_of contents every count local_number local_pattern local_places ways binom binom_before C
moved_two_on = refl

moved_past_the_last : seen (local 4) (pos 6) places9 ≡ (6, places9)
unfolding move_reply move_end move_check moved target checked room_of contents every count local_number local_pattern local_places ways binom binom_before C
moved_past_the_last = refl

moved_one_back : seen (natural 4) (negsuc 0) entries9 ≡ (0, 3 ∷ 2 ∷ 1 ∷ 4 ∷ [])
unfolding move_reply move_end move_check moved target checked room_of contents every count permutation_tree cut_tree below natural_number size fewer_left sum C permutation permutation_from natural_tree numbered_tree left_nodes
moved_one_back = refl

moved_before_the_first : seen (natural 4) (negsuc 9) entries9 ≡ (7, entries9)
unfolding move_reply move_end move_check moved target checked room_of contents every count permutation_tree cut_tree below natural_number size fewer_left sum C permutation permutation_from natural_tree numbered_tree left_nodes
moved_before_the_first = refl

not_feasible : Feasible 3 (1 ∷ 0 ∷ 0 ∷ 1 ∷ 1 ∷ 0 ∷ []) → ⊥
unfolding count
not_feasible f = let more = f.prefix 3 in omega arith

not_avoiding : TreePermutation 3 (2 ∷ 3 ∷ 1 ∷ []) → ⊥
not_avoiding f = f.avoids 0 1 2 (omega arith) (omega arith) (omega arith) (omega arith) (omega arith)

not_distinct : TreePermutation 3 (2 ∷ 2 ∷ 1 ∷ []) → ⊥
not_distinct f = f.distinct 0 1 (omega arith) (omega arith) refl
