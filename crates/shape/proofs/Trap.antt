-- One order's number read in the other: 01, Errors that look right; lines 9 and 10.
--     number_names      the shape numbered k in the local order is of the tree t exactly when k is t's local number
--     line_across       so a line's natural number, read in the local order, leads back to the line exactly when its two numbers are the same
--     orders_part       of 4 nodes, the numbers 8, 9 and 10 name another tree in each order
--     natural_9, local_9      the two that 9 names: line 9's, and another one
--     orders_agree      of up to 3 nodes every number names one tree in both, so these sizes cannot show the error
-- Assumes nothing.
use mathlib.Core.Path.{◌≡◌, refl, sym, ap, ◌∙◌}
use mathlib.Core.Logic.{◌↔◌}
use mathlib.Core.Bool.{Bool, true, false}
use mathlib.Core.List.{[], ◌∷◌}
use Prim.Native.Nat.{ℕ, ◌≤◌, ◌<◌}
use native.Mathlib.Omega.{arith}
use lib.Dec.{eqb, lit<}
use borrow.Author.Tests.{eqb-true, eqb-false}
use Rattle.catalan.specs.Count.{C, binom, binom_before, ways, sum}
use Rattle.shape.specs.Tree.{Tree, size, pattern, permutation, permutation_from}
use Rattle.shape.specs.Form.{count, every, forest, pattern_tree}
use Rattle.shape.specs.Number.{local_number, local_places, local_pattern, fewer_left, left_nodes, numbered_tree, natural_tree}
use Rattle.shape.specs.Lines.{Line, Holds}
use Rattle.shape.specs.Every.{All}
use Rattle.shape.proofs.Tests.{every_at}
use Rattle.shape.proofs.Patterns.{pattern_formed, pattern_read, pattern_of}
use Rattle.shape.proofs.LocalNumbers.{local_lawful}
use Rattle.shape.proofs.NaturalNumbers.{natural_number_below, natural_tree_size}

pub number_names : (n k : ℕ) (t : Tree) → size t ≡ n → k < C n → (pattern_tree (local_pattern n k) ≡ t) ↔ (local_number (pattern t) ≡ k)
number_names n k t e h = (number, tree)
  where
    number : pattern_tree (local_pattern n k) ≡ t → local_number (pattern t) ≡ k
    number s =
        ap (λ (x : Tree). local_number (pattern x)) (sym s)
        ∙ ap local_number (pattern_of n (local_pattern n k) ((local_lawful n).shape_formed k h)).0
        ∙ (local_lawful n).number_shape k h

    tree : local_number (pattern t) ≡ k → pattern_tree (local_pattern n k) ≡ t
    tree s = rw (← s, ← e, (local_lawful (size t)).shape_number (pattern t) (pattern_formed t)) (pattern_read t)

pub line_across : (l : Line) (h : Holds l) → (pattern_tree (local_pattern l.nodes l.natural_no) ≡ h.tree) ↔ (l.local_no ≡ l.natural_no)
line_across l h =
    let below : l.natural_no < C l.nodes = rw (← h.has_natural, ← h.has_nodes) (natural_number_below h.tree) in
    rw h.has_local at (number_names l.nodes l.natural_no h.tree h.has_nodes below)

-- the local number of the tree with the natural number k
across : ℕ → ℕ → ℕ
across n k = local_number (pattern (natural_tree n k))

module _ (n k : ℕ) (h : k < C n) where
  same_tree : (pattern_tree (local_pattern n k) ≡ natural_tree n k) ↔ (across n k ≡ k)
  unfolding across
  same_tree = number_names n k (natural_tree n k) (natural_tree_size n k h) h

part : (k : ℕ) → k < C 4 → eqb (across 4 k) k ≡ false → pattern_tree (local_pattern 4 k) ≡ natural_tree 4 k → ⊥
part k h test e = eqb-false (across 4 k) k test ((same_tree 4 k h).0 e)

pub orders_part : All (λ k. pattern_tree (local_pattern 4 k) ≡ natural_tree 4 k → ⊥) (8 ∷ 9 ∷ 10 ∷ [])
unfolding across pattern local_number natural_tree numbered_tree left_nodes fewer_left count ways binom binom_before sum C
orders_part = (part 8 (lit< tt) refl, (part 9 (lit< tt) refl, (part 10 (lit< tt) refl, tt)))

-- line 9, and a shape that stands in no line
natural_9 : permutation (natural_tree 4 9) ≡ 4 ∷ 1 ∷ 2 ∷ 3 ∷ []
unfolding permutation permutation_from size natural_tree numbered_tree left_nodes fewer_left sum C
natural_9 = refl

local_9 : permutation (pattern_tree (local_pattern 4 9)) ≡ 4 ∷ 1 ∷ 3 ∷ 2 ∷ []
unfolding permutation permutation_from size pattern_tree forest local_pattern local_places ways binom binom_before
local_9 = refl

agrees : ℕ → Bool
agrees n = every (C n) (λ k. eqb (across n k) k)

computed : every 4 agrees ≡ true
unfolding agrees across pattern local_number natural_tree numbered_tree left_nodes fewer_left count every ways binom binom_before sum C
computed = refl

pub orders_agree : (n k : ℕ) → n ≤ 3 → k < C n → pattern_tree (local_pattern n k) ≡ natural_tree n k
unfolding agrees
orders_agree n k small h =
    let passed = every_at (C n) (λ k. eqb (across n k) k) (every_at 4 agrees computed n (omega arith)) k h in
    (same_tree n k h).1 (eqb-true (across n k) k passed)
