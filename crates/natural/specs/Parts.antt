-- What the work on a part of a tree permutation takes and leaves.
--     Part b p                 p is the permutation of a tree with the labels after b
--     Root b x p               x can be the label of its root
--     has_next, has_previous   there is a tree after, before, of the same size
--     next_tree, previous_tree  one step along the natural order; the tree as it is for the last, for the first
--     first_tree, last_tree    the first and the last tree of a size
--     has_step, step_tree, end_tree      these for both ways: on, true, and back, false
--     end_parts                a root, and under it the tree of each part's size with which the way begins
-- Assumes nothing.
use Rattle.std.specs.Prelude.{◌≡◌, Bool, true, false, cond, List, ℕ, ◌+◌, ◌-◌, ◌≤◌, ◌<◌, ltb, length}
use Rattle.catalan.specs.Count.{C, largest_size}
use Rattle.shape.specs.Tree.{Tree, node, size, permutation_from}
use Rattle.shape.specs.Form.{permutation_tree}
use Rattle.shape.specs.Number.{natural_number, natural_tree}

-- 004, section 4, figure 6: a part of a tree permutation is one itself, each of its labels so much larger.
pub record Part (b : ℕ) (p : List ℕ) : Type 0 where
  pub written : permutation_from b (permutation_tree p) ≡ p
  pub small : b + length p ≤ largest_size

-- One of as many labels after b as p has entries.
pub record Root (b x : ℕ) (p : List ℕ) : Type 0 where
  pub above : b < x
  pub within : x ≤ b + length p
  pub small : b + length p ≤ largest_size

-- There is a tree after t, before t, of the same size.
abbrev pub has_next : Tree → Bool
has_next t = ltb (natural_number t + 1) (C (size t))

abbrev pub has_previous : Tree → Bool
has_previous t = ltb 0 (natural_number t)

unfoldable pub next_tree : Tree → Tree
next_tree t = cond (has_next t) (natural_tree (size t) (natural_number t + 1)) t

unfoldable pub previous_tree : Tree → Tree
previous_tree t = cond (has_previous t) (natural_tree (size t) (natural_number t - 1)) t

abbrev pub first_tree : ℕ → Tree
first_tree m = natural_tree m 0

abbrev pub last_tree : ℕ → Tree
last_tree m = natural_tree m (C m - 1)

-- On the way on, or on the way back: whether there is a step to make, the tree it leads to, and the tree of a size with which the way begins.
abbrev pub has_step : Bool → Tree → Bool
has_step true = has_next
has_step false = has_previous

abbrev pub step_tree : Bool → Tree → Tree
step_tree true = next_tree
step_tree false = previous_tree

abbrev pub end_tree : Bool → ℕ → Tree
end_tree true = first_tree
end_tree false = last_tree

-- Of n nodes, with the labels after b and the root labelled x: the labels between are the left part's, those from x on the right part's.
abbrev pub end_parts : Bool → ℕ → ℕ → ℕ → Tree
end_parts on b x n = node (end_tree on (x - b - 1)) (end_tree on (n - (x - b)))
