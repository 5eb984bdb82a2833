-- A shape: a binary tree, left and right kept apart, and the two ways to write it.
--     Tree, size
--     pattern t          as zeros and ones, two places for each node
--     head t             the part of the pattern up to the end of the root's left part
--     permutation t      as the numbers 1..n, a label for each node; permutation_from base t, as the numbers after base
-- Assumes nothing.
use Rattle.std.specs.Prelude.{List, [], ◌∷◌, ◌++◌, ℕ, suc, ◌+◌}

-- 001, section 2; 004, section 1.
pub data Tree : Type 0 where
  empty : Tree
  node : Tree → Tree → Tree

unfoldable pub size : Tree → ℕ
size empty = 0
size (node l r) = suc (size l + size r)

-- 01, Two forms; 000 and 001: a node is a 1 and an empty tree a 0, root before left before right, and the last 0 is dropped. So a node's
-- left part stands between its 1 and a 0, and the right part, which ends the pattern, loses its own last 0.
unfoldable pub pattern : Tree → List ℕ
pattern empty = []
pattern (node l r) = 1 ∷ (pattern l ++ 0 ∷ pattern r)

-- 01, Depth, head, later: the root's 1, its left part, and the 0 that closes it.
unfoldable pub head : Tree → List ℕ
head empty = []
head (node l r) = 1 ∷ (pattern l ++ 0 ∷ [])

-- 01, Two forms; 004, section 1: the nodes are labelled left, root, right and listed root, left, right. The labels here begin after
-- `base`; those of the left part come first, then the root's, `suc (base + size l)`, and after that those of the right part.
unfoldable pub permutation_from : ℕ → Tree → List ℕ
permutation_from base empty = []
permutation_from base (node l r) = suc (base + size l) ∷ (permutation_from base l ++ permutation_from (suc (base + size l)) r)

unfoldable pub permutation : Tree → List ℕ
permutation t = permutation_from 0 t
