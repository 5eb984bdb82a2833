-- Laws of a part of a tree permutation, p with the labels after b.
--     part_size                    its tree has as many nodes as it has entries
--     formed_part                  a tree permutation is a part
--     Rooted b p                   it is not empty: then its root has a label x
--     cut b p                      the place where its right part starts, x - b
--     left_tree b p, right_tree b p  the trees of what stands before that place, and from there on
--     tree_node                    they are the left and the right part of its tree
--     label, sizes                 x comes after the labels of the left part; and root, left and right are the whole
--     root                         so x is one of its labels
--     left_part, right_part        what stands before that place, and from there on, are parts
-- Assumes nothing.
use mathlib.Core.Path.{◌≡◌, refl, sym, ap, ◌∙◌}
use mathlib.Core.List.{List}
use Prim.Native.Nat.{ℕ, suc, ◌+◌, ◌-◌, ◌≤◌}
use native.Mathlib.Omega.{arith}
use lib.ListN.{length, get_or}
use Rattle.catalan.specs.Count.{largest_size}
use Rattle.shape.specs.Tree.{Tree, empty, node, size, permutation, permutation_from}
use Rattle.shape.specs.Form.{permutation_tree, TreePermutation}
use Rattle.shape.proofs.Permutations.{length_permutation, part_tree, permutation_of}
use Rattle.natural.specs.Parts.{Part, Root}
use Rattle.natural.proofs.Nodes.{left_of, right_of, left_long, right_long, node_left, node_right}

pub part_size : (b : ℕ) (p : List ℕ) → Part b p → size (permutation_tree p) ≡ length p
part_size b p h = sym (length_permutation b (permutation_tree p)) ∙ ap length h.written

pub formed_part : (n : ℕ) (p : List ℕ) → TreePermutation n p → n ≤ largest_size → Part 0 p
unfolding permutation
formed_part n p f h = record { written = (permutation_of n p f).0; small = omega (arith, f.entries) }

-- ---- a part that is not empty, cut where its right part starts

pub record Rooted (b : ℕ) (p : List ℕ) : Type 0 where
  pub part : Part b p
  pub some : length p ≡ 0 → ⊥

abbrev pub cut : ℕ → List ℕ → ℕ
cut b p = get_or p 0 0 - b

abbrev pub left_tree : ℕ → List ℕ → Tree
left_tree b p = permutation_tree (left_of (cut b p) p)

abbrev pub right_tree : ℕ → List ℕ → Tree
right_tree b p = permutation_tree (right_of (cut b p) p)

module _ {b : ℕ} {p : List ℕ} (h : Rooted b p) where
  module _ (l r : Tree) (tree : permutation_tree p ≡ node l r) where
    whole : p ≡ permutation_from b (node l r)
    whole = sym h.part.written ∙ ap (permutation_from b) tree

    label_of : suc (b + size l) ≡ get_or p 0 0
    unfolding permutation_from
    label_of = ap (λ q. get_or q 0 0) (sym whole)

    left_of_lem : left_of (cut b p) p ≡ permutation_from b l
    left_of_lem = ap (left_of (cut b p)) whole ∙ node_left b (cut b p) (get_or p 0 0) l r (omega (arith, label_of)) (omega (arith, label_of))

    right_of_lem : right_of (cut b p) p ≡ permutation_from (get_or p 0 0) r
    right_of_lem = ap (right_of (cut b p)) whole ∙ node_right b (cut b p) (get_or p 0 0) l r (omega (arith, label_of)) (omega (arith, label_of))

  tree_is : (t : Tree) → permutation_tree p ≡ t → permutation_tree p ≡ node (left_tree b p) (right_tree b p)
  unfolding permutation_from
  tree_is empty e = absurd (h.some (ap length (sym h.part.written ∙ ap (permutation_from b) e)))
  tree_is (node l r) e = rw (left_of_lem l r e, right_of_lem l r e, part_tree b l, part_tree (get_or p 0 0) r) e

  pub tree_node : permutation_tree p ≡ node (left_tree b p) (right_tree b p)
  tree_node = tree_is (permutation_tree p) refl

  pub label : suc (b + size (left_tree b p)) ≡ get_or p 0 0
  label = label_of _ _ tree_node

  pub sizes : suc (size (left_tree b p) + size (right_tree b p)) ≡ length p
  unfolding size
  sizes = ap size (sym tree_node) ∙ part_size b p h.part

  pub root : Root b (get_or p 0 0) p
  root = record { above = omega (arith, label); within = omega (arith, label, sizes); small = h.part.small }

  pub left_part : Part b (left_of (cut b p) p)
  left_part = record { written = sym (left_of_lem _ _ tree_node); small = omega (arith, left_long (cut b p) p (omega (arith, root)), root) }

  pub right_part : Part (get_or p 0 0) (right_of (cut b p) p)
  right_part = record { written = sym (right_of_lem _ _ tree_node); small = omega (arith, right_long (cut b p) p, root) }
