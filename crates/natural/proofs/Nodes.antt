-- A root and its two parts, as they are written on a slice: the root's label in front, then the left part, and from place e on the right part.
--     left_of e p, right_of e p         what stands in the places of the left and of the right part
--     put_left e p u, put_right e p u   p with u in the place of it
--     left_same, right_same             put back as it was, it leaves p
--     left_long, right_long             how many entries it has
--     node_left, node_right             in the permutation of a node, those of its parts stand there
--     node_put                          and with those put there, one after the other, behind the root's label, it is the permutation of the node
--     root_put                          so it is where the root's label is written first
-- Assumes nothing.
use mathlib.Core.Path.{◌≡◌, refl, ap, ◌∙◌}
use mathlib.Core.List.{List, [], ◌∷◌, ◌++◌, append-nil}
use Prim.Native.Nat.{ℕ, suc, ◌+◌, ◌-◌, ◌≤◌, ◌<◌}
use native.Mathlib.Nat.{le_refl}
use native.Mathlib.Omega.{arith}
use lib.ListN.{length, get_or, set, drop, length-set, length-append}
use lib.Seq.{take_at, drop_at, take_all, drop-length, get_or-set_same}
use borrow.Rule.Slice.PartMut.{mid_of, put_mid, mid_len, same_len_mid, Post-is, put_same}
use Rattle.shape.specs.Tree.{Tree, node, size, permutation_from}
use Rattle.shape.proofs.Permutations.{length_permutation}

abbrev pub left_of : ℕ → List ℕ → List ℕ
left_of e p = mid_of 1 (e - 1) p

abbrev pub right_of : ℕ → List ℕ → List ℕ
right_of e p = mid_of e (length p - e) p

abbrev pub put_left : ℕ → List ℕ → List ℕ → List ℕ
put_left e p u = put_mid 1 (e - 1) p u

abbrev pub put_right : ℕ → List ℕ → List ℕ → List ℕ
put_right e p u = put_mid e (length p - e) p u

module _ (e : ℕ) (p : List ℕ) where
  pub left_same : put_left e p (left_of e p) ≡ p
  left_same = put_same 1 (e - 1) p

  pub right_same : put_right e p (right_of e p) ≡ p
  right_same = put_same e (length p - e) p

  pub left_long : e ≤ length p → length (left_of e p) ≡ e - 1
  left_long h = mid_len 1 e p h

  pub right_long : length (right_of e p) ≡ length p - e
  right_long = mid_len e (length p) p (le_refl (length p))

-- ---- the permutation of a node, with its labels after b and its root labelled x

module _ (b e x : ℕ) (l r : Tree) (nodes : suc (size l) ≡ e) (label : b + e ≡ x) where
  node_is : permutation_from b (node l r) ≡ x ∷ (permutation_from b l ++ permutation_from x r)
  unfolding permutation_from
  node_is = let root : suc (b + size l) ≡ x = omega arith in rw root refl

  pub node_left : left_of e (permutation_from b (node l r)) ≡ permutation_from b l
  node_left = rw node_is (take_at (permutation_from b l) _ (e - 1) (omega (arith, length_permutation b l)))

  pub node_right : right_of e (permutation_from b (node l r)) ≡ permutation_from x r
  node_right =
      let u = permutation_from b l in
      let v = permutation_from x r in
      rw (node_is, drop_at (x ∷ u) v e (omega (arith, length_permutation b l)))
      (take_all (length (x ∷ (u ++ v)) - e) v (omega (arith, length-append u v, length_permutation b l)))

-- behind the front, nothing is left of what stood there
both_put : (e : ℕ) (p u v : List ℕ) → suc (length u) ≡ e → e ≤ length (put_left e p u) → 0 < length p
    → put_right e (put_left e p u) v ≡ get_or p 0 0 ∷ (u ++ v)
both_put e [] u v long within some = absurd (omega arith)
both_put e (y ∷ p) u v long within some =
    let q = put_left e (y ∷ p) u in
    rw (take_at (y ∷ u) (drop (e - 1) p) e long, Post-is e (length q) q within, drop-length q, append-nil v) refl

module _ (b e x : ℕ) (left right : ℕ → Tree) (nodes : suc (size (left (e - 1))) ≡ e) (label : b + e ≡ x) where
  pub node_put : (p u v : List ℕ) → e ≤ length p → get_or p 0 0 ≡ x → u ≡ permutation_from b (left (length (left_of e p)))
      → v ≡ permutation_from x (right (length (right_of e (put_left e p u))))
      → put_right e (put_left e p u) v ≡ permutation_from b (node (left (e - 1)) (right (length p - e)))
  node_put p u v within root hu hv =
      let places = left_long e p within in
      let written : u ≡ permutation_from b (left (e - 1)) = rw places at hu in
      let long : suc (length u) ≡ e = omega (arith, ap length written, length_permutation b (left (e - 1))) in
      let kept = same_len_mid 1 (e - 1) p u (omega (arith, places)) in
      both_put e p u v long (omega (arith, kept)) (omega arith)
      ∙ rw (node_is b e x _ _ nodes label, root, written, hv, right_long e (put_left e p u), kept) refl

  pub root_put : (p u v : List ℕ) → e ≤ length p → u ≡ permutation_from b (left (length (left_of e (set p 0 x))))
      → v ≡ permutation_from x (right (length (right_of e (put_left e (set p 0 x) u))))
      → put_right e (put_left e (set p 0 x) u) v ≡ permutation_from b (node (left (e - 1)) (right (length p - e)))
  root_put p u v within hu hv =
      let same = length-set p 0 x in
      rw same at (node_put (set p 0 x) u v (omega (arith, same)) (get_or-set_same p 0 x 0 (omega arith)) hu hv)
