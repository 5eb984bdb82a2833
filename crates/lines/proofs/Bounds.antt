-- What a line has to hold of the shape numbered k, of size n: its pattern p, its permutation q, its depth and its change.
--     shape_formed             the pattern is one
--     shape_wide, shape_count, shape_some, shape_few     how many places and entries there are
--     shape_places, shape_entries                       a place is 0 or 1, and an entry has two digits at most
--     shape_depth, shape_change                         and so have depth and change
-- Assumes nothing.
use mathlib.Core.Path.{◌≡◌, sym, ap, ◌∙◌, subst}
use mathlib.Core.List.{List}
use Prim.Native.Nat.{ℕ, ◌*◌, ◌≤◌, ◌<◌}
use native.Mathlib.Decide.{dec_lt}
use native.Mathlib.Omega.{arith}
use lib.ListN.{length, get_or, get_or-eq_default}
use Rattle.catalan.specs.Count.{C, largest_size}
use Rattle.shape.specs.Tree.{permutation}
use Rattle.shape.specs.Form.{Feasible, TreePermutation, pattern_tree}
use Rattle.shape.specs.Number.{local_pattern, change, depth}
use Rattle.shape.proofs.Counts.{count_split}
use Rattle.shape.proofs.Patterns.{pattern_of}
use Rattle.shape.proofs.Permutations.{permutation_formed}
use Rattle.shape.proofs.LocalNumbers.{local_lawful}
use Rattle.shape.proofs.Changes.{length_local, change_most}
use Rattle.shape.proofs.Excess.{excess, depth_reached}

module _ (n k : ℕ) (small : n ≤ largest_size) (below : k < C n) (p : List ℕ) (is : p ≡ local_pattern n k) where
  pub shape_formed : Feasible n p
  shape_formed = subst (Feasible n) (sym is) ((local_lawful n).shape_formed k below)

  shape_long : length p ≡ 2 * n
  shape_long = ap length is ∙ length_local n k below

  pub shape_wide : length p ≤ 70
  shape_wide = omega (arith, shape_long)

  pub shape_places : (i : ℕ) → get_or p i 0 ≤ 1
  shape_places i =
      elim (dec_lt i (length p)) [
        | yes on ↦ shape_formed.places i on
        | no past ↦ omega (arith, get_or-eq_default p 0 {n = i} (omega arith))
      ]

  pub shape_depth : depth p < 100
  unfolding excess
  shape_depth =
      let (i, l, e) = depth_reached p in
      omega (arith, count_split 1 i p, shape_formed.ones)

  pub shape_change : 1 ≤ n → change n k < 100
  shape_change some = omega (arith, change_most n k (omega arith) below)

  module _ (q : List ℕ) (of : q ≡ permutation (pattern_tree p)) where
    permuted : TreePermutation n q
    permuted =
        let (_, sized) = pattern_of n p shape_formed in
        let tree = pattern_tree p in
        subst (TreePermutation n) (sym of) (subst (λ (m : ℕ). TreePermutation m (permutation tree)) sized (permutation_formed tree))

    pub shape_count : length q ≡ n
    shape_count = permuted.entries

    pub shape_some : 1 ≤ n → 1 ≤ length q
    shape_some some = omega (arith, shape_count)

    pub shape_few : length q ≤ 35
    shape_few = omega (arith, shape_count)

    pub shape_entries : (i : ℕ) → get_or q i 0 < 100
    shape_entries i =
        elim (dec_lt i (length q)) [
          | yes on ↦ omega (arith, permuted.most i on)
          | no past ↦ omega (arith, get_or-eq_default q 0 {n = i} (omega arith))
        ]
