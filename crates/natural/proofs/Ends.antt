-- The first and the last tree of a size, with which the way on and the way back begin, written one label after the other.
--     first_size, last_size     how many nodes it has
--     way x                     which way it is, on or back, where the const parameter is x
--     way_on, way_back          as the code's test tells it
--     Putting on b n i p q      of the n labels after b the first i stand in p, and with those still to be written it is q
--     putting_begin             so it is at the start, where q is the tree with which the way begins
--     first_turn, last_turn     and with one label more, on and back
--     putting_first, putting_last      the same, whichever way it is
--     putting_end               none is still to be written: that is what stands there
-- Assumes nothing.
use mathlib.Core.Path.{◌≡◌, refl, sym, ap, ◌∙◌}
use mathlib.Core.Bool.{Bool, true, false, not}
use mathlib.Core.List.{List, [], ◌∷◌, ◌++◌, append-nil}
use Prim.Native.Nat.{ℕ, suc, ◌+◌, ◌-◌, ◌≤◌, ◌<◌}
use native.Mathlib.Nat.{add-zero, sub-zero}
use native.Mathlib.Numerals.{add-one}
use native.Mathlib.Omega.{arith}
use lib.ListN.{length, set, take, length-set}
use lib.Dec.{eqb}
use lib.Seq.{take_all}
use borrow.Author.Tests.{ne_eqb, eq-eqb}
use Rattle.catalan.specs.Count.{C}
use Rattle.catalan.proofs.Counting.{C_positive}
use Rattle.shape.specs.Tree.{size, permutation_from}
use Rattle.shape.specs.Number.{numbered_tree, natural_tree}
use Rattle.shape.proofs.Writing.{written_next}
use Rattle.shape.proofs.NaturalNumbers.{natural_tree_size}
use Rattle.natural.specs.Parts.{first_tree, last_tree, end_tree}
use Rattle.natural.proofs.Trees.{first_node, last_node}

pub first_size : (m : ℕ) → size (first_tree m) ≡ m
first_size m = natural_tree_size m 0 (C_positive m)

pub last_size : (m : ℕ) → size (last_tree m) ≡ m
last_size m = natural_tree_size m (C m - 1) (omega (arith, C_positive m))

-- its first label, and the rest

first_label : (b m : ℕ) → permutation_from b (first_tree (suc m)) ≡ suc b ∷ permutation_from (suc b) (first_tree m)
unfolding permutation_from size
first_label b m = rw (first_node m, add-zero) refl

last_label : (b m : ℕ) → permutation_from b (last_tree (suc m)) ≡ suc (b + m) ∷ permutation_from b (last_tree m)
unfolding permutation_from
last_label b m = rw (last_node m, last_size m, append-nil) refl

-- p has its first i labels, and with s after them it is q: the next label is written
label_written : (p q s r : List ℕ) (i x : ℕ) → take i p ++ s ≡ q → i < length p → s ≡ x ∷ r → take (i + 1) (set p i x) ++ r ≡ q
label_written p q s r i x kept on h =
    written_next p i x r on ∙ ap (λ (v : List ℕ). take i p ++ v) (sym h) ∙ kept

-- ---- which way, as a step's const parameter tells it

abbrev pub way : ℕ → Bool
way x = not (eqb x 0)

pub way_on : (x : ℕ) → (x ≡ 0 → ⊥) → way x ≡ true
way_on x h = rw (ne_eqb x 0 h)

pub way_back : (x : ℕ) → x ≡ 0 → way x ≡ false
way_back x h = rw (eq-eqb x 0 h)

-- ---- the loop

-- after which label the labels of the tree that is still to be written come
abbrev pub begins : Bool → ℕ → ℕ → ℕ
begins true b i = b + i
begins false b i = b

pub record Putting (on : Bool) (b n i : ℕ) (p q : List ℕ) : Type 0 where
  pub long : length p ≡ n
  pub written : take i p ++ permutation_from (begins on b i) (end_tree on (n - i)) ≡ q

pub putting_begin : (on : Bool) (b n : ℕ) (p : List ℕ) → length p ≡ n → Putting on b n 0 p (permutation_from b (end_tree on n))
putting_begin true b n p long = record { long = long; written = simp (add-zero, sub-zero) refl }
putting_begin false b n p long = record { long = long; written = simp sub-zero refl }

module _ (b n i : ℕ) (p q : List ℕ) where
  pub first_turn : Putting true b n i p q → i < n → Putting true b n (i + 1) (set p i (b + i + 1)) q
  first_turn m on =
      let rest : n - i ≡ suc (n - (i + 1)) = omega arith in
      let next : suc (b + i) ≡ b + (i + 1) = omega arith in
      record {
        long = length-set p i (b + i + 1) ∙ m.long;
        written =
            label_written p q _ _ i (b + i + 1) m.written (omega (arith, m.long))
            (rw (rest, first_label (b + i) (n - (i + 1)), add-one (b + i), next) refl);
      }

  pub last_turn : Putting false b n i p q → i < n → Putting false b n (i + 1) (set p i (b + (length p - i))) q
  last_turn m on =
      let rest : n - i ≡ suc (n - (i + 1)) = omega arith in
      let label : suc (b + (n - (i + 1))) ≡ b + (length p - i) = omega (arith, m.long) in
      record {
        long = length-set p i (b + (length p - i)) ∙ m.long;
        written =
            label_written p q _ _ i (b + (length p - i)) m.written (omega (arith, m.long))
            (ap (λ (m : ℕ). permutation_from b (last_tree m)) rest
            ∙ last_label b (n - (i + 1))
            ∙ ap (λ (x : ℕ). x ∷ permutation_from b (last_tree (n - (i + 1)))) label);
      }

  module _ (x : ℕ) (m : Putting (way x) b n i p q) where
    pub putting_first : (x ≡ 0 → ⊥) → i < n → Putting (way x) b n (i + 1) (set p i (b + i + 1)) q
    putting_first h on =
        let e = way_on x h in
        rw e (first_turn (rw e at m) on)

    pub putting_last : x ≡ 0 → i < n → Putting (way x) b n (i + 1) (set p i (b + (length p - i))) q
    putting_last h on =
        let e = way_back x h in
        rw e (last_turn (rw e at m) on)

  -- the tree of no entry, either way
  none_left : (on : Bool) → permutation_from (begins on b i) (end_tree on 0) ≡ []
  unfolding permutation_from natural_tree numbered_tree
  none_left true = refl
  none_left false = refl

  pub putting_end : (on : Bool) → Putting on b n i p q → n ≤ i → p ≡ q
  putting_end on m all =
      let none : n - i ≡ 0 = omega arith in
      sym (append-nil p) ∙ rw (none, none_left on, take_all i p (omega (arith, m.long))) at m.written
