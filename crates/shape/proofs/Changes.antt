-- The change of a pattern, and the changes of a whole size.
--     difference_here, difference_later      two lists differ first at the first place, or one place later than without it
--     first_difference_lem   what the first difference of two lists in order is: before it they agree, there they differ
--     length_local           the pattern with a number has 2n places
--     change_places          the change counts the places from the first difference to the end
--     change_least, change_most      it is at least 1 and at most 2n
--     changes_counted        the changes of all numbers of size n count the prefixes of its patterns, but for the empty one
--     changes_total          the changes of all numbers of size n sum to C(1) + .. + C(n+1) - 1
-- Assumes nothing.
use mathlib.Core.Path.{◌≡◌, refl, ap, ◌∙◌}
use mathlib.Core.List.{List, ◌∷◌}
use Prim.Native.Nat.{ℕ, zero, suc, ◌+◌, ◌-◌, ◌*◌, ◌≤◌, ◌<◌}
use native.Mathlib.Nat.{add-sub_cancel_left, add-suc, add-zero}
use native.Mathlib.Omega.{arith}
use lib.ListN.{length, get_or, take, drop, length-drop}
use borrow.Author.Tests.{eq-eqb, ne_eqb}
use Rattle.catalan.specs.Count.{C, ways, words, prefixes, sum}
use Rattle.catalan.proofs.Sums.{sum_front, sum_cong, sum_split}
use Rattle.catalan.proofs.Counting.{ways_words, words_positive, words_step, C_words, prefixes_step, prefixes_total}
use Rattle.shape.specs.Order.{Dictionary, differ, agree}
use Rattle.shape.specs.Number.{local_places, local_pattern, first_difference, change}
use Rattle.shape.specs.Numbering.{local}
use Rattle.shape.proofs.Listing.{shape_before}
use Rattle.shape.proofs.Patterns.{feasible_length}
use Rattle.shape.proofs.LocalNumbers.{next_zero, next_one, local_lawful}

-- ---- the first difference

-- before place i, counted from 0, the lists agree, and there p has the smaller number
pub record DifferAt (p q : List ℕ) (i : ℕ) : Type 0 where
  pub within : i < length p
  pub agrees : take i p ≡ take i q
  pub differs : get_or p i 0 < get_or q i 0

pub difference_here : (x y : ℕ) (p q : List ℕ) → x < y → first_difference (x ∷ p) (y ∷ q) ≡ 1
unfolding first_difference
difference_here x y p q h = rw (ne_eqb x y (λ e. omega arith))

pub difference_later : (x : ℕ) (p q : List ℕ) → first_difference (x ∷ p) (x ∷ q) ≡ suc (first_difference p q)
unfolding first_difference
difference_later x p q = rw (eq-eqb x x refl)

pub first_difference_lem : {p q : List ℕ} → Dictionary p q → (i : ℕ) × (first_difference p q ≡ suc i) × DifferAt p q i
first_difference_lem (differ {x} {y} {p} {q} h) = (0, difference_here x y p q h, record { within = omega arith; agrees = refl; differs = h })
first_difference_lem (agree {x} {p} {q} d) =
    let r = first_difference_lem d in (
      suc r.0,
      difference_later x p q ∙ ap suc r.1,
      record { within = omega (arith, r.2.within); agrees = ap {B = List ℕ} (λ w. x ∷ w) r.2.agrees; differs = r.2.differs },
    )

-- ---- one change

pub length_local : (n k : ℕ) → k < C n → length (local_pattern n k) ≡ 2 * n
length_local n k h = feasible_length n (local_pattern n k) ((local_lawful n).shape_formed k h)

neighbours : (n k : ℕ) → suc k < C n → Dictionary (local_pattern n k) (local_pattern n (suc k))
neighbours n k h = shape_before (local n) (local_lawful n) k (suc k) (omega arith) h (omega arith)

pub change_places : (n k : ℕ) → suc k < C n
    → (i : ℕ) × DifferAt (local_pattern n k) (local_pattern n (suc k)) i × (change n (suc k) ≡ length (drop i (local_pattern n (suc k))))
unfolding change
change_places n k h =
    let (i, e, d) = first_difference_lem (neighbours n k h) in
    (i, d, rw (length-drop, e) (omega (arith, d.within, length_local n k (omega arith), length_local n (suc k) h)))

-- the change of number 0 is the whole pattern
change_range : (n k : ℕ) → 0 < n → k < C n → (1 ≤ change n k) × (change n k ≤ 2 * n)
change_range n zero p h = unfold change in (omega arith, omega arith)
change_range n (suc k) p h =
    let (i, d, e) = change_places n k h in
    let places = e ∙ length-drop i (local_pattern n (suc k)) in
    (omega (arith, places, d.within, length_local n k (omega arith), length_local n (suc k) h), omega (arith, places, length_local n (suc k) h))

pub change_least : (n k : ℕ) → 0 < n → k < C n → 1 ≤ change n k
change_least n k p h = (change_range n k p h).0

pub change_most : (n k : ℕ) → 0 < n → k < C n → change n k ≤ 2 * n
change_most n k p h = (change_range n k p h).1

-- ---- all changes

-- the change within the places worked out with a ones and b zeros left for i places
places_change : ℕ → ℕ → ℕ → ℕ → ℕ
places_change i a b zero = i
places_change i a b (suc k) = i - first_difference (local_places i a b k) (local_places i a b (suc k)) + 1

-- behind a first place that two neighbours share, their change is as without it
shared_place : (x i : ℕ) (p q : List ℕ) → suc i - first_difference (x ∷ p) (x ∷ q) + 1 ≡ i - first_difference p q + 1
shared_place x i p q = rw difference_later (omega arith)

-- v of the patterns have a 0 next
module _ (i a b v : ℕ) (q : ways (suc a) (b - 1) ≡ v) where
  zero_change : (k : ℕ) → suc k < v → places_change (suc i) (suc a) b (suc k) ≡ places_change i (suc a) (b - 1) (suc k)
  unfolding places_change
  zero_change k h = rw (next_zero i (suc a) b k (omega arith), next_zero i (suc a) b (suc k) (omega arith)) (shared_place 0 i _ _)

  one_place : (j : ℕ) → local_places (suc i) (suc a) b (v + j) ≡ 1 ∷ local_places i a b j
  one_place j = next_one i a b (v + j) v q (omega arith) ∙ ap {B = List ℕ} (λ (k : ℕ). 1 ∷ local_places i a b k) (add-sub_cancel_left v j)

  one_change : (j : ℕ) → places_change (suc i) (suc a) b (suc (v + j)) ≡ places_change i a b (suc j)
  unfolding places_change
  one_change j = rw (← add-suc v j, one_place j, one_place (suc j)) (shared_place 1 i _ _)

-- the first pattern with a 1 here differs here from the last with a 0
first_one_change : (i a b v : ℕ) → ways (suc a) (b - 1) ≡ v → places_change (suc i) (suc a) b v ≡ suc i
unfolding places_change
first_one_change i a b zero q = refl
first_one_change i a b (suc v) q =
    rw (next_zero i (suc a) b v (omega arith), next_one i a b (suc v) (suc v) q (omega arith), difference_here 0 1 _ _ (omega arith)) (omega arith)

-- a place put before the n patterns of a block is one change more, at the first of them
sum_block : (n : ℕ) (f g : ℕ → ℕ) → 0 < n → f 0 ≡ suc (g 0) → ((k : ℕ) → suc k < n → f (suc k) ≡ g (suc k)) → sum n f ≡ suc (sum n g)
sum_block zero f g p e h = absurd (omega arith)
sum_block (suc n) f g p e h =
    omega (arith, sum_front n f, sum_front n g, sum_cong n (λ k. f (suc k)) (λ k. g (suc k)) (λ k l. h k (omega arith)))

-- the changes of all words number their prefixes, but for the empty one
abbrev Counted : ℕ → Type 0
Counted i = (e a b : ℕ) → e + a ≡ b → a + b ≡ i → suc (sum (words (suc e) a) (places_change i a b)) ≡ prefixes (suc e) a

module _ (i : ℕ) (rest : Counted i) where
  zeros_counted : (e a b : ℕ) → e + suc a ≡ b → suc a + b ≡ suc i → sum (words e (suc a)) (places_change (suc i) (suc a) b) ≡ prefixes e (suc a)
  zeros_counted zero a b hb hi = unfold words prefixes sum in refl
  zeros_counted (suc e) a b hb hi =
      let v = words (suc e) (suc a) in
      let q = ways_words (suc a) (b - 1) (suc e) (omega arith) in
      sum_block v (places_change (suc i) (suc a) b) (places_change i (suc a) (b - 1)) (words_positive (suc a) e)
      (unfold places_change in refl)
      (λ k h. zero_change i a b v q k h)
      ∙ rest e (suc a) (b - 1) (omega arith) (omega arith)

  ones_counted : (e a b : ℕ) → e + suc a ≡ b → suc a + b ≡ suc i
      → sum (words (suc (suc e)) a) (λ j. places_change (suc i) (suc a) b (words e (suc a) + j)) ≡ prefixes (suc (suc e)) a
  ones_counted e a b hb hi =
      let v = words e (suc a) in
      let q = ways_words (suc a) (b - 1) e (omega arith) in
      sum_block (words (suc (suc e)) a) (λ j. places_change (suc i) (suc a) b (v + j)) (places_change i a b) (words_positive a (suc e))
      (rw add-zero (first_one_change i a b v q ∙ unfold places_change in refl))
      (λ j h. rw add-suc (one_change i a b v q j))
      ∙ rest (suc e) a b (omega arith) (omega arith)

  place_counted : (e a b : ℕ) → e + a ≡ b → a + b ≡ suc i → suc (sum (words (suc e) a) (places_change (suc i) a b)) ≡ prefixes (suc e) a
  place_counted e zero b hb hi = unfold words prefixes sum places_change in omega arith
  place_counted e (suc a) b hb hi =
      rw (words_step, sum_split)
      (omega (arith, prefixes_step e a, zeros_counted e a b hb hi, ones_counted e a b hb hi))

changes_prefixes : (i : ℕ) → Counted i
changes_prefixes zero e zero b hb hi = unfold words prefixes sum places_change in omega arith
changes_prefixes zero e (suc a) b hb hi = absurd (omega arith)
changes_prefixes (suc i) e a b hb hi = place_counted i (changes_prefixes i) e a b hb hi

whole_change : (n k : ℕ) → change n k ≡ places_change (2 * n) n n k
unfolding change local_pattern places_change
whole_change n zero = refl
whole_change n (suc k) = refl

pub changes_counted : (n : ℕ) → suc (sum (C n) (change n)) ≡ prefixes 1 n
changes_counted n =
    ap suc (ap (λ (m : ℕ). sum m (change n)) (C_words n) ∙ sum_cong (words 1 n) (change n) (places_change (2 * n) n n) (λ k h. whole_change n k))
    ∙ changes_prefixes (2 * n) 0 n n (omega arith) (omega arith)

pub changes_total : (n : ℕ) → sum (C n) (change n) ≡ sum (suc n) (λ k. C (suc k)) - 1
changes_total n = omega (arith, changes_counted n, prefixes_total n)
