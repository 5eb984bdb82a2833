-- Laws of what a run's state holds.
--     test_fails                       a test of what is not so fails
--     same_means, same_other           the test of two lists passes exactly where they are one list, and fails where they are not
--     range_means                      the test of a state's numbers
--     zeros_from                       zeros from a place on
--     places_at_next, places_at_end    before the end a state holds the pattern that comes next, and 0 behind it; at the end 0 only
--     take_padded, drop_padded         of a state's places the first 2n are the pattern, and the others 0
--     padded_means, padded_written     which is all that makes them, and how they come out when the pattern is written over the first 2n
--     length_padded, length_places_at  a state has 70 places, whatever the size and the number
-- Assumes nothing.
use mathlib.Core.Path.{◌≡◌, refl, sym, ap, ◌∙◌}
use mathlib.Core.Logic.Iff
use mathlib.Core.Logic.{◌↔◌}
use mathlib.Core.Bool.{Bool, true, false, false≢true, not-eq-not}
use mathlib.Core.List.{List, [], ◌∷◌, ◌++◌}
use Prim.Native.Nat.{ℕ, ◌+◌, ◌-◌, ◌*◌, ◌≤◌, ◌<◌}
use native.Mathlib.Decide.{dec_lt}
use native.Mathlib.Omega.{arith}
use lib.ListN.{length, get_or, take, drop, replicate, take-append-drop, length-append, length-drop, length-replicate}
use lib.Seq.{take_at, drop_at, get_or-drop, ext_get_or}
use borrow.Author.Tests.{lt-ltb, le-ltb}
use Rattle.catalan.specs.Count.{C, largest_size}
use Rattle.shape.specs.Number.{local_pattern}
use Rattle.shape.proofs.Lists.{zeros_at}
use Rattle.shape.proofs.Tests.{le_means, equal_means, and_means}
use Rattle.shape.proofs.Changes.{length_local}
use Rattle.run.specs.State.{state_places, no_places, padded, places_at, same, in_range}

-- ---- tests

pub test_fails : {t : Bool} {P : Type 0} → (t ≡ true) ↔ P → (P → ⊥) → t ≡ false
test_fails m h = (not-eq-not {b = false}).0 (λ e. h (m.0 e))

pub same_means : (p q : List ℕ) → (same p q ≡ true) ↔ (p ≡ q)
unfolding same
same_means [] [] = (λ e. refl, λ e. refl)
same_means [] (y ∷ q) = (λ e. absurd (false≢true e), λ e. absurd (omega (arith, ap length e)))
same_means (x ∷ p) [] = (λ e. absurd (false≢true e), λ e. absurd (omega (arith, ap length e)))
same_means (x ∷ p) (y ∷ q) =
    Iff.trans (and_means (equal_means x y) (same_means p q)) (
      λ (e, h). rw (e, h),
      λ e. (ap (λ (l : List ℕ). get_or l 0 0) e, ap (λ (l : List ℕ). drop 1 l) e),
    )

pub same_other : (p q : List ℕ) → (p ≡ q → ⊥) → same p q ≡ false
same_other p q h = test_fails (same_means p q) h

pub range_means : (n k end : ℕ) → (in_range n k end ≡ true) ↔ ((k ≤ end) × (end ≤ C n))
range_means n k end = and_means (le_means k end) (le_means end (C n))

-- ---- zeros

pub zeros_from : (l : List ℕ) (m : ℕ) → (drop m l ≡ replicate (length l - m) 0) ↔ ((i : ℕ) → m ≤ i → get_or l i 0 ≡ 0)
zeros_from l m = (
  λ e i h. let there : m + (i - m) ≡ i = omega arith in
      ap (λ (j : ℕ). get_or l j 0) (sym there) ∙ sym (get_or-drop m l (i - m) 0) ∙ rw e (zeros_at (length l - m) (i - m)),
  λ h. ext_get_or 0 _ _ (length-drop m l ∙ sym (length-replicate {A = ℕ} (length l - m) 0))
      (λ i o. get_or-drop m l i 0 ∙ h (m + i) (omega arith) ∙ sym (zeros_at (length l - m) i)),
)

-- ---- what a state holds

module _ (n k end : ℕ) where
  pub places_at_next : k < end → places_at n k end ≡ padded (local_pattern n k)
  unfolding places_at
  places_at_next h = rw (lt-ltb k end h)

  pub places_at_end : end ≤ k → places_at n k end ≡ no_places
  unfolding places_at
  places_at_end h = rw (le-ltb k end h)

module _ (n k : ℕ) (below : k < C n) where
  padded_is : padded (local_pattern n k) ≡ local_pattern n k ++ replicate (state_places - 2 * n) 0
  unfolding padded
  padded_is = ap (λ (m : ℕ). local_pattern n k ++ replicate (state_places - m) 0) (length_local n k below)

  pub take_padded : take (2 * n) (padded (local_pattern n k)) ≡ local_pattern n k
  take_padded = rw padded_is (take_at (local_pattern n k) _ (2 * n) (length_local n k below))

  pub drop_padded : drop (2 * n) (padded (local_pattern n k)) ≡ replicate (state_places - 2 * n) 0
  drop_padded = rw padded_is (drop_at (local_pattern n k) _ (2 * n) (length_local n k below))

  pub padded_means : (p : List ℕ)
      → (p ≡ padded (local_pattern n k)) ↔ ((take (2 * n) p ≡ local_pattern n k) × (drop (2 * n) p ≡ replicate (state_places - 2 * n) 0))
  padded_means p = (
    λ e. (ap (take (2 * n)) e ∙ take_padded, ap (drop (2 * n)) e ∙ drop_padded),
    λ (e, z). sym (take-append-drop (2 * n) p) ∙ rw (e, z, padded_is),
  )

  pub padded_written : (p q : List ℕ) → q ≡ local_pattern n k → drop (2 * n) p ≡ replicate (state_places - 2 * n) 0
      → q ++ drop (2 * n) p ≡ padded (local_pattern n k)
  padded_written p q e z = rw (e, z, padded_is)

  pub length_padded : n ≤ largest_size → length (padded (local_pattern n k)) ≡ state_places
  length_padded h =
      let behind = state_places - 2 * n in
      rw padded_is
      (omega (arith, length-append (local_pattern n k) (replicate behind 0), length-replicate {A = ℕ} behind 0, length_local n k below))

pub length_places_at : (n k end : ℕ) → n ≤ largest_size → end ≤ C n → length (places_at n k end) ≡ state_places
length_places_at n k end small most =
    elim (dec_lt k end) [
      | yes h ↦ ap length (places_at_next n k end h) ∙ length_padded n k (omega arith) small
      | no h ↦ ap length (places_at_end n k end (omega arith)) ∙ length-replicate {A = ℕ} state_places 0
    ]
