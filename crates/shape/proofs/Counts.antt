-- How many entries of a list are x.
--     count_append       of one list after another
--     count_split        of the first i entries and of the others
--     count_next         of the first i entries and one more
--     place_counts       of a place alone: it is a one or a zero
--     zeros_and_ones     a list of places is its zeros and its ones
--     count_same         of an x and the entries behind it
--     count_none         of entries that are all another
--     absent_means       an entry is counted 0 times exactly when it stands at no place
-- Assumes nothing.
use mathlib.Core.Path.{◌≡◌, refl, sym, ap, ◌∙◌}
use mathlib.Core.Logic.{◌↔◌}
use mathlib.Core.Bool.{Bool, true, false, cond}
use mathlib.Core.List.{List, [], ◌∷◌, ◌++◌}
use Prim.Native.Nat.{ℕ, zero, suc, ◌+◌, ◌≤◌, ◌<◌}
use native.Mathlib.Numerals.{add-one}
use native.Mathlib.Omega.{arith}
use native.Mathlib.Decide.{ℕ_discrete}
use lib.Dec.{eqb}
use lib.ListN.{length, get_or, take, drop, take-append-drop}
use lib.Seq.{take-suc}
use borrow.Author.Tests.{eq-eqb, ne_eqb}
use Rattle.shape.specs.Form.{count}
use Rattle.shape.specs.Every.{All}
use Rattle.shape.proofs.Lists.{all_at, all_of}

pub count_append : (x : ℕ) (u v : List ℕ) → count x (u ++ v) ≡ count x u + count x v
unfolding count
count_append x [] v = omega arith
count_append x (y ∷ u) v = rw (count_append x u v) (either (eqb y x) (count x u))
  where
    either : (b : Bool) (m : ℕ) → cond b (suc (m + count x v)) (m + count x v) ≡ cond b (suc m) m + count x v
    either true m = omega arith
    either false m = refl

pub count_split : (x i : ℕ) (p : List ℕ) → count x (take i p) + count x (drop i p) ≡ count x p
count_split x i p = sym (count_append x (take i p) (drop i p)) ∙ ap (count x) (take-append-drop i p)

pub count_next : (x : ℕ) (p : List ℕ) (i : ℕ) → i < length p → count x (take (i + 1) p) ≡ count x (take i p) + count x (get_or p i 0 ∷ [])
count_next x p i h = rw (add-one, take-suc p i 0) (count_append x (take i p) (get_or p i 0 ∷ []))

-- ---- places

pub place_counts : (x : ℕ) → x ≤ 1 → (count 1 (x ∷ []) ≡ x) × (count 0 (x ∷ []) + x ≡ 1)
unfolding count
place_counts zero h = (refl, refl)
place_counts (suc zero) h = (refl, refl)
place_counts (suc (suc x)) h = absurd (omega arith)

pub zeros_and_ones : (p : List ℕ) → ((i : ℕ) → i < length p → get_or p i 0 ≤ 1) → count 0 p + count 1 p ≡ length p
unfolding count
zeros_and_ones [] h = refl
zeros_and_ones (zero ∷ p) h = omega (arith, zeros_and_ones p (λ i l. h (suc i) (omega arith)))
zeros_and_ones (suc zero ∷ p) h = omega (arith, zeros_and_ones p (λ i l. h (suc i) (omega arith)))
zeros_and_ones (suc (suc x) ∷ p) h = absurd (let z = h 0 (omega arith) in omega arith)

-- ---- an entry that is not there

module _ (x : ℕ) where
  abbrev Other : ℕ → Type 0
  Other y = y ≡ x → ⊥

  pub count_same : (y : ℕ) (p : List ℕ) → y ≡ x → count x (y ∷ p) ≡ suc (count x p)
  unfolding count
  count_same y p e = rw (eq-eqb y x e)

  count_other : (y : ℕ) (p : List ℕ) → Other y → count x (y ∷ p) ≡ count x p
  unfolding count
  count_other y p g = rw (ne_eqb y x g)

  others : (p : List ℕ) → count x p ≡ 0 → All Other p
  others [] h = tt
  others (y ∷ p) h =
      elim (ℕ_discrete y x) [ yes e ↦ absurd (omega (arith, count_same y p e)) | no g ↦ (g, others p (sym (count_other y p g) ∙ h)) ]

  pub count_none : (p : List ℕ) → All Other p → count x p ≡ 0
  count_none [] h = unfold count in refl
  count_none (y ∷ p) h = count_other y p h.0 ∙ count_none p h.1

  pub absent_means : (p : List ℕ) → (count x p ≡ 0) ↔ ((i : ℕ) → i < length p → get_or p i 0 ≡ x → ⊥)
  absent_means p = (λ h. all_at Other p (others p h), λ h. count_none p (all_of Other p h))
