-- Steps along the local order: when there is one, what it gives, and one after another.
--     next_some, next_none, previous_some, previous_none      with a number to step to, and without one
--     next_change_none, previous_change_none      a change of 0 says that there is none
--     next_change_some, previous_change_some      and any other that there is one
--     next_neighbour, previous_neighbour          neighbours are one step apart
--     next_chained, next_change_chained           from the pattern with number k a step on makes the one with number k + 1
--     previous_chained, previous_change_chained   and a step back the one with number k - 1
-- Assumes nothing.
use Rattle.std.proofs.Common.{◌≡◌, ℕ, zero, suc, ◌+◌, ◌-◌, ◌<◌, ◌≤◌, List, refl, ap, ◌∙◌, add-one, arith, le-ltb, lt-ltb}
use native.Mathlib.Decide.{dec_lt}
use Rattle.catalan.specs.Count.{C}
use Rattle.shape.specs.Form.{Feasible}
use Rattle.shape.specs.Number.{local_number, local_pattern, change}
use Rattle.shape.specs.Numbering.{local, next, previous}
use Rattle.shape.proofs.LocalNumbers.{local_lawful}
use Rattle.shape.proofs.Steps.{next_numbered, previous_numbered}
use Rattle.shape.proofs.Changes.{change_least}
use Rattle.shape.proofs.Neighbours.{Neighbours, next_is, previous_is}
use Rattle.local.specs.Places.{next_change, next_pattern, previous_change, previous_pattern}

-- of size 0 there is one pattern only
has_nodes : (n k : ℕ) → 0 < k → k < C n → 0 < n
unfolding C
has_nodes zero k low h = absurd (omega arith)
has_nodes (suc n) k low h = omega arith

-- the change of any number but 0
step_change_lem : (n k : ℕ) → 0 < k → k < C n → 1 ≤ change n k
step_change_lem n k low h = change_least n k (has_nodes n k low h) h

module _ (n : ℕ) (p : List ℕ) where
  pub next_some : local_number p + 1 < C n → (next_change n p ≡ change n (local_number p + 1)) × (next_pattern n p ≡ next (local n) p)
  unfolding next_change next_pattern
  next_some h = rw (lt-ltb (local_number p + 1) (C n) h) (refl, refl)

  pub next_none : C n ≤ local_number p + 1 → (next_change n p ≡ 0) × (next_pattern n p ≡ p)
  unfolding next_change next_pattern
  next_none h = rw (le-ltb (local_number p + 1) (C n) h) (refl, refl)

  pub previous_some : 0 < local_number p → (previous_change n p ≡ change n (local_number p)) × (previous_pattern n p ≡ previous (local n) p)
  unfolding previous_change previous_pattern
  previous_some h = rw (lt-ltb 0 (local_number p) h) (refl, refl)

  pub previous_none : local_number p ≤ 0 → (previous_change n p ≡ 0) × (previous_pattern n p ≡ p)
  unfolding previous_change previous_pattern
  previous_none h = rw (le-ltb 0 (local_number p) h) (refl, refl)

  -- no change is 0, so a 0 says that there is no step
  pub next_change_none : Feasible n p → next_change n p ≡ 0 → local_number p + 1 ≡ C n
  next_change_none g e =
      elim (dec_lt (local_number p + 1) (C n)) [
        | yes h ↦ absurd (omega (arith, (next_some h).0, step_change_lem n (local_number p + 1) (omega arith) h))
        | no h ↦ omega (arith, (local_lawful n).number_below p g)
      ]

  pub next_change_some : (next_change n p ≡ 0 → ⊥) → local_number p + 1 < C n
  next_change_some g = elim (dec_lt (local_number p + 1) (C n)) [ yes h ↦ h | no h ↦ absurd (g (next_none (omega arith)).0) ]

  pub previous_change_none : Feasible n p → previous_change n p ≡ 0 → local_number p ≡ 0
  previous_change_none g e =
      elim (dec_lt 0 (local_number p)) [
        | yes h ↦ absurd (omega (arith, (previous_some h).0, step_change_lem n (local_number p) h ((local_lawful n).number_below p g)))
        | no h ↦ omega arith
      ]

  pub previous_change_some : (previous_change n p ≡ 0 → ⊥) → 0 < local_number p
  previous_change_some g = elim (dec_lt 0 (local_number p)) [ yes h ↦ h | no h ↦ absurd (g (previous_none (omega arith)).0) ]

module _ {n : ℕ} {p q : List ℕ} {c : ℕ} (h : Neighbours n p q c) where
  pub next_neighbour : (next_change n p ≡ c) × (next_pattern n p ≡ q)
  next_neighbour =
      let (x, y) = next_some n p (omega (arith, h.higher, (local_lawful n).number_below q h.formed')) in
      (x ∙ rw add-one h.changed, y ∙ next_is h)

  pub previous_neighbour : (previous_change n q ≡ c) × (previous_pattern n q ≡ p)
  previous_neighbour =
      let (x, y) = previous_some n q (omega (arith, h.higher)) in
      (x ∙ rw h.higher h.changed, y ∙ previous_is h)

-- ---- by numbers

module _ (n k : ℕ) (p : List ℕ) (e : p ≡ local_pattern n k) where
  number : k < C n → local_number p ≡ k
  number h = ap local_number e ∙ (local_lawful n).number_shape k h

  pub next_change_chained : k + 1 < C n → next_change n p ≡ change n (k + 1)
  next_change_chained h = let at_k = number (omega arith) in (next_some n p (rw at_k h)).0 ∙ rw at_k

  pub next_chained : k + 1 < C n → next_pattern n p ≡ local_pattern n (k + 1)
  next_chained h = (next_some n p (rw (number (omega arith)) h)).1 ∙ rw e (next_numbered (local n) (local_lawful n) k (omega arith))

  pub previous_change_chained : 0 < k → k < C n → previous_change n p ≡ change n k
  previous_change_chained low h = let at_k = number h in (previous_some n p (rw at_k low)).0 ∙ rw at_k

  pub previous_chained : 0 < k → k < C n → previous_pattern n p ≡ local_pattern n (k - 1)
  previous_chained low h = (previous_some n p (rw (number h) low)).1 ∙ rw e (previous_numbered (local n) (local_lawful n) k h)
