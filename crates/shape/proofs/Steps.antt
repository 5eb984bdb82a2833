-- One step along a numbering, for any size, form and order.
--     next_formed, number_next           the step on is well formed and has the number one higher
--     previous_formed, number_previous   the step back has the number one lower
--     previous_next, next_previous       each undoes the other
--     next_numbered, previous_numbered   a step from the shape with number k leads to the one with number k + 1, or k - 1
-- Assumes nothing.
use mathlib.Core.Path.{◌≡◌, ap, ◌∙◌}
use mathlib.Core.List.{List}
use Prim.Native.Nat.{ℕ, ◌+◌, ◌-◌, ◌<◌}
use native.Mathlib.Omega.{arith}
use Rattle.shape.specs.Numbering.{Numbering, total, WellFormed, Lawful, next, previous}

module _ (N : Numbering) (laws : Lawful N) (p : List ℕ) (g : WellFormed N p) where
  pub next_formed : N.number p + 1 < total N → WellFormed N (next N p)
  unfolding next
  next_formed h = laws.shape_formed _ h

  pub number_next : N.number p + 1 < total N → N.number (next N p) ≡ N.number p + 1
  unfolding next
  number_next h = laws.number_shape _ h

  pub previous_next : N.number p + 1 < total N → previous N (next N p) ≡ p
  unfolding previous
  previous_next h = ap N.shape (omega (arith, number_next h)) ∙ laws.shape_number p g

  pub previous_formed : WellFormed N (previous N p)
  unfolding previous
  previous_formed = laws.shape_formed _ (omega (arith, laws.number_below p g))

  pub number_previous : N.number (previous N p) ≡ N.number p - 1
  unfolding previous
  number_previous = laws.number_shape _ (omega (arith, laws.number_below p g))

  pub next_previous : 0 < N.number p → next N (previous N p) ≡ p
  unfolding next
  next_previous h = ap N.shape (omega (arith, number_previous)) ∙ laws.shape_number p g

module _ (N : Numbering) (laws : Lawful N) (k : ℕ) (h : k < total N) where
  pub next_numbered : next N (N.shape k) ≡ N.shape (k + 1)
  unfolding next
  next_numbered = ap (λ (i : ℕ). N.shape (i + 1)) (laws.number_shape k h)

  pub previous_numbered : previous N (N.shape k) ≡ N.shape (k - 1)
  unfolding previous
  previous_numbered = ap (λ (i : ℕ). N.shape (i - 1)) (laws.number_shape k h)
