-- A distance by its sign, as code reckons with it that reads a number back of it, d being the distance. `added` and `end_past` need none of these
-- today; docs/landings/T-01.md names them.
--     read_fits, read_is              a distance on, read as a number: z is what is read back of it
--     less_fits, less_is              what stands before a way back
--     told                            what the test of the sign tells
--     before_on                       what stands before a way back is no way back
--     added_back, added_on            what `added` answers, of the number that was read
--     past_first, past_last           the end that a move can pass, which `end_past` answers
-- Assumes nothing.
use mathlib.Core.Path.{◌≡◌, refl, sym, ap, ◌∙◌}
use mathlib.Core.Bool.{Bool, true, false, true≢false}
use Prim.Native.Nat.{ℕ, suc, ◌-◌, ◌<◌}
use native.Mathlib.Omega.{arith}
use lib.Dec.{T}
use lib.IntN.{ℤ, pos, negsuc, nat_abs, ◌-ℤ◌}
use lib.Signed.{lt_z, mag, non_neg}
use borrow.Author.Tests.{le-ltb}
use mir.Syntax.{w64}
use mir.Val.{Fits, SFits, to_z, of_z}
use mir.Facts.{to_z-of_z}
use Rattle.shape.specs.Move.{end_past}
use Rattle.shape.specs.declared.Refusal.TheVariants.{Last, First}

-- a distance of 0 or more
module _ (d z : ℤ) (f : SFits w64 d) (g : lt_z d (pos 0) ≡ false) (e : z ≡ d) where
  pub read_fits : T (non_neg z) × Fits w64 (nat_abs z)
  read_fits = rw e (by_sign d f g)
    where
      by_sign : (d : ℤ) → SFits w64 d → lt_z d (pos 0) ≡ false → T (non_neg d) × Fits w64 (nat_abs d)
      by_sign (pos n) f g = (tt, record { fits = omega (arith, f.sfits) })
      by_sign (negsuc n) f g = absurd (true≢false g)

  pub read_is : (nat_abs z ≡ mag d) × (nat_abs z < 9223372036854775808)
  read_is = rw e (by_sign d f g)
    where
      by_sign : (d : ℤ) → SFits w64 d → lt_z d (pos 0) ≡ false → (nat_abs d ≡ mag d) × (nat_abs d < 9223372036854775808)
      by_sign (pos n) f g = (refl, omega (arith, f.sfits))
      by_sign (negsuc n) f g = absurd (true≢false g)

-- a distance below 0
module _ (d : ℤ) (f : SFits w64 d) (g : lt_z d (pos 0) ≡ true) where
  before_is : negsuc 0 -ℤ d ≡ pos (mag d)
  before_is = by_sign d g
    where
      by_sign : (d : ℤ) → lt_z d (pos 0) ≡ true → negsuc 0 -ℤ d ≡ pos (mag d)
      by_sign (pos n) g = absurd (true≢false (sym g ∙ le-ltb n 0 (omega arith)))
      by_sign (negsuc n) g = rw (le-ltb (suc n) 1 (omega arith)) (ap pos (omega arith))

  pub less_fits : SFits w64 (negsuc 0 -ℤ d)
  less_fits = rw before_is (record { sfits = f.sfits })

  pub less_is : to_z w64 (of_z w64 (negsuc 0 -ℤ d)) ≡ pos (mag d)
  less_is = to_z-of_z less_fits ∙ before_is

-- A signed number that is handed on is read back from its bits: d is the distance, r what the test of its sign answered.
module _ (d : ℤ) (f : SFits w64 d) (r : Bool) (e : r ≡ lt_z (to_z w64 (of_z w64 d)) (pos 0)) where
  pub told : (b : Bool) → r ≡ b → lt_z (to_z w64 (of_z w64 d)) (pos 0) ≡ b
  told b h = sym e ∙ h

  sign : (b : Bool) → r ≡ b → lt_z d (pos 0) ≡ b
  sign b h = sym (ap (λ (z : ℤ). lt_z z (pos 0)) (to_z-of_z f)) ∙ told b h

  pub past_first : r ≡ true → First ≡ end_past d
  past_first h = by_sign d (sign true h)
    where
      by_sign : (d : ℤ) → lt_z d (pos 0) ≡ true → First ≡ end_past d
      by_sign (pos n) g = absurd (true≢false (sym g ∙ le-ltb n 0 (omega arith)))
      by_sign (negsuc n) g = refl

  pub past_last : r ≡ false → Last ≡ end_past d
  past_last h = by_sign d (sign false h)
    where
      by_sign : (d : ℤ) → lt_z d (pos 0) ≡ false → Last ≡ end_past d
      by_sign (pos n) g = refl
      by_sign (negsuc n) g = absurd (true≢false g)

  -- k is what was read of it
  pub added_on : (k : ℕ) → r ≡ false → k ≡ mag (to_z w64 (of_z w64 d)) → k ≡ of_z w64 d
  added_on k h g = by_sign d (sign false h) (g ∙ ap mag (to_z-of_z f))
    where
      by_sign : (d : ℤ) → lt_z d (pos 0) ≡ false → k ≡ mag d → k ≡ of_z w64 d
      by_sign (pos n) g e = e
      by_sign (negsuc n) g e = absurd (true≢false g)

  -- y is what stands before the way back
  module _ (y : ℤ) (g : y ≡ pos (mag (to_z w64 (of_z w64 d)))) where
    read_back : to_z w64 (of_z w64 y) ≡ pos (mag d)
    read_back = let same = g ∙ ap (λ (z : ℤ). pos (mag z)) (to_z-of_z f) in rw same (to_z-of_z {w = w64} (record { sfits = f.sfits }))

    pub before_on : lt_z (to_z w64 (of_z w64 y)) (pos 0) ≡ false
    before_on = rw read_back (le-ltb (mag d) 0 (omega arith))

    pub added_back : (k : ℕ) → r ≡ true → k ≡ mag (to_z w64 (of_z w64 y)) → 18446744073709551615 - k ≡ of_z w64 d
    added_back k h m = by_sign d (sign true h) (m ∙ ap mag read_back)
      where
        by_sign : (d : ℤ) → lt_z d (pos 0) ≡ true → k ≡ mag d → 18446744073709551615 - k ≡ of_z w64 d
        by_sign (pos n) g e = absurd (true≢false (sym g ∙ le-ltb n 0 (omega arith)))
        by_sign (negsuc n) g e = omega arith
