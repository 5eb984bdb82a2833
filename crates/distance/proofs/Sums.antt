-- A number and what a distance adds to it, of 64 bits and wrapping, against a limit that is at most 2^63: k is the number, t the sum.
--     sum_on            a sum that is raised is the sum of the number raised
--     sum_reached       a sum below the limit is the number at the distance
--     sum_past          at any other distance no number below the limit stands
-- Assumes nothing.
use mathlib.Core.Path.{◌≡◌, ap}
use mathlib.Core.Bool.{false, ◌&&◌}
use Prim.Native.Nat.{ℕ, suc, ◌+◌, ◌%◌, ◌≤◌, ◌<◌, ◌^◌}
use native.Mathlib.Decide.{dec_lt}
use native.Mathlib.Omega.{arith}
use lib.IntN.{ℤ, pos, negsuc, ◌+ℤ◌}
use lib.Signed.{lt_z, non_neg}
use borrow.Author.Tests.{lt-ltb, le-ltb}
use mir.Syntax.{w64}
use mir.Val.{SFits, of_z}

pub sum_on : (k z w t : ℕ) → t ≡ (k + z) % 2 ^ 64 → (t + w) % 2 ^ 64 ≡ (k + w + z) % 2 ^ 64
sum_on k z w t e = omega arith

module _ (k limit : ℕ) (small : limit ≤ 9223372036854775808) (low : k < limit) where
  pub sum_reached : (d : ℤ) → SFits w64 d → (t : ℕ) → t ≡ (k + of_z w64 d) % 2 ^ 64 → t < limit → pos t ≡ pos k +ℤ d
  sum_reached (pos n) f t e h = ap pos (omega (arith, f.sfits))
  sum_reached (negsuc n) f t e h =
      elim (dec_lt k (suc n)) [
        | yes l ↦ absurd (omega (arith, f.sfits))
        | no g ↦ rw (le-ltb k (suc n) (omega arith)) (ap pos (omega (arith, f.sfits)))
      ]

  pub sum_past : (d : ℤ) → SFits w64 d → (t : ℕ) → t ≡ (k + of_z w64 d) % 2 ^ 64 → limit ≤ t
      → (non_neg (pos k +ℤ d) && lt_z (pos k +ℤ d) (pos limit)) ≡ false
  sum_past (pos n) f t e h = le-ltb (k + n) limit (omega (arith, f.sfits))
  sum_past (negsuc n) f t e h =
      elim (dec_lt k (suc n)) [
        | yes l ↦ rw (lt-ltb k (suc n) l)
        | no g ↦ absurd (omega (arith, f.sfits))
      ]
