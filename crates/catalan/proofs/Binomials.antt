-- Laws of the binomial coefficient.
--     binom_absorb    (k+1) · binom(n+1, k+1) = (n+1) · binom(n, k)
--     binom_next      (k+1) · binom(n, k+1) + k · binom(n, k) = n · binom(n, k)
--     binom_pascal    binom(n+1, k) = binom(n, k-1) + binom(n, k), for k = 0 too
--     binom_mirror    binom(a+b, a) = binom(a+b, b)
--     binom_passes_width     binom(70, 35) passes 64 bits
-- Assumes nothing.
use mathlib.Core.Path.{◌≡◌, refl}
use Prim.Native.Nat.{ℕ, zero, suc, ◌+◌, ◌*◌, ◌≤◌, ◌^◌}
use native.Mathlib.Nat.{suc-add, add-suc, add-zero, zero-add}
use native.Mathlib.Omega.{arith}
use lib.Dec.{lit≤}
use Rattle.catalan.specs.Count.{binom, binom_before}

pub binom_absorb : (n k : ℕ) → (k + 1) * binom (suc n) (suc k) ≡ (n + 1) * binom n k
unfolding binom
binom_absorb zero zero = refl
binom_absorb (suc n) zero = omega (arith, binom_absorb n zero)
binom_absorb zero (suc k) = omega arith
binom_absorb (suc n) (suc k) = omega (arith, binom_absorb n k, binom_absorb n (suc k))

pub binom_next : (n k : ℕ) → (k + 1) * binom n (suc k) + k * binom n k ≡ n * binom n k
unfolding binom
binom_next n k = omega (arith, binom_absorb n k)

pascal : (n k : ℕ) → binom (suc n) (suc k) ≡ binom n k + binom n (suc k)
unfolding binom
pascal n k = refl

pub binom_pascal : (n k : ℕ) → binom (suc n) k ≡ binom_before n k + binom n k
unfolding binom_before
binom_pascal n zero = unfold binom in omega arith
binom_pascal n (suc k) = pascal n k

binom_first : (n : ℕ) → binom n 0 ≡ 1
unfolding binom
binom_first n = refl

-- nothing above the row's end
binom_over : (n k : ℕ) → binom n (suc (n + k)) ≡ 0
binom_over zero k = unfold binom in refl
binom_over (suc n) k = rw (suc-add, pascal) (omega (arith, binom_over n k, rw add-suc at (binom_over n (suc k))))

binom_whole : (n : ℕ) → binom n n ≡ 1
binom_whole zero = unfold binom in refl
binom_whole (suc n) = rw pascal (omega (arith, binom_whole n, rw add-zero at (binom_over n 0)))

pub binom_mirror : (a b : ℕ) → binom (a + b) a ≡ binom (a + b) b
binom_mirror zero b = rw (zero-add, binom_first, binom_whole)
binom_mirror (suc a) zero = rw (add-zero, binom_first, binom_whole)
binom_mirror (suc a) (suc b) =
    rw (suc-add, add-suc, pascal (suc (a + b)) a, pascal (suc (a + b)) b)
    (omega (arith, rw add-suc at (binom_mirror a (suc b)), rw suc-add at (binom_mirror (suc a) b)))

-- 01, Errors that look right: the counts of size 35 fit 64 bits, and the binomials whose differences they are do not.
pub binom_passes_width : 2 ^ 64 ≤ binom 70 35
unfolding binom
binom_passes_width = lit≤ tt
