-- Laws of sums and convolutions.
--     sum_last, sum_rises     one more term; more terms, no smaller a sum
--     sum_front       a sum taken from its first term
--     sum_split       the first m terms, and then the n after them
--     sum_plus        the sum of sums
--     sum_cong        equal terms, equal sums
--     conv, conv_sum  the convolution of two sequences, and that it is a sum of products
--     conv_plus, conv_none     of a sum of sequences, and of a sequence of zeros
-- Assumes nothing.
use mathlib.Core.Path.{◌≡◌, refl, sym, ap, ◌∙◌}
use Prim.Native.Nat.{ℕ, zero, suc, ◌+◌, ◌-◌, ◌*◌, ◌≤◌, ◌<◌}
use native.Mathlib.Nat.{add-zero, add-suc, suc-sub-suc, sub-zero}
use native.Mathlib.Omega.{arith}
use Rattle.catalan.specs.Count.{sum}

pub sum_last : (n : ℕ) (f : ℕ → ℕ) → sum (suc n) f ≡ sum n f + f n
unfolding sum
sum_last n f = refl

pub sum_rises : (f : ℕ → ℕ) {m n : ℕ} → m ≤ n → sum m f ≤ sum n f
sum_rises f {m} {n} h = climb (n - m) m (omega arith)
  where
    climb : (d m : ℕ) → m + d ≡ n → sum m f ≤ sum n f
    climb zero m e = let same : m ≡ n = omega arith in rw same (omega arith)
    climb (suc d) m e = omega (arith, sum_last m f, climb d (suc m) (omega arith))

pub sum_front : (n : ℕ) (f : ℕ → ℕ) → sum (suc n) f ≡ f 0 + sum n (λ j. f (suc j))
unfolding sum
sum_front zero f = omega arith
sum_front (suc n) f = omega (arith, sum_front n f)

pub sum_split : (m n : ℕ) (f : ℕ → ℕ) → sum (m + n) f ≡ sum m f + sum n (λ j. f (m + j))
unfolding sum
sum_split m zero f = rw add-zero (omega arith)
sum_split m (suc n) f = rw add-suc (omega (arith, sum_split m n f))

pub sum_plus : (n : ℕ) (f g : ℕ → ℕ) → sum n (λ j. f j + g j) ≡ sum n f + sum n g
unfolding sum
sum_plus zero f g = omega arith
sum_plus (suc n) f g = omega (arith, sum_plus n f g)

pub sum_cong : (n : ℕ) (f g : ℕ → ℕ) → ((j : ℕ) → j < n → f j ≡ g j) → sum n f ≡ sum n g
unfolding sum
sum_cong zero f g h = refl
sum_cong (suc n) f g h = omega (arith, sum_cong n f g (λ j l. h j (omega arith)), h n (omega arith))

-- f 0 * g a + f 1 * g (a - 1) + .. + f a * g 0
unfoldable pub conv : (ℕ → ℕ) → (ℕ → ℕ) → ℕ → ℕ
conv f g zero = f 0 * g 0
conv f g (suc a) = f 0 * g (suc a) + conv (λ j. f (suc j)) g a

pub conv_sum : (f g : ℕ → ℕ) (a : ℕ) → conv f g a ≡ sum (suc a) (λ j. f j * g (a - j))
unfolding conv sum
conv_sum f g zero = omega arith
conv_sum f g (suc a) =
    let first : f 0 * g (suc a - 0) ≡ f 0 * g (suc a) = ap (λ (z : ℕ). f 0 * g z) (sub-zero (suc a)) in
    omega (arith, sum_front (suc a) (λ j. f j * g (suc a - j)), rest, conv_sum (λ j. f (suc j)) g a)
  where
    rest : sum (suc a) (λ j. f (suc j) * g (a - j)) ≡ sum (suc a) (λ j. f (suc j) * g (suc a - suc j))
    rest = sum_cong (suc a) _ _ (λ j l. ap (λ (z : ℕ). f (suc j) * g z) (sym (suc-sub-suc a j)))

pub conv_plus : (f f' g : ℕ → ℕ) (a : ℕ) → conv (λ j. f j + f' j) g a ≡ conv f g a + conv f' g a
unfolding conv
conv_plus f f' g zero = omega arith
conv_plus f f' g (suc a) = omega (arith, conv_plus (λ j. f (suc j)) (λ j. f' (suc j)) g a)

pub conv_none : (f g : ℕ → ℕ) (a : ℕ) → ((j : ℕ) → f j ≡ 0) → conv f g a ≡ 0
unfolding conv
conv_none f g zero h = ap (λ (z : ℕ). z * g 0) (h 0) ∙ omega arith
conv_none f g (suc a) h =
    let none : f 0 * g (suc a) ≡ 0 = ap (λ (z : ℕ). z * g (suc a)) (h 0) ∙ omega arith in
    omega (arith, conv_none (λ j. f (suc j)) g a (λ j. h (suc j)))
