-- Laws of decimals.
--     spelled_same         digits enough for a number spell it, and with more it is spelled the same
--     decimal_spelled      so they spell its decimal
--     decimal_digit        a number below 10 is one digit
--     decimal_next         a digit more at the end of a decimal is that of ten times the number and the digit
--     by_digits            what holds of one digit, and stays so with one more at the end, holds of every decimal
-- Assumes nothing.
use mathlib.Core.Path.{◌≡◌, refl, sym, ap, ap₂, ◌∙◌, subst, subst⁻¹}
use mathlib.Core.List.{List, [], ◌∷◌, ◌++◌}
use Prim.Native.Nat.{ℕ, zero, suc, ◌+◌, ◌*◌, ◌/◌, ◌%◌, ◌^◌, ◌≤◌, ◌<◌}
use native.Mathlib.Nat.{pow-suc}
use native.Mathlib.Omega.{arith}
use native.Mathlib.Decide.{dec_lt}
use borrow.Author.Tests.{lt-ltb, le-ltb}
use Rattle.text.specs.Text.{spelled, decimal}

spelled_one : (d n : ℕ) → n < 10 → spelled (suc d) n ≡ (48 + n) ∷ []
unfolding spelled
spelled_one d n h = rw (lt-ltb n 10 h) refl

spelled_more : (d n : ℕ) → 10 ≤ n → spelled (suc d) n ≡ spelled d (n / 10) ++ ((48 + n % 10) ∷ [])
unfolding spelled
spelled_more d n h = rw (le-ltb n 10 h) refl

pub spelled_same : (d e n : ℕ) → n < 10 ^ suc d → n < 10 ^ suc e → spelled (suc d) n ≡ spelled (suc e) n
spelled_same zero e n g h = spelled_one zero n (omega arith) ∙ sym (spelled_one e n (omega arith))
spelled_same (suc d) zero n g h = spelled_one (suc d) n (omega arith) ∙ sym (spelled_one zero n (omega arith))
spelled_same (suc d) (suc e) n g h =
    elim (dec_lt n 10) [
      | yes l ↦ spelled_one (suc d) n l ∙ sym (spelled_one (suc e) n l)
      | no l ↦
          let front = spelled_same d e (n / 10) (omega (arith, pow-suc 10 (suc d))) (omega (arith, pow-suc 10 (suc e))) in
          spelled_more (suc d) n (omega arith) ∙ ap (λ (s : List ℕ). s ++ ((48 + n % 10) ∷ [])) front ∙ sym (spelled_more (suc e) n (omega arith))
    ]

below_power : (n : ℕ) → n < 10 ^ n
below_power zero = omega arith
below_power (suc n) = omega (arith, pow-suc 10 n, below_power n)

pub decimal_spelled : (d n : ℕ) → 0 < d → n < 10 ^ d → spelled d n ≡ decimal n
unfolding decimal
decimal_spelled zero n some h = absurd (omega arith)
decimal_spelled (suc d) n some h = spelled_same d n n h (omega (arith, pow-suc 10 n, below_power n))

pub decimal_digit : (n : ℕ) → n < 10 → decimal n ≡ (48 + n) ∷ []
unfolding decimal
decimal_digit n h = spelled_one n n h

pub decimal_next : (m d : ℕ) → 1 ≤ m → d < 10 → decimal (10 * m + d) ≡ decimal m ++ ((48 + d) ∷ [])
decimal_next m d some h =
    let n = 10 * m + d in
    let tens : n / 10 ≡ m = omega arith in
    let digit : n % 10 ≡ d = omega arith in
    let front : spelled n (n / 10) ≡ decimal m =
    ap (spelled n) tens ∙ decimal_spelled n m (omega arith) (omega (arith, below_power n)) in
    sym (decimal_spelled (suc n) n (omega arith) (omega (arith, pow-suc 10 n, below_power n)))
    ∙ spelled_more n n (omega arith) ∙ ap₂ {C = List ℕ} (λ s b. s ++ ((48 + b) ∷ [])) front digit

module _ (P : ℕ → List ℕ → Type 0) (one : (d : ℕ) → d < 10 → P d ((48 + d) ∷ []))
    (more : (m d : ℕ) → 1 ≤ m → d < 10 → P m (decimal m) → P (10 * m + d) (decimal m ++ ((48 + d) ∷ [])))
  where
    below : (k n : ℕ) → n < k → P n (decimal n)
    below zero n h = absurd (omega arith)
    below (suc k) n h =
        elim (dec_lt n 10) [
          | yes l ↦ subst⁻¹ (P n) (decimal_digit n l) (one n l)
          | no l ↦
              let m = n / 10 in
              let d = n % 10 in
              let parts : 10 * m + d ≡ n = omega arith in
              let whole = more m d (omega arith) (omega arith) (below k m (omega arith)) in
              subst (λ (k : ℕ). P k (decimal k)) parts (subst⁻¹ (P (10 * m + d)) (decimal_next m d (omega arith) (omega arith)) whole)
        ]

    pub by_digits : (n : ℕ) → P n (decimal n)
    by_digits n = below (suc n) n (omega arith)
