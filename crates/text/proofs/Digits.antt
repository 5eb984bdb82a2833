-- How many digits decimals have, and how they are put one by one.
--     decimal_more                     from 10 on a number has the decimals of its tenth, and a digit behind them
--     decimal_some, decimal_fits       one digit at least, and no more than hold the number
--     decimal_width                    so 19 for any shape's number
--     digits_decimal                   the fewest digits that hold a number, as `io::decimal` puts them
-- Assumes nothing.
use mathlib.Core.Path.{◌≡◌, sym, ap, ap₂, ◌∙◌}
use mathlib.Core.List.{List, [], ◌∷◌, ◌++◌}
use Prim.Native.Nat.{ℕ, zero, suc, ◌+◌, ◌-◌, ◌*◌, ◌/◌, ◌%◌, ◌^◌, ◌≤◌, ◌<◌}
use native.Mathlib.Nat.{pow-suc, one-le-pow, mod-eq_of_lt}
use native.Mathlib.Omega.{arith}
use native.Mathlib.Decide.{dec_lt}
use lib.ListN.{length, length-append}
use borrow.Author.Tests.{lt-ltb}
use Rattle.io.specs.Digits.{last_digits, hex_digit_ascii, IsDigitCount}
use Rattle.text.specs.Text.{decimal}
use Rattle.text.proofs.Decimals.{decimal_digit, decimal_next}

pub decimal_more : (n : ℕ) → 10 ≤ n → decimal n ≡ decimal (n / 10) ++ ((48 + n % 10) ∷ [])
decimal_more n large =
    let parts : n ≡ 10 * (n / 10) + n % 10 = omega arith in
    ap decimal parts ∙ decimal_next (n / 10) (n % 10) (omega arith) (omega arith)

-- ---- how many digits

pub decimal_some : (n : ℕ) → 1 ≤ length (decimal n)
decimal_some n =
    elim (dec_lt n 10) [
      | yes small ↦ rw (decimal_digit n small) (omega arith)
      | no large ↦ rw (decimal_more n (omega arith)) (omega (arith, length-append (decimal (n / 10)) ((48 + n % 10) ∷ [])))
    ]

one_digit : (d n : ℕ) → n < 10 → length (decimal n) ≤ suc d
one_digit d n small = rw (decimal_digit n small) (omega arith)

pub decimal_fits : (d n : ℕ) → n < 10 ^ suc d → length (decimal n) ≤ suc d
decimal_fits zero n h = one_digit 0 n h
decimal_fits (suc d) n h =
    let tenth = decimal_fits d (n / 10) (omega (arith, pow-suc 10 (suc d))) in
    elim (dec_lt n 10) [
      | yes small ↦ one_digit (suc d) n small
      | no large ↦ rw (decimal_more n (omega arith)) (omega (arith, length-append (decimal (n / 10)) ((48 + n % 10) ∷ [])))
    ]

pub decimal_width : (n : ℕ) → n < 10 ^ 19 → length (decimal n) ≤ 19
decimal_width n h = decimal_fits 18 n h

-- ---- the digits that `io::decimal` puts

glyph_digit : (n : ℕ) → hex_digit_ascii (n % 10) ≡ 48 + n % 10
glyph_digit n = rw (lt-ltb (n % 10) 10 (omega arith))

pub digits_decimal : (k n : ℕ) → IsDigitCount 10 1 n k → last_digits 10 k n ≡ decimal n
digits_decimal zero n (some, _, _) = absurd (omega arith)
digits_decimal (suc zero) n (_, small, _) =
    let same : n % 10 ≡ n = mod-eq_of_lt small in
    ap (λ (x : ℕ). x ∷ []) (glyph_digit n ∙ rw same) ∙ sym (decimal_digit n small)
digits_decimal (suc (suc k)) n (_, holds, fewest) =
    let lower : (j : ℕ) → suc j - 1 ≡ j = λ j. omega arith in
    let least : 10 ^ suc k ≤ n = rw (lower (suc k)) at (fewest (omega arith)) in
    let tenth : IsDigitCount 10 1 (n / 10) (suc k) =
    (omega arith, omega (arith, pow-suc 10 (suc k)), λ more. rw (lower k) (omega (arith, pow-suc 10 k))) in
    ap₂ {C = List ℕ} (λ l x. l ++ (x ∷ [])) (digits_decimal (suc k) (n / 10) tenth) (glyph_digit n)
    ∙ sym (decimal_more n (omega (arith, pow-suc 10 k, one-le-pow k 10 (omega arith))))
