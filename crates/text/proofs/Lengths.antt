-- How long the lines of a sheet are.
--     length_bits            a digit for each place
--     commas_some            a digit at least where there is a number
--     commas_most            three bytes at most for each number below 100 and the byte behind it
--     number_most            twenty digits at most for a number of 64 bits
--     shape_text_length, run_length, end_length, no_length      a buffer of so many bytes has room for each line
-- Assumes nothing.
use mathlib.Core.Path.{◌≡◌}
use mathlib.Core.List.{List, [], ◌∷◌}
use Prim.Native.Nat.{ℕ, suc, ◌+◌, ◌*◌, ◌^◌, ◌≤◌, ◌<◌}
use native.Mathlib.Omega.{arith}
use lib.ListN.{length, get_or, length-append, length-map}
use Rattle.text.specs.Text.{decimal, bits, commas, line, run_word, end_word, no_word, run_line, shape_text, end_line, no_line, line_room}
use Rattle.text.proofs.Digits.{decimal_some, decimal_fits}

pub length_bits : (p : List ℕ) → length (bits p) ≡ length p
unfolding bits
length_bits p = length-map p (λ x. 48 + x)

pub commas_some : (q : List ℕ) → 1 ≤ length q → 1 ≤ length (commas q)
unfolding commas
commas_some [] some = absurd (omega arith)
commas_some (x ∷ []) some = decimal_some x
commas_some (x ∷ y ∷ q) some = rw length-append (omega (arith, decimal_some x))

pub commas_most : (q : List ℕ) → 1 ≤ length q → ((i : ℕ) → get_or q i 0 < 100) → length (commas q) + 1 ≤ 3 * length q
unfolding commas
commas_most [] some small = absurd (omega arith)
commas_most (x ∷ []) some small = omega (arith, decimal_fits 1 x (small 0))
commas_most (x ∷ y ∷ q) some small =
    let after = commas_most (y ∷ q) (omega arith) (λ i. small (suc i)) in
    rw length-append (omega (arith, decimal_fits 1 x (small 0)))

line_more : (f g : List ℕ) (fields : List (List ℕ)) → length (line (f ∷ g ∷ fields)) ≡ length f + 1 + length (line (g ∷ fields))
unfolding line
line_more f g fields = omega (arith, length-append f (32 ∷ line (g ∷ fields)))

line_last : (f : List ℕ) → length (line (f ∷ [])) ≡ length f + 1
unfolding line
line_last f = length-append f (10 ∷ [])

pub shape_text_length : (s p q : List ℕ) (a b : ℕ) → length s ≤ 20 → length p ≤ 70 → 1 ≤ length q → length q ≤ 35 → ((i : ℕ) → get_or q i 0 < 100)
    → a < 100 → b < 100 → length (shape_text s p q a b) ≤ line_room
unfolding shape_text
shape_text_length s p q a b hs hp some hq small ha hb =
    omega (
      arith,
      line_more s (bits p) (commas q ∷ decimal a ∷ decimal b ∷ []),
      line_more (bits p) (commas q) (decimal a ∷ decimal b ∷ []),
      line_more (commas q) (decimal a) (decimal b ∷ []),
      line_more (decimal a) (decimal b) [],
      line_last (decimal b),
      length_bits p,
      commas_most q some small,
      decimal_fits 1 a ha,
      decimal_fits 1 b hb,
    )

pub number_most : (n : ℕ) → n < 2 ^ 64 → length (decimal n) ≤ 20
number_most n h = decimal_fits 19 n (omega arith)

module _ (a : ℕ) (ha : a < 2 ^ 64) where
  pub no_length : length (no_line a) ≤ line_room
  unfolding no_line
  no_length = omega (arith, line_more no_word (decimal a) [], line_last (decimal a), number_most a ha)

  module _ (b : ℕ) (hb : b < 2 ^ 64) where
    pub end_length : length (end_line a b) ≤ line_room
    unfolding end_line
    end_length =
        omega (
          arith,
          line_more end_word (decimal a) (decimal b ∷ []),
          line_more (decimal a) (decimal b) [],
          line_last (decimal b),
          number_most a ha,
          number_most b hb,
        )

    pub run_length : (c : ℕ) → c < 2 ^ 64 → length (run_line a b c) ≤ line_room
    unfolding run_line
    run_length c hc =
        omega (
          arith,
          line_more run_word (decimal a) (decimal b ∷ decimal c ∷ []),
          line_more (decimal a) (decimal b) (decimal c ∷ []),
          line_more (decimal b) (decimal c) [],
          line_last (decimal c),
          number_most a ha,
          number_most b hb,
          number_most c hc,
        )
