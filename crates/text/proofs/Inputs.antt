-- An input reads as a line that asks for a sheet exactly where it is one: 01, Sheet program.
--     decimal_digits           a decimal has digits only
--     decimal_form             no 0 stands before others in it
--     value_decimal            it writes its number
--     decimal_value            digits in form are the decimal of what they write
--     field_exactly            a field reads exactly where it is a decimal of 64 bits with the byte asked for behind it
--     asks_exactly             an input reads as size, first and end exactly where it is their line
-- Assumes nothing.
use mathlib.Core.Path.{◌≡◌, refl, sym, ap, ap₂, ◌∙◌}
use mathlib.Core.Logic.{◌↔◌}
use mathlib.Core.Bool.{true, false, and-eq-true_iff, false≢true}
use mathlib.Core.List.{List, [], ◌∷◌, ◌++◌, append_assoc, append-nil}
use Prim.Native.Nat.{ℕ, ◌+◌, ◌-◌, ◌*◌, ◌^◌, ◌≤◌, ◌<◌}
use native.Mathlib.Omega.{arith}
use lib.ListN.{get_or, drop}
use borrow.Author.Tests.{lt-ltb, ltb-true, eqb-true, eq-eqb}
use Rattle.shape.specs.Every.{All}
use Rattle.shape.proofs.Lists.{all_append}
use Rattle.text.specs.Text.{decimal, line}
use Rattle.text.specs.Input.{ask_line, Asks, Digit, digit, front, behind, value, value_from, in_form, fits, ends_in, field, next, nothing}
use Rattle.text.specs.Input.{reads, asked_size, asked_first, asked_end}
use Rattle.text.proofs.Decimals.{decimal_digit, decimal_next, by_digits}
use Rattle.text.proofs.Reading.{digit_means, front_yes, front_no, behind_yes, behind_no, front_all, parts}

-- ---- decimals as digits

value_last : (v : ℕ) (s : List ℕ) (b : ℕ) → value_from v (s ++ (b ∷ [])) ≡ 10 * value_from v s + (b - 48)
unfolding value_from
value_last v [] b = refl
value_last v (a ∷ s) b = value_last (10 * v + (a - 48)) s b

pub decimal_digits : (n : ℕ) → All Digit (decimal n)
decimal_digits =
    by_digits (λ n s. All Digit s) (λ d h. ((omega arith, omega arith), tt))
    (λ m d some h all. all_append Digit (decimal m) ((48 + d) ∷ []) all ((omega arith, omega arith), tt))

pub value_decimal : (n : ℕ) → value (decimal n) ≡ n
unfolding value value_from
value_decimal =
    by_digits (λ n s. value s ≡ n) (λ d h. omega arith) (λ m d some h is. omega (arith, value_last 0 (decimal m) (48 + d), is))

-- a decimal in form, which begins with no 0 but in 0 itself
abbrev Formed : ℕ → List ℕ → Type 0
Formed n s = (in_form s ≡ true) × (1 ≤ n → 48 < get_or s 0 0)

formed_more : (m n : ℕ) (s : List ℕ) (b : ℕ) → 1 ≤ m → Formed m s → Formed n (s ++ (b ∷ []))
unfolding in_form
formed_more m n [] b some h = absurd (omega (arith, h.1 some))
formed_more m n (a ∷ []) b some h = (lt-ltb 48 a (h.1 some), λ _. h.1 some)
formed_more m n (a ∷ c ∷ s) b some h = (lt-ltb 48 a (h.1 some), λ _. h.1 some)

pub decimal_form : (n : ℕ) → in_form (decimal n) ≡ true
unfolding in_form
decimal_form n =
    (by_digits Formed (λ d h. (refl, λ some. omega arith)) (λ m d some h. formed_more m (10 * m + d) (decimal m) (48 + d) some) n).0

decimal_after : (v : ℕ) (s : List ℕ) → 1 ≤ v → All Digit s → decimal (value_from v s) ≡ decimal v ++ s
unfolding value_from
decimal_after v [] some h = sym (append-nil (decimal v))
decimal_after v (b ∷ s) some h =
    let digit : 48 + (b - 48) ≡ b = omega (arith, h.0.0) in
    decimal_after (10 * v + (b - 48)) s (omega arith) h.1
    ∙ ap (λ (l : List ℕ). l ++ s) (decimal_next v (b - 48) some (omega (arith, h.0.0, h.0.1)))
    ∙ append_assoc (decimal v) ((48 + (b - 48)) ∷ []) s ∙ ap (λ (a : ℕ). decimal v ++ (a ∷ s)) digit

decimal_first : (b : ℕ) → Digit b → decimal (10 * 0 + (b - 48)) ≡ b ∷ []
decimal_first b h =
    let digit : 48 + (10 * 0 + (b - 48)) ≡ b = omega (arith, h.0) in
    decimal_digit (10 * 0 + (b - 48)) (omega (arith, h.0, h.1)) ∙ ap (λ (a : ℕ). a ∷ []) digit

pub decimal_value : (s : List ℕ) → in_form s ≡ true → All Digit s → decimal (value s) ≡ s
unfolding in_form value value_from
decimal_value [] form h = absurd (false≢true form)
decimal_value (b ∷ []) form h = decimal_first b h.0
decimal_value (b ∷ c ∷ s) form h =
    decimal_after (10 * 0 + (b - 48)) (c ∷ s) (omega (arith, ltb-true 48 b form)) h.1 ∙ ap (λ (l : List ℕ). l ++ (c ∷ s)) (decimal_first b h.0)

-- ---- a field

module _ (end : ℕ) (other : digit end ≡ false) where
  front_ends : (d s : List ℕ) → All Digit d → front (d ++ (end ∷ s)) ≡ d
  front_ends [] s h = front_no end s other
  front_ends (b ∷ d) s h = front_yes b (d ++ (end ∷ s)) ((digit_means b).1 h.0) ∙ ap (λ (l : List ℕ). b ∷ l) (front_ends d s h.1)

  behind_ends : (d s : List ℕ) → All Digit d → behind (d ++ (end ∷ s)) ≡ end ∷ s
  behind_ends [] s h = behind_no end s other
  behind_ends (b ∷ d) s h = behind_yes b (d ++ (end ∷ s)) ((digit_means b).1 h.0) ∙ behind_ends d s h.1

  -- t is the text, and s what stands behind the field
  field_found : (t : List ℕ) (n : ℕ) (s : List ℕ) → t ≡ decimal n ++ (end ∷ s) → n < 2 ^ 64
      → (field end t ≡ true) × ((value (front t) ≡ n) × (next t ≡ s))
  unfolding field ends_in fits
  field_found t n s is small =
      let digits : front t ≡ decimal n = ap front is ∙ front_ends (decimal n) s (decimal_digits n) in
      let rest : behind t ≡ end ∷ s = ap behind is ∙ behind_ends (decimal n) s (decimal_digits n) in
      let number : value (front t) ≡ n = ap value digits ∙ value_decimal n in
      let form : in_form (front t) ≡ true = ap in_form digits ∙ decimal_form n in
      let ends : ends_in end (behind t) ≡ true = ap (ends_in end) rest ∙ eq-eqb end end refl in
      let fit : fits (front t) ≡ true = lt-ltb (value (front t)) (2 ^ 64) (omega (arith, number)) in
      (rw (form, ends) fit, (number, ap (drop 1) rest))

  ends_cons : (t : List ℕ) → ends_in end t ≡ true → t ≡ end ∷ drop 1 t
  unfolding ends_in
  ends_cons [] h = absurd (false≢true h)
  ends_cons (b ∷ t) h = ap (λ (a : ℕ). a ∷ t) (eqb-true b end h)

  field_written : (t : List ℕ) (n : ℕ) (s : List ℕ) → field end t ≡ true → value (front t) ≡ n → next t ≡ s
      → (t ≡ decimal n ++ (end ∷ s)) × (n < 2 ^ 64)
  unfolding field fits
  field_written t n s reads number rest =
      let form = (and-eq-true_iff _ _).0 reads in
      let ends = (and-eq-true_iff _ _).0 form.1 in
      let digits : front t ≡ decimal n = sym (decimal_value (front t) form.0 (front_all t)) ∙ ap decimal number in
      let after : behind t ≡ end ∷ s = ends_cons (behind t) ends.0 ∙ ap (λ (l : List ℕ). end ∷ l) rest in
      (sym (parts t) ∙ ap₂ {C = List ℕ} (λ u v. u ++ v) digits after, omega (arith, number, ltb-true (value (front t)) (2 ^ 64) ends.1))

  pub field_exactly : (t : List ℕ) (n : ℕ) (s : List ℕ)
      → ((t ≡ decimal n ++ (end ∷ s)) × (n < 2 ^ 64)) ↔ ((field end t ≡ true) × ((value (front t) ≡ n) × (next t ≡ s)))
  field_exactly t n s = (λ (is, small). field_found t n s is small, λ (reads, (number, rest)). field_written t n s reads number rest)

-- ---- the line

nothing_means : (s : List ℕ) → nothing s ≡ true → s ≡ []
unfolding nothing
nothing_means [] h = refl
nothing_means (b ∷ s) h = absurd (false≢true h)

abbrev Read : List ℕ → ℕ → ℕ → ℕ → Type 0
Read s n first end = (reads s ≡ true) × ((asked_size s ≡ n) × ((asked_first s ≡ first) × (asked_end s ≡ end)))

asked_read : (s : List ℕ) (n first end : ℕ) → Asks s n first end → Read s n first end
unfolding ask_line line reads nothing asked_size asked_first asked_end
asked_read s n first end asks =
    let one = (field_exactly 32 refl s n (decimal first ++ (32 ∷ (decimal end ++ (10 ∷ []))))).0 (asks.text, asks.size_fits) in
    let two = (field_exactly 32 refl (next s) first (decimal end ++ (10 ∷ []))).0 (one.1.1, asks.first_fits) in
    let three = (field_exactly 10 refl (next (next s)) end []).0 (two.1.1, asks.end_fits) in
    (rw (one.0, two.0, three.0) (ap nothing three.1.1), (one.1.0, (two.1.0, three.1.0)))

read_asked : (s : List ℕ) (n first end : ℕ) → Read s n first end → Asks s n first end
unfolding ask_line line reads asked_size asked_first asked_end
read_asked s n first end (h, (size, (from, to))) =
    let tests = (and-eq-true_iff _ _).0 h in
    let others = (and-eq-true_iff _ _).0 tests.1 in
    let last = (and-eq-true_iff _ _).0 others.1 in
    let three = (field_exactly 10 refl (next (next s)) end []).1 (last.0, (to, nothing_means _ last.1)) in
    let two = (field_exactly 32 refl (next s) first (decimal end ++ (10 ∷ []))).1 (others.0, (from, three.0)) in
    let one = (field_exactly 32 refl s n (decimal first ++ (32 ∷ (decimal end ++ (10 ∷ []))))).1 (tests.0, (size, two.0)) in
    record { text = one.0; size_fits = one.1; first_fits = two.1; end_fits = three.1 }

pub asks_exactly : (s : List ℕ) (n first end : ℕ)
    → Asks s n first end ↔ ((reads s ≡ true) × ((asked_size s ≡ n) × ((asked_first s ≡ first) × (asked_end s ≡ end))))
asks_exactly s n first end = (asked_read s n first end, read_asked s n first end)
