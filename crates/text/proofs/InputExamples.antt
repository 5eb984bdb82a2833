-- Worked examples of inputs, computed from the definitions: 01, Sheet program.
--     line_3_1_4           the line of 3, 1 and 4, byte by byte
--     reads_.., asked_..   it reads, as these numbers; so does the largest number of 64 bits
--     not_..               a leading zero, a doubled space, no newline, a carriage return, a second newline, a number past 64 bits,
--                          a number missing, a sign
-- Assumes nothing.
use mathlib.Core.Path.{◌≡◌, refl}
use mathlib.Core.Bool.{true, false}
use mathlib.Core.List.{List, [], ◌∷◌, ◌++◌}
use Prim.Native.Nat.{ℕ}
use Rattle.text.specs.Text.{spelled, decimal, line}
use Rattle.text.specs.Input.{ask_line, front, behind, value, value_from, in_form, fits, ends_in, field, nothing, reads}
use Rattle.text.specs.Input.{asked_size, asked_first, asked_end}

-- "3 1 4\n"
abbrev three : List ℕ
three = 51 ∷ 32 ∷ 49 ∷ 32 ∷ 52 ∷ 10 ∷ []

line_3_1_4 : ask_line 3 1 4 ≡ three
unfolding ask_line line decimal spelled
line_3_1_4 = refl

reads_3_1_4 : reads three ≡ true
unfolding reads field in_form ends_in fits value value_from nothing front behind
reads_3_1_4 = refl

asked_size_lem : asked_size three ≡ 3
unfolding asked_size value value_from front
asked_size_lem = refl

asked_first_lem : asked_first three ≡ 1
unfolding asked_first value value_from front behind
asked_first_lem = refl

asked_end_lem : asked_end three ≡ 4
unfolding asked_end value value_from front behind
asked_end_lem = refl

-- "03 1 4\n"
not_leading_zero : reads (48 ∷ three) ≡ false
unfolding reads field in_form front
not_leading_zero = refl

-- "3  1 4\n"
not_two_spaces : reads (51 ∷ 32 ∷ 32 ∷ 49 ∷ 32 ∷ 52 ∷ 10 ∷ []) ≡ false
unfolding reads field in_form ends_in fits value value_from nothing front behind
not_two_spaces = refl

-- "3 1 4"
not_unended : reads (51 ∷ 32 ∷ 49 ∷ 32 ∷ 52 ∷ []) ≡ false
unfolding reads field in_form ends_in fits value value_from nothing front behind
not_unended = refl

-- "3 1 4\r\n"
not_return : reads (51 ∷ 32 ∷ 49 ∷ 32 ∷ 52 ∷ 13 ∷ 10 ∷ []) ≡ false
unfolding reads field in_form ends_in fits value value_from nothing front behind
not_return = refl

-- "3 1 4\n\n"
not_two_newlines : reads (three ++ (10 ∷ [])) ≡ false
unfolding reads field in_form ends_in fits value value_from nothing front behind
not_two_newlines = refl

-- "3 1\n"
not_two_numbers : reads (51 ∷ 32 ∷ 49 ∷ 10 ∷ []) ≡ false
unfolding reads field in_form ends_in fits value value_from nothing front behind
not_two_numbers = refl

-- "+3 1 4\n"
not_signed : reads (43 ∷ three) ≡ false
unfolding reads field in_form front
not_signed = refl

-- "1844674407370955161" and a last digit, and " 0 0\n"
abbrev large : ℕ → List ℕ
large d =
    49 ∷ 56 ∷ 52 ∷ 52 ∷ 54 ∷ 55 ∷ 52 ∷ 52 ∷ 48 ∷ 55 ∷ 51 ∷ 55 ∷ 48 ∷ 57 ∷ 53 ∷ 53 ∷ 49 ∷ 54 ∷ 49 ∷ d ∷ 32 ∷ 48 ∷ 32 ∷ 48 ∷ 10 ∷ []

reads_largest : reads (large 53) ≡ true
unfolding reads field in_form ends_in fits value value_from nothing front behind
reads_largest = refl

asked_largest : asked_size (large 53) ≡ 18446744073709551615
unfolding asked_size value value_from front
asked_largest = refl

not_past_64_bits : reads (large 54) ≡ false
unfolding reads field in_form ends_in fits value value_from front behind
not_past_64_bits = refl
