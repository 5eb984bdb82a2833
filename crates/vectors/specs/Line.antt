-- What the letters of a line stand for.
--     field line         the first field: the letters before the first space, or all
--     behind line        what stands behind that space
--     place_of letter    a digit's value, and 255 for any other letter
--     decimal_of text    the number whose digits the letters are, any other letter counting as 255
--     number_of line     the first field's number, the largest there is where it is larger than that
--     distance_of text   the number with its sign: behind a minus, the opposite of those digits' number
--     expected_of number what a call is expected to answer where that number stands for a refusal: 0 is none
-- Assumes nothing.
use Rattle.std.specs.Prelude.{ℕ, ◌+◌, ◌-◌, ◌*◌, ◌^◌, ◌==◌, min, nat_lt, List, fold, if◌then◌else◌, [], ◌∷◌, Result, Ok, Err, ℤ, pos, neg_ℤ}
use Rattle.std.specs.List.{before_first, after_first}

abbrev pub field : List ℕ → List ℕ
field line = before_first (λ letter. letter == 32) line

abbrev pub behind : List ℕ → List ℕ
behind line = after_first (λ letter. letter == 32) line

abbrev pub place_of : ℕ → ℕ
place_of letter = if nat_lt letter 48 then 255 else (if nat_lt 57 letter then 255 else (letter - 48))

abbrev pub decimal_of : List ℕ → ℕ
decimal_of text = fold (λ value letter. value * 10 + place_of letter) 0 text

abbrev pub number_of : List ℕ → ℕ
number_of line = min (decimal_of (field line)) (2 ^ 64 - 1)

abbrev pub distance_of : List ℕ → ℤ
distance_of [] = pos 0
distance_of (letter ∷ text) = if letter == 45 then neg_ℤ (pos (decimal_of text)) else pos (decimal_of (letter ∷ text))

abbrev pub expected_of : ℕ → Result (Unit {0}) ℕ
expected_of number = if number == 0 then Ok tt else Err number
