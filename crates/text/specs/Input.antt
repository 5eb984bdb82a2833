-- What a sheet's input asks for: 01, Sheet program.
--     ask_line             the line that asks for a sheet
--     Asks                 an input is that line, and its numbers fit 64 bits
-- Whether an input is such a line, and of what numbers, as it is read; `asks_exactly` says that the two are the same:
--     Digit, digit         a byte is a digit; the test of it
--     front, behind        the digits that a text begins with, and what stands behind them
--     value_from, value    the number that digits write, after those of v and alone
--     in_form              whether digits are some, with no 0 before others
--     fits                 whether 64 bits hold the number that they write
--     number_of            that number, none where they do not
--     ends_in, field       whether a text begins with a byte; with a number and that byte
--     next                 the text behind both
--     nothing              whether there is no text
--     reads                whether an input reads as three numbers with nothing after them
--     asked_size, asked_first, asked_end   the numbers that it asks for
--     asked                what reading answers: these numbers, none where an input does not read
-- Assumes nothing.
use Rattle.std.specs.Prelude.{◌≡◌, Bool, true, false, cond, ◌&&◌, Option, Some, None, List, [], ◌∷◌, ℕ, ◌+◌, ◌-◌, ◌*◌, ◌^◌, ◌≤◌, ◌<◌, leb, ltb, eqb, drop}
use Rattle.text.specs.Text.{decimal, line}
use Rattle.text.specs.declared.input.Asked.{Asked}

unfoldable pub ask_line : ℕ → ℕ → ℕ → List ℕ
ask_line n first end = line (decimal n ∷ decimal first ∷ decimal end ∷ [])

pub record Asks (input : List ℕ) (n first end : ℕ) : Type 0 where
  pub text : input ≡ ask_line n first end
  pub size_fits : n < 2 ^ 64
  pub first_fits : first < 2 ^ 64
  pub end_fits : end < 2 ^ 64

abbrev pub Digit : ℕ → Type 0
Digit b = (48 ≤ b) × (b ≤ 57)

abbrev pub digit : ℕ → Bool
digit b = leb 48 b && leb b 57

unfoldable pub front : List ℕ → List ℕ
front [] = []
front (b ∷ s) = cond (digit b) (b ∷ front s) []

unfoldable pub behind : List ℕ → List ℕ
behind [] = []
behind (b ∷ s) = cond (digit b) (behind s) (b ∷ s)

unfoldable pub value_from : ℕ → List ℕ → ℕ
value_from v [] = v
value_from v (b ∷ s) = value_from (10 * v + (b - 48)) s

unfoldable pub value : List ℕ → ℕ
value s = value_from 0 s

-- No leading zero but in 0 itself.
unfoldable pub in_form : List ℕ → Bool
in_form [] = false
in_form (b ∷ []) = true
in_form (b ∷ c ∷ s) = ltb 48 b

unfoldable pub fits : List ℕ → Bool
fits s = ltb (value s) (2 ^ 64)

unfoldable pub number_of : List ℕ → Option ℕ
number_of s = cond (fits s) (Some (value s)) None

unfoldable pub ends_in : ℕ → List ℕ → Bool
ends_in end [] = false
ends_in end (b ∷ s) = eqb b end

unfoldable pub field : ℕ → List ℕ → Bool
field end s = in_form (front s) && (ends_in end (behind s) && fits (front s))

abbrev pub next : List ℕ → List ℕ
next s = drop 1 (behind s)

unfoldable pub nothing : List ℕ → Bool
nothing [] = true
nothing (b ∷ s) = false

-- Single spaces, one newline, nothing after.
unfoldable pub reads : List ℕ → Bool
reads s = field 32 s && (field 32 (next s) && (field 10 (next (next s)) && nothing (next (next (next s)))))

unfoldable pub asked_size : List ℕ → ℕ
asked_size s = value (front s)

unfoldable pub asked_first : List ℕ → ℕ
asked_first s = value (front (next s))

unfoldable pub asked_end : List ℕ → ℕ
asked_end s = value (front (next (next s)))

unfoldable pub asked : List ℕ → Option Asked
asked s = cond (reads s) (Some (record { size = asked_size s; first = asked_first s; end = asked_end s })) None
