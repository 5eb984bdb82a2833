-- The sheet's lines as bytes: 01, Sheet program.
--     decimal n                       a number as decimals, its digits from the last to the first (spelled)
--     bits p                          a pattern, a digit for each place
--     commas q                        numbers as decimals, with commas between them
--     line fields                     single spaces part the fields, and a newline ends the line
--     run_word, end_word, no_word     the words RUN, END and NO
--     run_line, end_line, no_line     the lines of a sheet that are no shape's
--     shape_text, shape_line          a shape's, from its fields and from its number
--     shape_lines                     those of the shapes numbered first to end - 1
--     line_room                       a buffer of so many bytes has room for any line of a sheet
--     written d at text               d with the text in it, from place `at` on
-- Assumes nothing.
use Rattle.std.specs.Prelude.{cond, ℕ, zero, suc, ◌+◌, ◌-◌, ◌/◌, ◌%◌, ltb, length, take, drop}
use mathlib.Core.List.{List, [], ◌∷◌, ◌++◌, map, flat_map}
use Rattle.shape.specs.Tree.{permutation}
use Rattle.shape.specs.Form.{pattern_tree}
use Rattle.shape.specs.Number.{local_pattern, change, depth}
use Rattle.shape.specs.Numbering.{numbers_from}

-- The first argument bounds how many digits there are; a number has no more than it counts, and one besides.
unfoldable pub spelled : ℕ → ℕ → List ℕ
spelled zero n = []
spelled (suc d) n = cond (ltb n 10) ((48 + n) ∷ []) (spelled d (n / 10) ++ ((48 + n % 10) ∷ []))

unfoldable pub decimal : ℕ → List ℕ
decimal n = spelled (suc n) n

unfoldable pub bits : List ℕ → List ℕ
bits p = map (λ x. 48 + x) p

unfoldable pub commas : List ℕ → List ℕ
commas [] = []
commas (x ∷ []) = decimal x
commas (x ∷ y ∷ q) = decimal x ++ (44 ∷ commas (y ∷ q))

unfoldable pub line : List (List ℕ) → List ℕ
line [] = []
line (field ∷ []) = field ++ (10 ∷ [])
line (field ∷ other ∷ fields) = field ++ (32 ∷ line (other ∷ fields))

abbrev pub run_word : List ℕ
run_word = 82 ∷ 85 ∷ 78 ∷ []

abbrev pub end_word : List ℕ
end_word = 69 ∷ 78 ∷ 68 ∷ []

abbrev pub no_word : List ℕ
no_word = 78 ∷ 79 ∷ []

unfoldable pub run_line : ℕ → ℕ → ℕ → List ℕ
run_line n first end = line (run_word ∷ decimal n ∷ decimal first ∷ decimal end ∷ [])

-- Local number, pattern, permutation with commas, depth, change.
unfoldable pub shape_text : List ℕ → List ℕ → List ℕ → ℕ → ℕ → List ℕ
shape_text number p q depth change = line (number ∷ bits p ∷ commas q ∷ decimal depth ∷ decimal change ∷ [])

unfoldable pub shape_line : ℕ → ℕ → List ℕ
shape_line n k =
    let p = local_pattern n k in
    shape_text (decimal k) p (permutation (pattern_tree p)) (depth p) (change n k)

unfoldable pub shape_lines : ℕ → ℕ → ℕ → List ℕ
shape_lines n first end = flat_map (shape_line n) (numbers_from first (end - first))

-- How many shapes, and the figure.
unfoldable pub end_line : ℕ → ℕ → List ℕ
end_line count figure = line (end_word ∷ decimal count ∷ decimal figure ∷ [])

unfoldable pub no_line : ℕ → List ℕ
no_line refusal = line (no_word ∷ decimal refusal ∷ [])

-- A shape's line has a number of at most 19 digits, 70 places, 35 labels with commas between them and two numbers of two digits.
abbrev pub line_room : ℕ
line_room = 256

abbrev pub written : List ℕ → ℕ → List ℕ → List ℕ
written d at text = take at d ++ (text ++ drop (at + length text) d)
