-- A label's text as one word of 32 bits, which is put by one store.
--     packed text      the number whose bytes are the text, the first one lowest
--     label_word n     a number below 100 and a comma behind it, and in the highest byte how many bytes that is
--     word_bytes w     the four bytes of a word, the lowest first
-- Assumes nothing.
use Rattle.std.specs.Prelude.{List, [], ◌∷◌, ◌++◌, ℕ, ◌+◌, ◌*◌, ◌/◌, ◌%◌, length}
use Rattle.text.specs.Text.{decimal}

abbrev pub packed : List ℕ → ℕ
packed [] = 0
packed (x ∷ text) = x + 256 * packed text

unfoldable pub label_word : ℕ → ℕ
label_word n =
    let text = decimal n ++ (44 ∷ []) in
    packed text + 16777216 * length text

abbrev pub word_bytes : ℕ → List ℕ
word_bytes w = w % 256 ∷ w / 256 % 256 ∷ w / 65536 % 256 ∷ w / 16777216 ∷ []
