-- Laws of the fields that are put, in the words of the source.
--     number_room, number_count, number_written      a number of any size, from what `io::decimal` puts
--     tens_most                        whether a number has tens, as a number, is 1 at most
--     small_count, small_written       a number below 100: the units are put over the tens where there are none
--     word_written                     four stores of one byte each put the bytes of a word
--     Label, label_word_lem            a label's word is its text, and two bytes more at most
--     bits_next, bits_end, bits_count  a pattern, place by place, and a space behind it
--     Entries                          a permutation, entry by entry: the rest is what those from i on come to
--     entries_start, entries_next, entries_count, entries_end      so it is at the start, and stays; in the end a space is put
--     entries_room, entries_wide       there is room for an entry and what stands behind it, and before the last for a whole word
-- What the proofs of the functions use, each a set: patterns, permutations, numbers, smalls.
-- Assumes nothing.
use mathlib.Core.Path.{◌≡◌, refl, sym, ap, ◌∙◌}
use mathlib.Core.Bool.{Bool, true, false}
use mathlib.Core.List.{List, [], ◌∷◌, ◌++◌, append_assoc}
use Prim.Native.Nat.{ℕ, zero, suc, ◌+◌, ◌-◌, ◌*◌, ◌/◌, ◌%◌, ◌≤◌, ◌<◌}
use native.Mathlib.Nat.{add-zero, mod-eq_of_lt}
use native.Mathlib.Numerals.{add-one}
use native.Mathlib.Omega.{arith}
use native.Mathlib.Decide.{dec_lt}
use mir.Val.{Fits, bool_byte}
use mir.Syntax.{w64}
use lib.Dec.{ltb}
use lib.ListN.{length, get_or, set, take, drop, length-append, length-drop, drop_of_length-le}
use lib.Seq.{set-set, drop-cons}
use borrow.Author.Tests.{lt-ltb, le-ltb}
use Rattle.io.specs.Digits.{last_digits, IsDigitCount}
use Rattle.catalan.specs.Table.{tabulate}
use Rattle.catalan.proofs.Tables.{tabulate_at}
use Rattle.text.specs.Text.{decimal, bits, commas, written}
use Rattle.text.specs.Label.{label_word, word_bytes}
use Rattle.text.proofs.Written.{written_stores, written_start, written_next, written_end}
use Rattle.text.proofs.Written.{Rest, rest_start, rest_over, rest_count, rest_end}
use Rattle.text.proofs.Lengths.{length_bits, commas_some, commas_most, number_most}
use Rattle.text.proofs.Decimals.{decimal_digit}
use Rattle.text.proofs.Digits.{decimal_more, decimal_fits, digits_decimal}

-- ---- a number, from what `io::decimal` puts

module _ (n k : ℕ) (text : List ℕ) (fewest : IsDigitCount 10 1 n k) (e : text ≡ last_digits 10 k n) where
  spells : text ≡ decimal n
  spells = e ∙ digits_decimal k n fewest

  pub number_room : (at room : ℕ) → Fits w64 n → at + 20 < room → at + length text < room
  number_room at room fits h = omega (arith, ap length spells, number_most n (omega arith))

  pub number_count : (at end r : ℕ) → r ≡ at + length (text ++ (end ∷ [])) → r ≡ at + length (decimal n ++ (end ∷ []))
  number_count at end r h = rw (← spells) h

  pub number_written : (d out : List ℕ) (at end : ℕ) → out ≡ written d at (text ++ (end ∷ [])) → out ≡ written d at (decimal n ++ (end ∷ []))
  number_written d out at end h = rw (← spells) h

-- ---- a number below 100

pub tens_most : (tens : Bool) → bool_byte tens ≤ 1
tens_most true = omega arith
tens_most false = omega arith

two_digits : (n : ℕ) → 10 ≤ n → n < 100 → decimal n ≡ (48 + n / 10) ∷ (48 + n % 10) ∷ []
two_digits n large small = decimal_more n large ∙ ap (λ (l : List ℕ). l ++ ((48 + n % 10) ∷ [])) (decimal_digit (n / 10) (omega arith))

module _ (d : List ℕ) (at n end : ℕ) (small : n < 100) where
  pub small_count : at + bool_byte (ltb 9 n) + 2 ≡ at + length (decimal n ++ (end ∷ []))
  small_count =
      elim (dec_lt n 10) [
        | yes units ↦ rw (le-ltb 9 n (omega arith), decimal_digit n units) (omega arith)
        | no tens ↦ rw (lt-ltb 9 n (omega arith), two_digits n (omega arith) small) (omega arith)
      ]

  pub small_written : at + 2 < length d
      → set (set (set d at (48 + n / 10)) (at + bool_byte (ltb 9 n)) (48 + n % 10)) (at + bool_byte (ltb 9 n) + 1) end
      ≡ written d at (decimal n ++ (end ∷ []))
  small_written room =
      elim (dec_lt n 10) [
        | yes units ↦
            let digit : n % 10 ≡ n = mod-eq_of_lt units in
            rw (le-ltb 9 n (omega arith), decimal_digit n units, digit, add-zero at, add-one at, set-set d at (48 + n / 10) (48 + n))
            (written_stores d at ((48 + n) ∷ end ∷ []) (omega arith))
        | no tens ↦
            rw (lt-ltb 9 n (omega arith), two_digits n (omega arith) small, add-one at, add-one (suc at))
            (written_stores d at ((48 + n / 10) ∷ (48 + n % 10) ∷ end ∷ []) (omega arith))
      ]

-- ---- a label, as a word

pub word_written : (d : List ℕ) (at w : ℕ) → at + 3 < length d
    → set (set (set (set d at (w % 256)) (at + 1) (w / 256 % 256)) (at + 2) (w / 65536 % 256)) (at + 3) (w / 16777216) ≡ written d at (word_bytes w)
word_written d at w room =
    let two : at + 2 ≡ suc (suc at) = omega arith in
    let three : at + 3 ≡ suc (suc (suc at)) = omega arith in
    rw (add-one at, two, three) (written_stores d at (word_bytes w) (omega arith))

record Label (word : ℕ) (text : List ℕ) : Type 0 where
  behind : List ℕ
  short : length behind ≤ 2
  bytes : word_bytes word ≡ text ++ behind
  count : word / 16777216 ≡ length text

bytes_of : (w x y z k : ℕ) → w ≡ x + 256 * (y + 256 * (z + 256 * k)) → x < 256 → y < 256 → z < 256 → word_bytes w ≡ x ∷ y ∷ z ∷ k ∷ []
bytes_of w x y z k e hx hy hz =
    let behind : w / 256 ≡ y + 256 * (z + 256 * k) = omega arith in
    let after : w / 65536 ≡ z + 256 * k = omega arith in
    let first : w % 256 ≡ x = omega arith in
    let second : w / 256 % 256 ≡ y = rw behind (omega arith) in
    let third : w / 65536 % 256 ≡ z = rw after (omega arith) in
    let fourth : w / 16777216 ≡ k = omega arith in
    rw (first, second, third, fourth)

label_word_lem : (n : ℕ) → n < 100 → Label (label_word n) (decimal n ++ (44 ∷ []))
unfolding label_word
label_word_lem n small =
    elim (dec_lt n 10) [
      | yes units ↦
          let x = 48 + n in
          let word = x + 256 * (44 + 256 * 0) + 16777216 * 2 in
          let bytes = bytes_of word x 44 0 2 (omega arith) (omega arith) (omega arith) (omega arith) in
          let count = ap (λ (l : List ℕ). get_or l 3 0) bytes in
          rw (decimal_digit n units) (record { behind = 0 ∷ 2 ∷ []; short = omega arith; bytes = bytes; count = count })
      | no tens ↦
          let x = 48 + n / 10 in
          let y = 48 + n % 10 in
          let word = x + 256 * (y + 256 * (44 + 256 * 0)) + 16777216 * 3 in
          let bytes = bytes_of word x y 44 3 (omega arith) (omega arith) (omega arith) (omega arith) in
          let count = ap (λ (l : List ℕ). get_or l 3 0) bytes in
          rw (two_digits n (omega arith) small) (record { behind = 3 ∷ []; short = omega arith; bytes = bytes; count = count })
    ]

-- ---- a pattern

bits_at : (p : List ℕ) (i : ℕ) → i < length p → 48 + get_or p i 0 ≡ get_or (bits p) i 0
unfolding bits
bits_at [] i h = absurd (omega arith)
bits_at (x ∷ p) zero h = refl
bits_at (x ∷ p) (suc i) h = bits_at p i (omega arith)

module _ (d : List ℕ) (at : ℕ) (p : List ℕ) (i : ℕ) (out : List ℕ) (put : out ≡ written d at (take i (bits p))) (room : at + length p < length d) where
  pub bits_next : i < length p → set out (at + i) (48 + get_or p i 0) ≡ written d at (take (i + 1) (bits p))
  bits_next on =
      let long = length_bits p in
      written_next d at (bits p) i out put (48 + get_or p i 0) (omega arith) (omega arith) (bits_at p i on)

  pub bits_end : length p ≤ i → set out (at + length p) 32 ≡ written d at (bits p ++ (32 ∷ []))
  bits_end done = rw (sym (length_bits p)) (written_end d at (bits p) i out put (omega (arith, length_bits p)) (omega (arith, length_bits p)) 32)

pub bits_count : (p : List ℕ) → length (bits p ++ (32 ∷ [])) ≡ length p + 1
bits_count p = omega (arith, length_bits p, length-append (bits p) (32 ∷ []))

pub ruleset patterns = (written_start, bits_next, bits_end, bits_count)

-- ---- a permutation

abbrev rest : List ℕ → ℕ → List ℕ
rest q i = commas (drop i q) ++ (32 ∷ [])

pub record Entries (d : List ℕ) (at : ℕ) (q : List ℕ) (out : List ℕ) (r i : ℕ) : Type 0 where
  pub some : i < length q
  pub room : r + 3 * (length q - i) ≤ length d
  pub left : Rest d at (rest q 0) out r (rest q i)

rest_last : (q : List ℕ) (i : ℕ) → i + 1 ≡ length q → rest q i ≡ decimal (get_or q i 0) ++ (32 ∷ [])
rest_last q i last = rw (drop-cons q i 0 (omega arith), drop_of_length-le q {i = suc i} (omega arith)) (unfold commas in refl)

rest_more : (q : List ℕ) (i : ℕ) → i + 1 < length q → rest q i ≡ (decimal (get_or q i 0) ++ (44 ∷ [])) ++ rest q (i + 1)
unfolding commas
rest_more q i on =
    let x = get_or q i 0 in
    let after = commas (get_or q (i + 1) 0 ∷ drop (suc (i + 1)) q) in
    rw (drop-cons q i 0 (omega arith), ← add-one i, drop-cons q (i + 1) 0 on)
    (append_assoc (decimal x) (44 ∷ after) (32 ∷ []) ∙ sym (append_assoc (decimal x) (44 ∷ []) (after ++ (32 ∷ []))))

module _ (d : List ℕ) (at : ℕ) (q : List ℕ) (small : (i : ℕ) → get_or q i 0 < 100) where
  pub entries_start : 1 ≤ length q → at + 3 * length q ≤ length d → Entries d at q d at 0
  entries_start some room =
      let long = length-append (commas q) (32 ∷ []) in
      record { some = some; room = omega arith; left = rest_start d at (rest q 0) (omega (arith, commas_most q some small)) }

  module _ (out : List ℕ) (r i : ℕ) (c : Entries d at q out r i) where
    pub entries_room : r + 2 < length out
    entries_room = omega (arith, c.some, c.room, c.left.same)

    module _ (on : i < length q - 1) where
      pub entries_wide : r + 3 < length out
      entries_wide = omega (arith, c.room, c.left.same)

      pub entries_next : (words : List ℕ) (r' : ℕ) (out' : List ℕ) → words ≡ tabulate 100 label_word
          → r' ≡ r + get_or words (get_or q i 0) 0 / 16777216 → out' ≡ written out r (word_bytes (get_or words (get_or q i 0) 0))
          → Entries d at q out' r' (i + 1)
      entries_next words r' out' table counts put =
          let n = get_or q i 0 in
          let entry = decimal n ++ (44 ∷ []) in
          let after = drop (i + 1) q in
          let most : length entry ≤ 3 = omega (arith, length-append (decimal n) (44 ∷ []), decimal_fits 1 n (small i)) in
          let word : get_or words n 0 ≡ label_word n = rw table (tabulate_at 100 label_word n (small i)) in
          let label = label_word_lem n (small i) in
          let counted : r' ≡ r + length entry = counts ∙ ap (λ (w : ℕ). r + w / 16777216) word ∙ ap (λ (k : ℕ). r + k) label.count in
          let texts : out' ≡ written out r (entry ++ label.behind) = put ∙ ap (written out r) (ap word_bytes word ∙ label.bytes) in
          let some = commas_some after (omega (arith, length-drop (i + 1) q)) in
          let over : length label.behind ≤ length (rest q (i + 1)) = omega (arith, label.short, length-append (commas after) (32 ∷ [])) in
          let left = rw (rest_more q i (omega arith)) at c.left in
          record {
            some = omega arith;
            room = omega (arith, c.room);
            left = rest_over d at (rest q 0) out r r' out' entry label.behind (rest q (i + 1)) left over counted texts;
          }

    module _ (r' : ℕ) (out' : List ℕ) (done : length q - 1 ≤ i) where
      last : Rest d at (rest q 0) out r (decimal (get_or q (length q - 1) 0) ++ (32 ∷ []))
      last =
          let here : length q - 1 ≡ i = omega (arith, c.some) in
          rw here (rw (rest_last q i (omega (arith, c.some))) at c.left)

      pub entries_count : r' ≡ r + length (decimal (get_or q (length q - 1) 0) ++ (32 ∷ [])) → r' ≡ at + length (rest q 0)
      entries_count counts = rest_count d at (rest q 0) out r r' out' _ last counts

      pub entries_end : out' ≡ written out r (decimal (get_or q (length q - 1) 0) ++ (32 ∷ [])) → out' ≡ written d at (rest q 0)
      entries_end put = rest_end d at (rest q 0) out r r' out' _ last put

pub ruleset permutations = (entries_start, entries_room, entries_wide, entries_next, entries_count, entries_end)

pub ruleset numbers = (number_room, number_count, number_written)

pub ruleset smalls = (tens_most, small_count, small_written)
