-- Laws of the loops that pack places into bytes and take them out again, in the words of the source.
--     agrees_next, agrees_end        a list that is written from its first entry to its last agrees with another so far, and in the end is it
--     agrees_last                    and is it where its last entry is written
--     unpacked_long, unpacked_next   the places of a record: as many as there is room for, and each of them a bit of its byte
--     byte_none, byte_next, byte_end up to eight places read as a number, one more place at a time
--     byte_doubled, byte_fits        which stays within a byte
--     packed_first, packed_there     its first byte is four times the size, and for each eight places there is another
--     packed_whole, packed_last      which holds them, and the last one those that are left, with zeros behind them
--     packed_shift                   where at least one is
-- What the proofs of the loops use, each a set: reads, packs, unpacks.
-- Assumes nothing.
use mathlib.Core.Path.{◌≡◌, refl, sym, ap, ◌∙◌, subst}
use mathlib.Core.List.{List, [], ◌++◌, append_assoc}
use Prim.Native.Nat.{ℕ, zero, suc, ◌+◌, ◌-◌, ◌*◌, ◌/◌, ◌%◌, ◌^◌, ◌≤◌, ◌<◌}
use native.Mathlib.Nat.{min-le_left, lt_of_lt_of_le, mod-eq_of_lt}
use native.Mathlib.Numerals.{add-one}
use native.Mathlib.Omega.{arith}
use mir.Val.{Fits}
use mir.Syntax.{w8}
use lib.ListN.{length, get_or, set, take, drop, replicate, length-append, length-set, length-replicate, length-take, length-drop, get_or-append}
use lib.Seq.{take_all, take-suc, take-suc-set, length-take-le, get_or-take, get_or-drop, drop-drop, take_at, take-append-le, drop-append-add, drop-append-le}
use lib.Pow.{pow_mono}
use Rattle.catalan.specs.Count.{largest_size}
use Rattle.shape.specs.Every.{All}
use Rattle.shape.specs.Form.{Feasible}
use Rattle.shape.specs.Check.{record_length}
use Rattle.shape.proofs.Lists.{all_map, all_of, all_append}
use Rattle.shape.proofs.Patterns.{feasible_length}
use Rattle.record.specs.Bits.{bits, value, value_after, bytes, bits_of}
use Rattle.record.specs.Record.{fill, record_bits, record_of}
use Rattle.record.proofs.Bits.{Bit, all_take, all_drop, zeros_all, length_bits, length_bits_of}
use Rattle.record.proofs.Bits.{bits_more, bits_split, bits_place, bits_of_from, value_bits, value_next, value_below, value_through, value_after_lem, value_zeros}
use Rattle.record.proofs.Records.{record_long}

-- ---- a list that is written from its first entry to its last, and agrees with `whole` so far

module _ (p whole : List ℕ) (i m : ℕ) (same : take i p ≡ take i whole) where
  pub agrees_next : (x : ℕ) → i < length p → length p ≡ m → length whole ≡ m → x ≡ get_or whole i 0 → take (i + 1) (set p i x) ≡ take (i + 1) whole
  agrees_next x on long whole_long e = rw (add-one i, take-suc-set p i x on, take-suc whole i 0 (omega arith), same, e)

  pub agrees_end : length p ≤ i → length p ≡ m → length whole ≡ m → p ≡ whole
  agrees_end end long whole_long = sym (take_all i p end) ∙ same ∙ take_all i whole (omega arith)

pub agrees_last : (p whole : List ℕ) (i m : ℕ) → take i p ≡ take i whole → (x : ℕ) → i + 1 ≡ m → length p ≡ m → length whole ≡ m
    → x ≡ get_or whole i 0 → set p i x ≡ whole
agrees_last p whole i m same x last long whole_long e =
    let next = agrees_next p whole i m same x (omega arith) long whole_long e in
    let kept = length-set p i x in
    agrees_end (set p i x) whole (i + 1) m next (omega arith) (kept ∙ long) whole_long

-- ---- the places of a record

module _ (r : List ℕ) (m : ℕ) (room : 8 + m ≤ 8 * length r) where
  pub unpacked_long : length (take m (drop 8 (bits_of r))) ≡ m
  unpacked_long = length-take-le m (drop 8 (bits_of r)) (omega (arith, length-drop 8 (bits_of r), length_bits_of r))

  pub unpacked_next : (i all : ℕ) → i < all → all ≡ m → get_or r (1 + i / 8) 0 / 2 ^ (7 - i % 8) % 2 ≡ get_or (take m (drop 8 (bits_of r))) i 0
  unpacked_next i all on e =
      let k = 1 + i / 8 in
      let j = i % 8 in
      let x = get_or r k 0 in
      let whole : j + suc (7 - j) ≡ 8 = omega arith in
      let place : 8 + i ≡ 8 * k + j = omega arith in
      let bit : get_or (bits 8 x) j 0 ≡ x / 2 ^ (7 - j) % 2 = ap (λ (w : ℕ). get_or (bits w x) j 0) (sym whole) ∙ bits_place j (7 - j) x in
      sym (get_or-take m (drop 8 (bits_of r)) i 0 (omega arith) ∙ get_or-drop 8 (bits_of r) i 0 ∙ ap (λ (w : ℕ). get_or (bits_of r) w 0) place
      ∙ sym (get_or-drop (8 * k) (bits_of r) j 0) ∙ ap (λ (l : List ℕ). get_or l j 0) (bits_of_from k r (omega arith))
      ∙ get_or-append (bits 8 x) (bits_of (drop (suc k) r)) 0 j (omega (arith, length_bits 8 x)) ∙ bit)

-- ---- up to eight places as a byte

pub byte_none : 0 ≡ value []
byte_none = unfold value value_after in refl

module _ (p : List ℕ) (short : length p ≤ 8) (i b : ℕ) (e : b ≡ value (take i p)) where
  module _ (on : i < length p) where
    pub byte_next : 2 * b + get_or p i 0 ≡ value (take (i + 1) p)
    byte_next = rw (add-one i, take-suc p i 0 on, value_next (take i p) (get_or p i 0), e)

    module _ (bit : (i : ℕ) → i < length p → get_or p i 0 ≤ 1) where
      byte_half : b < 128
      byte_half =
          let few : length (take i p) ≤ 7 = omega (arith, length-take i p, min-le_left i (length p)) in
          let below : value (take i p) < 2 ^ 7 = lt_of_lt_of_le (value_below (take i p) (all_take Bit i p (all_of Bit p bit))) (pow_mono few) in
          omega arith

      pub byte_doubled : Fits w8 (2 * b)
      byte_doubled = omega (arith, byte_half)

      pub byte_fits : Fits w8 (2 * b + get_or p i 0)
      byte_fits = omega (arith, byte_half, bit i on)

pub byte_end : (p : List ℕ) (i b : ℕ) → b ≡ value (take i p) → length p ≤ i → b ≡ value p
byte_end p i b e end = e ∙ ap value (take_all i p end)

pub ruleset reads = (byte_none, byte_next, byte_doubled, byte_fits, byte_end)

-- ---- the record of a pattern

bytes_at : (k : ℕ) (l : List ℕ) (i : ℕ) → i < k → get_or (bytes k l) i 0 ≡ value (take 8 (drop (8 * i) l))
unfolding bytes
bytes_at zero l i h = absurd (omega arith)
bytes_at (suc k) l zero h = refl
bytes_at (suc k) l (suc i) h =
    let eight : 8 + 8 * i ≡ 8 * suc i = omega arith in
    bytes_at k (drop 8 l) i (omega arith) ∙ ap (λ (m : List ℕ). value (take 8 m)) (drop-drop (8 * i) 8 l ∙ ap (λ (m : ℕ). drop m l) eight)

zero_bit : (x : ℕ) → x ≡ 0 → Bit x
zero_bit x e = omega arith

-- each zero behind a list doubles what it writes
through_zeros : (l : List ℕ) (k : ℕ) → value (l ++ replicate k 0) ≡ value_after (value l) (replicate k 0)
unfolding value
through_zeros l k = value_through 0 l (replicate k 0)

value_filled : (l : List ℕ) (k : ℕ) → value (l ++ replicate k 0) ≡ value l * 2 ^ k
value_filled l k =
    through_zeros l k ∙ value_after_lem (value l) (replicate k 0) ∙ rw (length-replicate {A = ℕ} k 0, value_zeros k) (omega arith)

-- the size and the mark are the bits of the first byte
head_bits : (n : ℕ) → bits 6 n ++ bits 2 0 ≡ bits 8 (4 * n)
head_bits n =
    let size : 4 * n / 2 ^ 2 ≡ n = omega arith in
    let mark : bits 2 (4 * n) ≡ bits 2 0 = ap (bits 2) (omega arith) ∙ bits_more 2 n 0 in
    sym (bits_split 6 2 (4 * n) ∙ rw (size, mark))

module _ (n : ℕ) (p : List ℕ) where
  head_first : record_bits n p ≡ bits 8 (4 * n) ++ (p ++ replicate (fill n) 0)
  head_first = unfold record_bits in sym (append_assoc (bits 6 n) (bits 2 0) (p ++ replicate (fill n) 0)) ∙ rw (head_bits n)

  first_byte : n ≤ largest_size → 4 * n ≡ get_or (record_of n p) 0 0
  first_byte small =
      unfold record_of in
      sym (bytes_at (record_length n) (record_bits n p) 0 (omega arith)
      ∙ ap (λ (l : List ℕ). value (take 8 l)) head_first
      ∙ ap value (take_at (bits 8 (4 * n)) (p ++ replicate (fill n) 0) 8 (length_bits 8 (4 * n)))
      ∙ value_bits 8 (4 * n) (omega arith))

  pub packed_first : (q : List ℕ) → length q ≡ record_length n → n ≤ largest_size → take 1 (set q 0 (4 * n)) ≡ take 1 (record_of n p)
  packed_first q room small = agrees_next q (record_of n p) 0 (record_length n) refl (4 * n) (omega arith) room (record_long n p) (first_byte small)

  module _ (formed : Feasible n p) (i m : ℕ) (room : m ≡ record_length n) where
    pub packed_there : i < length p / 8 → i + 1 < m
    packed_there on = omega (arith, feasible_length n p formed)

    module _ (from : 8 * i ≤ length p) (on : i + 1 < m) where
      packed_at : get_or (record_of n p) (i + 1) 0 ≡ value (take 8 (drop (8 * i) p ++ replicate (fill n) 0))
      unfolding record_of
      packed_at =
          let next : 8 * (i + 1) ≡ length (bits 8 (4 * n)) + 8 * i = omega (arith, length_bits 8 (4 * n)) in
          bytes_at (record_length n) (record_bits n p) (i + 1) (omega arith)
          ∙ ap (λ (l : List ℕ). value (take 8 (drop (8 * (i + 1)) l))) head_first
          ∙ ap (λ (j : ℕ). value (take 8 (drop j (bits 8 (4 * n) ++ (p ++ replicate (fill n) 0))))) next
          ∙ ap (λ (l : List ℕ). value (take 8 l)) (drop-append-add (bits 8 (4 * n)) (p ++ replicate (fill n) 0) (8 * i)
          ∙ drop-append-le (8 * i) p (replicate (fill n) 0) from)

      pub packed_whole : 8 * i + 8 ≤ length p → (k : ℕ) → k ≡ 8 → (x : ℕ) → x ≡ value (take k (drop (8 * i) p)) → x ≡ get_or (record_of n p) (i + 1) 0
      packed_whole all k eight x e =
          e ∙ ap (λ (j : ℕ). value (take j (drop (8 * i) p))) eight
          ∙ sym (packed_at ∙ ap value (take-append-le 8 (drop (8 * i) p) (replicate (fill n) 0) (omega (arith, length-drop (8 * i) p))))

      module _ (last : i ≡ length p / 8) where
        rest : take (length p - 8 * i) (drop (8 * i) p) ≡ drop (8 * i) p
        rest = take_all (length p - 8 * i) (drop (8 * i) p) (omega (arith, length-drop (8 * i) p))

        rest_filled : length (drop (8 * i) p) + fill n ≡ 8
        rest_filled = unfold fill in omega (arith, length-drop (8 * i) p, feasible_length n p formed)

        pub packed_shift : 8 - length (take (length p - 8 * i) (drop (8 * i) p)) < 8
        packed_shift = rw rest (omega (arith, length-drop (8 * i) p, feasible_length n p formed))

        pub packed_last : (x : ℕ) → x ≡ value (take (length p - 8 * i) (drop (8 * i) p))
            → x * 2 ^ (8 - length (take (length p - 8 * i) (drop (8 * i) p))) % 256 ≡ get_or (record_of n p) (i + 1) 0
        packed_last x e =
            let l = drop (8 * i) p in
            let zeros : List ℕ = replicate (fill n) 0 in
            let long : length (l ++ zeros) ≡ 8 = omega (arith, length-append l zeros, length-replicate {A = ℕ} (fill n) 0, rest_filled) in
            let bits : All Bit (l ++ zeros) =
            all_append Bit l zeros (all_drop Bit (8 * i) p (all_of Bit p formed.places)) (all_map {Q = Bit} zero_bit zeros (zeros_all (fill n))) in
            let below : value (l ++ zeros) < 2 ^ 8 = subst (λ (k : ℕ). value (l ++ zeros) < 2 ^ k) long (value_below (l ++ zeros) bits) in
            let shift : 8 - length l ≡ fill n = omega (arith, rest_filled) in
            let read : x ≡ value l = e ∙ ap value rest in
            rw (rest, shift, read, ← value_filled l (fill n))
            (mod-eq_of_lt below ∙ sym (packed_at ∙ ap value (take_all 8 (l ++ zeros) (omega (arith, long)))))

pub ruleset packs = (agrees_end, record_long, packed_first, packed_there)

pub ruleset unpacks = (agrees_next, agrees_end, unpacked_long, unpacked_next)
