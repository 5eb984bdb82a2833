-- Laws of numbers, bits and bytes: each is found again in what it was written as.
--     Bit, Byte                                  0 or 1; below 256
--     all_take, all_drop, all_zeros, zeros_all   what holds of all holds of each part; zeros throughout
--     length_bits, bits_below                    k bits, each of them 0 or 1
--     bits_more, bits_low                        the last k bits do not depend on what stands before them
--     bits_first, bits_split                     the first bit and the others; the first j bits and the other k
--     bits_front, bits_back, bits_place          the same as parts of the list, and the bit at a place
--     value_through, value_after_lem, value_first  the bits of one list after those of another, a number, or a bit
--     value_next                                 one more bit at the end
--     value_below, value_zeros, value_none       below 2 to the number of bits; 0 exactly where all bits are 0
--     value_bits, value_low, bits_value          a number of k bits is read back, the last k bits of any number, and a list of bits likewise
--     bits_part                                  the first k bits of a list are those of what they write
--     length_bytes, bytes_below                  k bytes, each of them below 256
--     length_bits_of, bits_of_below              eight bits a byte, each of them 0 or 1
--     bits_of_drop                               the bits after those of the first k bytes
--     bits_of_from                               from byte k on: its own bits and those of the bytes after it
--     bytes_bits, bits_bytes                     bits as bytes and back, bytes as bits and back
-- Assumes nothing.
use mathlib.Core.Path.{◌≡◌, refl, sym, ap, ap₂, ◌∙◌, subst⁻¹}
use mathlib.Core.List.{List, [], ◌∷◌, ◌++◌, append_assoc, append-nil}
use Prim.Native.Nat.{ℕ, zero, suc, ◌+◌, ◌*◌, ◌/◌, ◌%◌, ◌^◌, ◌≤◌, ◌<◌}
use native.Mathlib.Nat.{add-zero, zero-add, add-suc, pow-suc, pow-succ', div-one, div-div-eq-div-mul, mod-lt, mod-eq_of_lt}
use native.Mathlib.Nat.{mul-le-mul_left, mul-le-mul_right, lt_of_lt_of_le, min-le_left}
use native.Mathlib.Omega.{arith}
use lib.Dec.{lit<}
use lib.ListN.{length, get_or, take, drop, replicate, length-append, length-take, length-drop, take-append-drop}
use lib.Seq.{take_at, drop_at, drop-append-add, drop-nil, length-take-le, get_or_at, drop-cons}
use lib.Bits.{block_half, block_odd}
use lib.Pow.{pow_pos, pow_mono, split, high}
use Rattle.shape.specs.Every.{All}
use Rattle.shape.proofs.Lists.{all_append, all_left, all_right}
use Rattle.record.specs.Bits.{bits, value_after, value, bytes, bits_of}

abbrev pub Bit : ℕ → Type 0
Bit b = b ≤ 1

abbrev pub Byte : ℕ → Type 0
Byte x = x < 256

-- ---- lists

pub all_take : {A : Type 0} (P : A → Type 0) (k : ℕ) (l : List A) → All P l → All P (take k l)
all_take P k l h = all_left P (take k l) (drop k l) (subst⁻¹ (All P) (take-append-drop k l) h)

pub all_drop : {A : Type 0} (P : A → Type 0) (k : ℕ) (l : List A) → All P l → All P (drop k l)
all_drop P k l h = all_right P (take k l) (drop k l) (subst⁻¹ (All P) (take-append-drop k l) h)

pub all_zeros : (l : List ℕ) → All (λ b. b ≡ 0) l → l ≡ replicate (length l) 0
all_zeros [] h = refl
all_zeros (b ∷ l) h = ap₂ {C = List ℕ} (λ c m. c ∷ m) h.0 (all_zeros l h.1)

pub zeros_all : (k : ℕ) → All (λ (b : ℕ). b ≡ 0) (replicate k 0)
zeros_all zero = tt
zeros_all (suc k) = (refl, zeros_all k)

-- ---- numbers as bits

pub length_bits : (k x : ℕ) → length (bits k x) ≡ k
unfolding bits
length_bits zero x = refl
length_bits (suc k) x = omega (arith, length-append (bits k (x / 2)) (x % 2 ∷ []), length_bits k (x / 2))

pub bits_below : (k x : ℕ) → All Bit (bits k x)
unfolding bits
bits_below zero x = tt
bits_below (suc k) x = all_append Bit (bits k (x / 2)) (x % 2 ∷ []) (bits_below k (x / 2)) (omega arith, tt)

pub bits_more : (k y x : ℕ) → bits k (y * 2 ^ k + x) ≡ bits k x
unfolding bits
bits_more zero y x = refl
bits_more (suc k) y x =
    ap₂ {C = List ℕ} (λ l b. l ++ (b ∷ [])) (ap (bits k) (block_half y k x) ∙ bits_more k y (x / 2)) (block_odd y k x)

pub bits_low : (k x : ℕ) → bits k (x % 2 ^ k) ≡ bits k x
bits_low k x = sym (bits_more k (x / 2 ^ k) (x % 2 ^ k)) ∙ ap (bits k) (split x k)

-- half first, and then k times, is suc k times
half_then : (k x : ℕ) → x / 2 / 2 ^ k ≡ x / 2 ^ suc k
half_then k x = div-div-eq-div-mul x 2 (2 ^ k) ∙ ap (λ (m : ℕ). x / m) (sym (pow-succ' 2 k))

pub bits_split : (j k x : ℕ) → bits (j + k) x ≡ bits j (x / 2 ^ k) ++ bits k x
unfolding bits
bits_split j zero x = rw (add-zero j, div-one x) (sym (append-nil (bits j x)))
bits_split j (suc k) x =
    ap (λ (m : ℕ). bits m x) (add-suc j k)
    ∙ ap (λ (l : List ℕ). l ++ (x % 2 ∷ [])) (bits_split j k (x / 2) ∙ ap (λ (y : ℕ). bits j y ++ bits k (x / 2)) (half_then k x))
    ∙ append_assoc (bits j (x / 2 ^ suc k)) (bits k (x / 2)) (x % 2 ∷ [])

pub bits_first : (k x : ℕ) → bits (suc k) x ≡ (x / 2 ^ k % 2) ∷ bits k x
unfolding bits
bits_first zero x = ap (λ (y : ℕ). y % 2 ∷ []) (sym (div-one x))
bits_first (suc k) x =
    ap (λ (l : List ℕ). l ++ (x % 2 ∷ [])) (bits_first k (x / 2))
    ∙ ap (λ (y : ℕ). y % 2 ∷ (bits k (x / 2) ++ (x % 2 ∷ []))) (half_then k x)

pub bits_front : (j k x : ℕ) → take j (bits (j + k) x) ≡ bits j (x / 2 ^ k)
bits_front j k x = ap (take j) (bits_split j k x) ∙ take_at (bits j (x / 2 ^ k)) (bits k x) j (length_bits j (x / 2 ^ k))

pub bits_back : (j k x : ℕ) → drop j (bits (j + k) x) ≡ bits k x
bits_back j k x = ap (drop j) (bits_split j k x) ∙ drop_at (bits j (x / 2 ^ k)) (bits k x) j (length_bits j (x / 2 ^ k))

pub bits_place : (j k x : ℕ) → get_or (bits (j + suc k) x) j 0 ≡ x / 2 ^ k % 2
bits_place j k x =
    let front = bits j (x / 2 ^ suc k) in
    ap (λ (l : List ℕ). get_or l j 0) (bits_split j (suc k) x ∙ ap (λ (l : List ℕ). front ++ l) (bits_first k x))
    ∙ get_or_at front (x / 2 ^ k % 2) (bits k x) 0 j (length_bits j (x / 2 ^ suc k))

-- ---- bits as numbers

pub value_through : (x : ℕ) (l m : List ℕ) → value_after x (l ++ m) ≡ value_after (value_after x l) m
unfolding value_after
value_through x [] m = refl
value_through x (b ∷ l) m = value_through (2 * x + b) l m

-- a number that another one and a bit precede, in the words of the sum that they make
after_bit : (x b p q u v w : ℕ) → q ≡ p * 2 → u ≡ (2 * x + b) * p + v → w ≡ (2 * 0 + b) * p + v → u ≡ x * q + w
after_bit x b p q u v w d e f = omega (arith, ap (λ (z : ℕ). x * z) d)

pub value_after_lem : (x : ℕ) (l : List ℕ) → value_after x l ≡ x * 2 ^ length l + value l
unfolding value_after value
value_after_lem x [] = omega arith
value_after_lem x (b ∷ l) =
    after_bit x b (2 ^ length l) (2 ^ suc (length l)) (value_after (2 * x + b) l) (value_after 0 l) (value_after (2 * 0 + b) l) (pow-suc 2 (length l))
    (value_after_lem (2 * x + b) l) (value_after_lem (2 * 0 + b) l)

pub value_first : (b : ℕ) (l : List ℕ) → value (b ∷ l) ≡ b * 2 ^ length l + value l
value_first b l = unfold value value_after in ap (λ (y : ℕ). value_after y l) (zero-add b) ∙ value_after_lem b l

pub value_next : (l : List ℕ) (b : ℕ) → value (l ++ (b ∷ [])) ≡ 2 * value l + b
unfolding value value_after
value_next l b = value_through 0 l (b ∷ [])

pub value_below : (l : List ℕ) → All Bit l → value l < 2 ^ length l
value_below [] h = unfold value value_after in lit< tt
value_below (b ∷ l) h =
    let most : b * 2 ^ length l ≤ 1 * 2 ^ length l = mul-le-mul_right (2 ^ length l) h.0 in
    omega (arith, value_first b l, value_below l h.1, pow-suc 2 (length l))

pub value_zeros : (k : ℕ) → value (replicate k 0) ≡ 0
unfolding value value_after
value_zeros zero = refl
value_zeros (suc k) = value_zeros k

pub value_none : (l : List ℕ) → value l ≡ 0 → All (λ b. b ≡ 0) l
value_none [] h = tt
value_none (b ∷ l) h =
    let most : b * 1 ≤ b * 2 ^ length l = mul-le-mul_left b (pow_pos (length l)) in
    let sum = value_first b l in
    (omega arith, value_none l (omega arith))

pub value_bits : (k x : ℕ) → x < 2 ^ k → value (bits k x) ≡ x
unfolding bits
value_bits zero x h = unfold value value_after in omega arith
value_bits (suc k) x h =
    let half : x / 2 < 2 ^ k = omega (arith, pow-suc 2 k) in
    omega (arith, value_next (bits k (x / 2)) (x % 2), value_bits k (x / 2) half)

pub value_low : (k x : ℕ) → value (bits k x) ≡ x % 2 ^ k
value_low k x = ap value (sym (bits_low k x)) ∙ value_bits k (x % 2 ^ k) (mod-lt x (pow_pos k))

pub bits_value : (l : List ℕ) → All Bit l → bits (length l) (value l) ≡ l
bits_value [] h = unfold bits in refl
bits_value (b ∷ l) h =
    let k = length l in
    let first : (b * 2 ^ k + value l) / 2 ^ k % 2 ≡ b = ap (λ (y : ℕ). y % 2) (high b k (value_below l h.1)) ∙ mod-eq_of_lt (omega arith) in
    ap (bits (suc k)) (value_first b l) ∙ bits_first k (b * 2 ^ k + value l)
    ∙ ap₂ {C = List ℕ} (λ c m. c ∷ m) first (bits_more k b (value l) ∙ bits_value l h.1)

pub bits_part : (k : ℕ) (l : List ℕ) → All Bit l → k ≤ length l → bits k (value (take k l)) ≡ take k l
bits_part k l h long =
    ap (λ (m : ℕ). bits m (value (take k l))) (sym (length-take-le k l long)) ∙ bits_value (take k l) (all_take Bit k l h)

-- ---- bits as bytes

pub length_bytes : (k : ℕ) (l : List ℕ) → length (bytes k l) ≡ k
unfolding bytes
length_bytes zero l = refl
length_bytes (suc k) l = ap suc (length_bytes k (drop 8 l))

pub bytes_below : (k : ℕ) (l : List ℕ) → All Bit l → All Byte (bytes k l)
unfolding bytes
bytes_below zero l h = tt
bytes_below (suc k) l h =
    let short : length (take 8 l) ≤ 8 = rw (length-take 8 l) (min-le_left 8 (length l)) in
    (lt_of_lt_of_le (value_below (take 8 l) (all_take Bit 8 l h)) (pow_mono short), bytes_below k (drop 8 l) (all_drop Bit 8 l h))

pub length_bits_of : (r : List ℕ) → length (bits_of r) ≡ 8 * length r
unfolding bits_of
length_bits_of [] = refl
length_bits_of (x ∷ r) = omega (arith, length-append (bits 8 x) (bits_of r), length_bits 8 x, length_bits_of r)

pub bits_of_below : (r : List ℕ) → All Bit (bits_of r)
unfolding bits_of
bits_of_below [] = tt
bits_of_below (x ∷ r) = all_append Bit (bits 8 x) (bits_of r) (bits_below 8 x) (bits_of_below r)

pub bits_of_drop : (k : ℕ) (r : List ℕ) → drop (8 * k) (bits_of r) ≡ bits_of (drop k r)
unfolding bits_of
bits_of_drop zero r = refl
bits_of_drop (suc k) [] = drop-nil (8 * suc k)
bits_of_drop (suc k) (x ∷ r) =
    let count : 8 * suc k ≡ length (bits 8 x) + 8 * k = omega (arith, length_bits 8 x) in
    ap (λ (m : ℕ). drop m (bits 8 x ++ bits_of r)) count ∙ drop-append-add (bits 8 x) (bits_of r) (8 * k) ∙ bits_of_drop k r

pub bits_of_from : (k : ℕ) (r : List ℕ) → k < length r → drop (8 * k) (bits_of r) ≡ bits 8 (get_or r k 0) ++ bits_of (drop (suc k) r)
bits_of_from k r h = bits_of_drop k r ∙ ap bits_of (drop-cons r k 0 h) ∙ (unfold bits_of in refl)

pub bytes_bits : (k : ℕ) (l : List ℕ) → All Bit l → length l ≡ 8 * k → bits_of (bytes k l) ≡ l
unfolding bytes bits_of
bytes_bits zero [] h e = refl
bytes_bits zero (b ∷ l) h e = absurd (omega arith)
bytes_bits (suc k) l h e =
    let rest = bytes_bits k (drop 8 l) (all_drop Bit 8 l h) (omega (arith, length-drop 8 l)) in
    ap₂ {C = List ℕ} (λ u v. u ++ v) (bits_part 8 l h (omega arith)) rest ∙ take-append-drop 8 l

pub bits_bytes : (r : List ℕ) → All Byte r → bytes (length r) (bits_of r) ≡ r
unfolding bytes bits_of
bits_bytes [] h = refl
bits_bytes (x ∷ r) h =
    let first : value (take 8 (bits 8 x ++ bits_of r)) ≡ x =
    ap value (take_at (bits 8 x) (bits_of r) 8 (length_bits 8 x)) ∙ value_bits 8 x h.0 in
    let rest : bytes (length r) (drop 8 (bits 8 x ++ bits_of r)) ≡ r =
    ap (bytes (length r)) (drop_at (bits 8 x) (bits_of r) 8 (length_bits 8 x)) ∙ bits_bytes r h.1 in
    ap₂ {C = List ℕ} (λ y s. y ∷ s) first rest
