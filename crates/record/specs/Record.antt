-- A packed record: 01, Packed record.
--     fill n               the zeros that fill its last byte
--     record_bits n p      the bits of the record of the pattern p of size n
--     record_of n p        its bytes
--     size_in, mark_in, places_in, fill_in  what stands in the bytes r, part by part
-- Assumes nothing.
use Rattle.std.specs.Prelude.{List, ◌++◌, ℕ, ◌+◌, ◌-◌, ◌*◌, take, drop, replicate}
use Rattle.shape.specs.Check.{record_length}
use Rattle.record.specs.Bits.{bits, value, bytes, bits_of}

unfoldable pub fill : ℕ → ℕ
fill n = 8 * record_length n - (8 + 2 * n)

-- 6 bits of size, 2 bits of mark, which is 00, the 2n places, and zeros up to a whole byte.
unfoldable pub record_bits : ℕ → List ℕ → List ℕ
record_bits n p = bits 6 n ++ (bits 2 0 ++ (p ++ replicate (fill n) 0))

unfoldable pub record_of : ℕ → List ℕ → List ℕ
record_of n p = bytes (record_length n) (record_bits n p)

unfoldable pub size_in : List ℕ → ℕ
size_in r = value (take 6 (bits_of r))

unfoldable pub mark_in : List ℕ → ℕ
mark_in r = value (take 2 (drop 6 (bits_of r)))

unfoldable pub places_in : List ℕ → List ℕ
places_in r = take (2 * size_in r) (drop 8 (bits_of r))

unfoldable pub fill_in : List ℕ → List ℕ
fill_in r = drop (8 + 2 * size_in r) (bits_of r)
