-- Numbers as bits, and bits as bytes, the most significant first throughout.
--     bits k x         the last k bits of x
--     value l          the number that the bits l write; value_after x l, where x is what the bits before them write
--     bytes k l        k bytes of eight bits each, taken from the front of l
--     bits_of r        the bits of the bytes r, one byte after the other
-- Assumes nothing.
use Rattle.std.specs.Prelude.{List, [], ◌∷◌, ◌++◌, ℕ, zero, suc, ◌+◌, ◌*◌, ◌/◌, ◌%◌, take, drop}

unfoldable pub bits : ℕ → ℕ → List ℕ
bits zero x = []
bits (suc k) x = bits k (x / 2) ++ (x % 2 ∷ [])

unfoldable pub value_after : ℕ → List ℕ → ℕ
value_after x [] = x
value_after x (b ∷ l) = value_after (2 * x + b) l

unfoldable pub value : List ℕ → ℕ
value l = value_after 0 l

unfoldable pub bytes : ℕ → List ℕ → List ℕ
bytes zero l = []
bytes (suc k) l = value (take 8 l) ∷ bytes k (drop 8 l)

unfoldable pub bits_of : List ℕ → List ℕ
bits_of [] = []
bits_of (x ∷ r) = bits 8 x ++ bits_of r
