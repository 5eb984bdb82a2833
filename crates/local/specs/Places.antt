-- What the loops over a pattern's places find and leave.
--     block_start x p i      where the block of x that ends before place i of p begins: 001, section 3
--     pairs_start p i        where the places 1, 0, 1, 0, .. that end before place i begin
--     every_second x p       p with x at its first place, its third, and so on
--     next_change, next_pattern           one step on, with its change; 0, and the pattern as it is, for the last
--     previous_change, previous_pattern   one step back, with the change that it takes back; 0, and the pattern as it is, for the first
--     end_numbered a b k p   p with its last places by their number: a word of a ones and b zeros
--     moved_pattern          a move by a distance; the pattern as it is where that leads past an end
--     nonzero k              a step's change as an answer: none where k is 0, which no change is
-- Assumes nothing.
use Rattle.std.specs.Prelude.{Option, Some, None, ℕ, zero, suc, ◌+◌, ◌-◌, cond, List, [], ◌∷◌, ◌++◌, length, take, ℤ, ◌==◌, nat_lt, slice_index}
use Rattle.catalan.specs.Count.{C}
use Rattle.shape.specs.Number.{local_number, local_places, change}
use Rattle.shape.specs.Numbering.{local, next, previous}
use Rattle.shape.specs.Move.{reaches, moved}

unfoldable pub block_start : ℕ → List ℕ → ℕ → ℕ
block_start x p zero = 0
block_start x p (suc i) = cond (slice_index p i == x) (block_start x p i) (suc i)

unfoldable pub pairs_start : List ℕ → ℕ → ℕ
pairs_start p zero = 0
pairs_start p (suc zero) = 1
pairs_start p (suc (suc i)) = cond (slice_index p i == 1) (pairs_start p i) (suc (suc i))

unfoldable pub every_second : ℕ → List ℕ → List ℕ
every_second x [] = []
every_second x (y ∷ []) = x ∷ []
every_second x (y ∷ z ∷ p) = x ∷ z ∷ every_second x p

-- 01, Change, run, figure: a successor answers the change of the new pattern. No change is 0.
unfoldable pub next_change : ℕ → List ℕ → ℕ
next_change n p = cond (nat_lt (local_number p + 1) (C n)) (change n (local_number p + 1)) 0

unfoldable pub next_pattern : ℕ → List ℕ → List ℕ
next_pattern n p = cond (nat_lt (local_number p + 1) (C n)) (next (local n) p) p

-- A predecessor answers the change of the old pattern.
unfoldable pub previous_change : ℕ → List ℕ → ℕ
previous_change n p = cond (nat_lt 0 (local_number p)) (change n (local_number p)) 0

unfoldable pub previous_pattern : ℕ → List ℕ → List ℕ
previous_pattern n p = cond (nat_lt 0 (local_number p)) (previous (local n) p) p

abbrev pub nonzero : ℕ → Option ℕ
nonzero zero = None
nonzero (suc k) = Some (suc k)

-- The last places, a ones and b zeros, worked out from the number k; those before them stay.
unfoldable pub end_numbered : ℕ → ℕ → ℕ → List ℕ → List ℕ
end_numbered a b k p = take (length p - (a + b)) p ++ local_places (a + b) a b k

-- 02, T-01: the shape at a distance, and the pattern as it is where there is none.
unfoldable pub moved_pattern : ℕ → ℤ → List ℕ → List ℕ
moved_pattern n d p = cond (reaches (local n) d p) (moved (local n) d p) p
