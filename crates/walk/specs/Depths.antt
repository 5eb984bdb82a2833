-- The depth of each part of a pattern that begins at its first place.
--     depths_of p    for each i from 0 up to as many places as there are, the depth of the first i: one number more than p has places
-- Assumes nothing.
use Rattle.std.specs.Prelude.{List, map, ℕ, suc, length, take}
use Rattle.shape.specs.Number.{depth}
use Rattle.shape.specs.Numbering.{numbers_from}

unfoldable pub depths_of : List ℕ → List ℕ
depths_of p = map (λ i. depth (take i p)) (numbers_from 0 (suc (length p)))
