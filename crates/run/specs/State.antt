-- What a run's state holds: 01, Change, run, figure.
--     state_places         as many places as a state has, whatever the size
--     no_places, padded    all of them 0; those of a pattern, and 0 behind it
--     places_at            those of the state whose next shape has the number k
--     same                 whether two lists are the same
--     in_range             whether a state may stand at k on its way to the end
--     belong               whether the parts of a state belong together; the figure is taken on trust
-- Assumes nothing.
use Rattle.std.specs.Prelude.{Bool, true, false, cond, ◌&&◌, List, [], ◌∷◌, ◌++◌, ℕ, ◌-◌, leb, ltb, eqb, length, replicate}
use Rattle.catalan.specs.Count.{C}
use Rattle.shape.specs.Number.{local_pattern}
use Rattle.shape.specs.Check.{sized}

abbrev pub state_places : ℕ
state_places = 70

abbrev pub no_places : List ℕ
no_places = replicate state_places 0

unfoldable pub padded : List ℕ → List ℕ
padded p = p ++ replicate (state_places - length p) 0

-- Before the end the first 2n places are the pattern numbered k and the others are 0; at the end all are 0.
unfoldable pub places_at : ℕ → ℕ → ℕ → List ℕ
places_at n k end = cond (ltb k end) (padded (local_pattern n k)) no_places

unfoldable pub same : List ℕ → List ℕ → Bool
same [] [] = true
same [] (y ∷ q) = false
same (x ∷ p) [] = false
same (x ∷ p) (y ∷ q) = eqb x y && same p q

-- Always k <= end <= C(n).
abbrev pub in_range : ℕ → ℕ → ℕ → Bool
in_range n k end = leb k end && leb end (C n)

unfoldable pub belong : ℕ → ℕ → ℕ → List ℕ → Bool
belong n k end places = sized n && (in_range n k end && same places (places_at n k end))
