-- The working suffix of a tree permutation: what the step to the next one changes.
--     working_suffix p    the entries from the last one on whose next label stands behind it; none where there is no such entry
--     suffix_start p      the place at which they begin
--     Renewed p q         q is p with its working suffix made anew
-- Assumes nothing.
use Rattle.std.specs.Prelude.{◌≡◌, cond, List, [], ◌∷◌, ℕ, suc, ◌-◌, ◌<◌, eqb, length, get_or, take, drop}
use Rattle.shape.specs.Every.{Pairs}
use Rattle.shape.specs.Form.{count}

-- the first list, or the second one where the first is empty
abbrev pub or_else : List ℕ → List ℕ → List ℕ
or_else [] q = q
or_else (x ∷ p) q = x ∷ p

-- 004, section 3, step 1.
unfoldable pub working_suffix : List ℕ → List ℕ
working_suffix [] = []
working_suffix (x ∷ p) = or_else (working_suffix p) (cond (eqb (count (suc x) p) 0) [] (x ∷ p))

unfoldable pub suffix_start : List ℕ → ℕ
suffix_start p = length p - length (working_suffix p)

pub record Renewed (p q : List ℕ) : Type 0 where
  -- 004, section 1: the entries before it stay
  pub kept : take (suffix_start p) q ≡ take (suffix_start p) p
  -- 004, lemma 5: its first entry rises by one
  pub raised : get_or q (suffix_start p) 0 ≡ suc (get_or p (suffix_start p) 0)
  -- 004, section 3, step 2: those behind it rise one after the other
  pub sorted : Pairs ◌<◌ (drop (suc (suffix_start p)) q)
