-- What holds of every entry of a list, and of every two and every three of them in the order in which they stand.
--     All P l, Pairs R l, Triples T l
-- Assumes nothing.
use Rattle.std.specs.Prelude.{List, [], ◌∷◌}

module _ {A : Type 0} where
  abbrev pub All : (A → Type 0) → List A → Type 0
  All P [] = Unit
  All P (x ∷ l) = P x × All P l

  abbrev pub Pairs : (A → A → Type 0) → List A → Type 0
  Pairs R [] = Unit
  Pairs R (x ∷ l) = All (R x) l × Pairs R l

  abbrev pub Triples : (A → A → A → Type 0) → List A → Type 0
  Triples T [] = Unit
  Triples T (x ∷ l) = Pairs (T x) l × Triples T l
