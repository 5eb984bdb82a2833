-- What the loops of a check look for.
--     first_fault i d f     the first of the d numbers from i on at which the test f fails; i + d where it passes at all of them
--     fits F n p i          entry i, and the entries up to it, can be those of a shape of size n in the form F
-- Assumes nothing.
use Rattle.std.specs.Prelude.{Bool, cond, ◌&&◌, List, ℕ, zero, suc}
use Rattle.shape.specs.Form.{Form}

unfoldable pub first_fault : ℕ → ℕ → (ℕ → Bool) → ℕ
first_fault i zero f = i
first_fault i (suc d) f = cond (f i) (first_fault (suc i) d f) i

abbrev pub fits : Form → ℕ → List ℕ → ℕ → Bool
fits F n p i = F.entry_test n p i && F.shape_test n p i
