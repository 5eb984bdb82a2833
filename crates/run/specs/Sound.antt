-- Which states of a run keep the rules: 01, Change, run, figure.
--     Sound s       the parts of the state s belong together; of its figure nothing is asked
-- Assumes nothing.
use Rattle.std.specs.Prelude.{◌≡◌, ℕ, ◌*◌, ◌≤◌, ◌<◌, length, get_or, take}
use Rattle.catalan.specs.Count.{C}
use Rattle.shape.specs.Number.{local_pattern}
use Rattle.shape.specs.Check.{Sized}
use Rattle.run.specs.declared.Run.{Run}

pub record Sound (s : Run) : Type 0 where
  pub sized : Sized s.size
  -- always next <= end <= C(n)
  pub ordered : s.next ≤ s.end
  pub within : s.end ≤ C s.size
  -- seventy places, whatever the size
  pub long : length s.places ≡ 70
  -- when next < end the first 2n places are the pattern numbered next, and all other places are 0
  pub pattern : s.next < s.end → take (2 * s.size) s.places ≡ local_pattern s.size s.next
  pub others : s.next < s.end → (i : ℕ) → 2 * s.size ≤ i → get_or s.places i 0 ≡ 0
  -- when next = end all are 0
  pub ended : s.next ≡ s.end → (i : ℕ) → get_or s.places i 0 ≡ 0
