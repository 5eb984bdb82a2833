-- The part of a lent slice that crosses: p is what the slice holds, h what the part holds that the call handed back, and r what is told of it.
--     head_told_lem        the head begins where the slice begins, so its length tells all of it
-- Assumes nothing.
use mathlib.Core.Path.{◌≡◌}
use mathlib.Core.List.{List}
use Prim.Native.Nat.{ℕ}
use lib.ListN.{length}
use Rattle.pattern.specs.Calls.{head_part}
use Rattle.exports.specs.declared.patterns.Part.{Part}
use Rattle.exports.specs.Crossing.{from_start, head_told}

pub head_told_lem : (n : ℕ) (p h : List ℕ) (r : Part) → h ≡ head_part n p → r ≡ from_start 0 (length h) → r ≡ head_told n p
unfolding head_told
head_told_lem n p h r e g = rw (← e) g
