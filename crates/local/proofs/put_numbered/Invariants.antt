-- The loop of `local::put_numbered`: the places before the last ones and zeros are written, the others are worked out from what is left of
-- the number, and the row is that of the zeros after the next.
-- Assumes nothing.
use Rattle.std.proofs.Common.{◌≡◌, ◌+◌, ◌-◌, length}
use Rattle.catalan.specs.Table.{row_of}
use Rattle.local.specs.Places.{end_numbered}
use Rattle.local.proofs.Numbers.{Placing}
use Rattle.local.proofs.put_numbered.Given as goal

abbrev pub invariant-loop-ones : goal.invariant-loop-ones
invariant-loop-ones l =
    (l.end ≡ length l.places)
    × (length l.row ≡ 36)
    × (l.row ≡ row_of (l.zeros - 1))
    × Placing (end_numbered l.initial.ones l.initial.zeros l.initial.number l.initial.places) l.places (l.end - l.ones - l.zeros) l.number l.ones l.zeros

abbrev pub decreases-loop-ones : goal.decreases-loop-ones
decreases-loop-ones l = l.ones + l.zeros
