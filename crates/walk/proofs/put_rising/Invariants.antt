-- `walk::put_rising`: before place i stand the entries that stay, and the labels.
-- Assumes nothing.
use Rattle.std.proofs.Common.{◌≡◌, ◌-◌, ◌++◌, take}
use Rattle.walk.specs.Labels.{rising}
use Rattle.walk.proofs.put_rising.Given as goal

abbrev pub invariant-loop-i : goal.invariant-loop-i
invariant-loop-i l = take l.i l.entries ≡ take l.from l.fn.entries ++ rising l.from (l.i - l.from)
