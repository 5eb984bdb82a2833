-- `walk::deepen`: behind those that stay, the depths before place i are the one number.
-- Assumes nothing.
use Rattle.std.proofs.Common.{◌≡◌, ◌-◌, ◌++◌, take, replicate}
use Rattle.walk.proofs.deepen.Given as goal

abbrev pub invariant-loop-i : goal.invariant-loop-i
invariant-loop-i l = take l.i l.depths ≡ take l.from l.fn.depths ++ replicate (l.i - l.from) l.depth
