-- The goals of `local::number` that want more than its attribute gives.
-- Assumes nothing.
use Rattle.std.proofs.Common.{rules}
use Rattle.local.proofs.Numbers.{numbering}
use Rattle.local.proofs.number.Goals as goal

pub loop-i-init : goal.loop-i-init
loop-i-init c = search (rules, numbering)

pub loop-i-preserved-then-places-i-eq0 : goal.loop-i-preserved-then-places-i-eq0
loop-i-preserved-then-places-i-eq0 c = search (rules, numbering)

pub overflow_add-number : goal.overflow_add-number
overflow_add-number c = search (rules, numbering)

pub loop-i-preserved : goal.loop-i-preserved
loop-i-preserved c = search (rules, numbering)
