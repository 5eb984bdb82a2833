-- The goals of `local::head_length` that want more than its attribute gives.
-- Assumes nothing.
use Rattle.std.proofs.Common.{rules}
use Rattle.local.proofs.Walks.{heading}
use Rattle.local.proofs.head_length.Goals as goal

pub loop-open-init : goal.loop-open-init
loop-open-init c = search (rules, heading)

pub loop-open-preserved : goal.loop-open-preserved
loop-open-preserved c = search (rules, heading)
