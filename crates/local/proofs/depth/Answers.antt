-- The goals of `local::depth` that want more than its attribute gives.
-- Assumes nothing.
use Rattle.std.proofs.Common.{rules}
use Rattle.local.proofs.Walks.{climbed_next}
use Rattle.local.proofs.depth.Goals as goal

pub loop-k-preserved : goal.loop-k-preserved
loop-k-preserved c =
    climbed_next _ _ _ _ _ _ _ c.requires c.loop-k.invariant c.loop-k-test.true c.from-first.ensures c.from-second.ensures _ (search rules)
