-- `walk::depths`: the depth of no place, and one depth more.
-- Assumes nothing.
use Rattle.std.proofs.Common.{rules}
use Rattle.walk.proofs.Climbs.{climb}
use Rattle.walk.proofs.depths.Goals as goal

pub loop-i-init : goal.loop-i-init
loop-i-init c = search (rules, climb)

pub overflow_add-excess : goal.overflow_add-excess
overflow_add-excess c = search (rules, climb)

pub loop-i-preserved : goal.loop-i-preserved
loop-i-preserved c = search (rules, climb)
