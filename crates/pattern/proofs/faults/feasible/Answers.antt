-- `pattern::faults::feasible` meets its contract: the invariant at the start and after a turn.
-- Assumes nothing.
use Rattle.std.proofs.Common.{rules}
use Rattle.pattern.proofs.Pass.{counting}
use Rattle.pattern.proofs.faults.feasible.Goals as goal

pub loop-k-init : goal.loop-k-init
loop-k-init c = search (rules, counting)

pub loop-k-preserved : goal.loop-k-preserved
loop-k-preserved c = search (rules, counting)
