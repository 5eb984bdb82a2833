-- `run::state::clear`: the sum is 0 exactly where every place that was added is.
-- Assumes nothing.
use Rattle.std.proofs.Common.{arith}
use Rattle.run.proofs.Tests.{summed_all}
use Rattle.run.proofs.state.clear.Goals as goal

pub returns : goal.returns
returns c = summed_all _ _ _ _ c.loop-i.invariant (omega arith)
