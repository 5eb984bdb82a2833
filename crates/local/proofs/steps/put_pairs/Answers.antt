-- The goals of `local::steps::put_pairs` that want more than its attribute gives.
-- Assumes nothing.
use Rattle.std.proofs.Common.{rules}
use Rattle.local.proofs.Blocks.{seconds_put}
use Rattle.local.proofs.steps.put_pairs.Goals as goal

pub returns : goal.returns
returns c = search (rules, seconds_put)
