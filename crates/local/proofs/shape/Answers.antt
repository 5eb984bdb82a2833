-- The goals of `local::shape` that want more than its attribute gives.
-- Assumes nothing.
use Rattle.std.proofs.Common.{rules}
use Rattle.local.proofs.Numbers.{shaping}
use Rattle.local.proofs.shape.Goals as goal

pub put_numbered-requires-clause-number_bound : goal.put_numbered-requires-clause-number_bound
put_numbered-requires-clause-number_bound c = search (rules, shaping)

pub returns : goal.returns
returns c = search (rules, shaping)
