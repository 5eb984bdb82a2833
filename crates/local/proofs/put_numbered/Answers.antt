-- The goals of `local::put_numbered` that want more than its attribute gives.
-- Assumes nothing.
use Rattle.std.proofs.Common.{rules}
use Rattle.local.proofs.Numbers.{placing, placing_all}
use Rattle.local.proofs.put_numbered.Goals as goal

pub loop-ones-preserved-then-number-ways : goal.loop-ones-preserved-then-number-ways
loop-ones-preserved-then-number-ways c = search (rules, placing)

pub loop-ones-preserved : goal.loop-ones-preserved
loop-ones-preserved c = search (rules, placing)

pub returns : goal.returns
returns c =
    let i = c.loop-ones.invariant in
    placing_all _ _ _ _ _ _ i.0 i.3 c.fill.new.self c.loop-ones-test.false (search rules)
