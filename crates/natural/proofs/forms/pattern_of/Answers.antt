-- `natural::forms::pattern_of` meets its contract: the invariant at the start and after a turn.
-- Assumes nothing.
use Rattle.std.proofs.Common.{rules}
use Rattle.natural.proofs.Zeros.{writing}
use Rattle.natural.proofs.forms.pattern_of.Goals as goal

pub loop-i-init : goal.loop-i-init
loop-i-init c = search (rules, writing)

pub loop-i-preserved : goal.loop-i-preserved
loop-i-preserved c = search (rules, writing)
