-- `permutation::faults::is_permutation` meets its contract: the invariant at the start and after a turn.
-- Assumes nothing.
use Rattle.std.proofs.Common.{arith, rules}
use Rattle.permutation.proofs.Searches.{passed_next, passing}
use Rattle.permutation.proofs.faults.is_permutation.Goals as goal

pub loop-entry-init : goal.loop-entry-init
loop-entry-init c = search (rules, passing)

pub loop-entry-preserved : goal.loop-entry-preserved
loop-entry-preserved c =
    let (below, last) = c.last_below-below.ensures in
    passed_next _ _ _ _ _ c.loop-entry.invariant c.requires.1 (omega arith) c.if-entry-eq0.false c.if-entry-size.false c.if-above-entry-ne0.false
    c.requires.0 _ below last c.if-entry-closed.false
