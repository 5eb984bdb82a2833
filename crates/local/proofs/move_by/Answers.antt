-- The goals of `local::move_by` that want more than its attribute gives.
-- Assumes nothing.
use Rattle.std.proofs.Common.{rules}
use Rattle.local.proofs.Targets.{moving}
use Rattle.local.proofs.move_by.Goals as goal

pub loop-row-init : goal.loop-row-init
loop-row-init c = search (rules, moving)

pub returns-then-start-eq0-clause-value : goal.returns-then-start-eq0-clause-value
returns-then-start-eq0-clause-value c = search (rules, moving)

pub returns-then-start-eq0-clause-places_after : goal.returns-then-start-eq0-clause-places_after
returns-then-start-eq0-clause-places_after c = search (rules, moving)

pub grow-requires : goal.grow-requires
grow-requires c = search (rules, moving)

pub bounds-row-ones-else-places-start-eq0 : goal.bounds-row-ones-else-places-start-eq0
bounds-row-ones-else-places-start-eq0 c = search (rules, moving)

pub overflow_sub-target : goal.overflow_sub-target
overflow_sub-target c = search (rules, moving)

pub put_numbered-requires-clause-number_bound : goal.put_numbered-requires-clause-number_bound
put_numbered-requires-clause-number_bound c = search (rules, moving)

pub returns-clause-value : goal.returns-clause-value
returns-clause-value c = search (rules, moving)

pub returns-clause-places_after : goal.returns-clause-places_after
returns-clause-places_after c = search (rules, moving)
