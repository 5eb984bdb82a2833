-- `natural::forms::permutation_of` meets its contract: the invariant at the start and after a turn, and that what a turn writes fits an entry.
-- Assumes nothing.
use Rattle.std.proofs.Common.{rules}
use Rattle.natural.proofs.Labels.{labelling_begin, labelling_place, written_fits}
use Rattle.natural.proofs.forms.permutation_of.Goals as goal

pub loop-place-init : goal.loop-place-init
loop-place-init c =
    rw (c.into_iter-place-iterator.ensures.into_iter_gives, c.rev-place-items.ensures.source, c.iter.ensures.rest)
    (search (rules, labelling_begin))

pub overflow_cast-entries : goal.overflow_cast-entries
overflow_cast-entries c =
    written_fits _ _ c.requires.1 _ _ _ _ c.loop-place.invariant _ _ c.in-Some.ensures.steps c.requires.0 (search rules)

pub loop-place-preserved : goal.loop-place-preserved
loop-place-preserved c = labelling_place _ _ c.requires.1 _ _ _ _ c.loop-place.invariant _ _ c.in-Some.ensures.steps
