-- `natural::forms::permutation_of` meets its contract. The invariant: all places are read but those that the iterator has left, the entries
-- from k on are complete, and as many labels as `waiting` says wait at the front.
-- Assumes nothing.
use Rattle.std.specs.Iterator.Adapters.{rev_source}
use Rattle.std.specs.Slice.Iter.{iter_rest}
use Rattle.natural.proofs.Labels.{Labelling}
use Rattle.natural.proofs.forms.permutation_of.Given as goal

abbrev pub invariant-loop-place : goal.invariant-loop-place
invariant-loop-place l = Labelling l.size l.places l.entries l.waiting l.k (iter_rest (rev_source l.place-iterator))
