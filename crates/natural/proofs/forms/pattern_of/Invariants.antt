-- `natural::forms::pattern_of` meets its contract. The invariant: the places from i on are written, for the entries from k on and for the
-- labels above `label`.
-- Assumes nothing.
use Rattle.natural.proofs.Zeros.{Writing}
use Rattle.natural.proofs.forms.pattern_of.Given as goal

abbrev pub invariant-loop-i : goal.invariant-loop-i
invariant-loop-i l = Writing l.size l.entries l.places l.label l.k l.i
