-- `text::fields::count_up`: the digits from i on were nines, and those before them are still to be counted up.
-- Assumes nothing.
use Rattle.text.proofs.Counting.{Carried}
use Rattle.text.proofs.fields.count_up.Given as goal

abbrev pub invariant-loop-i : goal.invariant-loop-i
invariant-loop-i l = Carried l.fn.digits l.width l.digits l.i
