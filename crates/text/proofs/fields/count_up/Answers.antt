-- `text::fields::count_up`: a digit that was a nine.
-- Assumes nothing.
use Rattle.std.proofs.Common.{rules}
use Rattle.text.proofs.Counting.{counts}
use Rattle.text.proofs.fields.count_up.Goals as goal

pub loop-i-preserved : goal.loop-i-preserved
loop-i-preserved c = search (rules, counts)
