-- `text::put_end`: there is room for the figure, and the three fields are the line.
-- Assumes nothing.
use Rattle.std.proofs.Common.{refl, arith, rules}
use Rattle.text.proofs.Lines.{figure_within, end_put}
use Rattle.text.proofs.put_end.Goals as goal

pub number-requires-2 : goal.number-requires-2
number-requires-2 c = figure_within _ _ refl c.requires _ c.ranges.count _ c.ranges.figure _ c.number.ensures c.text.ensures

pub returns : goal.returns
returns c =
    let line = end_put _ _ refl c.requires _ c.ranges.count _ c.ranges.figure _ c.number.ensures c.text.ensures _ c.number-2.ensures in
    record { value = omega (arith, line.0); out_after = search (rules, line) }
