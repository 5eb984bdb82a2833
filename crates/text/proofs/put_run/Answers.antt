-- `text::put_run`: there is room for each number, and the four fields are the line.
-- Assumes nothing.
use Rattle.std.proofs.Common.{refl, arith, rules}
use Rattle.text.proofs.Lines.{first_within, end_within, run_put}
use Rattle.text.proofs.put_run.Goals as goal

pub number-requires-2 : goal.number-requires-2
number-requires-2 c =
    first_within _ _ refl c.requires _ c.ranges.size _ c.ranges.first _ c.number.ensures _ c.ranges.end c.text.ensures

pub number-requires-3 : goal.number-requires-3
number-requires-3 c =
    end_within _ _ refl c.requires _ c.ranges.size _ c.ranges.first _ c.number.ensures _ c.ranges.end c.text.ensures _ c.number-2.ensures

pub returns : goal.returns
returns c =
    let line = run_put _ _ refl c.requires _ c.ranges.size _ c.ranges.first _ c.number.ensures _ c.ranges.end c.text.ensures
    _ c.number-2.ensures _ c.number-3.ensures in
    record { value = omega (arith, line.0); out_after = search (rules, line) }
