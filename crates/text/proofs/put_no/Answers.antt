-- `text::put_no`: its two fields are the line.
-- Assumes nothing.
use Rattle.std.proofs.Common.{refl, arith, rules}
use Rattle.text.proofs.Lines.{no_put}
use Rattle.text.proofs.put_no.Goals as goal

pub returns : goal.returns
returns c =
    let line = no_put _ _ refl c.requires _ c.ranges.refusal c.text.ensures _ c.number.ensures in
    record { value = omega (arith, line.0); out_after = search (rules, line) }
