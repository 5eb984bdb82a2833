-- `natural::steps::put_end` meets its contract: the invariant at the start and after a turn, and the return.
-- Assumes nothing.
use Rattle.std.proofs.Common.{arith}
use Rattle.natural.proofs.Ends.{way, putting_begin, putting_first, putting_last, putting_end}
use Rattle.natural.proofs.steps.put_end.Goals as goal
use Rattle.natural.proofs.steps.put_end.Goals.{then-this-ne0, else-this-ne0}

pub loop-i-init : goal.loop-i-init
loop-i-init g c = search putting_begin

pub loop-i-preserved : goal.loop-i-preserved
loop-i-preserved g c =
    elim c.if-this-ne0.branch [
      | then-this-ne0 w ↦ rw w.entries-is (putting_first _ _ _ _ _ g.row.ON c.loop-i.invariant w.if-this-ne0.true (omega arith))
      | else-this-ne0 w ↦ rw w.entries-is (putting_last _ _ _ _ _ g.row.ON c.loop-i.invariant w.if-this-ne0.false (omega arith))
    ]

pub returns : goal.returns
returns g c = putting_end _ _ _ _ _ (way g.row.ON) c.loop-i.invariant (omega arith)
