-- `sheet::collect`: before the first piece, and after one more.
-- Assumes nothing.
use Rattle.std.proofs.Common.{rules}
use Rattle.sheet.proofs.Collecting.{collecting}
use Rattle.sheet.proofs.collect.Goals as goal

ruleset turn = (rules, collecting)

pub loop-buffer-init : goal.loop-buffer-init
loop-buffer-init c = search turn

pub overflow_add-at : goal.overflow_add-at
overflow_add-at c = search turn

pub loop-buffer-smaller : goal.loop-buffer-smaller
loop-buffer-smaller c = search turn

pub loop-buffer-preserved : goal.loop-buffer-preserved
loop-buffer-preserved c = search turn
