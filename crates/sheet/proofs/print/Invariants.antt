-- `sheet::print` ends: fewer lines are left after each batch.
-- Assumes nothing.
use Rattle.lines.specs.Handing.{lines_left}
use Rattle.sheet.proofs.print.Given as goal

abbrev pub decreases-loop-buffer : goal.decreases-loop-buffer
decreases-loop-buffer l = lines_left l.left
