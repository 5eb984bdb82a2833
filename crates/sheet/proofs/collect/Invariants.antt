-- `sheet::collect`: what has been collected so far. The measure is the lines that are left.
-- Assumes nothing.
use Rattle.lines.specs.Handing.{lines_left}
use Rattle.sheet.proofs.Collecting.{Collected}
use Rattle.sheet.proofs.collect.Given as goal

abbrev pub invariant-loop-buffer : goal.invariant-loop-buffer
invariant-loop-buffer l = Collected l.initial.left l.fn.buffer l.buffer l.left l.at

abbrev pub decreases-loop-buffer : goal.decreases-loop-buffer
decreases-loop-buffer l = lines_left l.left
