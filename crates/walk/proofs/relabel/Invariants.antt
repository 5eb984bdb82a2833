-- `walk::relabel`: the labels before the place are changed.
-- Assumes nothing.
use Rattle.std.proofs.Common.{◌≡◌, ◌++◌, map, take, drop}
use Rattle.walk.specs.Labels.{relabelled}
use Rattle.walk.proofs.relabel.Given as goal

abbrev pub invariant-loop-label : goal.invariant-loop-label
invariant-loop-label l = l.nodes ≡ map (relabelled l.kept l.others) (take l.label-index l.fn.nodes) ++ drop l.label-index l.fn.nodes
