-- `walk::relabel`: one label more.
-- Assumes nothing.
use Rattle.std.proofs.Common.{◌<◌, length, sym, arith}
use Rattle.std.proofs.lemmas.Grind.{get_or_default_zero}
use Rattle.std.proofs.lemmas.List.Edits.{map_over_more}
use Rattle.walk.specs.Labels.{relabelled}
use Rattle.walk.proofs.relabel.Goals as goal

pub loop-label-preserved : goal.loop-label-preserved
loop-label-preserved c =
    let on : c.loop-label.label-index < length c.loop-label.nodes = omega arith in
    let here = get_or_default_zero c.loop-label.nodes c.loop-label.label-index _ on in
    rw (c.relabelled.ensures)
    (map_over_more (relabelled c.args.kept c.args.others) _ _ _ _ c.loop-label-test.true c.loop-label.invariant (sym here))
