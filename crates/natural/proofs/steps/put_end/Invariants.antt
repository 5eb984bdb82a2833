-- `natural::steps::put_end` meets its contract. The invariant: with the labels from i on still to be written, the same comes out as at the
-- start.
-- Assumes nothing.
use Rattle.std.proofs.Common.{length}
use Rattle.shape.specs.Tree.{permutation_from}
use Rattle.natural.specs.Parts.{end_tree}
use Rattle.natural.proofs.Ends.{way, Putting}
use Rattle.natural.proofs.steps.put_end.Given as goal

abbrev pub invariant-loop-i : goal.invariant-loop-i
invariant-loop-i g l =
    let n = length l.fn.entries in
    Putting (way g.row.ON) l.base n l.i l.entries (permutation_from l.base (end_tree (way g.row.ON) n))
