-- `natural::shape` meets its contract. The invariant: the entries before i are written, and after them come the part that is being written and
-- those that wait.
-- Assumes nothing.
use Rattle.std.proofs.Common.{length}
use Rattle.shape.specs.Tree.{permutation_from}
use Rattle.shape.specs.Number.{natural_tree}
use Rattle.natural.proofs.Shapes.{Shaping}
use Rattle.natural.proofs.shape.Given as goal

abbrev pub invariant-loop-i : goal.invariant-loop-i
invariant-loop-i l = Shaping (permutation_from 0 (natural_tree (length l.fn.entries) l.number)) l.entries l.waiting l.i l.part
