-- `natural::shape` meets its contract: what is reckoned of the two parts, the invariant after a turn, and the return.
-- Assumes nothing.
use Rattle.std.proofs.Common.{arith, length, rules}
use Rattle.shape.specs.Tree.{permutation_from}
use Rattle.shape.specs.Number.{natural_tree}
use Rattle.natural.proofs.Shapes.{Next, next, shaping_all, shaped}
use Rattle.natural.proofs.shape.Goals as goal
use Rattle.natural.proofs.shape.Goals.{After-or-part, then-part-catalans, else-part-catalans+then-right-eq0, else-part-catalans+else-right-eq0}

ruleset turn = (rules, shaped)

-- the part that is taken up, of which an entry is written
taken_up : (c : After-or-part)
    → Next (permutation_from 0 (natural_tree (length c.args.entries.now) c.args.number)) c.loop-i.entries c.loop-i.waiting c.loop-i.i c.or-part.result
taken_up c = next _ _ _ _ _ c.loop-i.invariant (omega arith) _ c.or-part.ensures.some c.or-part.ensures.none

pub overflow_sub-right : goal.overflow_sub-right
overflow_sub-right c = let m = taken_up (goal.at.overflow_sub-right c).After-or-part in search turn

pub overflow_cast-root : goal.overflow_cast-root
overflow_cast-root c = let m = taken_up (goal.at.overflow_cast-root c).After-or-part in search turn

pub overflow_add-root : goal.overflow_add-root
overflow_add-root c = let m = taken_up (goal.at.overflow_add-root c).After-or-part in search turn

pub overflow_add-root-else-part-catalans : goal.overflow_add-root-else-part-catalans
overflow_add-root-else-part-catalans c = let m = taken_up (goal.at.overflow_add-root-else-part-catalans c).After-or-part in search turn

pub overflow_cast-entries-else-part-catalans : goal.overflow_cast-entries-else-part-catalans
overflow_cast-entries-else-part-catalans c = let m = taken_up (goal.at.overflow_cast-entries-else-part-catalans c).After-or-part in search turn

pub overflow_cast-part-else-part-catalans : goal.overflow_cast-part-else-part-catalans
overflow_cast-part-else-part-catalans c = let m = taken_up (goal.at.overflow_cast-part-else-part-catalans c).After-or-part in search turn

pub nonzero_rem-waiting : goal.nonzero_rem-waiting
nonzero_rem-waiting c = let m = taken_up (goal.at.nonzero_rem-waiting c).After-or-part in search turn

pub nonzero_div-part : goal.nonzero_div-part
nonzero_div-part c = let m = taken_up (goal.at.nonzero_div-part c).After-or-part in search turn

pub loop-i-preserved : goal.loop-i-preserved
loop-i-preserved c =
    elim c.if-part-catalans.branch [
      | then-part-catalans w ↦ rw (w.entries-is, w.waiting-is, w.part-is) (search turn)
      | else-part-catalans+then-right-eq0 w ↦ rw (w.entries-is, w.waiting-is, w.part-is) (search turn)
      | else-part-catalans+else-right-eq0 w ↦ rw (w.entries-is, w.waiting-is, w.part-is) (search turn)
    ]

pub returns : goal.returns
returns c = shaping_all _ _ _ _ _ c.loop-i.invariant (omega arith)
