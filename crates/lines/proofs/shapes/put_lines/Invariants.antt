-- `lines::shapes::put_lines`: the lines of the shapes before this one are put, and this one is held in both forms, with its depths, its
-- number's text and its change.
-- Assumes nothing.
use Rattle.std.proofs.Common.{◌-◌}
use Rattle.lines.proofs.Walking.{Holds, Put}
use Rattle.lines.proofs.shapes.put_lines.Given as goal

abbrev pub invariant-loop-out : goal.invariant-loop-out
invariant-loop-out l =
    record {
      put : Put l.fn.run.size l.fn.run.next l.fn.run.end l.fn.run.figure l.fn.out l.out l.figure l.next l.at;
      held : Holds l.fn.run.size l.fn.run.end l.places l.entries l.depths l.digits l.width l.change l.next;
    }

abbrev pub decreases-loop-out : goal.decreases-loop-out
decreases-loop-out l = l.fn.run.end - l.next
