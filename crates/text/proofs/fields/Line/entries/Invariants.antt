-- `text::fields::Line::entries`: with the entries from this one on still to be put, the same comes out as at the start.
-- Assumes nothing.
use Rattle.std.proofs.Common.{◌≡◌}
use Rattle.text.proofs.Putting.{Entries}
use Rattle.text.proofs.fields.Line.entries.Given as goal

abbrev pub invariant-loop-entry : goal.invariant-loop-entry
invariant-loop-entry l =
    (l.self.out.ghost_name ≡ l.fn.self.out.ghost_name)
    × Entries l.fn.self.out.now l.fn.self.at l.entries l.self.out.now l.self.at l.entry-index
