-- `pattern::faults::contents` where a place is above 1.
-- Assumes nothing.
use borrow.Author.Rules.{rules}
use Rattle.pattern.proofs.Pass.{above_entry}
use Rattle.pattern.proofs.faults.contents.Goals as goal

pub returns-then-first_above-places : goal.returns-then-first_above-places
returns-then-first_above-places c = search (rules, above_entry)
