-- `lines::Sheet::refused`: the sheet of a NO line.
-- Assumes nothing.
use Rattle.lines.proofs.Answers.{refusing_made}
use Rattle.lines.proofs.Sheet.refused.Goals as goal

pub returns : goal.returns
returns c = refusing_made _ _ c.number.ensures
