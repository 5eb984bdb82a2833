-- `lines::Sheet::open`: an input that does not read, a run that is refused, or one that starts.
-- Assumes nothing.
use Rattle.lines.proofs.Answers.{open_unread, open_refused, open_made}
use Rattle.lines.proofs.Sheet.open.Goals as goal

pub returns-in_default : goal.returns-in_default
returns-in_default c = open_unread _ _ c.read.ensures c.in_default.is _ c.refused.ensures

pub returns-in-Err : goal.returns-in-Err
returns-in-Err c =
    open_refused _ _ c.read.ensures _ c.in-Some.is _ c.start-started.ensures.outcome_value _ c.in-Err.is _ c.refused-in-Err.ensures

pub returns-in-Ok : goal.returns-in-Ok
returns-in-Ok c =
    open_made _ _ c.read.ensures _ c.in-Some.is _ c.start-started.ensures.outcome_value c.in-Ok.is _ c.start-started.ensures.run_value
