-- `lines::can_go_on` where a step of the run is refused.
-- Assumes nothing.
use Rattle.lines.proofs.Tests.{goes_refused}
use Rattle.lines.proofs.can_go_on.Goals as goal

pub returns-in-Refused : goal.returns-in-Refused
returns-in-Refused c = goes_refused _ _ c.step.ensures.progress_value _ c.in-Refused.is
