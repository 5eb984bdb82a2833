-- `run::Run::step`: a refused state stays, and so does one at its end; any other hands out its pattern and moves on.
-- Assumes nothing.
use Rattle.run.proofs.Answers.{steps, stays_answers, figure_refused, handed_answers}
use Rattle.run.proofs.Run.step.Goals as goal

pub returns-then-not-belongs : goal.returns-then-not-belongs
returns-then-not-belongs c = stays_answers _ _ _ tt c.stays.ensures (search steps)

pub returns-then-self : goal.returns-then-self
returns-then-self c = stays_answers _ _ _ tt c.stays-then-self.ensures (search steps)

pub returns-then-self-change : goal.returns-then-self-change
returns-then-self-change c =
    stays_answers _ _ _ tt c.stays-then-self-change.ensures (
    figure_refused _ _ c.belongs.ensures (search steps) (search steps) _ c.change-change.ensures (search steps)
    )

pub returns : goal.returns
returns c =
    handed_answers _ _ c.belongs.ensures (search steps) (search steps) _ c.change-change.ensures (search steps) _ c.places_after-after.ensures

pub change-change-requires : goal.change-change-requires
change-change-requires c = search steps
