-- `run::Run::places_after`: the places before hold the pattern before.
-- Assumes nothing.
use Rattle.run.proofs.Answers.{before_feasible}
use Rattle.run.proofs.Run.places_after.Goals as goal

pub next-requires : goal.next-requires
next-requires c = before_feasible _ _ c.args.self.end c.requires.2 c.requires.1 _ c.requires.3
