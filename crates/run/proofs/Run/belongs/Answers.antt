-- `run::Run::belongs` at the run's end: all places are 0.
-- Assumes nothing.
use Rattle.std.proofs.Common.{◌≡◌, length, rules}
use Rattle.run.specs.State.{state_places}
use Rattle.run.proofs.Tests.{range_done, belong_end}
use Rattle.run.proofs.Run.belongs.Goals as goal

pub returns-then-self : goal.returns-then-self
returns-then-self c =
    let long : length c.args.self.now.places ≡ state_places = search rules in
    belong_end _ _ _ _ c.range.result c.range.ensures (range_done _ c.if-is_err.ensures.value) long c.if-self.true _ c.clear.ensures
