-- `run::state::clear`: the places from the first one asked for on and before i are added up.
-- Assumes nothing.
use Rattle.run.proofs.Tests.{Summed}
use Rattle.run.proofs.state.clear.Given as goal

abbrev pub invariant-loop-i : goal.invariant-loop-i
invariant-loop-i l = Summed l.places l.from l.sum l.i
