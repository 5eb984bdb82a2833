-- `run::state::numbered`: places that are refused are not the pattern.
-- Assumes nothing.
use Rattle.run.proofs.Tests.{number_other}
use Rattle.run.proofs.state.numbered.Goals as goal

pub returns-in-Err : goal.returns-in-Err
returns-in-Err c = number_other _ _ c.requires.0 c.requires.1 _ _ c.number.ensures _ c.in-Err.is
