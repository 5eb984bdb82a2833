-- `natural::steps::put_parts` meets its contract: its return.
-- Assumes nothing.
use Rattle.natural.proofs.Ends.{way}
use Rattle.natural.proofs.Moves.{steps, parts_put}
use Rattle.natural.proofs.steps.put_parts.Goals as goal

pub returns : goal.returns
returns g c = search (parts_put (steps (way g.row.ON)))
