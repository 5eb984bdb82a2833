-- `natural::number` meets its contract. The measure is how many entries the part has.
-- Assumes nothing.
use Rattle.std.proofs.Common.{length}
use Rattle.natural.proofs.+number.Given as goal

abbrev pub decreases-number : goal.decreases-number
decreases-number l = length l.entries.now
