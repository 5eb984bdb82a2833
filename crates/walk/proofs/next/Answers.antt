-- `walk::next`: there are as many entries as nodes before the block, and what is written leaves as many as there were.
-- Assumes nothing.
use Rattle.std.proofs.Common.{length-set, arith}
use Rattle.std.proofs.lemmas.Grind.{common_steps}
use Rattle.walk.proofs.Steps.{steps}
use Rattle.walk.proofs.next.Goals as goal

pub slice_bounds-relabel-end-2 : goal.slice_bounds-relabel-end-2
slice_bounds-relabel-end-2 c = grind (arith, common_steps, steps)

pub put_rising-requires-clause-from_in_bounds : goal.put_rising-requires-clause-from_in_bounds
put_rising-requires-clause-from_in_bounds c = simp length-set (grind (arith, steps))

pub put_rising-requires-clause-length_le_largest_size : goal.put_rising-requires-clause-length_le_largest_size
put_rising-requires-clause-length_le_largest_size c = simp length-set (grind (arith, steps))
