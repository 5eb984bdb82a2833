-- The loop of `local::steps::block_start`: the block that ends at i begins where the one that ends at `end` does.
-- Assumes nothing.
use Rattle.std.proofs.Common.{◌≡◌}
use Rattle.local.specs.Places.{block_start}
use Rattle.local.proofs.steps.block_start.Given as goal

abbrev pub invariant-loop-i : goal.invariant-loop-i
invariant-loop-i l = block_start l.place l.places l.end ≡ block_start l.place l.places l.i
