-- The loop of `local::steps::put_pairs`: what is to be put from i on makes of the places what it was to make at first.
-- Assumes nothing.
use Rattle.std.proofs.Common.{◌≡◌, ◌-◌, length}
use Rattle.local.proofs.Blocks.{seconds}
use Rattle.local.proofs.steps.put_pairs.Given as goal

abbrev pub invariant-loop-i : goal.invariant-loop-i
invariant-loop-i l = seconds l.place l.i l.places ≡ seconds l.place l.from l.initial.places

abbrev pub decreases-loop-i : goal.decreases-loop-i
decreases-loop-i l = length l.initial.places - l.i
