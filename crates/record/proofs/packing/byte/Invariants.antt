-- `record::packing::byte`: the places so far are read.
-- Assumes nothing.
use Rattle.std.proofs.Common.{◌≡◌, take}
use Rattle.record.specs.Bits.{value}
use Rattle.record.proofs.packing.byte.Given as goal

abbrev pub invariant-loop-place : goal.invariant-loop-place
invariant-loop-place l = l.byte ≡ value (take l.place-index l.places)
