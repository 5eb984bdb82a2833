-- `record::packing::unpack`: the places before i are those of the record.
-- Assumes nothing.
use Rattle.std.proofs.Common.{◌≡◌, length, take, drop}
use Rattle.record.specs.Bits.{bits_of}
use Rattle.record.proofs.packing.unpack.Given as goal

abbrev pub invariant-loop-i : goal.invariant-loop-i
invariant-loop-i l = take l.i l.places ≡ take l.i (take (length l.fn.places) (drop 8 (bits_of l.bytes)))
