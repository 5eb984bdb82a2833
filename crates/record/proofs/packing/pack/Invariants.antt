-- `record::packing::pack`: the first byte and the i after it are those of the record.
-- Assumes nothing.
use Rattle.std.proofs.Common.{◌≡◌, ◌+◌, length, take}
use Rattle.shape.specs.Check.{record_length}
use Rattle.record.specs.Record.{record_of}
use Rattle.record.proofs.packing.pack.Given as goal

abbrev pub invariant-loop-i : goal.invariant-loop-i
invariant-loop-i l =
    (length l.bytes ≡ record_length l.size)
    × (take (l.i + 1) l.bytes ≡ take (l.i + 1) (record_of l.size l.places))
