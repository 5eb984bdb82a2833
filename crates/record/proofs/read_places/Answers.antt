-- `record::read_places`: the places are there to be unpacked; what is unpacked may be no pattern.
-- Assumes nothing.
use Rattle.record.proofs.Answers.{room_unpacked, shape_said, shape_kept}
use Rattle.record.proofs.read_places.Goals as goal

pub unpack-requires : goal.unpack-requires
unpack-requires c =
    let (laid, size) = c.requires.bytes_value in
    room_unpacked _ _ _ laid size c.requires.unpacked_len.0

pub returns-then-is_err-clause-result_value : goal.returns-then-is_err-clause-result_value
returns-then-is_err-clause-result_value c =
    let (laid, size) = c.requires.bytes_value in
    shape_said _ _ _ laid size c.requires.unpacked_len.0 _ c.unpack.ensures _ c.requires.unpacked_len.1 _ c.check.ensures c.if-is_err.ensures.value

pub returns-then-is_err-clause-places_after : goal.returns-then-is_err-clause-places_after
returns-then-is_err-clause-places_after c =
    let (laid, size) = c.requires.bytes_value in
    shape_kept _ _ _ laid size c.requires.unpacked_len.0 _ c.unpack.ensures _ c.requires.unpacked_len.1 _ c.check.ensures c.if-is_err.ensures.value
