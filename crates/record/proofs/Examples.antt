-- Worked examples of records, computed from the definitions: 01, Packed record and Refusal numbers.
--     record_..                          size 1, 10 is the bytes 4, 128; size 3, 111000 is the bytes 12, 224; size 5 has a third byte
--     size_.., mark_.., places_.., fill_..     what stands in the bytes 12, 224, and in others with a mark or a fill that is not 0
--     write_done, write_short            the call that writes: a record in the place of what was there; a slice that is too short stays as lent
--     read_said, read_done, read_kept    the call that reads: the size, the places; a refusal leaves the slice as lent
--     read_tries                         what it answers to bytes with nothing, with one thing and with several things wrong
-- Assumes nothing.
use mathlib.Core.Path.{◌≡◌, refl}
use mathlib.Core.List.{List, [], ◌∷◌}
use Prim.Native.Nat.{ℕ}
use lib.ListN.{replicate}
use Rattle.shape.specs.Form.{count, every}
use Rattle.shape.specs.Every.{All}
use Rattle.shape.specs.Check.{room_of, contents, checked, reply}
use Rattle.shape.specs.Calls.{conversion_check}
use Rattle.shape.specs.declared.Refusal.TheVariants.{Size, Length, Shape, Record}
use Rattle.shape.specs.Reply.{Outcome}
use Rattle.std.specs.Prelude.{Ok, Err}
use Rattle.record.specs.Bits.{bits, value_after, value, bytes, bits_of}
use Rattle.record.specs.Record.{fill, record_bits, record_of, size_in, mark_in, places_in, fill_in}
use Rattle.record.specs.Calls.{layout_check, places_check, read_check, read_reply, read_end, write_end}

-- ---- records, and what stands in them

record_1 : record_of 1 (1 ∷ 0 ∷ []) ≡ 4 ∷ 128 ∷ []
unfolding record_of record_bits fill bytes bits value value_after
record_1 = refl

record_3 : record_of 3 (1 ∷ 1 ∷ 1 ∷ 0 ∷ 0 ∷ 0 ∷ []) ≡ 12 ∷ 224 ∷ []
unfolding record_of record_bits fill bytes bits value value_after
record_3 = refl

record_5 : record_of 5 (1 ∷ 0 ∷ 1 ∷ 0 ∷ 1 ∷ 0 ∷ 1 ∷ 0 ∷ 1 ∷ 0 ∷ []) ≡ 20 ∷ 170 ∷ 128 ∷ []
unfolding record_of record_bits fill bytes bits value value_after
record_5 = refl

size_3 : size_in (12 ∷ 224 ∷ []) ≡ 3
unfolding size_in bits_of bits value value_after
size_3 = refl

mark_00 : mark_in (12 ∷ 224 ∷ []) ≡ 0
unfolding mark_in bits_of bits value value_after
mark_00 = refl

mark_01 : mark_in (13 ∷ 224 ∷ []) ≡ 1
unfolding mark_in bits_of bits value value_after
mark_01 = refl

places_111000 : places_in (12 ∷ 224 ∷ []) ≡ 1 ∷ 1 ∷ 1 ∷ 0 ∷ 0 ∷ 0 ∷ []
unfolding places_in size_in bits_of bits value value_after
places_111000 = refl

fill_01 : fill_in (12 ∷ 225 ∷ []) ≡ 0 ∷ 1 ∷ []
unfolding fill_in size_in bits_of bits value value_after
fill_01 = refl

-- ---- writing

write_done : write_end 3 (1 ∷ 1 ∷ 1 ∷ 0 ∷ 0 ∷ 0 ∷ []) (9 ∷ 9 ∷ []) ≡ 12 ∷ 224 ∷ []
unfolding write_end conversion_check room_of checked contents every count record_of record_bits fill bytes bits value value_after
write_done = refl

write_short : write_end 3 (1 ∷ 1 ∷ 1 ∷ 0 ∷ 0 ∷ 0 ∷ []) (9 ∷ []) ≡ 9 ∷ []
unfolding write_end conversion_check room_of
write_short = refl

-- ---- reading

-- room for the places of size 3
abbrev six : List ℕ
six = replicate 6 0

read_said : read_reply (12 ∷ 224 ∷ []) six ≡ reply (Ok tt) 3
unfolding read_reply read_check layout_check places_check every count size_in mark_in places_in fill_in bits_of bits value value_after
read_said = refl

read_done : read_end (12 ∷ 224 ∷ []) six ≡ 1 ∷ 1 ∷ 1 ∷ 0 ∷ 0 ∷ 0 ∷ []
unfolding read_end read_check layout_check places_check every count size_in mark_in places_in fill_in bits_of bits value value_after
read_done = refl

read_kept : read_end (13 ∷ 224 ∷ []) six ≡ six
unfolding read_end read_check layout_check size_in mark_in bits_of bits value value_after
read_kept = refl

abbrev tries : List (List ℕ × Outcome)
tries =
    (12 ∷ 224 ∷ [], (Ok tt))
    -- empty
    ∷ ([], Err Record)
    -- size 0, and size 36 with the mark 11
    ∷ (0 ∷ [], Err Size)
    ∷ (147 ∷ 224 ∷ [], Err Size)
    -- the mark 01; a byte too few, and one too many; the fill 01
    ∷ (13 ∷ 224 ∷ [], Err Record)
    ∷ (12 ∷ [], Err Record)
    ∷ (12 ∷ 224 ∷ 0 ∷ [], Err Record)
    ∷ (12 ∷ 225 ∷ [], Err Record)
    -- size 5, for which six places are too few, and the same with the mark 01
    ∷ (20 ∷ 170 ∷ 128 ∷ [], Err Length)
    ∷ (21 ∷ 170 ∷ 128 ∷ [], Err Record)
    -- 011000, and 01100000, for which six places are too few
    ∷ (12 ∷ 96 ∷ [], Err Shape)
    ∷ (16 ∷ 96 ∷ [], Err Length)
    ∷ []

read_tries : All (λ t. read_check t.0 six ≡ t.1) tries
unfolding read_check layout_check places_check every count size_in mark_in places_in fill_in bits_of bits value value_after
read_tries = (refl, (refl, (refl, (refl, (refl, (refl, (refl, (refl, (refl, (refl, (refl, (refl, tt))))))))))))
