-- `record::packing::pack`: the first byte, one byte more, and the last.
-- Assumes nothing.
use Rattle.std.proofs.Common.{rules, arith, ◌≡◌, ◌∙◌, ◌+◌, ◌/◌, ℕ, length, take, length-set, subst}
use Rattle.std.proofs.Common.{refl}
use Rattle.shape.proofs.Patterns.{feasible_length}
use Rattle.record.specs.Record.{record_of}
use Rattle.record.proofs.Records.{record_long}
use Rattle.record.proofs.Packed.{packs, agrees_next, agrees_last, packed_there, packed_whole, packed_shift, packed_last}
use Rattle.record.proofs.packing.pack.Goals as goal

pub loop-i-init : goal.loop-i-init
loop-i-init c = search (rules, packs)

pub loop-i-preserved : goal.loop-i-preserved
loop-i-preserved c =
    let (_, formed, _) = c.requires in
    let (long, same) = c.loop-i.invariant in
    let on = packed_there _ _ formed c.loop-i.i _ long (omega arith) in
    let byte = packed_whole _ _ formed c.loop-i.i _ long (omega arith) on (omega arith) _ (omega arith) _ c.byte.ensures in
    (length-set _ _ _ ∙ long, agrees_next _ _ _ _ same _ on long (record_long _ _) byte)

pub overflow_shl-bytes : goal.overflow_shl-bytes
overflow_shl-bytes c =
    let (_, formed, _) = c.requires in
    packed_shift _ _ formed (length c.args.places.now / 8) _ c.loop-i.invariant.0 (omega arith) (omega arith) refl

pub returns-then-whole-bytes : goal.returns-then-whole-bytes
returns-then-whole-bytes c =
    let (_, formed, _) = c.requires in
    let (long, same) = c.loop-i.invariant in
    let whole = length c.args.places.now / 8 in
    let all : c.loop-i.i ≡ whole = omega (arith, c.loop-i.auto.i-end) in
    let so_far = subst (λ (k : ℕ). take (k + 1) c.loop-i.bytes ≡ take (k + 1) (record_of c.args.size c.args.places.now)) all same in
    let byte = packed_last _ _ formed whole _ long (omega arith) (omega arith) refl _ c.byte-then-whole-bytes.ensures in
    agrees_last _ _ _ _ so_far _ (omega (arith, feasible_length _ _ formed)) long (record_long _ _) byte
