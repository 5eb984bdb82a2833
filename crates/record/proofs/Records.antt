-- Each shape of size 1 to 35 has exactly one record, and each record that is accepted is of exactly one shape; written and read, or read
-- and written, it is the same again. 01, Packed record.
--     fill_whole                       the fill makes the bits of a record whole bytes
--     record_long, record_bytes        a record has as many bytes as its size asks, each of them below 256
--     record_bits_lem                  its bits are what was to be written
--     size_back, mark_back, places_back, fill_back      and each part is found in them
--     record_laid                      so mark, length and fill are as they should be
--     record_read                      and it is accepted
--     laid_record                      the other way: bytes that pass are the record of what is found in them
--     read_done                        what is accepted, exactly
--     write_read, write_read_places    written and then read: the same size and the same pattern
--     read_write_done, read_write      read and then written: the same bytes
--     record_written                   what is accepted as a record of size n is what some tree of n nodes is written as
--     record_one                       no two trees have the same record
-- Assumes nothing.
use mathlib.Core.Path.{◌≡◌, refl, sym, ap, ap₂, ◌∙◌, subst⁻¹}
use mathlib.Core.Logic.Iff
use mathlib.Core.Logic.{◌↔◌}
use mathlib.Core.List.{List, ◌++◌}
use Prim.Native.Nat.{ℕ, ◌+◌, ◌*◌}
use native.Mathlib.Omega.{arith}
use lib.ListN.{length, take, drop, replicate, length-append, length-replicate, length-drop, take-append-drop}
use lib.Seq.{take_at, drop_at, drop-drop}
use Rattle.shape.specs.Tree.{Tree, size, pattern}
use Rattle.shape.specs.Form.{patterns, Feasible}
use Rattle.shape.specs.Check.{Sized, record_length, reply}
use Rattle.shape.specs.Calls.{conversion_check}
use Rattle.std.specs.Prelude.{Ok}
use Rattle.shape.specs.Every.{All}
use Rattle.shape.proofs.Lists.{all_at, all_of, all_map, all_append}
use Rattle.shape.proofs.Patterns.{feasible_length, pattern_formed}
use Rattle.shape.proofs.Tests.{patterns_tested}
use Rattle.shape.proofs.Conversions.{conversion_done}
use Rattle.shape.proofs.Meanings.{pattern_written, pattern_one}
use Rattle.record.specs.Bits.{bits, value, bytes, bits_of}
use Rattle.record.specs.Record.{fill, record_bits, record_of, size_in, mark_in, places_in, fill_in}
use Rattle.record.specs.Calls.{read_check, read_reply, read_end, write_end}
use Rattle.record.proofs.Bits.{Bit, Byte, all_drop, all_zeros, zeros_all, length_bits, bits_below, bits_part, value_bits}
use Rattle.record.proofs.Bits.{length_bytes, bytes_below, length_bits_of, bits_of_below, bytes_bits, bits_bytes}
use Rattle.record.proofs.Refusals.{Laid, read_passes}

-- ---- the record of a pattern

pub fill_whole : (n : ℕ) → 8 + 2 * n + fill n ≡ 8 * record_length n
unfolding fill
fill_whole n = omega arith

pub record_long : (n : ℕ) (p : List ℕ) → length (record_of n p) ≡ record_length n
unfolding record_of
record_long n p = length_bytes (record_length n) (record_bits n p)

record_below : (n : ℕ) (p : List ℕ) → All Bit p → All Bit (record_bits n p)
unfolding record_bits
record_below n p h =
    let zeros : All Bit (replicate (fill n) 0) = all_map (λ b e. omega arith) (replicate (fill n) 0) (zeros_all (fill n)) in
    all_append Bit (bits 6 n) _ (bits_below 6 n) (all_append Bit (bits 2 0) _ (bits_below 2 0) (all_append Bit p (replicate (fill n) 0) h zeros))

pub record_bytes : (n : ℕ) (p : List ℕ) → All Bit p → All Byte (record_of n p)
unfolding record_of
record_bytes n p h = bytes_below (record_length n) (record_bits n p) (record_below n p h)

bits_long : (n : ℕ) (p : List ℕ) → length (record_bits n p) ≡ 8 + length p + fill n
unfolding record_bits
bits_long n p =
    omega (
      arith,
      length-append (bits 6 n) (bits 2 0 ++ (p ++ replicate (fill n) 0)),
      length-append (bits 2 0) (p ++ replicate (fill n) 0),
      length-append p (replicate (fill n) 0),
      length_bits 6 n,
      length_bits 2 0,
      length-replicate {A = ℕ} (fill n) 0,
    )

module _ (n : ℕ) (p : List ℕ) (sized : Sized n) (formed : Feasible n p) where
  -- the record
  abbrev r : List ℕ
  r = record_of n p

  places : All Bit p
  places = all_of Bit p formed.places

  pub record_bits_lem : bits_of r ≡ record_bits n p
  unfolding record_of
  record_bits_lem =
      bytes_bits (record_length n) (record_bits n p) (record_below n p places)
      (omega (arith, bits_long n p, feasible_length n p formed, fill_whole n))

  -- what stands behind the size, and behind the mark
  after_size : drop 6 (bits_of r) ≡ bits 2 0 ++ (p ++ replicate (fill n) 0)
  after_size =
      ap (drop 6) record_bits_lem ∙ (unfold record_bits in drop_at (bits 6 n) (bits 2 0 ++ (p ++ replicate (fill n) 0)) 6 (length_bits 6 n))

  after_mark : drop 8 (bits_of r) ≡ p ++ replicate (fill n) 0
  after_mark =
      sym (drop-drop 2 6 (bits_of r)) ∙ ap (drop 2) after_size ∙ drop_at (bits 2 0) (p ++ replicate (fill n) 0) 2 (length_bits 2 0)

  pub size_back : size_in r ≡ n
  unfolding size_in record_bits
  size_back =
      ap (λ (l : List ℕ). value (take 6 l)) record_bits_lem
      ∙ ap value (take_at (bits 6 n) (bits 2 0 ++ (p ++ replicate (fill n) 0)) 6 (length_bits 6 n)) ∙ value_bits 6 n (omega arith)

  pub mark_back : mark_in r ≡ 0
  unfolding mark_in
  mark_back =
      ap (λ (l : List ℕ). value (take 2 l)) after_size
      ∙ ap value (take_at (bits 2 0) (p ++ replicate (fill n) 0) 2 (length_bits 2 0)) ∙ value_bits 2 0 (omega arith)

  pub places_back : places_in r ≡ p
  unfolding places_in
  places_back =
      ap₂ {C = List ℕ} (λ (m : ℕ) (l : List ℕ). take (2 * m) l) size_back after_mark
      ∙ take_at p (replicate (fill n) 0) (2 * n) (feasible_length n p formed)

  pub fill_back : fill_in r ≡ replicate (fill n) 0
  unfolding fill_in
  fill_back =
      ap (λ (m : ℕ). drop (8 + 2 * m) (bits_of r)) size_back ∙ sym (drop-drop (2 * n) 8 (bits_of r)) ∙ ap (drop (2 * n)) after_mark
      ∙ drop_at p (replicate (fill n) 0) (2 * n) (feasible_length n p formed)

  pub record_laid : Laid r
  record_laid =
      record {
        mark = mark_back;
        long = rw size_back (record_long n p);
        filled = λ i l. all_at (λ b. b ≡ 0) (fill_in r) (subst⁻¹ (All (λ b. b ≡ 0)) fill_back (zeros_all (fill n))) i l;
      }

  pub record_read : (q : List ℕ) → length q ≡ 2 * n → read_check r q ≡ Ok tt
  record_read q e = (read_passes r q).1 (rw size_back sized, record_laid, rw size_back e, rw (size_back, places_back) formed)

-- ---- what is found in the bytes of a record

module _ (r : List ℕ) (laid : Laid r) where
  -- the size that it says
  abbrev n : ℕ
  n = size_in r

  long_bits : length (bits_of r) ≡ 8 + 2 * n + fill n
  long_bits = omega (arith, length_bits_of r, laid.long, fill_whole n)

  fill_zeros : fill_in r ≡ replicate (fill n) 0
  fill_zeros =
      let long : length (fill_in r) ≡ fill n = unfold fill_in in omega (arith, length-drop (8 + 2 * n) (bits_of r), long_bits) in
      all_zeros (fill_in r) (all_of (λ b. b ≡ 0) (fill_in r) laid.filled) ∙ ap (λ (m : ℕ). replicate m 0) long

  places_then : drop 8 (bits_of r) ≡ places_in r ++ replicate (fill n) 0
  unfolding places_in fill_in
  places_then =
      let behind = drop 8 (bits_of r) in
      sym (take-append-drop (2 * n) behind) ∙ ap (λ (l : List ℕ). take (2 * n) behind ++ l) (drop-drop (2 * n) 8 (bits_of r) ∙ fill_zeros)

  laid_bits : bits_of r ≡ record_bits n (places_in r)
  unfolding record_bits size_in mark_in
  laid_bits =
      let l = bits_of r in
      let below = bits_of_below r in
      let behind = length-drop 6 l in
      let all = long_bits in
      let first : take 6 l ≡ bits 6 n = sym (bits_part 6 l below (omega arith)) in
      let mark : take 2 (drop 6 l) ≡ bits 2 0 =
      sym (bits_part 2 (drop 6 l) (all_drop Bit 6 l below) (omega arith)) ∙ ap (bits 2) laid.mark in
      let last : drop 2 (drop 6 l) ≡ places_in r ++ replicate (fill n) 0 = drop-drop 2 6 l ∙ places_then in
      sym (take-append-drop 6 l)
      ∙ ap₂ {C = List ℕ} (λ u v. u ++ v) first
      (sym (take-append-drop 2 (drop 6 l)) ∙ ap₂ {C = List ℕ} (λ u v. u ++ v) mark last)

  pub laid_record : All Byte r → r ≡ record_of n (places_in r)
  unfolding record_of
  laid_record h = sym (bits_bytes r h) ∙ ap₂ {C = List ℕ} bytes laid.long laid_bits

module _ (r q : List ℕ) (all_bytes : All Byte r) where
  pub read_done : (read_check r q ≡ Ok tt)
      ↔ (Sized (size_in r) × (length q ≡ 2 * size_in r) × Feasible (size_in r) (places_in r) × (r ≡ record_of (size_in r) (places_in r)))
  read_done =
      Iff.trans (read_passes r q) (
        λ (s, l, e, f). (s, e, f, laid_record r l all_bytes),
        λ (s, e, f, same). (s, subst⁻¹ Laid same (record_laid (size_in r) (places_in r) s f), e, f),
      )

-- ---- there and back

module _ (n : ℕ) (p r q : List ℕ) (done : conversion_check patterns record_length n p r ≡ Ok tt) (room : length q ≡ 2 * n) where
  accepted : Sized n × (length r ≡ record_length n) × Feasible n p
  accepted = (conversion_done patterns record_length n p r patterns_tested).0 done

  record_left : write_end n p r ≡ record_of n p
  unfolding write_end
  record_left = rw done

  record_accepted : read_check (record_of n p) q ≡ Ok tt
  record_accepted = record_read n p accepted.0 accepted.2 q room

  pub write_read : read_reply (write_end n p r) q ≡ reply (Ok tt) n
  unfolding read_reply
  write_read = rw (record_left, record_accepted, size_back n p accepted.0 accepted.2)

  pub write_read_places : read_end (write_end n p r) q ≡ p
  unfolding read_end
  write_read_places = rw (record_left, record_accepted) (places_back n p accepted.0 accepted.2)

module _ (r q r' : List ℕ) (all_bytes : All Byte r) (done : read_check r q ≡ Ok tt) (room : length r' ≡ length r) where
  pub read_write_done : conversion_check patterns record_length (size_in r) (read_end r q) r' ≡ Ok tt
  unfolding read_end
  read_write_done =
      let (s, l, e, f) = (read_passes r q).0 done in
      (conversion_done patterns record_length (size_in r) (read_end r q) r' patterns_tested).1 (s, room ∙ l.long, rw done f)

  pub read_write : write_end (size_in r) (read_end r q) r' ≡ r
  unfolding write_end
  read_write =
      let (s, l, e, f) = (read_passes r q).0 done in
      let places : read_end r q ≡ places_in r = unfold read_end in rw done in
      rw (read_write_done, places) (sym (laid_record r l all_bytes))

-- ---- records and trees

pub record_written : (n : ℕ) (r : List ℕ) → Sized n → All Byte r
    → ((q : List ℕ) × (read_check r q ≡ Ok tt) × (size_in r ≡ n)) ↔ ((t : Tree) × (size t ≡ n) × (record_of n (pattern t) ≡ r))
record_written n r s h = (
  λ (q, done, e).
      let (_, l, _, f) = (read_passes r q).0 done in
      let (t, k, w) = (pattern_written (size_in r) (places_in r)).0 f in
      (t, k ∙ e, ap₂ {C = List ℕ} record_of (sym e) w ∙ sym (laid_record r l h)),
  λ (t, e, w).
      let f = (pattern_written n (pattern t)).1 (t, e, refl) in
      let q : List ℕ = replicate (2 * n) 0 in
      let read = record_read n (pattern t) s f q (length-replicate {A = ℕ} (2 * n) 0) in
      (q, ap (λ (x : List ℕ). read_check x q) (sym w) ∙ read, ap size_in (sym w) ∙ size_back n (pattern t) s f),
)

pattern_back : (t : Tree) → Sized (size t) → places_in (record_of (size t) (pattern t)) ≡ pattern t
pattern_back t h = places_back (size t) (pattern t) h (pattern_formed t)

pub record_one : (s t : Tree) → Sized (size s) → Sized (size t) → record_of (size s) (pattern s) ≡ record_of (size t) (pattern t) → s ≡ t
record_one s t g h e = pattern_one s t (sym (pattern_back s g) ∙ ap places_in e ∙ pattern_back t h)
