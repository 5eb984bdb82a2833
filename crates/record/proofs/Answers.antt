-- What the calls on records meet after their checks, in the words of the source: r is the record, q the list that the places are put into,
-- o what a check answered.
--     bytes_long                               there is room for a record
--     layout_told, layout_refused, read_refused      what the check of the layout tells; reading refuses what it refuses
--     first_there, size_read                   where it passes, there is a first byte, which tells the size
--     part_there, part_long                    and the size is at most 35, so seventy places are enough to unpack into
--     length_said, length_kept                 the list q has no room: what is said, and that q stays as it was
--     room_unpacked                            the places are in the record
--     places_copied                            what is copied out of them is what reading gives
--     shape_said, shape_kept                   they are no pattern: what is said, and that q stays as it was
--     places_done                              they are one
--     answers                                  these and the laws of any call, for `search`
-- Assumes nothing.
use mathlib.Core.Path.{◌≡◌, refl, sym, ap, ◌∙◌}
use mathlib.Core.Bool.{true}
use mathlib.Core.List.{List}
use Prim.Native.Nat.{ℕ, ◌+◌, ◌*◌, ◌/◌, ◌≤◌, ◌<◌}
use native.Mathlib.Omega.{arith}
use mir.Val.{Fits}
use mir.Syntax.{w8}
use lib.ListN.{length, get_or, take, drop, replicate}
use lib.Seq.{length-take-le}
use borrow.Author.Rules.{rules}
use Rattle.catalan.specs.Count.{largest_size}
use Rattle.shape.specs.Form.{Feasible, patterns}
use Rattle.shape.specs.Reply.{outcome_reply, numbered_reply, refused, Outcome, Numbered}
use Rattle.shape.specs.Check.{Sized, record_length, room_of, checked, reply, unless_refused}
use Rattle.shape.specs.Calls.{check_reply}
use Rattle.shape.specs.declared.Refusal.{Refusal}
use Rattle.shape.specs.declared.Refusal.TheVariants.{Length, Shape}
use Rattle.std.specs.Prelude.{Ok, Err}
use Rattle.std.specs.Result.{is_err}
use Rattle.std.proofs.lemmas.Bool.{true≢false}
use Rattle.shape.proofs.Tests.{patterns_tested}
use Rattle.shape.proofs.Checks.{checked_done, done_formed}
use Rattle.shape.proofs.Answers.{answered, then_refused, room_told, room_long, check_told}
use Rattle.pattern.proofs.Answers.{done_feasible}
use Rattle.record.specs.Bits.{bits_of}
use Rattle.record.specs.Record.{size_in, places_in}
use Rattle.record.specs.Calls.{layout_check, places_check, read_check, read_reply, read_end}
use Rattle.record.proofs.Refusals.{Laid, layout_done, read_length, read_shape, read_passes}
use Rattle.record.proofs.Parts.{size_found}

pub bytes_long : (n m : ℕ) (r : Outcome) → r ≡ room_of record_length n m → r ≡ Ok tt → m ≡ record_length n
bytes_long n m = room_long record_length n m

-- ---- after the check of the layout

module _ (r : List ℕ) (o : Outcome) (e : o ≡ layout_check r) where
  pub layout_told : (a : Outcome) → o ≡ a → layout_check r ≡ a
  layout_told a h = sym e ∙ h

  pub layout_refused : (q : List ℕ) (f : Refusal) → o ≡ Err f → read_check r q ≡ o
  unfolding read_check
  layout_refused q f h = then_refused (layout_check r) (places_check r q) o f h (sym e)

  module _ (h : o ≡ Ok tt) where
    laid : Sized (size_in r) × Laid r
    laid = (layout_done r).0 (layout_told (Ok tt) h)

    pub first_there : 0 < length r
    first_there = omega (arith, laid.1.long)

    module _ (byte : (i : ℕ) → Fits w8 (get_or r i 0)) where
      pub size_read : get_or r 0 0 / 4 ≡ size_in r
      size_read = sym (size_found r first_there (omega (arith, byte 0)))

      size_small : get_or r 0 0 / 4 ≤ largest_size
      size_small = rw size_read laid.0.1

      pub part_long : length {A = ℕ} (take (2 * (get_or r 0 0 / 4)) (replicate 70 0)) ≡ 2 * (get_or r 0 0 / 4)
      part_long = length-take-le {A = ℕ} (2 * (get_or r 0 0 / 4)) (replicate 70 0) (omega (arith, size_small))

      pub part_there : 2 * (get_or r 0 0 / 4) ≤ length {A = ℕ} (replicate 70 0)
      part_there = omega (arith, size_small)

      module _ (q : List ℕ) (other : length q ≡ 2 * (get_or r 0 0 / 4) → ⊥) where
        no_room : read_check r q ≡ Err Length
        no_room = (read_length r q).1 (laid.0, laid.1, λ long. other (rw size_read long))

        pub length_said : (k : ℕ) → refused Length ≡ reply (read_check r q) k
        length_said k = rw no_room

        pub length_kept : (new : List ℕ) → q ≡ unless_refused (read_check r q) new q
        length_kept new = rw no_room

-- a is what reading answers where the check refused for f
pub read_refused : (r q : List ℕ) (a : Numbered) (f : Refusal) (k : ℕ) → a ≡ Err f → Err f ≡ layout_check r → numbered_reply a ≡ reply (read_check r q) k
read_refused r q a f k g h = rw (layout_refused r (Err f) h q f refl, g)

-- ---- after the places are unpacked into u

module _ (r : List ℕ) (n m : ℕ) (done : layout_check r ≡ Ok tt) (size : n ≡ size_in r) (room : m ≡ 2 * n) where
  laid_out : Sized (size_in r) × Laid r
  laid_out = (layout_done r).0 done

  pub room_unpacked : 8 + m ≤ 8 * length r
  room_unpacked = omega (arith, laid_out.1.long)

  module _ (u : List ℕ) (e : u ≡ take m (drop 8 (bits_of r))) where
    places_read : u ≡ places_in r
    unfolding places_in
    places_read = e ∙ ap (λ (k : ℕ). take k (drop 8 (bits_of r))) (room ∙ ap (λ (k : ℕ). 2 * k) size)

    pub places_copied : (x : List ℕ) → x ≡ u → x ≡ places_in r
    places_copied x g = g ∙ places_read

    module _ (q : List ℕ) (long : length q ≡ 2 * n) (o : Outcome) (g : outcome_reply o ≡ check_reply patterns n u) where
      told : checked patterns (size_in r) (places_in r) ≡ o
      told = rw (← size, ← places_read) (check_told patterns n u o g o refl)

      fits : length q ≡ 2 * size_in r
      fits = omega arith

      no_pattern : true ≡ is_err o → read_check r q ≡ Err Shape
      no_pattern h =
          let accepted : Feasible (size_in r) (places_in r) → o ≡ Ok tt =
          λ formed. sym told ∙ (checked_done patterns patterns_tested (size_in r) (places_in r)).1 (laid_out.0, formed) in
          (read_shape r q).1 (laid_out.0, laid_out.1, fits, λ formed. true≢false (h ∙ ap is_err (accepted formed)))

      pub shape_said : true ≡ is_err o → refused Shape ≡ read_reply r q
      unfolding read_reply
      shape_said h = rw (no_pattern h)

      pub shape_kept : true ≡ is_err o → q ≡ read_end r q
      unfolding read_end
      shape_kept h = rw (no_pattern h)

      pub places_done : o ≡ Ok tt → read_check r q ≡ Ok tt
      places_done h = (read_passes r q).1 (laid_out.0, laid_out.1, fits, done_formed patterns patterns_tested (size_in r) (places_in r) (told ∙ h))

pub ruleset answers = (
  rules,
  answered,
  room_told,
  done_feasible,
  bytes_long,
  layout_told,
  layout_refused,
  read_refused,
  first_there,
  size_read,
  part_long,
  part_there,
  length_said,
  length_kept,
  room_unpacked,
  places_copied,
  shape_said,
  shape_kept,
  places_done,
)
