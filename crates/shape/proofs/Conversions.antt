-- Conversion from any form to any other: which refusal comes, exactly when, and that the tree is kept.
--     conversion_size, conversion_length, conversion_entry, conversion_shape, conversion_done      refusals 1 to 4 and done; either list of
--                                 the wrong length gives 2, whatever the other holds
--     conversion_tree             what is written is of the tree that was read
--     conversion_back             written back in its own form, it is the list that was read
-- Assumes nothing.
use mathlib.Core.Path.{◌≡◌, refl, ap, ◌∙◌}
use mathlib.Core.Logic.Iff
use mathlib.Core.Logic.{◌↔◌, ◌⊎◌, inl, inr}
use mathlib.Core.Bool.{true, false}
use mathlib.Core.List.{List}
use Prim.Native.Nat.{ℕ}
use native.Mathlib.Decide.{ℕ_discrete}
use native.Mathlib.Omega.{arith}
use lib.ListN.{length}
use Rattle.shape.specs.Form.{Form, every, Faithful, Tested}
use Rattle.shape.specs.Check.{and_then, Sized, room_of, checked}
use Rattle.shape.specs.Calls.{conversion_check, conversion_end}
use Rattle.shape.specs.declared.Refusal.TheVariants.{Size, Length, Entry, Shape}
use Rattle.shape.specs.Reply.{Outcome}
use Rattle.std.specs.Prelude.{Ok, Err}
use Rattle.shape.proofs.Checks.{room_size, room_length, room_done, room_after, checked_size, checked_length, checked_entry}
use Rattle.shape.proofs.Checks.{checked_shape, checked_done}
use Rattle.shape.proofs.Answers.{then_refused, then_next}

-- The answer of two checks is the first one's, or, where that is done, the second one's.
then_either : (o next a : Outcome) → and_then o next ≡ a → (o ≡ a) ⊎ (next ≡ a)
then_either (Ok _) next a e = inr e
then_either (Err f) next a e = inl e

module _ (F : Form) (long : ℕ → ℕ) (n : ℕ) (p q : List ℕ) where
  pub conversion_size : (conversion_check F long n p q ≡ Err Size) ↔ (Sized n → ⊥)
  unfolding conversion_check
  conversion_size = (
    λ e. elim (then_either (room_of long n (length q)) (checked F n p) (Err Size) e) [
      | inl r ↦ (room_size long n (length q)).0 r
      | inr c ↦ (checked_size F n p).0 c
    ],
    λ g. then_refused (room_of long n (length q)) (checked F n p) (Err Size) Size refl ((room_size long n (length q)).1 g),
  )

  pub conversion_length : (conversion_check F long n p q ≡ Err Length)
      ↔ (Sized n × ((length q ≡ long n) × (length p ≡ F.length_of n) → ⊥))
  unfolding conversion_check
  conversion_length = (
    λ e. elim (then_either (room_of long n (length q)) (checked F n p) (Err Length) e) [
      | inl r ↦ let (s, h) = (room_length long n (length q)).0 r in (s, λ (a, b). h a)
      | inr c ↦ let (s, h) = (checked_length F n p).0 c in (s, λ (a, b). h b)
    ],
    λ (s, h). elim (ℕ_discrete (length q) (long n)) [
      | yes a ↦ then_next (room_of long n (length q)) (checked F n p) (Err Length) ((room_done long n (length q)).1 (s, a))
          ((checked_length F n p).1 (s, λ b. h (a, b)))
      | no a ↦ then_refused (room_of long n (length q)) (checked F n p) (Err Length) Length refl ((room_length long n (length q)).1 (s, a))
    ],
  )

  pub conversion_entry : (conversion_check F long n p q ≡ Err Entry)
      ↔ (Sized n × (length q ≡ long n) × (length p ≡ F.length_of n) × (every (length p) (F.entry_test n p) ≡ false))
  unfolding conversion_check
  conversion_entry =
      Iff.trans (room_after long n (length q) (checked F n p) (Err Entry) (omega arith) (checked_entry F n p)) (
        λ (s, l, (_, m, e)). (s, l, m, e),
        λ (s, l, m, e). (s, l, (s, m, e)),
      )

  module _ (tested : Tested F) where
    pub conversion_shape : (conversion_check F long n p q ≡ Err Shape)
        ↔ (Sized n × (length q ≡ long n) × (length p ≡ F.length_of n) × (every (length p) (F.entry_test n p) ≡ true)
        × (F.WellFormed n p → ⊥))
    unfolding conversion_check
    conversion_shape =
        Iff.trans (room_after long n (length q) (checked F n p) (Err Shape) (omega arith) (checked_shape F tested n p)) (
          λ (s, l, (_, m, e, w)). (s, l, m, e, w),
          λ (s, l, m, e, w). (s, l, (s, m, e, w)),
        )

    pub conversion_done : (conversion_check F long n p q ≡ Ok tt) ↔ (Sized n × (length q ≡ long n) × F.WellFormed n p)
    unfolding conversion_check
    conversion_done =
        Iff.trans (room_after long n (length q) (checked F n p) (Ok tt) tt (checked_done F tested n p)) (
          λ (s, l, (_, w)). (s, l, w),
          λ (s, l, w). (s, l, (s, w)),
        )

-- ---- there and back

module _ (F G : Form) (n : ℕ) (p q : List ℕ) (done : conversion_check F G.length_of n p q ≡ Ok tt) (faithful : Faithful G) where
  pub conversion_tree : G.read (conversion_end F G n p q) ≡ F.read p
  unfolding conversion_end
  conversion_tree = rw done (faithful.read_write (F.read p))

  pub conversion_back : Faithful F → Tested F → Tested G → (p' : List ℕ) → length p' ≡ F.length_of n
      → conversion_end G F n (conversion_end F G n p q) p' ≡ p
  conversion_back f tested-f tested-g p' long =
      let (sized, _, formed) = (conversion_done F G.length_of n p q tested-f).0 done in
      let end = conversion_end F G n p q in
      let end_formed : G.WellFormed n end =
      unfold conversion_end in rw (done, ← f.read_size n p formed) (faithful.write_formed (F.read p)) in
      let back = (conversion_done G F.length_of n end p' tested-g).1 (sized, long, end_formed) in
      let again : conversion_end G F n end p' ≡ F.write (G.read end) = unfold conversion_end in rw back in
      again ∙ ap F.write conversion_tree ∙ f.write_read n p formed
