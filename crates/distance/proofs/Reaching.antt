-- A move as code makes it, over any numbering. A signed number that is handed on is read back from its bits, so what a callee is lent is
-- `to_z w64 (of_z w64 d)`; d is the distance that the caller was lent.
--     sum_reaches, sum_moved, sum_stops      where the shape's number and what the distance adds, t, is below C(n) it is the target's number
--     told_done, told_past, told_left        what a call says and leaves where a worker told it whether the target was reached
-- Assumes nothing.
use mathlib.Core.Path.{◌≡◌, sym, ap, ◌∙◌}
use mathlib.Core.Bool.{Bool, true, false, cond}
use mathlib.Core.List.{List}
use Prim.Native.Nat.{ℕ, ◌+◌, ◌%◌, ◌≤◌, ◌<◌, ◌^◌}
use native.Mathlib.Omega.{arith}
use lib.IntN.{ℤ, pos, nat_abs}
use borrow.Author.Tests.{lt-ltb}
use mir.Syntax.{w64}
use mir.Val.{SFits, to_z, of_z}
use mir.Facts.{to_z-of_z}
use Rattle.catalan.specs.Count.{largest_size}
use Rattle.catalan.proofs.Counting.{C_half}
use Rattle.shape.specs.Form.{Tested}
use Rattle.shape.specs.Numbering.{Numbering, total, WellFormed, Lawful}
use Rattle.shape.specs.Reply.{outcome_reply, refused}
use Rattle.shape.specs.Check.{checked}
use Rattle.shape.specs.Move.{target, reaches, moved, end_past, move_reply, move_end}
use Rattle.shape.specs.declared.Refusal.{Refusal}
use Rattle.std.specs.Prelude.{Ok}
use Rattle.shape.proofs.Distances.{reach_done, reach_past, reach_left}
use Rattle.distance.proofs.Sums.{sum_reached, sum_past}

module _ (N : Numbering) (laws : Lawful N) (small : N.nodes ≤ largest_size) (p : List ℕ) (g : WellFormed N p) (d : ℤ) (f : SFits w64 d)
    (t : ℕ) (e : t ≡ (N.number p + of_z w64 d) % 2 ^ 64) where
  limit : total N ≤ 9223372036854775808
  limit = omega (arith, C_half N.nodes small)

  module _ (h : t < total N) where
    there : pos t ≡ target N d p
    unfolding target
    there = sum_reached (N.number p) (total N) limit (laws.number_below p g) d f t e h

    pub sum_reaches : true ≡ reaches N d p
    unfolding reaches
    sum_reaches = rw (sym there) (sym (lt-ltb t (total N) h))

    pub sum_moved : N.shape t ≡ moved N d p
    unfolding moved
    sum_moved = ap (λ z. N.shape (nat_abs z)) there

  pub sum_stops : total N ≤ t → false ≡ reaches N d p
  unfolding reaches target
  sum_stops h = sym (sum_past (N.number p) (total N) limit (laws.number_below p g) d f t e h)

-- b is what the worker answered, f the refusal of the end that was passed, x what was left
module _ (N : Numbering) (d : ℤ) (s : SFits w64 d) (p : List ℕ) (r : checked N.form N.nodes p ≡ Ok tt) where
  pub told_done : (b : Bool) → b ≡ reaches N (to_z w64 (of_z w64 d)) p → b ≡ true → outcome_reply (Ok tt) ≡ move_reply N d p
  told_done b e h = reach_done N d p b r (e ∙ ap (λ z. reaches N z p) (to_z-of_z s)) h

  pub told_past : Lawful N → Tested N.form → (b : Bool) (f : Refusal) → b ≡ reaches N (to_z w64 (of_z w64 d)) p → b ≡ false
      → f ≡ end_past (to_z w64 (of_z w64 d)) → refused f ≡ move_reply N d p
  told_past laws tested b f e h g =
      reach_past N d p laws tested b f r (e ∙ ap (λ z. reaches N z p) (to_z-of_z s)) h (g ∙ ap end_past (to_z-of_z s))

  pub told_left : (x : List ℕ) → x ≡ cond (reaches N (to_z w64 (of_z w64 d)) p) (moved N (to_z w64 (of_z w64 d)) p) p → x ≡ move_end N d p
  told_left x e = reach_left N d p x r (e ∙ ap (λ z. cond (reaches N z p) (moved N z p) p) (to_z-of_z s))
