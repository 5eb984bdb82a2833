-- A move by a signed distance: when it is refused, where it leads, and how moves follow one another. For every distance and every list, over any
-- numbering whose laws hold and whose form's tests find what is well formed; each law asks only for what it needs of these two.
--     move_lower                        refusals 1 to 4 are those of reading
--     move_last, move_first, move_done  of what is well formed, 6 for a target past the last number, 7 for one below 0, and done for any other
--     number_moved, moved_formed        the shape that is left has the target for its number, and is well formed
--     moves_join                        two moves in a row are one, by the sum of their distances
--     move_back                         a move is undone by the same distance the other way
--     move_none_check, move_none        distance 0 is refused exactly as reading is, and leaves every list as it was
--     move_one, move_one_back           distance 1 is the successor and -1 the predecessor, refusals and all
--     move_largest, move_least          the largest and the least distance of 64 bits reach no shape
--     reach_done, reach_past, reach_left      what a call says and leaves after reading, in the words in which its code meets it
-- Assumes nothing.
use mathlib.Core.Path.{◌≡◌, refl, sym, ap, ◌∙◌}
use mathlib.Core.Logic.Iff
use mathlib.Core.Logic.{◌↔◌}
use mathlib.Core.Bool.{Bool, true, false, cond, ◌&&◌, true≢false, false≢true}
use mathlib.Core.List.{List}
use Prim.Native.Nat.{ℕ, zero, suc, ◌+◌, ◌-◌, ◌≤◌, ◌<◌}
use native.Mathlib.Omega.{arith}
use native.Mathlib.Decide.{dec_lt}
use lib.Dec.{T, not_T, ltb, le→leb, ltb→lt}
use lib.IntN.{ℤ, pos, negsuc, nat_abs, neg_ℤ, sub_ℕ, ◌+ℤ◌, +ℤ_assoc, +ℤ_idr, +ℤ_invr}
use lib.Signed.{lt_z, non_neg, ◌≤ℤ◌, ◌<ℤ◌, le_z_yes, lt_z_yes, lt_z_no, <ℤ-≤ℤ_trans, clash_ℤ}
use borrow.Author.Tests.{lt-ltb, le-ltb}
use Rattle.catalan.proofs.Counting.{C_half}
use Rattle.shape.specs.Form.{Tested}
use Rattle.shape.specs.Numbering.{Numbering, total, WellFormed, Lawful, next, previous}
use Rattle.shape.specs.Reply.{refusal_number, outcome_reply, refused, Outcome}
use Rattle.shape.specs.Check.{unless, and_then, Sized, checked, successor_check, predecessor_check, unless_refused}
use Rattle.shape.specs.Calls.{successor_end, predecessor_end}
use Rattle.shape.specs.Move.{target, reaches, moved, move_check, end_past, move_reply, move_end}
use Rattle.shape.specs.declared.Refusal.{Refusal}
use Rattle.shape.specs.declared.Refusal.TheVariants.{Last, First}
use Rattle.std.specs.Prelude.{Ok, Err}
use Rattle.shape.proofs.Tests.{and_means}
use Rattle.shape.proofs.Checks.{Refuses, refuses_unless, differ, passed, failed, passed_last, checked_done, done_formed}
use Rattle.shape.proofs.Checks.{step_lower, step_after, predecessor_done}
use Rattle.shape.proofs.Answers.{then_next, outcome_refused, outcome_done}

-- ---- whole numbers

holds_means : (t : Bool) → (t ≡ true) ↔ T t
holds_means true = (λ e. tt, λ h. refl)
holds_means false = (false≢true, λ h. absurd h)

below_means : (y z : ℤ) → (lt_z y z ≡ true) ↔ (y <ℤ z)
below_means y z = Iff.trans (holds_means (lt_z y z)) (lt_z_yes, λ h. h.lt)

least_means : (z : ℤ) → (non_neg z ≡ true) ↔ (pos 0 ≤ℤ z)
least_means (pos a) = (λ e. le_z_yes (le→leb 0 a (omega arith)), λ h. refl)
least_means (negsuc a) = (λ e. absurd (false≢true e), λ h. absurd h.le)

-- and where these two tests fail
past_means : (y z : ℤ) → (y <ℤ z → ⊥) ↔ (z ≤ℤ y)
past_means y z = (λ g. lt_z_no (not_T (lt_z y z) (λ t. g (lt_z_yes t))), λ h l. clash_ℤ l h)

under_means : (z : ℤ) → (pos 0 ≤ℤ z → ⊥) ↔ (z <ℤ pos 0)
under_means (pos a) = (λ g. absurd (g ((least_means (pos a)).0 refl)), λ h. omega (arith, ltb→lt a 0 h.lt))
under_means (negsuc a) = (λ g. lt_z_yes tt, λ l h. h.le)

-- a - b, by its sign
sub_up : (a b : ℕ) → b ≤ a → sub_ℕ a b ≡ pos (a - b)
sub_up a b h = rw le-ltb

sub_down : (a b : ℕ) → a < b → sub_ℕ a b ≡ negsuc (b - suc a)
sub_down a b h = rw lt-ltb

-- ---- the tests of a target z, where there are n shapes

abbrev ends : ℤ → ℕ → Outcome
ends z n = unless (lt_z z (pos n)) Last (unless (non_neg z) First (Ok tt))

module _ (z : ℤ) (n : ℕ) where
  -- the second of them
  abbrev least : Outcome
  least = unless (non_neg z) First (Ok tt)

  ends_high : Refuses (λ m. 5 ≤ m) (ends z n)
  ends_high =
      let P : ℕ → Type 0 = λ m. 5 ≤ m in
      refuses_unless P (lt_z z (pos n)) Last least (omega arith) (refuses_unless P (non_neg z) First (Ok tt) (omega arith) tt)

  ends_last : (ends z n ≡ Err Last) ↔ (pos n ≤ℤ z)
  ends_last =
      let other = refuses_unless (λ m. m ≡ 6 → ⊥) (non_neg z) First (Ok tt) (λ e. omega arith) tt in
      Iff.trans (failed (lt_z z (pos n)) Last least (below_means z (pos n)) other) (past_means z (pos n))

  ends_first : (ends z n ≡ Err First) ↔ (z <ℤ pos 0)
  ends_first =
      let under = Iff.trans (failed (non_neg z) First (Ok tt) (least_means z) tt) (under_means z) in
      Iff.trans (passed (lt_z z (pos n)) Last least (Err First) (below_means z (pos n)) (λ e. omega arith) (λ b. under))
      (λ (b, u). u, λ u. (<ℤ-≤ℤ_trans u ((least_means (pos n)).0 refl), u))

  ends_done : (ends z n ≡ Ok tt) ↔ ((pos 0 ≤ℤ z) × (z <ℤ pos n))
  ends_done =
      Iff.trans (passed (lt_z z (pos n)) Last least (Ok tt) (below_means z (pos n)) tt (λ b. passed_last (non_neg z) First (least_means z)))
      (λ (b, l). (l, b), λ (l, b). (b, l))

-- a target that passes them is the number of a shape
ends_number : (z : ℤ) (n : ℕ) → ends z n ≡ Ok tt → (nat_abs z < n) × (pos (nat_abs z) ≡ z)
ends_number (pos a) n e = (ltb→lt a n ((ends_done (pos a) n).0 e).1.lt, refl)
ends_number (negsuc a) n e = absurd ((ends_done (negsuc a) n).0 e).0.le

ends_there : (a n : ℕ) → a < n → ends (pos a) n ≡ Ok tt
ends_there a n h = rw lt-ltb

-- one back from the number a
ends_back : (a n : ℕ) → a < n → ends (sub_ℕ a 1) n ≡ unless (ltb 0 a) First (Ok tt)
ends_back zero n h = refl
ends_back (suc a) n h = rw (sub_up (suc a) 1 (omega arith), lt-ltb 0 (suc a) (omega arith)) (ends_there (suc a - 1) n (omega arith))

-- a target that does not pass them lies past the end in the direction of d
ends_past : (a : ℕ) (d : ℤ) (n : ℕ) → a < n → (non_neg (pos a +ℤ d) && lt_z (pos a +ℤ d) (pos n)) ≡ false → ends (pos a +ℤ d) n ≡ Err (end_past d)
ends_past a (pos b) n h e = rw e
ends_past a (negsuc b) n h e =
    elim (dec_lt a (suc b)) [
      | yes l ↦ rw (sub_down a (suc b) l)
      | no g ↦ absurd (true≢false (sym (lt-ltb (a - suc b) n (omega arith)) ∙ (rw (sub_up a (suc b) (omega arith)) at e)))
    ]

ends_left : {A : Type 0} (s t : Bool) (new old : A) → cond (s && t) new old ≡ unless_refused (unless t Last (unless s First (Ok tt))) new old
ends_left true true new old = refl
ends_left true false new old = refl
ends_left false true new old = refl
ends_left false false new old = refl

-- ---- two checks, and what is left after a check

then_both : (o next : Outcome) → and_then o next ≡ Ok tt → (o ≡ Ok tt) × (next ≡ Ok tt)
then_both (Ok _) next e = (refl, e)
then_both (Err f) next e = absurd (differ f (Ok tt) tt e)

then_same : (o next next' : Outcome) → (o ≡ Ok tt → next ≡ next') → and_then o next ≡ and_then o next'
then_same (Ok _) next next' h = h refl
then_same (Err f) next next' h = refl

then_nothing : (o : Outcome) → and_then o (Ok tt) ≡ o
then_nothing (Ok _) = refl
then_nothing (Err f) = refl

left_same : {A : Type 0} (o : Outcome) (new new' old : A) → (o ≡ Ok tt → new ≡ new') → unless_refused o new old ≡ unless_refused o new' old
left_same (Ok _) new new' old h = h refl
left_same (Err f) new new' old h = refl

left_either : {A : Type 0} (o : Outcome) (old : A) → unless_refused o old old ≡ old
left_either (Ok _) old = refl
left_either (Err f) old = refl

-- ---- when a move is refused

module _ (N : Numbering) (d : ℤ) (p : List ℕ) where
  abbrev reading : Outcome
  reading = checked N.form N.nodes p

  -- what is tested after reading
  abbrev after : Outcome
  after = ends (target N d p) (total N)

  pub move_lower : (g : Refusal) → refusal_number g < 5 → (move_check N d p ≡ Err g) ↔ (checked N.form N.nodes p ≡ Err g)
  unfolding move_check
  move_lower = step_lower N p after (ends_high (target N d p) (total N))

  move_next : (o : Outcome) → checked N.form N.nodes p ≡ Ok tt → after ≡ o → move_check N d p ≡ o
  unfolding move_check
  move_next o = then_next reading after o

  module _ (e : move_check N d p ≡ Ok tt) where
    move_passed : (checked N.form N.nodes p ≡ Ok tt) × (after ≡ Ok tt)
    unfolding move_check
    move_passed = then_both reading after e

    move_left : move_end N d p ≡ moved N d p
    unfolding move_end
    move_left = rw e

module _ (N : Numbering) (tested : Tested N.form) (d : ℤ) (p : List ℕ) where
  pub move_last : (move_check N d p ≡ Err Last) ↔ (Sized N.nodes × WellFormed N p × (pos (total N) ≤ℤ target N d p))
  unfolding move_check
  move_last = step_after N p (after N d p) tested (Err Last) (omega arith) (ends_last (target N d p) (total N))

  pub move_first : (move_check N d p ≡ Err First) ↔ (Sized N.nodes × WellFormed N p × (target N d p <ℤ pos 0))
  unfolding move_check
  move_first = step_after N p (after N d p) tested (Err First) (omega arith) (ends_first (target N d p) (total N))

  pub move_done : (move_check N d p ≡ Ok tt)
      ↔ (Sized N.nodes × WellFormed N p × (pos 0 ≤ℤ target N d p) × (target N d p <ℤ pos (total N)))
  unfolding move_check
  move_done =
      Iff.trans (step_after N p (after N d p) tested (Ok tt) tt (ends_done (target N d p) (total N))) (
        λ (s, w, (l, b)). (s, w, l, b),
        λ (s, w, l, b). (s, w, (l, b)),
      )

-- ---- where it leads

module _ (N : Numbering) (laws : Lawful N) (d : ℤ) (p : List ℕ) (e : move_check N d p ≡ Ok tt) where
  reached : (nat_abs (target N d p) < total N) × (pos (nat_abs (target N d p)) ≡ target N d p)
  reached = ends_number (target N d p) (total N) (move_passed N d p e).1

  pub number_moved : pos (N.number (moved N d p)) ≡ target N d p
  unfolding moved
  number_moved = ap pos (laws.number_shape _ reached.0) ∙ reached.1

  pub moved_formed : WellFormed N (moved N d p)
  unfolding moved
  moved_formed = laws.shape_formed _ reached.0

  target_joined : (d' : ℤ) → target N d' (move_end N d p) ≡ target N (d +ℤ d') p
  unfolding target
  target_joined d' =
      ap (λ q. pos (N.number q) +ℤ d') (move_left N d p e) ∙ ap (λ z. z +ℤ d') number_moved ∙ +ℤ_assoc (pos (N.number p)) d d'

module _ (N : Numbering) (laws : Lawful N) (d d' : ℤ) (p : List ℕ) (e : move_check N d p ≡ Ok tt) (e' : move_check N d' (move_end N d p) ≡ Ok tt) where
  joined_done : move_check N (d +ℤ d') p ≡ Ok tt
  joined_done =
      move_next N (d +ℤ d') p (Ok tt) (move_passed N d p e).0 (rw (target_joined N laws d p e d') at (move_passed N d' (move_end N d p) e').1)

  joined_moved : moved N (d +ℤ d') p ≡ moved N d' (move_end N d p)
  unfolding moved
  joined_moved = ap (λ z. N.shape (nat_abs z)) (sym (target_joined N laws d p e d'))

  pub moves_join : (move_check N (d +ℤ d') p ≡ Ok tt) × (move_end N (d +ℤ d') p ≡ move_end N d' (move_end N d p))
  moves_join = (joined_done, move_left N (d +ℤ d') p joined_done ∙ joined_moved ∙ sym (move_left N d' (move_end N d p) e'))

module _ (N : Numbering) (laws : Lawful N) (tested : Tested N.form) (d : ℤ) (p : List ℕ) (e : move_check N d p ≡ Ok tt) where
  target_home : target N (neg_ℤ d) (move_end N d p) ≡ pos (N.number p)
  unfolding target
  target_home = target_joined N laws d p e (neg_ℤ d) ∙ ap (λ z. pos (N.number p) +ℤ z) (+ℤ_invr d) ∙ +ℤ_idr (pos (N.number p))

  was_read : Sized N.nodes × WellFormed N p
  was_read = (checked_done N.form tested N.nodes p).0 (move_passed N d p e).0

  home_done : move_check N (neg_ℤ d) (move_end N d p) ≡ Ok tt
  home_done =
      move_next N (neg_ℤ d) (move_end N d p) (Ok tt)
      (rw move_left ((checked_done N.form tested N.nodes (moved N d p)).1 (was_read.0, moved_formed N laws d p e)))
      (rw target_home (ends_there (N.number p) (total N) (laws.number_below p was_read.1)))

  home_moved : moved N (neg_ℤ d) (move_end N d p) ≡ p
  unfolding moved
  home_moved = ap (λ z. N.shape (nat_abs z)) target_home ∙ laws.shape_number p was_read.1

  pub move_back : (move_check N (neg_ℤ d) (move_end N d p) ≡ Ok tt) × (move_end N (neg_ℤ d) (move_end N d p) ≡ p)
  move_back = (home_done, move_left N (neg_ℤ d) (move_end N d p) home_done ∙ home_moved)

-- ---- the distances 0, 1 and -1

module _ (N : Numbering) (laws : Lawful N) (tested : Tested N.form) (p : List ℕ) where
  formed : checked N.form N.nodes p ≡ Ok tt → WellFormed N p
  formed = done_formed N.form tested N.nodes p

  pub move_none_check : move_check N (pos 0) p ≡ checked N.form N.nodes p
  unfolding move_check target
  move_none_check =
      let read = reading N (pos 0) p in
      then_same read (after N (pos 0) p) (Ok tt) (λ r. ends_there _ (total N) (omega (arith, laws.number_below p (formed r)))) ∙ then_nothing read

  pub move_none : move_end N (pos 0) p ≡ p
  unfolding move_end moved target
  move_none =
      left_same (move_check N (pos 0) p) (moved N (pos 0) p) p p
      (λ e. ap N.shape (omega arith) ∙ laws.shape_number p (formed (move_passed N (pos 0) p e).0)) ∙ left_either (move_check N (pos 0) p) p

  one_back_check : move_check N (negsuc 0) p ≡ predecessor_check N p
  unfolding move_check target predecessor_check
  one_back_check =
      then_same (reading N (negsuc 0) p) (after N (negsuc 0) p) (unless (ltb 0 (N.number p)) First (Ok tt))
      (λ r. ends_back (N.number p) (total N) (laws.number_below p (formed r)))

  one_back_moved : predecessor_check N p ≡ Ok tt → moved N (negsuc 0) p ≡ previous N p
  unfolding moved target previous
  one_back_moved e = ap (λ z. N.shape (nat_abs z)) (sub_up (N.number p) 1 ((predecessor_done N tested p).0 e).2)

  pub move_one_back : (move_check N (negsuc 0) p ≡ predecessor_check N p) × (move_end N (negsuc 0) p ≡ predecessor_end N p)
  unfolding move_end predecessor_end
  move_one_back = (
    one_back_check,
    rw one_back_check (left_same (predecessor_check N p) (moved N (negsuc 0) p) (previous N p) p one_back_moved),
  )

pub move_one : (N : Numbering) (p : List ℕ) → (move_check N (pos 1) p ≡ successor_check N p) × (move_end N (pos 1) p ≡ successor_end N p)
unfolding move_check target successor_check move_end moved successor_end next
move_one N p = (refl, refl)

-- ---- the largest and the least distance of 64 bits

pub move_largest : (N : Numbering) (tested : Tested N.form) (p : List ℕ) → Sized N.nodes → WellFormed N p
    → move_check N (pos 9223372036854775807) p ≡ Err Last
unfolding target
move_largest N tested p sized formed =
    let past : total N ≤ N.number p + 9223372036854775807 = omega (arith, C_half N.nodes sized.1) in
    (move_last N tested (pos 9223372036854775807) p).1 (sized, formed, le_z_yes (le→leb _ _ past))

pub move_least : (N : Numbering) (laws : Lawful N) (tested : Tested N.form) (p : List ℕ) → Sized N.nodes → WellFormed N p
    → move_check N (negsuc 9223372036854775807) p ≡ Err First
unfolding target
move_least N laws tested p sized formed =
    let under : N.number p < 9223372036854775808 = omega (arith, C_half N.nodes sized.1, laws.number_below p formed) in
    (move_first N tested (negsuc 9223372036854775807) p).1 (sized, formed, rw (sub_down _ _ under) (lt_z_yes tt))

-- ---- what a call says and leaves after reading

-- b is whether the code found the target reached, f the refusal that it gives elsewhere, and x what it left
module _ (N : Numbering) (d : ℤ) (p : List ℕ) where
  pub reach_done : (b : Bool) → checked N.form N.nodes p ≡ Ok tt → b ≡ reaches N d p → b ≡ true → outcome_reply (Ok tt) ≡ move_reply N d p
  unfolding move_reply reaches
  reach_done b r e h =
      let both = (and_means (least_means (target N d p)) (below_means (target N d p) (pos (total N)))).0 (sym e ∙ h) in
      outcome_done (move_check N d p) (move_next N d p (Ok tt) r ((ends_done (target N d p) (total N)).1 both))

  pub reach_past : Lawful N → Tested N.form → (b : Bool) (f : Refusal) → checked N.form N.nodes p ≡ Ok tt → b ≡ reaches N d p → b ≡ false
      → f ≡ end_past d → refused f ≡ move_reply N d p
  unfolding move_reply reaches target
  reach_past laws tested b f r e h g =
      let below = laws.number_below p (done_formed N.form tested N.nodes p r) in
      let past = ends_past (N.number p) d (total N) below (sym e ∙ h) in
      outcome_refused (move_check N d p) f (move_next N d p (Err f) r (past ∙ ap Err (sym g)))

  pub reach_left : (x : List ℕ) → checked N.form N.nodes p ≡ Ok tt → x ≡ cond (reaches N d p) (moved N d p) p → x ≡ move_end N d p
  unfolding move_end reaches
  reach_left x r e =
      rw (move_next N d p (after N d p) r refl) (e ∙ ends_left (non_neg (target N d p)) (lt_z (target N d p) (pos (total N))) (moved N d p) p)
