-- What a call answers and leaves after a check, each law in the words in which a call meets it: o is the check, and r what it answered.
--     then_refused, then_next             a check after another: the first one's refusal, or what comes next
--     said_refused, said_value            what a call says that has a value to say
--     left_old, left_new                  what it leaves in a lent list, or hands back
--     outcome_refused, outcome_passed, outcome_done       what a call says that only says that it was done
--     chosen_first, chosen_second         which of two things a test chooses
--     step_refused, step_value            one step, which is refused exactly where its change is 0
--     step_done, step_none                one step that only says that it was done
--     step_left                           and what either leaves
--     pattern_asks, permutation_asks, record_asks      how long a form asks a list to be
--     room_none, room_large, room_other, room_fits      the tests of the size and of the length
--     room_told, room_some, room_small, room_long       and what their answer tells
--     check_refused, check_contents       what a check says, after them
--     check_told, done_some, done_small   and what its answer tells
--     asked_refused, asked_past, asked_below, asked_done      the check of a number, after them, against the table's entry
--     asked_kept, asked_lent              what is left in the list that the shape would have been written to
--     answered                            those of them that leave the form to the goal, for `search`
-- Assumes nothing.
use mathlib.Core.Path.{◌≡◌, refl, sym, ap, ◌∙◌}
use mathlib.Core.Bool.{Bool, true, false, cond}
use mathlib.Core.List.{List}
use Prim.Native.Nat.{ℕ, ◌*◌, ◌≤◌, ◌<◌}
use native.Mathlib.Omega.{arith}
use lib.Dec.{ltb}
use lib.ListN.{length}
use Rattle.catalan.specs.Count.{largest_size}
use Rattle.catalan.specs.Table.{table_at}
use Rattle.catalan.proofs.Tables.{table_within}
use Rattle.shape.specs.Form.{Form}
use Rattle.shape.specs.Numbering.{Numbering, total}
use Rattle.shape.specs.Reply.{outcome_reply, numbered_reply, refused, Outcome}
use Rattle.shape.specs.Check.{unless, and_then, Sized, record_length, length_of, room_of, room_for, contents, checked, number_check, reply}
use Rattle.shape.specs.Check.{unless_refused}
use Rattle.shape.specs.Calls.{check_reply}
use Rattle.shape.specs.declared.Form.{Form as Name}
use Rattle.shape.specs.declared.Form.TheVariants.{Pattern, Permutation, Record}
use Rattle.shape.specs.declared.Refusal.{Refusal}
use Rattle.shape.specs.declared.Refusal.TheVariants.{Size, Length, Number}
use Rattle.std.specs.Prelude.{Ok, Err}
use Rattle.shape.proofs.Replies.{outcome_known}
use Rattle.shape.proofs.Checks.{room_size, room_length, room_done, done_sized, number_refused, number_done}

-- ---- what follows a check

pub then_refused : (o next r : Outcome) (f : Refusal) → r ≡ Err f → o ≡ r → and_then o next ≡ r
then_refused o next r f e h = rw (h, e)

pub then_next : (o next r : Outcome) → o ≡ Ok tt → next ≡ r → and_then o next ≡ r
then_next o next r e h = rw e h

pub said_refused : (o r : Outcome) (k : ℕ) (f : Refusal) → r ≡ Err f → o ≡ r → refused f ≡ reply o k
said_refused o r k f e h = rw (h, e)

pub said_value : (o : Outcome) (k v : ℕ) → o ≡ Ok tt → v ≡ k → numbered_reply (Ok v) ≡ reply o k
said_value o k v e h = rw e (ap (λ (x : ℕ). numbered_reply (Ok x)) h)

module _ {A : Type 0} (o : Outcome) where
  pub left_old : (r : Outcome) (new old : A) (f : Refusal) → r ≡ Err f → o ≡ r → old ≡ unless_refused o new old
  left_old r new old f e h = rw (h, e)

  pub left_new : (x new old : A) → o ≡ Ok tt → x ≡ new → x ≡ unless_refused o new old
  left_new x new old e h = rw e h

  left_lent : (new old : A) (f : Refusal) → o ≡ Err f → old ≡ unless_refused o new old
  left_lent new old f e = rw e

pub outcome_refused : (o : Outcome) (f : Refusal) → o ≡ Err f → refused f ≡ outcome_reply o
outcome_refused o f e = rw e

pub outcome_passed : (o r : Outcome) (f : Refusal) → r ≡ Err f → o ≡ r → refused f ≡ outcome_reply o
outcome_passed o r f e h = rw (h, e)

pub outcome_done : (o : Outcome) → o ≡ Ok tt → outcome_reply (Ok tt) ≡ outcome_reply o
outcome_done o e = rw e

-- b is what the code found the test t to be
module _ {A : Type 0} (t b : Bool) (x y : A) (e : b ≡ t) where
  pub chosen_first : b ≡ true → x ≡ cond t x y
  chosen_first h = rw (← e, h)

  pub chosen_second : b ≡ false → y ≡ cond t x y
  chosen_second h = rw (← e, h)

-- ---- one step

-- It is taken where the test t passes, with a change c, at least 1, and refused for f elsewhere; v is the change that the code found, 0 for none.
module _ (o : Outcome) (t : Bool) (f : Refusal) (e : o ≡ Ok tt) where
  module _ (c v : ℕ) (g : v ≡ cond t c 0) where
    pub step_refused : (t ≡ true → 1 ≤ c) → v ≡ 0 → refused f ≡ reply (and_then o (unless t f (Ok tt))) c
    step_refused least none = rw e (by_test t least g)
      where
        by_test : (t : Bool) → (t ≡ true → 1 ≤ c) → v ≡ cond t c 0 → refused f ≡ reply (unless t f (Ok tt)) c
        by_test true l g = absurd (omega (arith, l refl))
        by_test false l g = refl

    pub step_value : (v ≡ 0 → ⊥) → numbered_reply (Ok v) ≡ reply (and_then o (unless t f (Ok tt))) c
    step_value some = rw e (by_test t g)
      where
        by_test : (t : Bool) → v ≡ cond t c 0 → numbered_reply (Ok v) ≡ reply (unless t f (Ok tt)) c
        by_test true g = ap (λ (x : ℕ). numbered_reply (Ok x)) g
        by_test false g = absurd (some g)

  -- a step that only says that it was done; b is whether the code found one
  module _ (b : Bool) (g : b ≡ t) where
    pub step_done : b ≡ true → outcome_reply (Ok tt) ≡ outcome_reply (and_then o (unless t f (Ok tt)))
    step_done h = rw (e, ← g, h)

    pub step_none : b ≡ false → refused f ≡ outcome_reply (and_then o (unless t f (Ok tt)))
    step_none h = rw (e, ← g, h)

  pub step_left : {A : Type 0} (x new old : A) → x ≡ cond t new old → x ≡ unless_refused (and_then o (unless t f (Ok tt))) new old
  step_left x new old g = rw (e, g) (by_test t)
    where
      by_test : (t : Bool) → cond t new old ≡ unless_refused (unless t f (Ok tt)) new old
      by_test true = refl
      by_test false = refl

-- ---- room for a list, test by test

pub pattern_asks : (form : Name) (n : ℕ) → form ≡ Pattern → 2 * n ≡ length_of form n
pattern_asks form n e = rw e

pub permutation_asks : (form : Name) (n : ℕ) → form ≡ Permutation → n ≡ length_of form n
permutation_asks form n e = rw e

pub record_asks : (form : Name) (n : ℕ) → form ≡ Record → record_length n ≡ length_of form n
record_asks form n e = rw e

module _ (long : ℕ → ℕ) (n m : ℕ) where
  pub room_none : n ≡ 0 → Err Size ≡ room_of long n m
  room_none none = sym ((room_size long n m).1 (λ s. omega arith))

  pub room_large : largest_size < n → Err Size ≡ room_of long n m
  room_large large = sym ((room_size long n m).1 (λ s. omega arith))

  -- v is the length that the code found the form to ask
  module _ (v : ℕ) (e : v ≡ long n) (some : n ≡ 0 → ⊥) (small : n ≤ largest_size) where
    pub room_other : (m ≡ v → ⊥) → Err Length ≡ room_of long n m
    room_other other = sym ((room_length long n m).1 ((omega arith, small), λ g. other (g ∙ sym e)))

    pub room_fits : m ≡ v → Ok tt ≡ room_of long n m
    room_fits fits = sym ((room_done long n m).1 ((omega arith, small), fits ∙ e))

  -- r is what they were found to answer
  module _ (r : Outcome) (e : r ≡ room_of long n m) where
    pub room_told : (o : Outcome) → r ≡ o → room_of long n m ≡ o
    room_told o h = sym e ∙ h

    module _ (h : r ≡ Ok tt) where
      pub room_some : 1 ≤ n
      room_some = ((room_done long n m).0 (room_told (Ok tt) h)).0.0

      pub room_small : n ≤ largest_size
      room_small = ((room_done long n m).0 (room_told (Ok tt) h)).0.1

      pub room_long : m ≡ long n
      room_long = ((room_done long n m).0 (room_told (Ok tt) h)).1

-- ---- the check of a list that is read

module _ (F : Form) (n : ℕ) (p : List ℕ) where
  -- o is what the size and the length were found to be
  module _ (o : Outcome) (e : o ≡ room_for F n p) where
    pub check_refused : (f : Refusal) → o ≡ Err f → refused f ≡ check_reply F n p
    unfolding check_reply checked
    check_refused f h = ap (λ r. outcome_reply (and_then r (contents F n p))) (sym h ∙ e)

    pub check_contents : (c : Outcome) → o ≡ Ok tt → c ≡ contents F n p → outcome_reply c ≡ check_reply F n p
    unfolding check_reply checked
    check_contents c h d = ap outcome_reply (d ∙ ap (λ r. and_then r (contents F n p)) (sym h ∙ e))

  module _ (r : Outcome) (e : outcome_reply r ≡ check_reply F n p) where
    pub check_told : (o : Outcome) → r ≡ o → checked F n p ≡ o
    unfolding check_reply
    check_told o h = sym (outcome_known r (checked F n p) e) ∙ h

    module _ (h : r ≡ Ok tt) where
      pub done_some : 1 ≤ n
      done_some = (done_sized F n p (check_told (Ok tt) h)).0

      pub done_small : n ≤ largest_size
      done_small = (done_sized F n p (check_told (Ok tt) h)).1

-- ---- the check of a number

module _ (N : Numbering) (k : ℕ) (p : List ℕ) (r : Outcome) (e : r ≡ room_for N.form N.nodes p) where
  pub asked_refused : (f : Refusal) → r ≡ Err f → number_check N k p ≡ Err f
  unfolding number_check
  asked_refused f h = ap (λ o. and_then o (unless (ltb k (total N)) Number (Ok tt))) (sym e ∙ h)

  -- the list that the shape would have been written to
  pub asked_kept : (f : Refusal) → r ≡ Err f → p ≡ unless_refused (number_check N k p) (N.shape k) p
  asked_kept f h = left_lent (number_check N k p) (N.shape k) p f (asked_refused f h)

  -- v is what the table of the Catalan numbers says of the size
  module _ (h : r ≡ Ok tt) (v : ℕ) (t : v ≡ table_at N.nodes) where
    there : Sized N.nodes × (length p ≡ N.form.length_of N.nodes)
    there = (room_done N.form.length_of N.nodes (length p)).0 (sym e ∙ h)

    limit : v ≡ total N
    limit = t ∙ table_within N.nodes (omega (arith, there.0.1))

    pub asked_past : v ≤ k → number_check N k p ≡ Err Number
    asked_past past = (number_refused N k p).1 (there.0, there.1, omega (arith, limit))

    pub asked_lent : v ≤ k → p ≡ unless_refused (number_check N k p) (N.shape k) p
    asked_lent past = left_lent (number_check N k p) (N.shape k) p Number (asked_past past)

    pub asked_below : k < v → k < total N
    asked_below below = omega (arith, limit)

    pub asked_done : k < v → number_check N k p ≡ Ok tt
    asked_done below = (number_done N k p).1 (there.0, there.1, asked_below below)

pub ruleset answered = (
  then_refused,
  then_next,
  said_refused,
  said_value,
  left_old,
  left_new,
  asked_kept,
  asked_lent,
  outcome_refused,
  outcome_passed,
  outcome_done,
  chosen_first,
  chosen_second,
  step_refused,
  step_value,
  step_done,
  step_none,
  step_left,
  pattern_asks,
  permutation_asks,
  record_asks,
  room_none,
  room_large,
  room_other,
  room_fits,
  check_refused,
  check_contents,
  check_told,
  done_some,
  done_small,
  asked_refused,
  asked_past,
  asked_done,
)
