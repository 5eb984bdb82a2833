-- What a call answers that begins with a check, in the words in which it meets the check: o is what the check is to say.
--     passed_number, passed_done      it hands the check's refusal f on: its answer r, with a number to say and with none
--     passed_step, passed_step_done   the same, where more is asked after the check
--     passed_left                     and what it leaves in a lent list
--     said_number                     the check was done, and the call has a number to say
--     check_passed                    the check was done
--     passing                         these, for the check's attribute `using`
-- Assumes nothing.
use mathlib.Core.Path.{◌≡◌, sym}
use Prim.Native.Nat.{ℕ}
use Rattle.std.specs.Prelude.{Ok, Err}
use Rattle.shape.specs.Reply.{outcome_reply, numbered_reply, refused, Outcome, Numbered}
use mathlib.Core.List.{List}
use Rattle.shape.specs.Form.{Form}
use Rattle.shape.specs.Check.{reply, and_then, unless_refused, checked}
use Rattle.shape.specs.Calls.{check_reply}
use Rattle.shape.specs.declared.Refusal.{Refusal}
use Rattle.shape.proofs.Replies.{outcome_known}

pub passed_number : (r : Numbered) (f : Refusal) (o : Outcome) (k : ℕ) → r ≡ Err f → refused f ≡ outcome_reply o → numbered_reply r ≡ reply o k
passed_number r f o k h e = rw (h, sym (outcome_known (Err f) o e))

pub passed_done : (r : Outcome) (f : Refusal) (o : Outcome) → r ≡ Err f → refused f ≡ outcome_reply o → outcome_reply r ≡ outcome_reply o
passed_done r f o h e = rw (h, sym (outcome_known (Err f) o e))

pub passed_step : (r : Numbered) (f : Refusal) (o next : Outcome) (k : ℕ) → r ≡ Err f → refused f ≡ outcome_reply o
    → numbered_reply r ≡ reply (and_then o next) k
passed_step r f o next k h e = rw (h, sym (outcome_known (Err f) o e))

pub passed_step_done : (r : Outcome) (f : Refusal) (o next : Outcome) → r ≡ Err f → refused f ≡ outcome_reply o
    → outcome_reply r ≡ outcome_reply (and_then o next)
passed_step_done r f o next h e = rw (h, sym (outcome_known (Err f) o e))

pub passed_left : {A : Type 0} (f : Refusal) (o next : Outcome) (new old : A) → refused f ≡ outcome_reply o → old ≡ unless_refused (and_then o next) new old
passed_left f o next new old e = rw (sym (outcome_known (Err f) o e))

pub said_number : (v k : ℕ) (o : Outcome) → outcome_reply (Ok tt) ≡ outcome_reply o → v ≡ k → numbered_reply (Ok v) ≡ reply o k
said_number v k o e h = rw (sym (outcome_known (Ok tt) o e), h)

pub check_passed : (F : Form) (n : ℕ) (p : List ℕ) → outcome_reply (Ok tt) ≡ check_reply F n p → checked F n p ≡ Ok tt
unfolding check_reply
check_passed F n p e = sym (outcome_known (Ok tt) (checked F n p) e)

pub ruleset passing = (passed_number, passed_done, passed_step, passed_step_done, passed_left, said_number, check_passed)
