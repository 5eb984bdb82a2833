-- An answer is known from its reply, so a contract that fixes the reply fixes the answer.
--     refusal_known       no two refusals have one number
--     refusal_least, refusal_most      the numbers are 1 to 11
--     outcome_known, numbered_known    no two answers have one reply
--     outcome_exact, numbered_exact    so what is said of the reply is said of the answer
--     outcome_silent, refused_silent   the value is 0 where there is nothing to say
--     done_accepted, value_accepted    the refusal's number is 0 where nothing is refused
--     told_value, told_refused         what a number, or a refusal, tells of the check before it
-- Assumes nothing.
use mathlib.Core.Path.{◌≡◌, refl, sym, ap, ◌∙◌}
use mathlib.Core.Logic.{◌↔◌}
use mathlib.Core.List.{List, [], ◌∷◌}
use Prim.Native.Nat.{ℕ, ◌-◌, ◌≤◌}
use native.Mathlib.Omega.{arith}
use lib.Dec.{T, leb, leb→le}
use lib.ListN.{get_or}
use Rattle.shape.specs.Reply.{refusal_number, Reply, refused, outcome_reply, numbered_reply, Outcome, Numbered}
use Rattle.shape.specs.Check.{reply}
use Rattle.shape.specs.declared.Refusal.{Refusal}
use Rattle.shape.specs.declared.Refusal.TheVariants.{Size, Length, Entry, Shape, Number, Last, First, Range, State, Record, Input}
use Rattle.std.specs.Prelude.{Ok, Err}

-- the refusals in the order of their numbers, from 1
abbrev refusals : List Refusal
refusals = Size ∷ Length ∷ Entry ∷ Shape ∷ Number ∷ Last ∷ First ∷ Range ∷ State ∷ Record ∷ Input ∷ []

-- what each case computes to
abbrev Placed : Refusal → Type 0
Placed f = (get_or refusals (refusal_number f - 1) Size ≡ f) × T (leb 1 (refusal_number f)) × T (leb (refusal_number f) 11)

placed : (f : Refusal) → Placed f
placed Size = (refl, tt, tt)
placed Length = (refl, tt, tt)
placed Entry = (refl, tt, tt)
placed Shape = (refl, tt, tt)
placed Number = (refl, tt, tt)
placed Last = (refl, tt, tt)
placed First = (refl, tt, tt)
placed Range = (refl, tt, tt)
placed State = (refl, tt, tt)
placed Record = (refl, tt, tt)
placed Input = (refl, tt, tt)

pub refusal_least : (f : Refusal) → 1 ≤ refusal_number f
refusal_least f = leb→le 1 (refusal_number f) (placed f).1

pub refusal_most : (f : Refusal) → refusal_number f ≤ 11
refusal_most f = leb→le (refusal_number f) 11 (placed f).2

pub refusal_known : (f g : Refusal) → refusal_number f ≡ refusal_number g → f ≡ g
refusal_known f g e = sym (placed f).0 ∙ ap (λ (k : ℕ). get_or refusals (k - 1) Size) e ∙ (placed g).0

-- the refusal's number in two equal replies
same_refusal : {x y : Reply} → x ≡ y → x.refusal ≡ y.refusal
same_refusal e = ap (λ (z : Reply). z.refusal) e

pub outcome_known : (r s : Outcome) → outcome_reply r ≡ outcome_reply s → r ≡ s
outcome_known (Ok _) (Ok _) e = refl
outcome_known (Ok _) (Err f) e = absurd (omega (arith, same_refusal e, refusal_least f))
outcome_known (Err f) (Ok _) e = absurd (omega (arith, same_refusal e, refusal_least f))
outcome_known (Err f) (Err g) e = ap Err (refusal_known f g (same_refusal e))

pub numbered_known : (r s : Numbered) → numbered_reply r ≡ numbered_reply s → r ≡ s
numbered_known (Ok j) (Ok k) e = ap Ok (ap (λ (y : Reply). y.value) e)
numbered_known (Ok j) (Err f) e = absurd (omega (arith, same_refusal e, refusal_least f))
numbered_known (Err f) (Ok k) e = absurd (omega (arith, same_refusal e, refusal_least f))
numbered_known (Err f) (Err g) e = ap Err (refusal_known f g (same_refusal e))

pub outcome_exact : (r s : Outcome) → (outcome_reply r ≡ outcome_reply s) ↔ (r ≡ s)
outcome_exact r s = (outcome_known r s, ap outcome_reply)

pub numbered_exact : (r s : Numbered) → (numbered_reply r ≡ numbered_reply s) ↔ (r ≡ s)
numbered_exact r s = (numbered_known r s, ap numbered_reply)

-- where there is nothing to say, 0 is said
pub outcome_silent : (r : Outcome) → (outcome_reply r).value ≡ 0
outcome_silent (Ok _) = refl
outcome_silent (Err f) = refl

pub refused_silent : (f : Refusal) → (numbered_reply (Err f)).value ≡ 0
refused_silent f = refl

-- and what is done or counted is no refusal
pub done_accepted : (outcome_reply (Ok tt)).refusal ≡ 0
done_accepted = refl

pub value_accepted : (k : ℕ) → (numbered_reply (Ok k)).refusal ≡ 0
value_accepted k = refl

-- o is the check, and k what is said where it is done
pub told_value : (o : Outcome) (k v : ℕ) → numbered_reply (Ok v) ≡ reply o k → (o ≡ Ok tt) × (v ≡ k)
told_value (Ok _) k v e = (refl, ap (λ (y : Reply). y.value) e)
told_value (Err f) k v e = absurd (omega (arith, same_refusal e, refusal_least f))

pub told_refused : (o : Outcome) (k : ℕ) (f : Refusal) → refused f ≡ reply o k → o ≡ Err f
told_refused (Ok _) k f e = absurd (omega (arith, same_refusal e, refusal_least f))
told_refused (Err g) k f e = ap Err (refusal_known g f (sym (same_refusal e)))
