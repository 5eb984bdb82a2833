-- A program that adds the offset to its own pointer reads what the call hands back as a reference: p and q are what the slices hold.
--     head_read       the head; there is no second slice, so what stands for it does not matter
--     later_read      the later of two
-- Assumes nothing.
use mathlib.Core.Path.{◌≡◌, refl}
use mathlib.Core.Bool.{Bool, true, false, cond}
use mathlib.Core.List.{List, []}
use Prim.Native.Nat.{ℕ}
use lib.Dec.{ltb}
use lib.ListN.{length, take}
use lib.Seq.{take_all}
use native.Mathlib.Nat.{le_refl}
use Rattle.shape.specs.Tree.{head}
use Rattle.shape.specs.Form.{patterns, pattern_tree}
use Rattle.shape.specs.Number.{local_number}
use Rattle.shape.specs.Check.{checked, unless_refused}
use Rattle.shape.specs.Calls.{check_reply}
use Rattle.shape.specs.Reply.{Outcome}
use Rattle.std.specs.Prelude.{Ok, Err}
use Rattle.pattern.specs.Calls.{head_part, later_check, later_of, later_part}
use Rattle.pattern.proofs.Answers.{head_taken}
use Rattle.exports.specs.Crossing.{head_told, later_told, from_start, read_from}

pub head_read : (n : ℕ) (p q : List ℕ) → read_from (head_told n p) p q ≡ head_part n p
unfolding head_told head_part check_reply
head_read n p q = by_check (checked patterns n p) (λ e. head_taken n p (checked patterns n p) refl e (length h) refl)
  where
    h : List ℕ
    h = head (pattern_tree p)

    by_check : (o : Outcome) → (o ≡ Ok tt → take (length h) p ≡ h) → take (length (unless_refused o h [])) p ≡ unless_refused o h []
    by_check (Ok _) taken = taken refl
    by_check (Err f) taken = refl

pub later_read : (n : ℕ) (p q : List ℕ) → read_from (later_told n p q) p q ≡ later_part n p q
unfolding later_told later_of later_part
later_read n p q = by_check (later_check n p q) (ltb (local_number p) (local_number q))
  where
    part : Outcome → Bool → List ℕ
    part o t = unless_refused o (unless_refused o (cond t q p) p) []

    by_check : (o : Outcome) (t : Bool) → read_from (from_start (unless_refused o (cond t 1 0) 0) (length (part o t))) p q ≡ part o t
    by_check (Ok _) true = take_all (length q) q (le_refl (length q))
    by_check (Ok _) false = take_all (length p) p (le_refl (length p))
    by_check (Err f) t = refl
