-- Each call's contract asks nothing of the caller and says exactly what is seen of the call: its answer, and what it leaves in a slice that
-- it writes. So two answers that meet it are equal, and so are the slices in the end. n is the size, k a number, d a distance, p the lent slice, q what it
-- is in the end.
-- Assumes nothing.
use mathlib.Core.Logic.Iff
use Rattle.std.proofs.Common.{ℕ, List}
use Rattle.shape.specs.Form.{permutations, permutation_tree}
use Rattle.shape.specs.Number.{natural_number}
use Rattle.shape.specs.Numbering.{natural}
use Rattle.shape.specs.Check.{checked, number_check, successor_check, predecessor_check, numbered}
use Rattle.shape.specs.Calls.{check_reply, number_reply, shape_reply, shape_end, successor_reply, successor_end, predecessor_reply, predecessor_end}
use Rattle.shape.specs.Move.{move_check, move_reply, move_end}
use Rattle.shape.specs.Reply.{Outcome, Numbered}
use Rattle.shape.specs.Determined.{Determined, determined, exact_both}
use Rattle.shape.proofs.Replies.{outcome_exact, numbered_exact}
use Rattle.permutation.proofs.check.Reads as check
use Rattle.permutation.proofs.number.Reads as number
use Rattle.permutation.proofs.shape.Reads as shape
use Rattle.permutation.proofs.successor.Reads as successor
use Rattle.permutation.proofs.predecessor.Reads as predecessor
use Rattle.permutation.proofs.move_by.Reads as move-by

pub check_determined : Determined Outcome check.Pre check.Post (λ κ r s. r) (λ κ (n, (p, _)). checked permutations n p.now)
unfolding check_reply
check_determined = determined (λ κ a. tt) (λ κ a r s. outcome_exact r _)

pub number_determined : Determined Numbered number.Pre number.Post (λ κ r s. r)
    (λ κ (n, (p, _)). numbered (checked permutations n p.now) (natural_number (permutation_tree p.now)))
unfolding number_reply
number_determined = determined (λ κ a. tt) (λ κ a r s. numbered_exact r _)

pub shape_determined : Determined (Outcome × List ℕ) shape.Pre shape.Post (λ κ r (_, (_, (q, _))). (r, q.now))
    (λ κ (n, (k, (p, _))). (number_check (natural n) k p.now, shape_end (natural n) k p.now))
unfolding shape_reply
shape_determined = determined (λ κ a. tt) (λ κ a r s. exact_both (outcome_exact r _) Iff.rfl)

pub successor_determined : Determined (Outcome × List ℕ) successor.Pre successor.Post (λ κ r (_, (q, _)). (r, q.now))
    (λ κ (n, (p, _)). (successor_check (natural n) p.now, successor_end (natural n) p.now))
unfolding successor_reply
successor_determined = determined (λ κ a. tt) (λ κ a r s. exact_both (outcome_exact r _) Iff.rfl)

pub predecessor_determined : Determined (Outcome × List ℕ) predecessor.Pre predecessor.Post (λ κ r (_, (q, _)). (r, q.now))
    (λ κ (n, (p, _)). (predecessor_check (natural n) p.now, predecessor_end (natural n) p.now))
unfolding predecessor_reply
predecessor_determined = determined (λ κ a. tt) (λ κ a r s. exact_both (outcome_exact r _) Iff.rfl)

pub move_by_determined : Determined (Outcome × List ℕ) move-by.Pre move-by.Post (λ κ r (_, (_, (q, _))). (r, q.now))
    (λ κ (n, (d, (p, _))). (move_check (natural n) d p.now, move_end (natural n) d p.now))
unfolding move_reply
move_by_determined = determined (λ κ a. tt) (λ κ a r s. exact_both (outcome_exact r _) Iff.rfl)
