-- Each call's contract asks nothing of the caller and says exactly what is seen of the call: its answer, and what it leaves in a slice that
-- it writes; of a returned part, where it points and what it holds. So two answers that meet it are equal, and so are the slices in the end.
-- n is the size, k a number, d a distance, p the lent slice; q is the second one, or what p is in the end.
-- Assumes nothing.
use mathlib.Core.Logic.Iff
use mathlib.Core.List.{List}
use Prim.Native.Nat.{ℕ, ◌+◌}
use Rattle.shape.specs.Form.{patterns}
use Rattle.shape.specs.Number.{local_number, change, depth as depth_of}
use Rattle.shape.specs.Numbering.{local}
use Rattle.shape.specs.Check.{checked, number_check, successor_check, predecessor_check, numbered}
use Rattle.shape.specs.Reply.{Outcome, Numbered}
use Rattle.shape.specs.Determined.{Determined, determined, exact_both}
use Rattle.shape.proofs.Replies.{outcome_exact, numbered_exact}
use Rattle.shape.specs.Calls.{check_reply, number_reply, shape_reply, shape_end, successor_end, predecessor_end}
use Rattle.shape.specs.Move.{move_check, move_reply, move_end}
use Rattle.pattern.specs.Calls.{successor_change, predecessor_change, depth_reply, head_part, later_of, later_part}
use Rattle.pattern.proofs.check.Reads as check
use Rattle.pattern.proofs.number.Reads as number
use Rattle.pattern.proofs.shape.Reads as shape
use Rattle.pattern.proofs.successor.Reads as successor
use Rattle.pattern.proofs.predecessor.Reads as predecessor
use Rattle.pattern.proofs.move_by.Reads as move-by
use Rattle.pattern.proofs.depth.Reads as depth
use Rattle.pattern.proofs.head.Reads as head
use Rattle.pattern.proofs.later.Reads as later

-- where a part of a slice begins, and what it holds
abbrev Part : Type 0
Part = (ℕ × ℕ) × List ℕ

pub check_determined : Determined Outcome check.Pre check.Post (λ κ r s. r) (λ κ (n, (p, _)). checked patterns n p.now)
unfolding check_reply
check_determined = determined (λ κ a. tt) (λ κ a r s. outcome_exact r _)

pub number_determined : Determined Numbered number.Pre number.Post (λ κ r s. r)
    (λ κ (n, (p, _)). numbered (checked patterns n p.now) (local_number p.now))
unfolding number_reply
number_determined = determined (λ κ a. tt) (λ κ a r s. numbered_exact r _)

pub depth_determined : Determined Numbered depth.Pre depth.Post (λ κ r s. r)
    (λ κ (n, (p, _)). numbered (checked patterns n p.now) (depth_of p.now))
unfolding depth_reply
depth_determined = determined (λ κ a. tt) (λ κ a r s. numbered_exact r _)

pub shape_determined : Determined (Outcome × List ℕ) shape.Pre shape.Post (λ κ r (_, (_, (q, _))). (r, q.now))
    (λ κ (n, (k, (p, _))). (number_check (local n) k p.now, shape_end (local n) k p.now))
unfolding shape_reply
shape_determined = determined (λ κ a. tt) (λ κ a r s. exact_both (outcome_exact r _) Iff.rfl)

pub successor_determined : Determined (Numbered × List ℕ) successor.Pre successor.Post (λ κ r (_, (q, _)). (r, q.now))
    (λ κ (n, (p, _)). (numbered (successor_check (local n) p.now) (change n (local_number p.now + 1)), successor_end (local n) p.now))
unfolding successor_change
successor_determined = determined (λ κ a. tt) (λ κ a r s. exact_both (numbered_exact r _) Iff.rfl)

pub predecessor_determined : Determined (Numbered × List ℕ) predecessor.Pre predecessor.Post (λ κ r (_, (q, _)). (r, q.now))
    (λ κ (n, (p, _)). (numbered (predecessor_check (local n) p.now) (change n (local_number p.now)), predecessor_end (local n) p.now))
unfolding predecessor_change
predecessor_determined = determined (λ κ a. tt) (λ κ a r s. exact_both (numbered_exact r _) Iff.rfl)

pub move_by_determined : Determined (Outcome × List ℕ) move-by.Pre move-by.Post (λ κ r (_, (_, (q, _))). (r, q.now))
    (λ κ (n, (d, (p, _))). (move_check (local n) d p.now, move_end (local n) d p.now))
unfolding move_reply
move_by_determined = determined (λ κ a. tt) (λ κ a r s. exact_both (outcome_exact r _) Iff.rfl)

pub head_determined : Determined Part head.Pre head.Post (λ κ r s. (r.ref_ptr, r.now)) (λ κ (n, (p, _)). (p.ref_ptr, head_part n p.now))
head_determined = determined (λ κ a. tt) (λ κ a r s. exact_both Iff.rfl Iff.rfl)

pub later_determined : Determined Part later.Pre later.Post (λ κ r s. (r.ref_ptr, r.now))
    (λ κ (n, (p, (q, _))). (later_of n p.now q.now p.ref_ptr q.ref_ptr, later_part n p.now q.now))
later_determined = determined (λ κ a. tt) (λ κ a r s. exact_both Iff.rfl Iff.rfl)
