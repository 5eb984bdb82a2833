-- Each call's contract asks nothing of the caller and says exactly what is seen of the call: its answer, and what it leaves in the slice that
-- it writes. n is the size, p a pattern, r a record; s is what the written slice is in the end.
--     write_determined, read_determined
-- Assumes nothing.
use mathlib.Core.Logic.Iff
use mathlib.Core.List.{List}
use Prim.Native.Nat.{ℕ}
use Rattle.shape.specs.Form.{patterns}
use Rattle.shape.specs.Check.{record_length, numbered}
use Rattle.shape.specs.Calls.{conversion_check}
use Rattle.shape.specs.Reply.{Outcome, Numbered}
use Rattle.shape.specs.Determined.{Determined, determined, exact_both}
use Rattle.shape.proofs.Replies.{outcome_exact, numbered_exact}
use Rattle.record.specs.Record.{size_in}
use Rattle.record.specs.Calls.{write_reply, write_end, read_check, read_reply, read_end}
use Rattle.record.proofs.write.Reads as write
use Rattle.record.proofs.read.Reads as read

pub write_determined : Determined (Outcome × List ℕ) write.Pre write.Post (λ κ a (_, (_, (s, _))). (a, s.now))
    (λ κ (n, (p, (r, _))). (conversion_check patterns record_length n p.now r.now, write_end n p.now r.now))
unfolding write_reply
write_determined = determined (λ κ a. tt) (λ κ a r s. exact_both (outcome_exact r _) Iff.rfl)

pub read_determined : Determined (Numbered × List ℕ) read.Pre read.Post (λ κ a (_, (s, _)). (a, s.now))
    (λ κ (r, (p, _)). (numbered (read_check r.now p.now) (size_in r.now), read_end r.now p.now))
unfolding read_reply
read_determined = determined (λ κ a. tt) (λ κ a r s. exact_both (numbered_exact r _) Iff.rfl)
