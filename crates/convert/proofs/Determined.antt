-- Each call's contract asks nothing of the caller and says exactly what is seen of the call: its answer, and what it leaves in the slice that
-- it writes. n is the size, p the slice that is read, q the one that is written, s what q is in the end.
-- Assumes nothing.
use mathlib.Core.Logic.Iff
use mathlib.Core.List.{List}
use Prim.Native.Nat.{ℕ}
use Rattle.shape.specs.Form.{patterns, permutations}
use Rattle.shape.specs.Calls.{conversion_check, conversion_reply, conversion_end}
use Rattle.shape.specs.Reply.{Outcome}
use Rattle.shape.specs.Determined.{Determined, determined, exact_both}
use Rattle.shape.proofs.Replies.{outcome_exact}
use Rattle.convert.proofs.to_permutation.Reads as to-permutation
use Rattle.convert.proofs.to_pattern.Reads as to-pattern

pub to_permutation_determined : Determined (Outcome × List ℕ) to-permutation.Pre to-permutation.Post (λ κ r (_, (_, (s, _))). (r, s.now))
    (λ κ (n, (p, (q, _))). (
      conversion_check patterns permutations.length_of n p.now q.now,
      conversion_end patterns permutations n p.now q.now,
    ))
unfolding conversion_reply
to_permutation_determined = determined (λ κ a. tt) (λ κ a r s. exact_both (outcome_exact r _) Iff.rfl)

pub to_pattern_determined : Determined (Outcome × List ℕ) to-pattern.Pre to-pattern.Post (λ κ r (_, (_, (s, _))). (r, s.now))
    (λ κ (n, (p, (q, _))). (
      conversion_check permutations patterns.length_of n p.now q.now,
      conversion_end permutations patterns n p.now q.now,
    ))
unfolding conversion_reply
to_pattern_determined = determined (λ κ a. tt) (λ κ a r s. exact_both (outcome_exact r _) Iff.rfl)
