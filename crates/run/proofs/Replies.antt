-- A step's answer is known from its reply, so a contract that fixes the reply fixes the answer.
--     progress_known       no two answers have one reply
--     progress_exact       so what is said of the reply is said of the answer
-- Assumes nothing.
use mathlib.Core.Path.{◌≡◌, refl, ap}
use mathlib.Core.Logic.{◌↔◌}
use native.Mathlib.Omega.{arith}
use Rattle.shape.specs.Reply.{Reply}
use Rattle.shape.proofs.Replies.{refusal_least, refusal_known}
use Rattle.run.specs.declared.Progress.{Progress}
use Rattle.run.specs.declared.Progress.TheVariants.{Handed, Done, Refused}
use Rattle.run.specs.Calls.{progress_reply}

same_refusal : {x y : Reply} → x ≡ y → x.refusal ≡ y.refusal
same_refusal e = ap (λ (z : Reply). z.refusal) e

same_value : {x y : Reply} → x ≡ y → x.value ≡ y.value
same_value e = ap (λ (z : Reply). z.value) e

pub progress_known : (r s : Progress) → progress_reply r ≡ progress_reply s → r ≡ s
progress_known Handed Handed e = refl
progress_known Handed Done e = absurd (omega (arith, same_value e))
progress_known Handed (Refused f) e = absurd (omega (arith, same_value e))
progress_known Done Handed e = absurd (omega (arith, same_value e))
progress_known Done Done e = refl
progress_known Done (Refused f) e = absurd (omega (arith, same_refusal e, refusal_least f))
progress_known (Refused f) Handed e = absurd (omega (arith, same_value e))
progress_known (Refused f) Done e = absurd (omega (arith, same_refusal e, refusal_least f))
progress_known (Refused f) (Refused g) e = ap Refused (refusal_known f g (same_refusal e))

pub progress_exact : (r s : Progress) → (progress_reply r ≡ progress_reply s) ↔ (r ≡ s)
progress_exact r s = (progress_known r s, ap progress_reply)
