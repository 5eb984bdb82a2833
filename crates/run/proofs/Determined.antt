-- The contracts of `Run::start` and `Run::step` ask nothing of the caller and say exactly what is answered, all of it: n is the size, k the
-- first number, end the one after the last, and t the state handed in. So two answers that meet one of them are equal.
--     started_exact, stepped_exact              an answer is known from its parts
--     start_determined, step_determined
-- Assumes nothing.
use mathlib.Core.Path.{◌≡◌, ap}
use mathlib.Core.Logic.{◌↔◌}
use mathlib.Core.List.{List}
use Prim.Native.Nat.{ℕ}
use Rattle.shape.specs.Reply.{Outcome}
use Rattle.shape.specs.Determined.{Determined, determined}
use Rattle.shape.proofs.Replies.{outcome_exact}
use Rattle.run.specs.declared.Run.{Run}
use Rattle.run.specs.declared.Started.{Started}
use Rattle.run.specs.declared.Progress.{Progress}
use Rattle.run.specs.declared.Stepped.{Stepped}
use Rattle.run.specs.Calls.{start_check, start_reply, start_run, progress, step_reply, step_run, step_places, step_change}
use Rattle.run.proofs.Replies.{progress_exact}
use Rattle.run.proofs.Run.start.Reads as start
use Rattle.run.proofs.Run.step.Reads as step

-- P says what the outcome is, or how the step went
started_exact : {P : Type 0} (r : Started) (o : Outcome) (t : Run) → P ↔ (r.outcome ≡ o)
    → (P × (r.run ≡ t)) ↔ (r ≡ record { outcome = o; run = t })
started_exact r o t g = (
  λ (p, q) i. record { outcome = g.0 p i; run = q i },
  λ e. (g.1 (ap (λ (x : Started). x.outcome) e), ap (λ (x : Started). x.run) e),
)

stepped_exact : {P : Type 0} (r : Stepped) (o : Progress) (t : Run) (p : List ℕ) (c : ℕ) → P ↔ (r.progress ≡ o)
    → (P × ((r.run ≡ t) × ((r.places ≡ p) × (r.change ≡ c)))) ↔ (r ≡ record { progress = o; run = t; places = p; change = c })
stepped_exact r o t p c g = (
  λ (h, (u, (q, d))) i. record { progress = g.0 h i; run = u i; places = q i; change = d i },
  λ e. (
    g.1 (ap (λ (x : Stepped). x.progress) e),
    (ap (λ (x : Stepped). x.run) e, (ap (λ (x : Stepped). x.places) e, ap (λ (x : Stepped). x.change) e)),
  ),
)

pub start_determined : Determined Started start.Pre start.Post (λ κ r s. r)
    (λ κ (n, (k, (end, _))). record { outcome = start_check n k end; run = start_run n k end })
unfolding start_reply
start_determined = determined (λ κ a. tt) (λ κ a r s. started_exact r _ _ (outcome_exact r.outcome _))

pub step_determined : Determined Stepped step.Pre step.Post (λ κ r s. r)
    (λ κ (t, _). record { progress = progress t; run = step_run t; places = step_places t; change = step_change t })
unfolding step_reply
step_determined = determined (λ κ a. tt) (λ κ a r s. stepped_exact r _ _ _ _ (progress_exact r.progress _))
