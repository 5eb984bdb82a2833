-- What is known of a sheet whose parts belong together, s, and when a piece of it is handed out.
--     fill_passed                  a piece is handed out exactly where the buffer takes any line and the sheet's parts belong together
--     kept_sound, kept_handed      the run of a sheet that tells no refusal keeps the rules; before its end it hands out a shape
--     kept_begun                   and it stands at the first shape or later
-- Assumes nothing.
use mathlib.Core.Path.{◌≡◌, refl}
use mathlib.Core.Bool.{Bool, true, false, false≢true}
use mathlib.Core.Logic.Iff
use mathlib.Core.Logic.{◌↔◌, ◌⊎◌, inl, inr, ⊎_elim}
use Prim.Native.Nat.{ℕ, ◌≤◌}
use native.Mathlib.Omega.{arith}
use lib.Dec.{leb}
use borrow.Author.Tests.{eq-eqb}
use Rattle.shape.specs.Check.{unless}
use Rattle.shape.specs.declared.Refusal.TheVariants.{Length, State}
use Rattle.std.specs.Prelude.{Ok}
use Rattle.shape.proofs.Tests.{le_means, equal_means, and_means}
use Rattle.shape.proofs.Checks.{passed, passed_last}
use Rattle.run.specs.declared.Progress.{Progress}
use Rattle.run.specs.declared.Progress.TheVariants.{Handed, Done as AtEnd, Refused as NotHanded}
use Rattle.run.specs.Calls.{progress}
use Rattle.run.specs.Sound.{Sound}
use Rattle.run.proofs.States.{step_handed, step_done}
use Rattle.text.specs.Text.{line_room}
use Rattle.lines.specs.declared.Sheet.{Sheet}
use Rattle.lines.specs.Calls.{walks, began, over, keeps, fill_check}

pub fill_passed : (s : Sheet) (room : ℕ) → (fill_check s room ≡ Ok tt) ↔ ((line_room ≤ room) × (keeps s ≡ true))
unfolding fill_check
fill_passed s room =
    passed (leb line_room room) Length (unless (keeps s) State (Ok tt)) (Ok tt) (le_means line_room room) tt
    (λ h. passed_last (keeps s) State Iff.rfl)

walks_says : (o : Progress) → walks o ≡ true → (o ≡ Handed) ⊎ (o ≡ AtEnd)
walks_says Handed e = inl refl
walks_says AtEnd e = inr refl
walks_says (NotHanded f) e = absurd (false≢true e)

began_says : (opened : Bool) (first next : ℕ) → began opened first next ≡ true → first ≤ next
began_says true first next e = (le_means first next).0 e
began_says false first next e = omega (arith, (equal_means first next).0 e)

module _ (s : Sheet) (told : s.refusal ≡ 0) (kept : keeps s ≡ true) where
  parts : (walks (progress s.run) ≡ true)
      × ((began s.opened s.first s.run.next ≡ true) × (over s.ended s.run.next s.run.end ≡ true))
  unfolding keeps
  parts = (and_means Iff.rfl (and_means Iff.rfl Iff.rfl)).0 (rw (eq-eqb s.refusal 0 told) at kept)

  goes : (progress s.run ≡ Handed) ⊎ (progress s.run ≡ AtEnd)
  goes = walks_says (progress s.run) parts.0

  pub kept_sound : Sound s.run
  kept_sound = ⊎_elim (λ e. ((step_handed s.run).0 e).0) (λ e. ((step_done s.run).0 e).0) goes

  pub kept_handed : (s.run.next ≡ s.run.end → ⊥) → progress s.run ≡ Handed
  kept_handed other = ⊎_elim (λ e. e) (λ e. absurd (other ((step_done s.run).0 e).1)) goes

  pub kept_begun : s.first ≤ s.run.next
  kept_begun = began_says s.opened s.first s.run.next parts.1.0
