-- How many lines a piece takes, and where its run then stands.
--     standing_sound                 a run that stands at a number of its range keeps the rules
--     stands, moved                  and a run that keeps them stands at its number; one step on
--     fitting_full, fitting_stopped, fitting_next      no line fits, none is handed out, or one is and then others
--     fitting_after, fitting_within  the run after a piece: it stands as many numbers on as lines were taken, not past its end
--     fitting_some                   a run that hands out a shape gives one line at least
-- Assumes nothing.
use mathlib.Core.Path.{◌≡◌, refl, sym, ap, ap₂, ◌∙◌}
use mathlib.Core.Logic.{◌⊎◌, inl, inr}
use mathlib.Core.List.{List}
use Prim.Native.Nat.{ℕ, zero, suc, ◌+◌, ◌-◌, ◌≤◌, ◌<◌, ◌^◌}
use native.Mathlib.Nat.{add-zero}
use native.Mathlib.Decide.{dec_lt, dec_le}
use native.Mathlib.Omega.{arith}
use lib.ListN.{length}
use borrow.Author.Tests.{le-leb, lt-leb}
use Rattle.catalan.specs.Count.{C}
use Rattle.shape.specs.Check.{Sized}
use Rattle.run.specs.declared.Run.{Run}
use Rattle.run.specs.declared.Progress.{Progress}
use Rattle.run.specs.declared.Progress.TheVariants.{Handed, Done as AtEnd, Refused as NotHanded}
use Rattle.run.specs.State.{places_at}
use Rattle.run.specs.Calls.{progress, if_handed, raised, moved_on, step_run}
use Rattle.run.specs.Walk.{after, figure_of}
use Rattle.run.specs.Sound.{Sound}
use Rattle.run.proofs.States.{belong_means, sound_means, sound_holds, step_handed}
use Rattle.run.proofs.Runs.{figure_none, figure_next, step_sound}
use Rattle.text.specs.Text.{shape_line, line_room}
use Rattle.lines.specs.Calls.{standing, fitting}

-- ---- runs that stand at a number

pub standing_sound : (n k end f : ℕ) → Sized n → k ≤ end → end ≤ C n → Sound (standing n k end f)
standing_sound n k end f sized low within =
    (sound_means (standing n k end f)).0 ((belong_means n k end (places_at n k end)).1 (sized, low, within, refl))

pub stands : (s : Run) → Sound s → s ≡ standing s.size s.next s.end s.figure
stands s sound =
    ap (λ (p : List ℕ). record { size = s.size; next = s.next; end = s.end; figure = s.figure; places = p }) (sound_holds s sound)

pub moved : (s : Run) → progress s ≡ Handed → step_run s ≡ standing s.size (s.next + 1) s.end (raised s)
unfolding step_run moved_on
moved s e = rw e

-- ---- how many lines fit

unhanded : {A : Type 0} (o : Progress) (new old : A) → (o ≡ Handed → ⊥) → if_handed o new old ≡ old
unhanded Handed new old h = absurd (h refl)
unhanded AtEnd new old h = refl
unhanded (NotHanded f) new old h = refl

module _ (s : Run) (room : ℕ) where
  pub fitting_full : (d : ℕ) → room < line_room → fitting d room s ≡ 0
  unfolding fitting
  fitting_full zero h = refl
  fitting_full (suc d) h = rw (lt-leb line_room room h)

  pub fitting_stopped : (d : ℕ) → (progress s ≡ Handed → ⊥) → fitting d room s ≡ 0
  unfolding fitting
  fitting_stopped zero h = refl
  fitting_stopped (suc d) h =
      elim (dec_le line_room room) [
        | yes g ↦ rw (le-leb line_room room g) (unhanded (progress s) _ _ h)
        | no g ↦ rw (lt-leb line_room room (omega arith))
      ]

  pub fitting_next : (d : ℕ) → line_room ≤ room → progress s ≡ Handed
      → fitting (suc d) room s ≡ suc (fitting d (room - length (shape_line s.size s.next)) (step_run s))
  unfolding fitting
  fitting_next d h e = rw (le-leb line_room room h, e)

-- a line fits and a shape is handed out, or no line is taken, whatever is asked
goes_on : (s : Run) (room : ℕ) → Sound s → ((line_room ≤ room) × (progress s ≡ Handed)) ⊎ ((d : ℕ) → fitting d room s ≡ 0)
goes_on s room sound =
    elim (dec_le line_room room) [
      | yes fits ↦
          elim (dec_lt s.next s.end) [
            | yes on ↦
                elim (dec_lt (raised s) (2 ^ 64)) [
                  | yes low ↦ inl (fits, (step_handed s).1 (sound, on, low))
                  | no high ↦ inr (λ d. fitting_stopped s room d (λ e. high ((step_handed s).0 e).2))
                ]
            | no past ↦ inr (λ d. fitting_stopped s room d (λ e. past ((step_handed s).0 e).1))
          ]
      | no full ↦ inr (λ d. fitting_full s room d (omega arith))
    ]

-- the run after m lines
abbrev after_lines : Run → ℕ → Run
after_lines s m = standing s.size (s.next + m) s.end (s.figure + figure_of s.size s.next (s.next + m))

no_lines : (s : Run) → Sound s → s ≡ after_lines s 0
no_lines s sound =
    stands s sound
    ∙ ap₂ (λ (k f : ℕ). standing s.size k s.end f) (sym (add-zero s.next))
    (omega (arith, figure_none s.size s.next (s.next + 0) (omega arith)))

one_line : (s : Run) (m : ℕ) → progress s ≡ Handed → after_lines (step_run s) m ≡ after_lines s (suc m)
one_line s m e =
    let on : s.next < s.next + suc m = omega arith in
    let next : s.next + 1 + m ≡ s.next + suc m = omega arith in
    ap (λ (t : Run). after_lines t m) (moved s e)
    ∙ ap₂ (λ (k f : ℕ). standing s.size k s.end f) next
    (ap (λ (k : ℕ). raised s + figure_of s.size (s.next + 1) k) next ∙ omega (arith, figure_next s.size s.next (s.next + suc m) on))

pub fitting_after : (d room : ℕ) (s : Run) → Sound s → after (fitting d room s) s ≡ after_lines s (fitting d room s)
unfolding after
fitting_after zero room s sound = unfold fitting in no_lines s sound
fitting_after (suc d) room s sound =
    elim (goes_on s room sound) [
      | inl (fits, e) ↦
          let rest = room - length (shape_line s.size s.next) in
          rw (fitting_next s room d fits e) (fitting_after d rest (step_run s) (step_sound s sound) ∙ one_line s (fitting d rest (step_run s)) e)
      | inr none ↦ rw (none (suc d)) (no_lines s sound)
    ]

pub fitting_within : (d room : ℕ) (s : Run) → Sound s → s.next + fitting d room s ≤ s.end
fitting_within zero room s sound = unfold fitting in omega (arith, sound.ordered)
fitting_within (suc d) room s sound =
    elim (goes_on s room sound) [
      | inl (fits, e) ↦
          let rest = room - length (shape_line s.size s.next) in
          omega (
            arith,
            fitting_next s room d fits e,
            fitting_within d rest (step_run s) (step_sound s sound),
            ap (λ (t : Run). t.next) (moved s e),
            ap (λ (t : Run). t.end) (moved s e),
          )
      | inr none ↦ omega (arith, none (suc d), sound.ordered)
    ]

pub fitting_some : (s : Run) (room : ℕ) → line_room ≤ room → progress s ≡ Handed → 1 ≤ fitting (s.end - s.next) room s
fitting_some s room fits e =
    let on : s.next < s.end = ((step_handed s).0 e).1 in
    let more : s.end - s.next ≡ suc (s.end - s.next - 1) = omega arith in
    rw (more, fitting_next s room (s.end - s.next - 1) fits e) (omega arith)
