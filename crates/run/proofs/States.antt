-- When a start and a step are refused, exactly, and which states keep the rules.
--     start_size, start_range, start_done       refusals 1 and 8 of a start, and where there is none
--     belong_means, sound_means                 the test of a state passes exactly where its parts belong together
--     sound_holds                               such a state holds the places that its numbers ask for
--     step_handed, step_done, step_refused      what a step answers: a shape, done at the end, refusal 9
--     step_refusal                              a step gives no other refusal
--     done_stays, refused_stays                 where a step hands out no shape, it leaves the state as it is
-- Assumes nothing.
use mathlib.Core.Path.{◌≡◌, refl, sym, ap, ◌∙◌, subst}
use mathlib.Core.Logic.Iff
use mathlib.Core.Logic.{◌↔◌, ◌⊎◌, inl, inr, ⊎_elim}
use mathlib.Core.Bool.{Bool, true, false, cond, false≢true}
use mathlib.Core.List.{List}
use Prim.Native.Nat.{ℕ, ◌+◌, ◌-◌, ◌*◌, ◌≤◌, ◌<◌, ◌^◌}
use native.Mathlib.Decide.{dec_lt}
use native.Mathlib.Omega.{arith}
use lib.ListN.{length, get_or, take, drop, replicate}
use Rattle.catalan.specs.Count.{C}
use Rattle.shape.specs.Number.{local_pattern, change}
use Rattle.shape.specs.Check.{unless, sized, Sized}
use Rattle.shape.specs.declared.Refusal.{Refusal}
use Rattle.shape.specs.declared.Refusal.TheVariants.{Size, Range, State}
use Rattle.std.specs.Prelude.{Ok, Err}
use Rattle.shape.proofs.Lists.{zeros_at}
use Rattle.shape.proofs.Tests.{less_means, and_means}
use Rattle.shape.proofs.Checks.{sized_means, refuses_unless, passed, failed, passed_last}
use Rattle.run.specs.declared.Run.{Run}
use Rattle.run.specs.declared.Progress.{Progress}
use Rattle.run.specs.declared.Progress.TheVariants.{Handed, Done as AtEnd, Refused as NotHanded}
use Rattle.run.specs.State.{state_places, places_at, in_range, belong}
use Rattle.run.specs.Calls.{start_check, progress, raised, step_run}
use Rattle.run.specs.Sound.{Sound}
use Rattle.run.proofs.Places.{same_means, range_means, zeros_from, places_at_next, places_at_end, padded_means, length_places_at}

-- ---- a start

module _ (n first end : ℕ) where
  -- the test of the range
  abbrev ranged : Bool
  ranged = in_range n first end

  pub start_size : (start_check n first end ≡ Err Size) ↔ (Sized n → ⊥)
  unfolding start_check
  start_size =
      failed (sized n) Size (unless ranged Range (Ok tt)) (sized_means n) (refuses_unless (λ i. i ≡ 1 → ⊥) ranged Range (Ok tt) (λ e. omega arith) tt)

  pub start_range : (start_check n first end ≡ Err Range) ↔ (Sized n × ((first ≤ end) × (end ≤ C n) → ⊥))
  unfolding start_check
  start_range =
      passed (sized n) Size (unless ranged Range (Ok tt)) (Err Range) (sized_means n) (λ e. omega arith)
      (λ s. failed ranged Range (Ok tt) (range_means n first end) tt)

  pub start_done : (start_check n first end ≡ Ok tt) ↔ (Sized n × (first ≤ end) × (end ≤ C n))
  unfolding start_check
  start_done =
      Iff.trans (passed (sized n) Size (unless ranged Range (Ok tt)) (Ok tt) (sized_means n) tt (λ s. passed_last ranged Range (range_means n first end))) (
        λ (s, (l, m)). (s, l, m),
        λ (s, l, m). (s, (l, m)),
      )

-- ---- a state

pub belong_means : (n k end : ℕ) (places : List ℕ) → (belong n k end places ≡ true)
    ↔ (Sized n × (k ≤ end) × (end ≤ C n) × (places ≡ places_at n k end))
unfolding belong
belong_means n k end places =
    Iff.trans (and_means (sized_means n) (and_means (range_means n k end) (same_means places (places_at n k end)))) (
      λ (s, ((l, m), e)). (s, l, m, e),
      λ (s, l, m, e). (s, ((l, m), e)),
    )

module _ (s : Run) where
  sound_of : belong s.size s.next s.end s.places ≡ true → Sound s
  sound_of e =
      let (sized, ordered, within, holds) = (belong_means s.size s.next s.end s.places).0 e in
      let long = ap length holds ∙ length_places_at s.size s.next s.end sized.1 within in
      let halves : s.next < s.end → (take (2 * s.size) s.places ≡ local_pattern s.size s.next)
      × (drop (2 * s.size) s.places ≡ replicate (state_places - 2 * s.size) 0) =
      λ h. (padded_means s.size s.next (omega arith) s.places).0 (holds ∙ places_at_next s.size s.next s.end h) in
      record {
        sized = sized;
        ordered = ordered;
        within = within;
        long = long;
        pattern = λ h. (halves h).0;
        others = λ h. (zeros_from s.places (2 * s.size)).0 (rw long (halves h).1);
        ended = λ h i. let last = holds ∙ places_at_end s.size s.next s.end (omega arith) in
            ap (λ (l : List ℕ). get_or l i 0) last ∙ zeros_at state_places i;
      }

  pub sound_holds : Sound s → s.places ≡ places_at s.size s.next s.end
  sound_holds g =
      elim (dec_lt s.next s.end) [
        | yes h ↦
            (padded_means s.size s.next (omega (arith, g.within)) s.places).1
            (g.pattern h, rw g.long at ((zeros_from s.places (2 * s.size)).1 (g.others h)))
            ∙ sym (places_at_next s.size s.next s.end h)
        | no h ↦
            (rw g.long at ((zeros_from s.places 0).1 (λ i l. g.ended (omega (arith, g.ordered)) i)))
            ∙ sym (places_at_end s.size s.next s.end (omega (arith, g.ordered)))
      ]

  pub sound_means : (belong s.size s.next s.end s.places ≡ true) ↔ Sound s
  sound_means = (
    sound_of,
    λ g. (belong_means s.size s.next s.end s.places).1 (g.sized, g.ordered, g.within, sound_holds g),
  )

-- ---- a step

module _ (s : Run) where
  -- what is asked of the numbers and of the figure, for a shape to be handed out
  abbrev Before : Type 0
  Before = s.next < s.end

  abbrev Fits : Type 0
  Fits = raised s < 2 ^ 64

  -- what each answer says of the state
  abbrev Says : Progress → Type 0
  Says Handed = Sound s × Before × Fits
  Says AtEnd = Sound s × (Before → ⊥)
  Says (NotHanded f) = (f ≡ State) × ((Sound s → ⊥) ⊎ (Before × (Fits → ⊥)))

  tests_say : (b l r : Bool) → (b ≡ true) ↔ Sound s → (l ≡ true) ↔ Before → (r ≡ true) ↔ Fits
      → Says (cond b (cond l (cond r Handed (NotHanded State)) AtEnd) (NotHanded State))
  tests_say true true true m n o = (m.0 refl, n.0 refl, o.0 refl)
  tests_say true true false m n o = (refl, inr (n.0 refl, λ h. false≢true (o.1 h)))
  tests_say true false r m n o = (m.0 refl, λ h. false≢true (n.1 h))
  tests_say false l r m n o = (refl, inl (λ h. false≢true (m.1 h)))

  progress_says : Says (progress s)
  unfolding progress
  progress_says = tests_say _ _ _ (sound_means s) (less_means s.next s.end) (less_means (raised s) (2 ^ 64))

  -- no two of them can be said of one state
  one_answer : (a b : Progress) → Says a → Says b → a ≡ b
  one_answer Handed Handed g h = refl
  one_answer Handed AtEnd g h = absurd (h.1 g.1)
  one_answer Handed (NotHanded f) g h = absurd (⊎_elim (λ n. n g.0) (λ (l, n). n g.2) h.1)
  one_answer AtEnd Handed g h = absurd (g.1 h.1)
  one_answer AtEnd AtEnd g h = refl
  one_answer AtEnd (NotHanded f) g h = absurd (⊎_elim (λ n. n g.0) (λ (l, n). g.1 l) h.1)
  one_answer (NotHanded f) Handed g h = absurd (⊎_elim (λ n. n h.0) (λ (l, n). n h.2) g.1)
  one_answer (NotHanded f) AtEnd g h = absurd (⊎_elim (λ n. n h.0) (λ (l, n). h.1 l) g.1)
  one_answer (NotHanded f) (NotHanded f') g h = ap NotHanded (g.0 ∙ sym h.0)

  progress_means : (a : Progress) → (progress s ≡ a) ↔ Says a
  progress_means a = (λ e. subst Says e progress_says, λ h. one_answer (progress s) a progress_says h)

  pub step_handed : (progress s ≡ Handed) ↔ (Sound s × (s.next < s.end) × (s.figure + change s.size s.next < 2 ^ 64))
  step_handed = progress_means Handed

  pub step_done : (progress s ≡ AtEnd) ↔ (Sound s × (s.next ≡ s.end))
  step_done =
      Iff.trans (progress_means AtEnd) (
        λ (g, h). (g, omega (arith, g.ordered)),
        λ (g, e). (g, λ h. omega arith),
      )

  -- 01, Refusal numbers, 9: a rule is broken, or the raised figure passes 64 bits
  pub step_refused : (progress s ≡ NotHanded State)
      ↔ ((Sound s → ⊥) ⊎ ((s.next < s.end) × (2 ^ 64 ≤ s.figure + change s.size s.next)))
  step_refused =
      Iff.trans (progress_means (NotHanded State)) (
        λ (e, h). ⊎_elim (λ g. inl g) (λ (l, g). inr (l, omega arith)) h,
        λ h. (refl, ⊎_elim (λ g. inl g) (λ (l, g). inr (l, λ f. omega arith)) h),
      )

  pub step_refusal : (f : Refusal) → progress s ≡ NotHanded f → f ≡ State
  step_refusal f e = ((progress_means (NotHanded f)).0 e).0

  pub done_stays : progress s ≡ AtEnd → step_run s ≡ s
  unfolding step_run
  done_stays e = rw e

  pub refused_stays : (f : Refusal) → progress s ≡ NotHanded f → step_run s ≡ s
  unfolding step_run
  refused_stays f e = rw e
