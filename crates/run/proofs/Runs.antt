-- What a run hands out, from its start or from any state that was kept and is handed in again, and what it ends with.
--     shown_none, shown_next            the patterns of a stretch, each with its change: none, or the first and then the others
--     figure_none, figure_next          their changes, added up, likewise
--     figure_join                       two stretches, one after the other
--     figure_whole, figure_fits         a whole size; no stretch of it passes 64 bits
--     figure_shown                      the figure is the sum of the changes that are shown
--     start_begun, start_sound          a start that is not refused keeps the rules
--     step_sound                        and so does a step, from any state that keeps them
--     resumed_hands_out, resumed_ends   enough steps from such a state hand out the rest of the stretch; the state that they leave
--     run_hands_out, run_ends           the same from a start
--     run_done, run_stays               then the run is done, and one more step changes nothing
-- Assumes nothing.
use mathlib.Core.Path.{◌≡◌, refl, sym, ap, ap₂, ◌∙◌}
use mathlib.Core.Logic.{inr}
use mathlib.Core.List.{List, [], ◌∷◌, map, foldr}
use Prim.Native.Nat.{ℕ, zero, suc, ◌+◌, ◌-◌, ◌≤◌, ◌<◌, ◌^◌}
use native.Mathlib.Nat.{add-zero, zero-add, sub-zero}
use native.Mathlib.Decide.{dec_lt}
use native.Mathlib.Omega.{arith}
use Rattle.catalan.specs.Count.{C, largest_size, sum}
use Rattle.catalan.proofs.Sums.{sum_front, sum_split, sum_cong}
use Rattle.catalan.proofs.Counting.{total_fits}
use Rattle.shape.specs.Number.{local_pattern, change}
use Rattle.shape.specs.Numbering.{numbers_from}
use Rattle.shape.specs.Check.{Sized}
use Rattle.shape.proofs.Changes.{changes_total}
use Rattle.shape.specs.declared.Refusal.TheVariants.{State}
use Rattle.run.specs.declared.Run.{Run}
use Rattle.run.specs.declared.Progress.TheVariants.{Handed, Done as AtEnd}
use Rattle.run.specs.State.{no_places, places_at}
use Rattle.run.specs.Calls.{start_run, begun, progress, raised, moved_on, step_run, step_places, step_change}
use Rattle.run.specs.Walk.{handed, after, shown, figure_of}
use Rattle.run.specs.Sound.{Sound}
use Rattle.run.proofs.Places.{places_at_end, take_padded}
use Rattle.run.proofs.States.{start_done, belong_means, sound_means, sound_holds, step_handed, step_done}
use Rattle.run.proofs.States.{step_refused, done_stays, refused_stays}

-- ---- what is shown

module _ (n k end : ℕ) where
  pub shown_none : end ≤ k → shown n k end ≡ []
  unfolding shown numbers_from
  shown_none h = let none : end - k ≡ 0 = omega arith in rw none

  pub shown_next : k < end → shown n k end ≡ (local_pattern n k, change n k) ∷ shown n (k + 1) end
  unfolding shown numbers_from
  shown_next h =
      let more : end - k ≡ suc (end - (k + 1)) = omega arith in
      let next : k + 1 ≡ suc k = omega arith in
      rw (more, next)

  pub figure_none : end ≤ k → figure_of n k end ≡ 0
  unfolding figure_of sum
  figure_none h = let none : end - k ≡ 0 = omega arith in rw none

pub figure_join : (n first cut end : ℕ) → first ≤ cut → cut ≤ end → figure_of n first cut + figure_of n cut end ≡ figure_of n first end
unfolding figure_of
figure_join n first cut end low high =
    let parts : end - first ≡ (cut - first) + (end - cut) = omega arith in
    rw parts
    (ap (λ (z : ℕ). sum (cut - first) (λ i. change n (first + i)) + z) (sum_cong (end - cut) _ _ (λ j h. ap (change n) (omega arith)))
    ∙ sym (sum_split (cut - first) (end - cut) (λ i. change n (first + i))))

figure_one : (n k : ℕ) → figure_of n k (k + 1) ≡ change n k
unfolding figure_of sum
figure_one n k = let last : k + 1 - k ≡ 1 = omega arith in rw last (zero-add (change n (k + 0)) ∙ ap (change n) (add-zero k))

pub figure_next : (n k end : ℕ) → k < end → figure_of n k end ≡ change n k + figure_of n (k + 1) end
figure_next n k end h = omega (arith, figure_join n k (k + 1) end (omega arith) (omega arith), figure_one n k)

pub figure_whole : (n : ℕ) → figure_of n 0 (C n) ≡ sum (suc n) (λ k. C (suc k)) - 1
unfolding figure_of
figure_whole n = rw sub-zero (sum_cong (C n) _ _ (λ j h. ap (change n) (zero-add j)) ∙ changes_total n)

pub figure_fits : (n first end : ℕ) → n ≤ largest_size → first ≤ end → end ≤ C n → figure_of n first end < 2 ^ 64
figure_fits n first end small low high =
    omega
    (arith, figure_join n 0 first end (omega arith) low, figure_join n 0 end (C n) (omega arith) high, figure_whole n, total_fits n small)

-- of d numbers, from k on
changes_added : (n d k : ℕ)
    → foldr ◌+◌ 0 (map (λ (p, c). c) (map (λ i. (local_pattern n i, change n i)) (numbers_from k d))) ≡ sum d (λ i. change n (k + i))
unfolding numbers_from sum
changes_added n zero k = refl
changes_added n (suc d) k =
    ap (λ (z : ℕ). change n k + z) (changes_added n d (suc k))
    ∙ ap₂ ◌+◌ (ap (change n) (sym (add-zero k))) (sum_cong d _ _ (λ j h. ap (change n) (omega arith)))
    ∙ sym (sum_front d (λ i. change n (k + i)))

pub figure_shown : (n first end : ℕ) → foldr ◌+◌ 0 (map (λ (p, c). c) (shown n first end)) ≡ figure_of n first end
unfolding shown figure_of
figure_shown n first end = changes_added n (end - first) first

-- ---- a state that keeps the rules

-- the one of size n at number k, with figure f
abbrev standing : ℕ → ℕ → ℕ → ℕ → Run
standing n end k f = record { size = n; next = k; end = end; figure = f; places = places_at n k end }

module _ (n end : ℕ) (sized : Sized n) (within : end ≤ C n) where
  module _ (k f : ℕ) (low : k ≤ end) where
    standing_sound : Sound (standing n end k f)
    standing_sound = (sound_means (standing n end k f)).0 ((belong_means n k end (places_at n k end)).1 (sized, low, within, refl))

    standing_done : end ≤ k → progress (standing n end k f) ≡ AtEnd
    standing_done h = (step_done (standing n end k f)).1 (standing_sound, omega arith)

    module _ (on : k < end) (fits : f + change n k < 2 ^ 64) where
      standing_handed : progress (standing n end k f) ≡ Handed
      standing_handed = (step_handed (standing n end k f)).1 (standing_sound, on, fits)

      standing_next : step_run (standing n end k f) ≡ standing n end (k + 1) (f + change n k)
      unfolding step_run moved_on
      standing_next = rw standing_handed

      standing_hands : (d : ℕ)
          → handed (suc d) (standing n end k f) ≡ (local_pattern n k, change n k) ∷ handed d (standing n end (k + 1) (f + change n k))
      unfolding handed step_places step_change
      standing_hands d = rw (standing_next, standing_handed, take_padded n k (omega arith))

  hands_out : (d k f : ℕ) → k ≤ end → end - k ≤ d → f + figure_of n k end < 2 ^ 64 → handed d (standing n end k f) ≡ shown n k end
  unfolding handed
  hands_out zero k f low most fits = sym (shown_none n k end (omega arith))
  hands_out (suc d) k f low most fits =
      elim (dec_lt k end) [
        | yes on ↦
            let raised : f + change n k < 2 ^ 64 = omega (arith, figure_next n k end on) in
            standing_hands k f low on raised d
            ∙ ap {B = List (List ℕ × ℕ)} (λ l. (local_pattern n k, change n k) ∷ l)
            (hands_out d (k + 1) (f + change n k) (omega arith) (omega arith) (omega (arith, figure_next n k end on)))
            ∙ sym (shown_next n k end on)
        | no past ↦ rw (standing_done k f low (omega arith)) (sym (shown_none n k end (omega arith)))
      ]

  ends : (d k f : ℕ) → k ≤ end → end - k ≤ d → f + figure_of n k end < 2 ^ 64
      → after d (standing n end k f) ≡ standing n end end (f + figure_of n k end)
  unfolding after
  ends zero k f low most fits = ap₂ (standing n end) (omega arith) (omega (arith, figure_none n k end (omega arith)))
  ends (suc d) k f low most fits =
      elim (dec_lt k end) [
        | yes on ↦
            let raised : f + change n k < 2 ^ 64 = omega (arith, figure_next n k end on) in
            rw (standing_next k f low on raised)
            (ends d (k + 1) (f + change n k) (omega arith) (omega arith) (omega (arith, figure_next n k end on))
            ∙ ap (standing n end end) (omega (arith, figure_next n k end on)))
        | no past ↦ rw (done_stays (standing n end k f) (standing_done k f low (omega arith))) (ends d k f low (omega arith) fits)
      ]

-- ---- runs

-- a run at its end
abbrev finished : ℕ → ℕ → ℕ → Run
finished n end f = record { size = n; next = end; end = end; figure = f; places = no_places }

end_standing : (n end f : ℕ) → standing n end end f ≡ finished n end f
end_standing n end f =
    ap (λ (p : List ℕ). record { size = n; next = end; end = end; figure = f; places = p }) (places_at_end n end end (omega arith))

module _ (s : Run) (sound : Sound s) where
  stands : s ≡ standing s.size s.end s.next s.figure
  stands = ap (λ (p : List ℕ). record { size = s.size; next = s.next; end = s.end; figure = s.figure; places = p }) (sound_holds s sound)

  pub step_sound : Sound (step_run s)
  step_sound =
      elim (dec_lt s.next s.end) [
        | yes on ↦
            elim (dec_lt (raised s) (2 ^ 64)) [
              | yes fits ↦ moved on fits
              | no past ↦ stays (refused_stays s State ((step_refused s).1 (inr (on, omega arith))))
            ]
        | no past ↦ stays (done_stays s ((step_done s).1 (sound, omega (arith, sound.ordered))))
      ]
    where
      stays : step_run s ≡ s → Sound (step_run s)
      stays e = rw e sound

      moved : s.next < s.end → raised s < 2 ^ 64 → Sound (step_run s)
      moved on fits =
          rw
          (ap step_run stands
          ∙ standing_next s.size s.end sound.sized sound.within s.next s.figure sound.ordered on fits)
          (standing_sound s.size s.end sound.sized sound.within (s.next + 1) (raised s) (omega arith))

  -- the figure is within 64 bits to the end, and the steps are as many as there are shapes left, or more
  module _ (fits : s.figure + figure_of s.size s.next s.end < 2 ^ 64) (d : ℕ) (enough : s.end - s.next ≤ d) where
    pub resumed_hands_out : handed d s ≡ shown s.size s.next s.end
    resumed_hands_out =
        ap (handed d) stands ∙ hands_out s.size s.end sound.sized sound.within d s.next s.figure sound.ordered enough fits

    pub resumed_ends : after d s
        ≡ record { size = s.size; next = s.end; end = s.end; figure = s.figure + figure_of s.size s.next s.end; places = no_places }
    resumed_ends =
        ap (after d) stands
        ∙ ends s.size s.end sound.sized sound.within d s.next s.figure sound.ordered enough fits
        ∙ end_standing s.size s.end _

module _ (n first end : ℕ) (sized : Sized n) (low : first ≤ end) (high : end ≤ C n) where
  pub start_begun : start_run n first end ≡ begun n first end
  unfolding start_run
  start_begun = rw ((start_done n first end).1 (sized, low, high))

  pub start_sound : Sound (start_run n first end)
  unfolding begun
  start_sound = rw start_begun (standing_sound n end sized high first 0 low)

  start_fits : 0 + figure_of n first end < 2 ^ 64
  start_fits = omega (arith, figure_fits n first end sized.1 low high)

  module _ (d : ℕ) (enough : end - first ≤ d) where
    pub run_hands_out : handed d (start_run n first end) ≡ shown n first end
    unfolding begun
    run_hands_out = rw start_begun (hands_out n end sized high d first 0 low enough start_fits)

    pub run_ends : after d (start_run n first end) ≡ record { size = n; next = end; end = end; figure = figure_of n first end; places = no_places }
    unfolding begun
    run_ends =
        rw start_begun (ends n end sized high d first 0 low enough start_fits ∙ end_standing n end _ ∙ ap (finished n end) (zero-add _))

    pub run_done : progress (after d (start_run n first end)) ≡ AtEnd
    run_done = rw (run_ends, ← end_standing) (standing_done n end sized high end (figure_of n first end) (omega arith) (omega arith))

    pub run_stays : step_run (after d (start_run n first end)) ≡ after d (start_run n first end)
    run_stays = done_stays _ run_done
