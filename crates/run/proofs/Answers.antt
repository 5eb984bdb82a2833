-- What the calls on runs answer and leave, each law in the words in which the code meets it: s is the state handed in, b whether its parts
-- were found to belong together, c the change and q the places that were found.
--     placed_none, placed_last              the places of a state at its end
--     placed_first                          those of a start: the pattern written over zeros
--     before_feasible, placed_next          those after a step: the next pattern written over the one before
--     begun_made                            the state of a start
--     state_refused, figure_refused         the two refusals of a step
--     state_done                            the end
--     standing_..                           what a state that passes the tests holds: its size, its numbers and the pattern that comes next
--     stays_answers, handed_answers         all that a step answers where it hands out nothing, and where it hands out a shape
--     starts, steps                         the laws that the code of a start and of a step meets, for `search`
-- Assumes nothing.
use mathlib.Core.Path.{◌≡◌, refl, sym, ap, ◌∙◌}
use mathlib.Core.Bool.{Bool, true, false, not}
use mathlib.Core.List.{List, ◌++◌}
use Prim.Native.Nat.{ℕ, zero, suc, ◌+◌, ◌-◌, ◌*◌, ◌^◌, ◌≤◌, ◌<◌}
use native.Mathlib.Nat.{sub-zero}
use native.Mathlib.Omega.{arith}
use lib.ListN.{length, take, drop, replicate}
use borrow.Author.Rules.{rules}
use borrow.Author.Tests.{not-true, not-false, lt-ltb, le-ltb}
use mir.Syntax.{w64}
use mir.Val.{Fits}
use Rattle.catalan.specs.Count.{C, largest_size}
use Rattle.catalan.proofs.Counting.{C_fits}
use Rattle.shape.specs.Form.{Feasible}
use Rattle.shape.specs.Number.{local_number, local_pattern, change}
use Rattle.shape.specs.Check.{Sized}
use Rattle.shape.specs.declared.Refusal.TheVariants.{State}
use Rattle.shape.proofs.LocalNumbers.{local_lawful}
use Rattle.shape.proofs.Changes.{change_most}
use Rattle.shape.proofs.Answers.{answered}
use Rattle.local.specs.Places.{next_pattern}
use Rattle.local.proofs.Chains.{next_chained}
use Rattle.run.specs.declared.Run.{Run}
use Rattle.run.specs.declared.Stepped.{Stepped}
use Rattle.run.specs.declared.Progress.{Progress}
use Rattle.run.specs.declared.Progress.TheVariants.{Handed, Done, Refused}
use Rattle.run.specs.State.{state_places, no_places, padded, places_at, belong}
use Rattle.run.specs.Calls.{progress_reply, begun, raised, progress, if_handed, step_reply, moved_on, step_run, step_places, step_change}
use Rattle.run.proofs.Places.{places_at_next, places_at_end, take_padded, drop_padded, padded_written, length_places_at}
use Rattle.run.proofs.States.{belong_means}
use Rattle.run.proofs.Tests.{tests}

-- ---- places

zeros_dropped : (m j : ℕ) → drop {A = ℕ} m (replicate j 0) ≡ replicate (j - m) 0
zeros_dropped zero j = rw sub-zero
zeros_dropped (suc m) zero = let none : 0 - suc m ≡ 0 = omega arith in rw none
zeros_dropped (suc m) (suc j) = let fewer : suc j - suc m ≡ j - m = omega arith in rw fewer (zeros_dropped m j)

module _ (n k end : ℕ) where
  pub placed_none : end ≤ k → no_places ≡ places_at n k end
  placed_none off = sym (places_at_end n k end off)

  pub placed_last : k ≡ end → no_places ≡ places_at n k end
  placed_last last = placed_none (omega arith)

module _ (n k end : ℕ) (within : end ≤ C n) where
  -- q is the pattern that was written over the first places
  written : k < end → (p q : List ℕ) → q ≡ local_pattern n k → drop (2 * n) p ≡ replicate (state_places - 2 * n) 0
      → q ++ drop (2 * n) p ≡ places_at n k end
  written on p q e z = rw (places_at_next n k end on) (padded_written n k (omega arith) p q e z)

  pub placed_first : k < end → (q : List ℕ) → q ≡ local_pattern n k → q ++ drop (2 * n) no_places ≡ places_at n k end
  placed_first on q e = written on no_places q e (zeros_dropped (2 * n) state_places)

-- places before the end
module _ (n k end : ℕ) (within : end ≤ C n) (on : k < end) (p : List ℕ) (e : p ≡ places_at n k end) where
  held : p ≡ padded (local_pattern n k)
  held = e ∙ places_at_next n k end on

  first : take (2 * n) p ≡ local_pattern n k
  first = rw held (take_padded n k (omega arith))

  feasible : Feasible n (take (2 * n) p)
  feasible = rw first ((local_lawful n).shape_formed k (omega arith))

  numbered : local_number (take (2 * n) p) ≡ k
  numbered = rw first ((local_lawful n).number_shape k (omega arith))

module _ (n k end : ℕ) (within : end ≤ C n) (on : k + 1 ≤ end) (p : List ℕ) (e : p ≡ places_at n k end) where
  pub before_feasible : Feasible n (take (2 * n) p)
  before_feasible = feasible n k end within (omega arith) p e

  pub placed_next : (k + 1 ≡ end → ⊥) → (q : List ℕ) → q ≡ next_pattern n (take (2 * n) p) → q ++ drop (2 * n) p ≡ places_at n (k + 1) end
  placed_next other q g =
      let below : k < end = omega arith in
      written n (k + 1) end within (omega arith) p q
      (g ∙ next_chained n k (take (2 * n) p) (first n k end within below p e) (omega arith))
      (rw (held n k end within below p e) (drop_padded n k (omega arith)))

-- ---- a start

pub begun_made : (n k end : ℕ) (p : List ℕ) → p ≡ places_at n k end
    → ◌≡◌ {A = Run} (record { size = n; next = k; end = end; figure = 0; places = p }) (begun n k end)
unfolding begun
begun_made n k end p e = rw e

-- ---- a step

-- all that a step answers, by the definitions
abbrev Answers : Run → Stepped → Type 0
Answers s r =
    record {
      progress_value : progress_reply r.progress ≡ step_reply s;
      run_value : r.run ≡ step_run s;
      places_value : r.places ≡ step_places s;
      change_value : r.change ≡ step_change s;
    }

-- nothing is handed out
abbrev Stays : Run → Progress → Stepped → Type 0
Stays s o r = (r.progress ≡ o) × (r.run ≡ s) × (r.places ≡ no_places) × (r.change ≡ 0)

abbrev Unhanded : Progress → Type 0
Unhanded Handed = ⊥
Unhanded Done = Unit
Unhanded (Refused f) = Unit

kept : {A : Type 0} (o : Progress) (new old : A) → Unhanded o → old ≡ if_handed o new old
kept Handed new old h = absurd h
kept Done new old h = refl
kept (Refused f) new old h = refl

pub stays_answers : (s : Run) (r : Stepped) (o : Progress) → Unhanded o → Stays s o r → progress s ≡ o → Answers s r
unfolding step_reply step_run step_places step_change
stays_answers s r o h (q, t, p, c) e =
    rw e (record {
      progress_value = ap progress_reply q;
      run_value = t ∙ kept o _ _ h;
      places_value = p ∙ kept o _ _ h;
      change_value = c ∙ kept o _ _ h;
    })

module _ (s : Run) (b : Bool) (e : b ≡ belong s.size s.next s.end s.places) where
  pub state_refused : not b ≡ true → progress s ≡ Refused State
  unfolding progress
  state_refused h = rw (← e, not-true b h)

  module _ (h : not b ≡ false) where
    standing : Sized s.size × (s.next ≤ s.end) × (s.end ≤ C s.size) × (s.places ≡ places_at s.size s.next s.end)
    standing = (belong_means s.size s.next s.end s.places).0 (sym e ∙ not-false b h)

    pub standing_some : 1 ≤ s.size
    standing_some = standing.0.0

    pub standing_small : s.size ≤ largest_size
    standing_small = standing.0.1

    pub standing_doubled : Fits w64 (2 * s.size)
    standing_doubled = record { fits = omega (arith, standing_small) }

    pub standing_within : s.end ≤ C s.size
    standing_within = standing.2

    pub standing_places : s.places ≡ places_at s.size s.next s.end
    standing_places = standing.3

    pub standing_room : 2 * s.size ≤ length s.places
    standing_room = omega (arith, standing_small, ap length standing_places, length_places_at _ s.next s.end standing_small standing_within)

    pub state_done : s.next ≡ s.end → progress s ≡ Done
    unfolding progress
    state_done last = rw (← e, not-false b h, le-ltb s.next s.end (omega arith))

    module _ (other : s.next ≡ s.end → ⊥) where
      before : s.next < s.end
      before = omega (arith, standing.1)

      pub standing_next : s.next + 1 ≤ s.end
      standing_next = omega (arith, before)

      pub standing_fits : Fits w64 (s.next + 1)
      standing_fits = record { fits = omega (arith, before, standing_within, C_fits s.size (omega (arith, standing_small))) }

      pub standing_feasible : Feasible s.size (take (2 * s.size) s.places)
      standing_feasible = feasible s.size s.next s.end standing_within before s.places standing_places

      module _ (c : ℕ) (g : c ≡ change s.size (local_number (take (2 * s.size) s.places))) where
        changed : c ≡ change s.size s.next
        changed = g ∙ ap (change s.size) (numbered s.size s.next s.end standing_within before s.places standing_places)

        pub figure_refused : 18446744073709551615 - c < s.figure → progress s ≡ Refused State
        unfolding progress
        figure_refused over =
            rw (← e, not-false b h, lt-ltb s.next s.end before, le-ltb (raised s) (2 ^ 64) (omega (arith, changed)))

        handed : s.figure ≤ 18446744073709551615 - c → progress s ≡ Handed
        unfolding progress
        handed fits =
            let most = change_most s.size s.next standing_some (omega (arith, before, standing_within)) in
            rw (← e, not-false b h, lt-ltb s.next s.end before, lt-ltb (raised s) (2 ^ 64) (omega (arith, changed, most, standing_small)))

        -- q are the places that the code found to come next
        pub handed_answers : s.figure ≤ 18446744073709551615 - c → (q : List ℕ) → q ≡ places_at s.size (s.next + 1) s.end
            → Answers s (record {
              progress = Handed;
              run = record { size = s.size; next = s.next + 1; end = s.end; figure = s.figure + c; places = q };
              places = s.places;
              change = c;
            })
        unfolding step_reply step_run step_places step_change moved_on
        handed_answers fits q t =
            let pattern = held s.size s.next s.end standing_within before s.places standing_places in
            rw (handed fits) (record { progress_value = refl; run_value = rw (changed, t); places_value = pattern; change_value = changed })

pub ruleset starts = (tests, answered, placed_none, placed_last, placed_first, before_feasible, placed_next, begun_made)

pub ruleset steps = (
  rules,
  state_refused,
  state_done,
  standing_some,
  standing_small,
  standing_doubled,
  standing_within,
  standing_places,
  standing_room,
  standing_next,
  standing_fits,
  standing_feasible,
)
