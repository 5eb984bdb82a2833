-- What the walk along a run's shapes is given and what is made of what it leaves, each law in the words in which the code meets it. The run s
-- hands out a shape.
--     front_held         what was written over the first numbers of a list
--     run_..             its size, its numbers, its pattern, its permutation and its depths
--     listed_..          the bytes, the run and the buffer after the walk, which went to the shape numbered k with figure f
--     carries            these laws, for `search`
-- Assumes nothing.
use mathlib.Core.Path.{◌≡◌, sym, ap, ◌∙◌}
use mathlib.Core.Bool.{cond}
use mathlib.Core.List.{List, ◌++◌}
use Prim.Native.Nat.{ℕ, ◌+◌, ◌-◌, ◌*◌, ◌≤◌, ◌<◌}
use native.Mathlib.Decide.{dec_lt}
use native.Mathlib.Omega.{arith}
use lib.Dec.{eqb}
use lib.ListN.{length, take, drop, replicate, length-append, length-replicate}
use lib.Seq.{length-take-le, take_at}
use borrow.Author.Rules.{rules}
use borrow.Author.Tests.{eq-eqb, ne_eqb}
use mir.Syntax.{w64}
use mir.Val.{Fits}
use Rattle.catalan.specs.Count.{C, largest_size}
use Rattle.shape.specs.Tree.{permutation}
use Rattle.shape.specs.Form.{Feasible, pattern_tree}
use Rattle.shape.specs.Number.{local_pattern}
use Rattle.run.specs.declared.Run.{Run}
use Rattle.run.specs.declared.Progress.TheVariants.{Handed}
use Rattle.run.specs.State.{no_places, places_at}
use Rattle.run.specs.Calls.{progress}
use Rattle.run.specs.Sound.{Sound}
use Rattle.run.specs.Walk.{after, figure_of}
use Rattle.run.proofs.Places.{places_at_next, places_at_end, drop_padded, padded_written}
use Rattle.run.proofs.States.{sound_holds, step_handed}
use Rattle.walk.specs.Depths.{depths_of}
use Rattle.walk.proofs.Climbs.{length_depths}
use Rattle.text.specs.Text.{shape_lines, written}
use Rattle.lines.specs.Calls.{standing, listed}
use Rattle.lines.proofs.Bounds.{shape_formed, shape_count}
use Rattle.lines.proofs.Pieces.{stands, fitting_after, fitting_within}

-- d was written over the first m numbers of a list, and is there
front_held : (m : ℕ) (d rest : List ℕ) → length d ≡ m → (m ≤ length (d ++ rest)) × (take m (d ++ rest) ≡ d)
front_held m d rest h = (omega (arith, length-append d rest), take_at d rest m h)

module _ (s : Run) (e : progress s ≡ Handed) where
  sound : Sound s
  sound = ((step_handed s).0 e).0

  pub run_some : 1 ≤ s.size
  run_some = sound.sized.0

  pub run_small : s.size ≤ largest_size
  run_small = sound.sized.1

  pub run_doubled : Fits w64 (2 * s.size)
  run_doubled = record { fits = omega (arith, run_small) }

  pub run_room : 2 * s.size ≤ length s.places
  run_room = omega (arith, run_small, sound.long)

  pub run_on : s.next < s.end
  run_on = ((step_handed s).0 e).1

  pub run_within : s.end ≤ C s.size
  run_within = sound.within

  pub run_pattern : take (2 * s.size) s.places ≡ local_pattern s.size s.next
  run_pattern = sound.pattern run_on

  pub run_formed : Feasible s.size (take (2 * s.size) s.places)
  run_formed = shape_formed s.size s.next run_small (omega (arith, run_on, run_within)) _ run_pattern

  pub run_entries : length (take {A = ℕ} s.size (replicate 35 0)) ≡ s.size
  run_entries = length-take-le s.size (replicate 35 0) (omega (arith, run_small, length-replicate {A = ℕ} 35 0))

  pub run_odd : Fits w64 (2 * s.size + 1)
  run_odd = record { fits = omega (arith, run_small) }

  pub run_spare : 2 * s.size + 1 ≤ 71
  run_spare = omega (arith, run_small)

  pub run_depths : length (take {A = ℕ} (2 * s.size + 1) (replicate 71 0)) ≡ 2 * s.size + 1
  run_depths =
      length-take-le (2 * s.size + 1) (replicate 71 0) (omega (arith, run_small, length-replicate {A = ℕ} 71 0))

  -- d are the depths that were written over the first numbers
  module _ (d : List ℕ) (deep : d ≡ depths_of (take (2 * s.size) s.places)) (rest : List ℕ) where
    as_many : length d ≡ 2 * s.size + 1
    as_many =
        let long = length-take-le (2 * s.size) s.places (omega (arith, run_room)) in
        ap length deep ∙ omega (arith, length_depths (take (2 * s.size) s.places), long)

    pub run_covered : 2 * s.size + 1 ≤ length (d ++ rest)
    run_covered = (front_held (2 * s.size + 1) d rest as_many).0

    pub run_measured : 2 * s.size + 1 ≡ length (take (2 * s.size + 1) (d ++ rest))
    run_measured = sym (as_many) ∙ ap length (sym (front_held (2 * s.size + 1) d rest as_many).1)

    pub run_deep : take (2 * s.size + 1) (d ++ rest) ≡ depths_of (take (2 * s.size) s.places)
    run_deep = (front_held (2 * s.size + 1) d rest as_many).1 ∙ deep

  -- q is the permutation that was written over the first entries
  module _ (q : List ℕ) (labels : q ≡ permutation (pattern_tree (take (2 * s.size) s.places))) (rest : List ℕ) where
    count : length q ≡ s.size
    count = shape_count s.size s.next run_small (omega (arith, run_on, run_within)) _ run_pattern q labels

    pub run_held : s.size ≤ length (q ++ rest)
    run_held = (front_held s.size q rest count).0

    pub run_counted : s.size ≡ length (take s.size (q ++ rest))
    run_counted = sym count ∙ ap length (sym (front_held s.size q rest count).1)

    pub run_labels : take s.size (q ++ rest) ≡ permutation (pattern_tree (take (2 * s.size) s.places))
    run_labels = (front_held s.size q rest count).1 ∙ labels

  module _ (room : ℕ) {k : ℕ} (next : k ≡ s.next + listed (standing s.size s.next s.end s.figure) room) where
    there : k ≡ s.next + listed s room
    there = next ∙ ap (λ (t : Run). s.next + listed t room) (sym (stands s sound))

    pub listed_bytes : (bytes : ℕ) → bytes ≡ length (shape_lines s.size s.next k)
        → bytes ≡ length (shape_lines s.size s.next (s.next + listed s room))
    listed_bytes bytes h = h ∙ ap (λ (i : ℕ). length (shape_lines s.size s.next i)) there

    pub listed_out : (out out' : List ℕ) → out' ≡ written out 0 (shape_lines s.size s.next k)
        → out' ≡ written out 0 (shape_lines s.size s.next (s.next + listed s room))
    listed_out out out' h = h ∙ ap (λ (i : ℕ). written out 0 (shape_lines s.size s.next i)) there

    -- q is the pattern that the walk left in the first places
    module _ (q : List ℕ) (left : k < s.end → q ≡ local_pattern s.size k) where
      abbrev kept : List ℕ
      kept = q ++ drop (2 * s.size) s.places

      held : cond (eqb k s.end) no_places kept ≡ places_at s.size k s.end
      held =
          elim (dec_lt k s.end) [
            | yes on ↦
                let places = sound_holds s sound ∙ places_at_next s.size s.next s.end run_on in
                rw (ne_eqb k s.end (λ h. omega arith), places_at_next s.size k s.end on)
                (padded_written s.size k (omega (arith, run_within)) s.places q (left on)
                (ap (drop (2 * s.size)) places ∙ drop_padded s.size s.next (omega (arith, run_on, run_within))))
            | no past ↦
                let last : k ≡ s.end = omega (arith, there, fitting_within (s.end - s.next) room s sound) in
                rw (eq-eqb k s.end last) (sym (places_at_end s.size k s.end (omega arith)))
          ]

      pub listed_run : (places : List ℕ) {f : ℕ} → f ≡ s.figure + figure_of s.size s.next k → places ≡ cond (eqb k s.end) no_places kept
          → ◌≡◌ {A = Run} (record { size = s.size; next = k; end = s.end; figure = f; places = places }) (after (listed s room) s)
      listed_run places figure made =
          (λ i. record { size = s.size; next = k; end = s.end; figure = figure i; places = (made ∙ held) i })
          ∙ ap (λ (j : ℕ). standing s.size j s.end (s.figure + figure_of s.size s.next j)) there
          ∙ sym (fitting_after (s.end - s.next) room s sound)

pub ruleset carries = (
  rules,
  run_some,
  run_small,
  run_doubled,
  run_room,
  run_on,
  run_within,
  run_pattern,
  run_formed,
  run_entries,
  run_odd,
  run_spare,
  run_depths,
)
