-- Worked examples of runs, computed from the definitions: 01's sheet for `3 1 4`, size 3 cut into four runs, and starts and states at the
-- edges.
--     shown_3_1_4, figure_3_1_4        what the run hands out, and its figure
--     added_3                          the figures of size 3, cut at 1, 1 and 4, one of the runs empty
--     refused_3_5_6, refused_36_5_4    a start past the last shape; one that fails both tests is refused for its size
--     done_3_5_5                       a run with no shape in it is done
--     refused_none                     the state of a refused start is refused
--     handed_most, refused_more        the figure may be raised to the last number of 64 bits, and no further
--     refused_place                    a state with a place that is not 0 behind its pattern is refused
-- Assumes nothing.
use mathlib.Core.Path.{◌≡◌, refl}
use mathlib.Core.List.{[], ◌∷◌}
use Prim.Native.Nat.{ℕ}
use lib.ListN.{set}
use Rattle.catalan.specs.Count.{C, binom, binom_before, ways}
use Rattle.shape.specs.Number.{local_places, local_pattern, first_difference, change}
use Rattle.shape.specs.Numbering.{numbers_from}
use Rattle.shape.specs.declared.Refusal.TheVariants.{Size, Range, State}
use Rattle.std.specs.Prelude.{Err}
use Rattle.run.specs.declared.Run.{Run}
use Rattle.run.specs.declared.Progress.TheVariants.{Handed, Done, Refused as NotHanded}
use Rattle.run.specs.State.{no_places, padded, places_at, same, belong}
use Rattle.run.specs.Calls.{start_check, begun, no_run, start_run, progress, moved_on, step_run}
use Rattle.run.specs.Walk.{after, shown, run_figure, stretches, added_figures}

shown_3_1_4 : shown 3 1 4
    ≡ (1 ∷ 0 ∷ 1 ∷ 1 ∷ 0 ∷ 0 ∷ [], 3)
    ∷ (1 ∷ 1 ∷ 0 ∷ 0 ∷ 1 ∷ 0 ∷ [], 5)
    ∷ (1 ∷ 1 ∷ 0 ∷ 1 ∷ 0 ∷ 0 ∷ [], 3)
    ∷ []
unfolding shown numbers_from local_pattern local_places change first_difference ways binom binom_before
shown_3_1_4 = refl

figure_3_1_4 : run_figure 3 1 4 ≡ 11
unfolding C ways binom binom_before local_places local_pattern first_difference change padded places_at same belong progress
    start_check begun no_run start_run moved_on step_run after run_figure
figure_3_1_4 = refl

added_3 : added_figures 3 (1 ∷ 1 ∷ 4 ∷ []) ≡ 21
unfolding C ways binom binom_before local_places local_pattern first_difference change padded places_at same belong progress
    start_check begun no_run start_run moved_on step_run after run_figure stretches added_figures
added_3 = refl

refused_3_5_6 : start_check 3 5 6 ≡ Err Range
unfolding C start_check
refused_3_5_6 = refl

refused_36_5_4 : start_check 36 5 4 ≡ Err Size
unfolding C start_check
refused_36_5_4 = refl

done_3_5_5 : progress (start_run 3 5 5) ≡ Done
unfolding C places_at same belong progress start_check begun no_run start_run
done_3_5_5 = refl

refused_none : progress no_run ≡ NotHanded State
unfolding belong progress no_run
refused_none = refl

-- the run 3 1 4 before its first step, with another figure
abbrev raised_to : ℕ → Run
raised_to f = record { size = 3; next = 1; end = 4; figure = f; places = places_at 3 1 4 }

-- its next change is 3, and 64 bits hold up to 18446744073709551615
handed_most : progress (raised_to 18446744073709551612) ≡ Handed
unfolding C ways binom binom_before local_places local_pattern first_difference change padded places_at same belong progress
handed_most = refl

refused_more : progress (raised_to 18446744073709551613) ≡ NotHanded State
unfolding C ways binom binom_before local_places local_pattern first_difference change padded places_at same belong progress
refused_more = refl

-- a run at its end, with a 1 in its last place
refused_place : progress (record { size = 3; next = 5; end = 5; figure = 0; places = set no_places 69 1 }) ≡ NotHanded State
unfolding C places_at same belong progress
refused_place = refl
