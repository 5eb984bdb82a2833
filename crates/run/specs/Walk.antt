-- What a run hands out when it is stepped, and a size cut into runs: 01, Change, run, figure.
--     handed d s           the patterns, each with its change, that d steps from the state s hand out
--     after d s            the state that they leave
--     shown                the patterns numbered first to end - 1, each with its change
--     figure_of            their changes, added up
--     run_list, run_figure  what a run hands out from its start to its end, and the figure that it ends with
--     stretches, Rises     the stretches between two numbers that are cut at others, which do not fall; they may be empty
--     joined_runs, run_trees   what the runs of a whole size hand out, one run after the other, wherever it is cut; as trees
--     added_figures        and the figures of these runs, added up
-- Assumes nothing.
use mathlib.Core.List.{List, [], ◌∷◌, map, flat_map, foldr}
use Rattle.std.specs.Prelude.{ℕ, zero, suc, ◌+◌, ◌-◌, ◌*◌, ◌≤◌, take}
use Rattle.catalan.specs.Count.{C, sum}
use Rattle.shape.specs.Tree.{Tree}
use Rattle.shape.specs.Form.{pattern_tree}
use Rattle.shape.specs.Number.{local_pattern, change}
use Rattle.shape.specs.Numbering.{numbers_from}
use Rattle.run.specs.declared.Run.{Run}
use Rattle.run.specs.Calls.{progress, if_handed, start_run, step_run, step_places, step_change}

-- Of the seventy places that a step hands out, the first 2n are the pattern.
unfoldable pub handed : ℕ → Run → List (List ℕ × ℕ)
handed zero s = []
handed (suc d) s = if_handed (progress s) ((take (2 * s.size) (step_places s), step_change s) ∷ handed d (step_run s)) []

unfoldable pub after : ℕ → Run → Run
after zero s = s
after (suc d) s = after d (step_run s)

unfoldable pub shown : ℕ → ℕ → ℕ → List (List ℕ × ℕ)
shown n first end = map (λ k. (local_pattern n k, change n k)) (numbers_from first (end - first))

unfoldable pub figure_of : ℕ → ℕ → ℕ → ℕ
figure_of n first end = sum (end - first) (λ i. change n (first + i))

-- As many steps as there are numbers from first to end - 1.
unfoldable pub run_list : ℕ → ℕ → ℕ → List (List ℕ)
run_list n first end = map (λ (p, c). p) (handed (end - first) (start_run n first end))

unfoldable pub run_figure : ℕ → ℕ → ℕ → ℕ
run_figure n first end = (after (end - first) (start_run n first end)).figure

unfoldable pub stretches : ℕ → List ℕ → ℕ → List (ℕ × ℕ)
stretches first [] end = (first, end) ∷ []
stretches first (cut ∷ cuts) end = (first, cut) ∷ stretches cut cuts end

abbrev pub Rises : ℕ → List ℕ → ℕ → Type 0
Rises first [] end = first ≤ end
Rises first (cut ∷ cuts) end = (first ≤ cut) × Rises cut cuts end

unfoldable pub joined_runs : ℕ → List ℕ → List (List ℕ)
joined_runs n cuts = flat_map (λ (first, end). run_list n first end) (stretches 0 cuts (C n))

abbrev pub run_trees : ℕ → List ℕ → List Tree
run_trees n cuts = map pattern_tree (joined_runs n cuts)

unfoldable pub added_figures : ℕ → List ℕ → ℕ
added_figures n cuts = foldr ◌+◌ 0 (map (λ (first, end). run_figure n first end) (stretches 0 cuts (C n)))
