-- A whole size cut into runs, wherever it is cut: together the runs hand out each shape of the size exactly once, and their figures add up
-- to the same number.
--     run_list_lem, run_figure_lem  what one run hands out, and the figure that it ends with
--     stretches_join           the runs of a stretch that is cut hand out, one after the other, what one run of the stretch does
--     stretches_figure         and their figures add up to its figure
--     runs_join                the runs of a whole size hand out the whole list of the local order
--     runs_each_once           as trees: all of the size, none twice, each before the next
--     runs_figures             their figures add up to C(1) + .. + C(n+1) - 1
--     figures_alike            wherever the size is cut
-- Assumes nothing.
use mathlib.Core.Path.{◌≡◌, sym, ap, ap₂, ◌∙◌}
use mathlib.Core.Logic.{◌↔◌}
use mathlib.Core.List.{List, [], ◌∷◌, ◌++◌, map, flat_map, foldr, Memᴰ, append-nil, map-map, map-append}
use Prim.Native.Nat.{ℕ, suc, ◌+◌, ◌-◌, ◌≤◌}
use native.Mathlib.Nat.{le_refl, le_trans, sub-zero, add-zero}
use native.Mathlib.Omega.{arith}
use lib.ListN.{length}
use Rattle.catalan.specs.Count.{C, sum}
use Rattle.shape.specs.Tree.{Tree, size}
use Rattle.shape.specs.Every.{Pairs}
use Rattle.shape.specs.Form.{pattern_tree}
use Rattle.shape.specs.Order.{Local}
use Rattle.shape.specs.Number.{local_pattern}
use Rattle.shape.specs.Numbering.{numbers_from, local, list_of, trees_of}
use Rattle.shape.specs.Check.{Sized}
use Rattle.shape.proofs.Listing.{numbers_join}
use Rattle.shape.proofs.Meanings.{local_list}
use Rattle.run.specs.declared.Run.{Run}
use Rattle.run.specs.Walk.{shown, figure_of, run_list, run_figure, stretches, Rises, joined_runs, run_trees, added_figures}
use Rattle.run.proofs.Runs.{run_hands_out, run_ends, figure_join, figure_whole}

rises_reach : (first : ℕ) (cuts : List ℕ) (end : ℕ) → Rises first cuts end → first ≤ end
rises_reach first [] end h = h
rises_reach first (cut ∷ cuts) end h = le_trans h.0 (rises_reach cut cuts end h.1)

-- the patterns of a stretch
abbrev patterns_from : ℕ → ℕ → ℕ → List (List ℕ)
patterns_from n first end = map (local_pattern n) (numbers_from first (end - first))

patterns_join : (n first cut end : ℕ) → first ≤ cut → cut ≤ end → patterns_from n first cut ++ patterns_from n cut end ≡ patterns_from n first end
patterns_join n first cut end low high =
    let there : cut ≡ first + (cut - first) = omega arith in
    let parts : cut - first + (end - cut) ≡ end - first = omega arith in
    sym (map-append _ (numbers_from first (cut - first)) (numbers_from cut (end - cut)))
    ∙ ap (map (local_pattern n))
    (ap (λ (k : ℕ). numbers_from first (cut - first) ++ numbers_from k (end - cut)) there
    ∙ numbers_join first (cut - first) (end - cut)
    ∙ ap (numbers_from first) parts)

module _ (n : ℕ) (sized : Sized n) where
  module _ (first end : ℕ) (low : first ≤ end) (high : end ≤ C n) where
    pub run_list_lem : run_list n first end ≡ patterns_from n first end
    unfolding run_list shown
    run_list_lem =
        ap (map (λ (p, c). p)) (run_hands_out n first end sized low high (end - first) (omega arith))
        ∙ map-map _ _ (numbers_from first (end - first))

    pub run_figure_lem : run_figure n first end ≡ figure_of n first end
    unfolding run_figure
    run_figure_lem = ap (λ (s : Run). s.figure) (run_ends n first end sized low high (end - first) (omega arith))

  module _ (end : ℕ) (high : end ≤ C n) where
    pub stretches_join : (first : ℕ) (cuts : List ℕ) → Rises first cuts end
        → flat_map (λ (first, end). run_list n first end) (stretches first cuts end) ≡ patterns_from n first end
    unfolding stretches flat_map
    stretches_join first [] h = append-nil _ ∙ run_list_lem first end h high
    stretches_join first (cut ∷ cuts) (l, h) =
        let reach = rises_reach cut cuts end h in
        ap₂ ◌++◌ (run_list_lem first cut l (le_trans reach high)) (stretches_join cut cuts h)
        ∙ patterns_join n first cut end l reach

    pub stretches_figure : (first : ℕ) (cuts : List ℕ) → Rises first cuts end
        → foldr ◌+◌ 0 (map (λ (first, end). run_figure n first end) (stretches first cuts end)) ≡ figure_of n first end
    unfolding stretches
    stretches_figure first [] h = add-zero _ ∙ run_figure_lem first end h high
    stretches_figure first (cut ∷ cuts) (l, h) =
        let reach = rises_reach cut cuts end h in
        ap₂ ◌+◌ (run_figure_lem first cut l (le_trans reach high)) (stretches_figure cut cuts h)
        ∙ figure_join n first cut end l reach

  module _ (cuts : List ℕ) (rises : Rises 0 cuts (C n)) where
    pub runs_join : joined_runs n cuts ≡ list_of (local n)
    unfolding joined_runs list_of
    runs_join = stretches_join (C n) (le_refl (C n)) 0 cuts rises ∙ ap (λ (d : ℕ). map (local_pattern n) (numbers_from 0 d)) (sub-zero (C n))

    pub runs_figures : added_figures n cuts ≡ sum (suc n) (λ k. C (suc k)) - 1
    unfolding added_figures
    runs_figures = stretches_figure (C n) (le_refl (C n)) 0 cuts rises ∙ figure_whole n

    trees_alike : trees_of (local n) ≡ run_trees n cuts
    unfolding trees_of
    trees_alike = ap (map pattern_tree) (sym runs_join)

    pub runs_each_once : (length (run_trees n cuts) ≡ C n) × ((t : Tree) → (size t ≡ n) ↔ Memᴰ t (run_trees n cuts))
        × Pairs (λ s t. s ≡ t → ⊥) (run_trees n cuts) × Pairs Local (run_trees n cuts)
    runs_each_once = let whole = local_list n in rw (← trees_alike) (whole.as_many, whole.each, whole.once, whole.in_order)

  pub figures_alike : (cuts cuts' : List ℕ) → Rises 0 cuts (C n) → Rises 0 cuts' (C n) → added_figures n cuts ≡ added_figures n cuts'
  figures_alike cuts cuts' h h' = runs_figures cuts h ∙ sym (runs_figures cuts' h')
