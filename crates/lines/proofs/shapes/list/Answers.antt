-- `lines::shapes::list`: the walk is given the run's shape in both forms and its depths, and the run is made of what it leaves.
-- Assumes nothing.
use Rattle.lines.proofs.Carried.{run_small, run_formed, run_entries, run_depths, run_pattern}
use Rattle.lines.proofs.Carried.{run_labels, run_held, run_counted, run_covered, run_deep, run_measured, listed_bytes, listed_run, listed_out}
use Rattle.lines.proofs.shapes.list.Goals as goal

pub permutation_of-requires : goal.permutation_of-requires
permutation_of-requires c = (run_small _ c.requires, run_formed _ c.requires, run_entries _ c.requires)

pub depths-requires : goal.depths-requires
depths-requires c = (run_small _ c.requires, run_formed _ c.requires, run_depths _ c.requires)

pub slice_bounds-entries-end-2 : goal.slice_bounds-entries-end-2
slice_bounds-entries-end-2 c = run_held _ c.requires _ c.permutation_of.ensures _

pub slice_bounds-put_lines-end-2 : goal.slice_bounds-put_lines-end-2
slice_bounds-put_lines-end-2 c = run_counted _ c.requires _ c.permutation_of.ensures _

pub slice_bounds-depths-end-4 : goal.slice_bounds-depths-end-4
slice_bounds-depths-end-4 c = run_covered _ c.requires _ c.depths.ensures _

pub slice_bounds-put_lines-end-3 : goal.slice_bounds-put_lines-end-3
slice_bounds-put_lines-end-3 c = run_measured _ c.requires _ c.depths.ensures _

pub put_lines-walked-requires-clause-places_value : goal.put_lines-walked-requires-clause-places_value
put_lines-walked-requires-clause-places_value c = (
  run_pattern _ c.requires,
  run_labels _ c.requires _ c.permutation_of.ensures _,
  run_deep _ c.requires _ c.depths.ensures _,
)

pub returns : goal.returns
returns c =
    let told = c.put_lines-walked.ensures in
    record {
      bytes_value = listed_bytes _ c.requires _ told.next_value _ told.bytes_value;
      run_value = listed_run _ c.requires _ told.next_value _ told.places_after _ told.figure_value c.places_left-places.ensures;
      out_after = listed_out _ c.requires _ told.next_value _ _ told.out_after;
    }
