-- `lines::shapes::put_lines`: what is held at the start and after a step, what a line asks of it, and where the lines end.
-- Assumes nothing.
use Rattle.std.proofs.Common.{arith, rules}
use Rattle.lines.proofs.Walking.{walking, first_formed, holds_deepest, holds_shallow, holds_wide, holds_some, holds_few, holds_entries}
use Rattle.lines.proofs.Walking.{holds_places, holds_small, holds_text, holds_formed, holds_more, holds_next, put_room, put_next}
use Rattle.lines.proofs.Walking.{put_last, put_stopped}
use Rattle.lines.proofs.shapes.put_lines.Goals as goal

ruleset turn = (rules, walking)

pub change-change-requires : goal.change-change-requires
change-change-requires c = first_formed _ _ _ _ c.requires.le_size.2 c.requires.le_size.3 c.requires.places_value.0

pub loop-out-init : goal.loop-out-init
loop-out-init c = record { put = search turn; held = search turn }

pub bounds-depths-run : goal.bounds-depths-run
bounds-depths-run c = holds_deepest c.loop-out.invariant.held

pub put_shape-at-requires : goal.put_shape-at-requires
put_shape-at-requires c =
    let held = c.loop-out.invariant.held in
    record {
      line_room_in_bounds = (put_room c.loop-out.invariant.put c.loop-out-test.true, holds_text held, holds_wide held);
      in_bounds = (holds_some held, holds_few held);
      by_index = (holds_places held, holds_entries held, holds_shallow held, holds_small held);
    }

pub next-requires-clause-size_le_largest_size : goal.next-requires-clause-size_le_largest_size
next-requires-clause-size_le_largest_size c =
    let held = c.loop-out.invariant.held in
    (held.small, holds_formed held, held.labels)

pub unwrap-change-requires : goal.unwrap-change-requires
unwrap-change-requires c =
    let more = holds_more c.loop-out.invariant.held c.if-next-run.false c.next.result c.next.ensures.value in
    search (rules, more)

-- one line more
pub loop-out-preserved : goal.loop-out-preserved
loop-out-preserved c =
    let put = c.loop-out.invariant.put in
    let held = c.loop-out.invariant.held in
    let line = c.put_shape-at.ensures in
    let counted = c.count_up-width.ensures in
    let step = c.next.ensures in
    record {
      put = put_next put held c.if-figure-change.false c.loop-out-test.true line.value line.out_after (search turn);
      held =
          holds_next held c.if-next-run.false (search rules) step.places_after step.entries_after step.depths_after counted.by_index
          counted.digits_len_unchanged.0 counted.digits_len_unchanged.1;
    }

pub returns-then-figure-change-clause-next_value : goal.returns-then-figure-change-clause-next_value
returns-then-figure-change-clause-next_value c = put_stopped c.loop-out.invariant.put c.loop-out.invariant.held c.if-figure-change.true

pub returns-then-next-run : goal.returns-then-next-run
returns-then-next-run c =
    let put = c.loop-out.invariant.put in
    let held = c.loop-out.invariant.held in
    let line = c.put_shape-at.ensures in
    let done = put_next put held c.if-figure-change.false c.loop-out-test.true line.value line.out_after (search turn) in
    record {
      next_value = put_last done c.if-next-run.true;
      figure_value = done.figure;
      bytes_value = done.bytes;
      out_after = done.put;
      places_after = λ on. absurd (omega arith);
    }
