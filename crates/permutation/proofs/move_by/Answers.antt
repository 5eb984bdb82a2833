-- `permutation::move_by` after the check: whether the number and the distance come to a tree permutation's, and what is left.
-- Assumes nothing.
use Rattle.std.proofs.Common.{refl}
use Rattle.permutation.proofs.Answers.{answers}
use Rattle.permutation.proofs.Sums.{done_within, sum_below, sum_done, sum_left, sum_refused, sum_kept}
use Rattle.permutation.proofs.move_by.Goals as goal

ruleset moves = (answers, sum_done, sum_left, sum_refused, sum_kept)

pub shape-requires : goal.shape-requires
shape-requires c =
    let p = c.args.entries.now in
    let checked = c.check.ensures in
    let done = c.in_ok-check.was in (
      c.table-catalans.ensures,
      done_within c.args.size p c.check.result checked done,
      sum_below c.args.size p c.check.result checked done c.table-catalans.result c.table-catalans.ensures c.args.distance c.ranges.distance
          c.number-number.result c.added.result _ c.number-number.ensures c.added.ensures
          refl c.if-target-catalans.true,
    )

pub returns-then-target-catalans-clause-result_value : goal.returns-then-target-catalans-clause-result_value
returns-then-target-catalans-clause-result_value c = search moves

pub returns-then-target-catalans-clause-entries_after : goal.returns-then-target-catalans-clause-entries_after
returns-then-target-catalans-clause-entries_after c = search moves

pub returns-clause-result_value : goal.returns-clause-result_value
returns-clause-result_value c = search moves

pub returns-clause-entries_after : goal.returns-clause-entries_after
returns-clause-entries_after c = search moves
