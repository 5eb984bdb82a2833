-- `pattern::move_by` after the check: whether `local::move_by` found a shape at the distance, and what it left.
-- Assumes nothing.
use Rattle.std.proofs.Common.{◌≡◌, Ok}
use Rattle.shape.specs.Form.{patterns}
use Rattle.shape.specs.Check.{checked}
use Rattle.shape.proofs.LocalNumbers.{local_lawful}
use Rattle.shape.proofs.Tests.{patterns_tested}
use Rattle.shape.proofs.Passing.{check_passed}
use Rattle.distance.proofs.Reaching.{told_done, told_past, told_left}
use Rattle.local.specs.Places.{moved_pattern}
use Rattle.pattern.proofs.Answers.{answers}
use Rattle.pattern.proofs.move_by.Goals as goal

ruleset moves = (answers, local_lawful, patterns_tested, check_passed, told_done, told_past, told_left)

pub returns-then-move_by-clause-result_value : goal.returns-then-move_by-clause-result_value
returns-then-move_by-clause-result_value c = search moves

pub returns-then-move_by-clause-places_after : goal.returns-then-move_by-clause-places_after
unfolding moved_pattern
returns-then-move_by-clause-places_after c = search moves

pub returns-clause-result_value : goal.returns-clause-result_value
returns-clause-result_value c =
    let done : checked patterns c.args.size c.args.places.now ≡ Ok tt = search (answers, check_passed) in
    search moves

pub returns-clause-places_after : goal.returns-clause-places_after
unfolding moved_pattern
returns-clause-places_after c = search moves
