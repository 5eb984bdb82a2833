-- What a conversion meets after its checks: the laws of any call, and those of the calls on either form by which the slice that is written is
-- as long as its form asks, and the one that is read is well formed.
--     answers
-- Assumes nothing.
use borrow.Author.Rules.{rules}
use Rattle.shape.proofs.Answers.{answered, room_told}
use Rattle.pattern.proofs.Answers.{places_long, done_feasible}
use Rattle.permutation.proofs.Answers.{entries_long, done_permutation}

pub ruleset answers = (rules, answered, room_told, places_long, done_feasible, entries_long, done_permutation)
