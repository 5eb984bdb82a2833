-- `record::read` hands the refusal of the layout on.
-- Assumes nothing.
use Rattle.std.proofs.Common.{arith}
use Rattle.std.proofs.lemmas.Grind.{common_steps}
use Rattle.record.specs.Calls.{read_reply}
use Rattle.record.proofs.Answers.{read_refused}
use Rattle.record.proofs.read.Goals as goal

pub returns-in_err-check-clause-result_value : goal.returns-in_err-check-clause-result_value
unfolding read_reply
returns-in_err-check-clause-result_value c = grind (arith, common_steps, read_refused)
