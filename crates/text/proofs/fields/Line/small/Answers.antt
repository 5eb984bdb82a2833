-- `text::fields::Line::small`: how many bytes the number has, and which.
-- Assumes nothing.
use Rattle.std.proofs.Common.{rules}
use Rattle.text.proofs.Putting.{smalls}
use Rattle.text.proofs.fields.Line.small.Goals as goal

pub returns : goal.returns
returns c =
    record {
      same_buffer = search rules;
      at_after = search (rules, smalls);
      out_after = search (rules, smalls);
    }
