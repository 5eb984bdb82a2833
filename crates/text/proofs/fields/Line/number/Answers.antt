-- `text::fields::Line::number`: what `io::decimal` puts is the number's decimals.
-- Assumes nothing.
use Rattle.std.proofs.Common.{rules}
use Rattle.text.proofs.Putting.{numbers}
use Rattle.text.proofs.fields.Line.number.Goals as goal

pub returns : goal.returns
returns c =
    record {
      same_buffer = search rules;
      at_after = search (rules, numbers);
      out_after = search (rules, numbers);
    }
