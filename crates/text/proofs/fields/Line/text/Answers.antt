-- `text::fields::Line::text`: the text is copied, and the byte put behind it.
-- Assumes nothing.
use Rattle.std.proofs.Common.{[], ◌∷◌, length-append, arith, rules}
use Rattle.text.proofs.Written.{written_copied}
use Rattle.text.proofs.fields.Line.text.Goals as goal

pub returns : goal.returns
returns c =
    record {
      same_buffer = search rules;
      at_after = omega (arith, length-append c.args.text.now (c.args.end ∷ []));
      out_after = search (rules, written_copied);
    }
