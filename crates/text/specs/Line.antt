-- A field that is put into a line.
--     Puts old new text     the text stands in the same buffer from where the line went on, and the line goes on behind it
-- Assumes nothing.
use Rattle.std.specs.Prelude.{◌≡◌, List, ℕ, ◌+◌, length}
use Rattle.text.specs.Text.{written}
use Rattle.text.specs.declared.fields.Line.{Line}

pub record Puts (old new : Line) (text : List ℕ) : Type 0 where
  pub same_buffer : new.out.ghost_name ≡ old.out.ghost_name
  pub at_after : new.at ≡ old.at + length text
  pub out_after : new.out.now ≡ written old.out.now old.at text
