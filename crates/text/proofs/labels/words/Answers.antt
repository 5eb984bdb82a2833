-- `text::labels::words`: antt computes the words of 0 .. 99 and compares, once for the whole table.
-- Assumes nothing.
use Rattle.std.proofs.Common.{refl}
use Rattle.catalan.specs.Table.{tabulate}
use Rattle.text.specs.Text.{decimal, spelled}
use Rattle.text.specs.Label.{label_word}
use Rattle.text.proofs.labels.words.Goals as goal

pub returns : goal.returns
unfolding tabulate label_word decimal spelled
returns c = refl
