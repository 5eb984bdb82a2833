-- `text::fields::Line::bits`: the digits of the places before i are put.
-- Assumes nothing.
use Rattle.std.proofs.Common.{◌≡◌, take}
use Rattle.text.specs.Text.{bits, written}
use Rattle.text.proofs.fields.Line.bits.Given as goal

abbrev pub invariant-loop-i : goal.invariant-loop-i
invariant-loop-i l =
    (l.self.out.ghost_name ≡ l.fn.self.out.ghost_name)
    × (l.self.at ≡ l.fn.self.at)
    × (l.self.out.now ≡ written l.fn.self.out.now l.fn.self.at (take l.i (bits l.places)))
