-- `text::input::number`: the number of the digits so far, which 64 bits hold, and those still to come write what all of them do.
-- Assumes nothing.
use Rattle.std.proofs.Common.{◌≡◌, ◌^◌, ◌<◌, drop}
use Rattle.text.specs.Input.{value, value_from}
use Rattle.text.proofs.input.number.Given as goal

abbrev pub invariant-loop-digit : goal.invariant-loop-digit
invariant-loop-digit l = (l.value < 2 ^ 64) × (value_from l.value (drop l.digit-index l.digits) ≡ value l.digits)
