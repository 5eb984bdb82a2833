-- The number that a step comes to, from the last number there is to 0 and back.
-- Assumes nothing.
use Rattle.std.specs.Prelude.{ℕ, ◌+◌, ◌-◌, ◌%◌, ◌^◌}
use Rattle.vectors.specs.declared.way.Way.{Way}
use Rattle.vectors.specs.declared.way.Way.TheVariants.{On, Back}

abbrev pub number_from : Way → ℕ → ℕ
number_from On number = (number + 1) % 2 ^ 64
number_from Back number = (number + (2 ^ 64 - 1)) % 2 ^ 64
