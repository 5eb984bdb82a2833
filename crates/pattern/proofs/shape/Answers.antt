-- `pattern::shape` after the tests: there is room, and the number is below C(n).
-- Assumes nothing.
use Rattle.std.proofs.Common.{◌≡◌, Ok, arith}
use Rattle.pattern.proofs.Answers.{places_some, places_small, places_long, number_below}
use Rattle.pattern.proofs.shape.Goals as goal

pub shape-requires : goal.shape-requires
shape-requires c =
    let e = c.room.ensures in
    let h : c.room.result ≡ Ok tt = c.in_ok-room.was in (
      places_some c.args.size c.args.places.now c.room.result e h,
      places_small c.args.size c.args.places.now c.room.result e h,
      number_below c.args.size c.args.places.now c.room.result e h c.args.number c.catalan.result c.catalan.ensures (omega arith),
      places_long c.args.size c.args.places.now c.room.result e h,
    )
