-- `permutation::shape` after the tests: there is room, and the number is below C(n).
-- Assumes nothing.
use Rattle.std.proofs.Common.{◌≡◌, Ok, arith}
use Rattle.permutation.proofs.Answers.{entries_within, table_below}
use Rattle.permutation.proofs.shape.Goals as goal

pub shape-requires : goal.shape-requires
shape-requires c =
    let p = c.args.entries.now in
    let r = c.room.result in
    let e = c.room.ensures in
    let h : r ≡ Ok tt = c.in_ok-room.was in (
      c.table-catalans.ensures,
      entries_within c.args.size p r e h,
      table_below c.args.size p r e h c.table-catalans.result c.table-catalans.ensures c.args.number (omega arith),
    )
