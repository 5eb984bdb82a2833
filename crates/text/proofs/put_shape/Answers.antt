-- `text::put_shape`: there is room for each field, and the five fields are the line.
-- Assumes nothing.
use Rattle.std.proofs.Common.{rules}
use Rattle.text.proofs.Lines.{entries_within, depth_within, change_within, shape_put}
use Rattle.text.proofs.put_shape.Goals as goal

pub entries-requires : goal.entries-requires
entries-requires c =
    let room = entries_within _ _ _ _ _ c.args.depth c.args.change c.text.ensures
    (c.requires.line_room_in_bounds, (c.requires.in_bounds, c.requires.by_index)) _ c.bits.ensures in
    (c.requires.in_bounds.0, room, c.requires.by_index.1)

pub small-requires : goal.small-requires
small-requires c =
    let room = depth_within _ _ _ _ _ c.args.depth c.args.change c.text.ensures
    (c.requires.line_room_in_bounds, (c.requires.in_bounds, c.requires.by_index)) _ c.bits.ensures _ c.entries.ensures in
    (c.requires.by_index.2, room)

pub small-requires-2 : goal.small-requires-2
small-requires-2 c =
    let room = change_within _ _ _ _ _ c.args.depth c.args.change c.text.ensures
    (c.requires.line_room_in_bounds, (c.requires.in_bounds, c.requires.by_index)) _ c.bits.ensures _ c.entries.ensures _ c.small.ensures in
    (c.requires.by_index.3, room)

pub returns : goal.returns
returns c =
    let line = shape_put _ _ _ _ _ c.args.depth c.args.change c.text.ensures
    (c.requires.line_room_in_bounds, (c.requires.in_bounds, c.requires.by_index)) _ c.bits.ensures _ c.entries.ensures _ c.small.ensures _ c.small-2.ensures in
    record { value = line.0; out_after = search (rules, line) }
