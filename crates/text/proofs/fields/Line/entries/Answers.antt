-- `text::fields::Line::entries`: the rest of the entries at the start, behind each of them, and of the last.
-- Assumes nothing.
use Rattle.std.proofs.Common.{◌-◌, ◌<◌, ◌≤◌, length, rules, arith}
use Rattle.std.proofs.lemmas.List.{length-take-le}
use lib.Seq.{get_or-take}
use Rattle.text.proofs.Putting.{permutations, entries_next, entries_end}
use Rattle.text.proofs.fields.Line.entries.Goals as goal

pub loop-entry-init : goal.loop-entry-init
loop-entry-init c = (search rules, search (rules, permutations))

pub loop-entry-preserved : goal.loop-entry-preserved
loop-entry-preserved c =
    let entries = c.args.entries.now in
    let i = c.loop-entry.entry-index in
    let on : i < length entries - 1 = omega (arith, length-take-le (length entries - 1) entries (omega arith)) in
    let same = get_or-take (length entries - 1) entries i 0 on in (
      search rules,
      entries_next _ _ _ c.requires.2 _ _ _ c.loop-entry.invariant.1 on _ _ _ c.words-words.ensures
          (rw same at c.label.ensures.at_after) (rw same at c.label.ensures.out_after),
    )

pub returns : goal.returns
returns c =
    let entries = c.args.entries.now in
    let done : length entries - 1 ≤ c.loop-entry.entry-index = omega (arith, length-take-le (length entries - 1) entries (omega arith)) in
    record {
      same_buffer = search rules;
      at_after = search (rules, permutations);
      out_after = entries_end _ _ _ c.requires.2 _ _ _ c.loop-entry.invariant.1 c.small.new.self.at _ done c.small.ensures.out_after;
    }
