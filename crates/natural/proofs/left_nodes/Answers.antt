-- `natural::left_nodes` meets its contract: its returns.
-- Assumes nothing.
use Rattle.std.proofs.Common.{◌≤◌, rules}
use Rattle.natural.proofs.Counts.{left_last, taken_off}
use Rattle.natural.proofs.left_nodes.Goals as goal

pub returns-then-number-catalans : goal.returns-then-number-catalans
returns-then-number-catalans c = search (rules, taken_off)

pub returns-then-rest-trees : goal.returns-then-rest-trees
returns-then-rest-trees c = search (rules, taken_off)

pub returns : goal.returns
returns c =
    let a = c.args in
    let some : 1 ≤ a.others = search (rules, taken_off) in
    search (rules, left_last a.others c.loop-left.left c.loop-left.rest a.number c.loop-left.invariant c.loop-left.auto.left-end some)
