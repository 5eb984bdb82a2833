-- `local::first_above` meets its contract: what `position` finds is the first fault.
-- Assumes nothing.
use Rattle.std.proofs.Common.{◌≡◌, ◌+◌, ◌-◌, length, take, drop, rules}
use Rattle.std.specs.Option.{MatchOption}
use Rattle.local.proofs.Walks.{FirstAbove, above_found}
use Rattle.local.proofs.first_above.Goals as goal

pub returns : goal.returns
returns c =
    let places = c.args.places.now in
    let from = c.args.from in
    let found : FirstAbove c.args.most (take (length places - from) (drop from places)) c.position.result = search rules in
    let value : MatchOption c.position.result (c.map_or.result ≡ length places) (λ i. c.map_or.result ≡ from + i) = search rules in
    above_found _ _ _ c.requires _ _ found value
