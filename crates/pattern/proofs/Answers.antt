-- What the calls on patterns meet after the check, in the words of the source: p is what the slice holds, and r what the check answered.
--     places_some, places_small, places_long      there is room: a size from 1 to 35, and 2n places
--     number_below                                a number below the table's entry is below C(n)
--     done_feasible                               the check is done: a pattern of the size
--     next_changes, previous_changes              then a step's change is at least 1
--     head_taken, head_short                      and the head is as many of the first places as it has, which are there
--     answers                                     these and the laws of any call, for `search`
-- Assumes nothing.
use mathlib.Core.Path.{◌≡◌, sym, ap, ◌∙◌}
use mathlib.Core.Bool.{true}
use mathlib.Core.List.{List}
use Prim.Native.Nat.{ℕ, ◌+◌, ◌*◌, ◌≤◌, ◌<◌}
use lib.Dec.{ltb}
use lib.ListN.{length, take}
use native.Mathlib.Nat.{le_of_lt}
use borrow.Author.Rules.{rules}
use borrow.Author.Tests.{ltb-true}
use Rattle.catalan.specs.Count.{C, largest_size}
use Rattle.catalan.specs.Table.{table_at}
use Rattle.shape.specs.Tree.{head}
use Rattle.shape.specs.Form.{Feasible, patterns, pattern_tree}
use Rattle.shape.specs.Number.{local_number, change}
use Rattle.shape.specs.Numbering.{local}
use Rattle.shape.specs.Reply.{outcome_reply, Outcome}
use Rattle.shape.specs.Check.{room_for}
use Rattle.shape.specs.Calls.{check_reply}
use Rattle.std.specs.Prelude.{Ok}
use Rattle.shape.proofs.Patterns.{pattern_of}
use Rattle.shape.proofs.Tests.{patterns_tested}
use Rattle.shape.proofs.LocalNumbers.{local_lawful}
use Rattle.shape.proofs.Excess.{head_prefix}
use Rattle.shape.proofs.Changes.{change_least}
use Rattle.shape.proofs.Checks.{done_formed}
use Rattle.shape.proofs.Answers.{answered, room_some, room_small, room_long, check_told, done_some, asked_below}

-- ---- after the tests of the size and of the length

module _ (n : ℕ) (p : List ℕ) (r : Outcome) (e : r ≡ room_for patterns n p) (h : r ≡ Ok tt) where
  pub places_some : 1 ≤ n
  places_some = room_some patterns.length_of n (length p) r e h

  pub places_small : n ≤ largest_size
  places_small = room_small patterns.length_of n (length p) r e h

  pub places_long : length p ≡ 2 * n
  places_long = room_long patterns.length_of n (length p) r e h

  pub number_below : (k v : ℕ) → v ≡ table_at n → k < v → k < C n
  number_below k = asked_below (local n) k p r e h

-- ---- after the check

module _ (n : ℕ) (p : List ℕ) (r : Outcome) (e : outcome_reply r ≡ check_reply patterns n p) (h : r ≡ Ok tt) where
  pub done_feasible : Feasible n p
  done_feasible = done_formed patterns patterns_tested n p (check_told patterns n p r e (Ok tt) h)

  some : 1 ≤ n
  some = done_some patterns n p r e h

  pub next_changes : ltb (local_number p + 1) (C n) ≡ true → 1 ≤ change n (local_number p + 1)
  next_changes t = change_least n (local_number p + 1) some (ltb-true (local_number p + 1) (C n) t)

  pub previous_changes : 1 ≤ change n (local_number p)
  previous_changes = change_least n (local_number p) some ((local_lawful n).number_below p done_feasible)

  -- v is the length that the code found
  module _ (v : ℕ) (g : v ≡ length (head (pattern_tree p))) where
    pub head_taken : take v p ≡ head (pattern_tree p)
    head_taken =
        let t = pattern_tree p in
        ap (λ (k : ℕ). take k p) g ∙ ap (take (length (head t))) (sym (pattern_of n p done_feasible).0) ∙ head_prefix t

    pub head_short : v ≡ length (take v p)
    head_short = g ∙ sym (ap length head_taken)

pub ruleset answers = (
  rules,
  le_of_lt,
  answered,
  places_some,
  places_small,
  places_long,
  number_below,
  done_feasible,
  next_changes,
  previous_changes,
  head_taken,
  head_short,
)
