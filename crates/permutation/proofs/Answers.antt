-- What the calls on tree permutations meet after the check, in the words of the source: p is what the slice holds, and r what the check
-- answered.
--     entries_small, entries_long, entries_within      there is room: a size of 35 at most, and n entries
--     table_past, table_lent, table_below, table_done      a number against the table's entry for the size
--     shape_left                                  what the shape of a number leaves
--     done_permutation, done_part                 the check is done: a tree permutation, and a part with the labels after 0
--     next_found, next_left, previous_left        then a step on and a step back: whether there is one, and what it leaves
--     answers                                     these and the laws of any call, for `search`
-- Assumes nothing.
use Rattle.std.proofs.Common.{◌≡◌, ℕ, ◌+◌, ◌-◌, ◌<◌, ◌≤◌, Bool, true, false, cond, ltb, List, length, get_or, ap, ◌∙◌, le_of_lt, arith, rules}
use Rattle.catalan.specs.Count.{C, largest_size}
use Rattle.catalan.specs.Table.{catalans, table_at}
use Rattle.catalan.proofs.Tables.{table_entry}
use Rattle.shape.specs.Tree.{size, permutation, permutation_from}
use Rattle.shape.specs.Form.{TreePermutation, permutations, permutation_tree}
use Rattle.shape.specs.Number.{natural_number, natural_tree}
use Rattle.shape.specs.Numbering.{natural, next, previous}
use Rattle.shape.specs.Reply.{outcome_reply, Outcome}
use Rattle.shape.specs.Check.{room_for, number_check, unless_refused}
use Rattle.shape.specs.Calls.{check_reply}
use Rattle.shape.specs.declared.Refusal.TheVariants.{Number}
use Rattle.std.specs.Prelude.{Ok, Err}
use Rattle.shape.proofs.Permutations.{permutation_of}
use Rattle.shape.proofs.Tests.{permutations_tested}
use Rattle.shape.proofs.Checks.{done_formed}
use Rattle.shape.proofs.Answers.{answered, room_small, room_long, check_told, done_small, asked_past, asked_lent, asked_below, asked_done}
use Rattle.natural.specs.Parts.{Part, has_next, has_previous, next_tree, previous_tree}
use Rattle.natural.proofs.Parts.{formed_part}

-- ---- after the tests of the size and of the length

module _ (n : ℕ) (p : List ℕ) (r : Outcome) (e : r ≡ room_for permutations n p) (h : r ≡ Ok tt) where
  pub entries_small : n ≤ largest_size
  entries_small = room_small permutations.length_of n (length p) r e h

  pub entries_long : length p ≡ n
  entries_long = room_long permutations.length_of n (length p) r e h

  pub entries_within : length p ≤ largest_size
  entries_within = omega (arith, entries_small, entries_long)

  -- a is the table that the code holds
  module _ (a : List ℕ) (t : a ≡ catalans) (k : ℕ) where
    entry : get_or a n 0 ≡ table_at n
    entry = table_entry n a t (omega (arith, entries_small))

    pub table_past : get_or a n 0 ≤ k → number_check (natural n) k p ≡ Err Number
    table_past = asked_past (natural n) k p r e h (get_or a n 0) entry

    pub table_lent : get_or a n 0 ≤ k → p ≡ unless_refused (number_check (natural n) k p) ((natural n).shape k) p
    table_lent = asked_lent (natural n) k p r e h (get_or a n 0) entry

    pub table_below : k < get_or a n 0 → k < C (length p)
    table_below below = rw entries_long (asked_below (natural n) k p r e h (get_or a n 0) entry below)

    pub table_done : k < get_or a n 0 → number_check (natural n) k p ≡ Ok tt
    table_done = asked_done (natural n) k p r e h (get_or a n 0) entry

  pub shape_left : (k : ℕ) (x : List ℕ) → x ≡ permutation_from 0 (natural_tree (length p) k) → number_check (natural n) k p ≡ Ok tt
      → x ≡ unless_refused (number_check (natural n) k p) ((natural n).shape k) p
  unfolding permutation
  shape_left k x g done = rw done (g ∙ ap (λ (m : ℕ). permutation_from 0 (natural_tree m k)) entries_long)

-- ---- after the check

module _ (n : ℕ) (p : List ℕ) (r : Outcome) (e : outcome_reply r ≡ check_reply permutations n p) (h : r ≡ Ok tt) where
  pub done_permutation : TreePermutation n p
  done_permutation = done_formed permutations permutations_tested n p (check_told permutations n p r e (Ok tt) h)

  pub done_part : Part 0 p
  done_part = formed_part n p done_permutation (done_small permutations n p r e h)

  nodes : size (permutation_tree p) ≡ n
  nodes = (permutation_of n p done_permutation).1

  -- its number
  abbrev k : ℕ
  k = natural_number (permutation_tree p)

  -- the tree with another number, or the same tree
  written : (t : Bool) (j : ℕ) → permutation_from 0 (cond t (natural_tree (size (permutation_tree p)) j) (permutation_tree p))
      ≡ cond t (permutation (natural_tree n j)) p
  unfolding permutation
  written true j = ap (λ (m : ℕ). permutation_from 0 (natural_tree m j)) nodes
  written false j = (permutation_of n p done_permutation).0

  pub next_found : (b : Bool) → b ≡ has_next (permutation_tree p) → b ≡ ltb (k + 1) (C n)
  next_found b g = g ∙ ap (λ (m : ℕ). ltb (k + 1) (C m)) nodes

  -- q is what the step leaves
  module _ (q : List ℕ) where
    pub next_left : q ≡ permutation_from 0 (next_tree (permutation_tree p)) → q ≡ cond (ltb (k + 1) (C n)) (next (natural n) p) p
    unfolding next_tree next
    next_left g = g ∙ written (has_next (permutation_tree p)) (k + 1) ∙ ap (λ (m : ℕ). cond (ltb (k + 1) (C m)) (next (natural n) p) p) nodes

    pub previous_left : q ≡ permutation_from 0 (previous_tree (permutation_tree p)) → q ≡ cond (ltb 0 k) (previous (natural n) p) p
    unfolding previous_tree previous
    previous_left g = g ∙ written (has_previous (permutation_tree p)) (k - 1)

pub ruleset answers = (
  rules,
  le_of_lt,
  answered,
  table_past,
  table_lent,
  table_done,
  entries_small,
  entries_long,
  shape_left,
  done_part,
  next_found,
  next_left,
  previous_left,
)
