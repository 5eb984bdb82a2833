-- What a move of a tree permutation meets after the check, in the words of the source: p is what the slice holds, r what the check answered, a
-- the table that the code holds, and t the number of p and what the distance d adds, of 64 bits and wrapping.
--     done_within                     there are n entries, 35 at most
--     sum_below, sum_done, sum_left   t below the table's entry for the size: what is said and left is the move's
--     sum_refused, sum_kept           and otherwise its refusal
-- Assumes nothing.
use Rattle.std.proofs.Common.{◌≡◌, ℕ, ◌+◌, ◌%◌, ◌^◌, ◌<◌, ◌≤◌, true, false, cond, List, length, get_or, ℤ, refl, ap, ◌∙◌, arith, to_z-of_z, w64, SFits, to_z, of_z}
use Rattle.catalan.specs.Count.{C, largest_size}
use Rattle.catalan.specs.Table.{catalans}
use Rattle.catalan.proofs.Tables.{table_at_lem}
use Rattle.shape.specs.Tree.{permutation, permutation_from}
use Rattle.shape.specs.Form.{permutations, permutation_tree}
use Rattle.shape.specs.Number.{natural_number, natural_tree}
use Rattle.shape.specs.Numbering.{natural}
use Rattle.shape.specs.Reply.{outcome_reply, refused, Outcome}
use Rattle.shape.specs.Check.{checked}
use Rattle.shape.specs.Calls.{check_reply}
use Rattle.shape.specs.Move.{reaches, moved, end_past, move_reply, move_end}
use Rattle.shape.specs.declared.Refusal.{Refusal}
use Rattle.std.specs.Prelude.{Ok}
use Rattle.shape.proofs.NaturalNumbers.{natural_lawful}
use Rattle.shape.proofs.Tests.{permutations_tested}
use Rattle.shape.proofs.Answers.{check_told, done_small}
use Rattle.shape.proofs.Distances.{reach_done, reach_past, reach_left}
use Rattle.distance.proofs.Reaching.{sum_reaches, sum_moved, sum_stops}
use Rattle.permutation.proofs.Answers.{done_permutation}

module _ (n : ℕ) (p : List ℕ) (r : Outcome) (e : outcome_reply r ≡ check_reply permutations n p) (h : r ≡ Ok tt) where
  small : n ≤ largest_size
  small = done_small permutations n p r e h

  long : length p ≡ n
  long = (done_permutation n p r e h).entries

  read : checked permutations n p ≡ Ok tt
  read = check_told permutations n p r e (Ok tt) h

  pub done_within : length p ≤ largest_size
  done_within = omega (arith, small, long)

  -- k is the number that the code found, v what it found the distance to add
  module _ (a : List ℕ) (table : a ≡ catalans) (d : ℤ) (s : SFits w64 d) (k v t : ℕ) (number : k ≡ natural_number (permutation_tree p))
      (added : v ≡ of_z w64 (to_z w64 (of_z w64 d))) (sum : t ≡ (k + v) % 2 ^ 64) where
    entry : get_or a n 0 ≡ C n
    entry = table_at_lem a n table (omega (arith, small))

    same : t ≡ (natural_number (permutation_tree p) + of_z w64 d) % 2 ^ 64
    same = sum ∙ rw (number, added, to_z-of_z s)

    module _ (low : t < get_or a n 0) where
      below : t < C n
      below = omega (arith, entry)

      found : true ≡ reaches (natural n) d p
      found = sum_reaches (natural n) (natural_lawful n) small p (done_permutation n p r e h) d s t same below

      pub sum_below : t < C (length p)
      sum_below = rw long below

      pub sum_done : outcome_reply (Ok tt) ≡ move_reply (natural n) d p
      sum_done = reach_done (natural n) d p true read found refl

      -- x is what was put
      pub sum_left : (x : List ℕ) → x ≡ permutation_from 0 (natural_tree (length p) t) → x ≡ move_end (natural n) d p
      unfolding permutation
      sum_left x g =
          let put = sum_moved (natural n) (natural_lawful n) small p (done_permutation n p r e h) d s t same below in
          let there = g ∙ ap (λ (m : ℕ). permutation_from 0 (natural_tree m t)) long ∙ put in
          reach_left (natural n) d p x read (there ∙ ap (λ b. cond b (moved (natural n) d p) p) found)

    module _ (high : get_or a n 0 ≤ t) where
      none : false ≡ reaches (natural n) d p
      none = sum_stops (natural n) (natural_lawful n) small p (done_permutation n p r e h) d s t same (omega (arith, entry))

      pub sum_refused : (f : Refusal) → f ≡ end_past (to_z w64 (of_z w64 d)) → refused f ≡ move_reply (natural n) d p
      sum_refused f g = reach_past (natural n) d p (natural_lawful n) permutations_tested false f read none refl (g ∙ ap end_past (to_z-of_z s))

      pub sum_kept : p ≡ move_end (natural n) d p
      sum_kept = reach_left (natural n) d p p read (ap (λ b. cond b (moved (natural n) d p) p) none)
