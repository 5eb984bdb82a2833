-- Laws of one step of a shape in both forms.
--     entries_long, depths_long       how many entries and depths there are
--     counted, excess_up, climbed     what the code counts before the changed place, and the excess that this makes
--     parted_entries, moved_entries   what is written makes the next permutation
--     moved_depths                    and the next depths
--     last_entries, last_depths       and the last ones are left as they are
--     none_answered, some_answered    what a step answers
--     block_moves                     what is known of a block that moves
-- What the proof of `next` uses is a set, steps.
-- Assumes nothing.
use mathlib.Core.Path.{◌≡◌, refl, sym, ap, ◌∙◌, subst}
use mathlib.Core.List.{List, ◌++◌, map}
use Prim.Native.Nat.{ℕ, suc, ◌+◌, ◌-◌, ◌*◌, ◌≤◌, ◌<◌, max}
use native.Mathlib.Numerals.{add-one}
use native.Mathlib.Omega.{arith}
use lib.ListN.{length, get_or, take, drop, set, replicate, length-append, length-drop, length-map, length-set}
use lib.Seq.{take_at, length-take-le}
use Rattle.std.proofs.Common.{Some, None, ◌≢◌}
use Rattle.shape.specs.Tree.{permutation}
use Rattle.shape.specs.Form.{count, Feasible, pattern_tree}
use Rattle.shape.proofs.Patterns.{feasible_length, pattern_of}
use Rattle.shape.proofs.Permutations.{length_permutation}
use Rattle.shape.proofs.Neighbours.{lower, neighbours}
use Rattle.shape.proofs.Writing.{written_next}
use Rattle.local.specs.Places.{block_start, next_change, next_pattern, nonzero}
use Rattle.local.proofs.Blocks.{Parted, rise_found}
use Rattle.local.proofs.Moves.{next_none_answers, next_none_leaves, next_answers}
use Rattle.local.proofs.Chains.{next_neighbour}
use Rattle.walk.specs.Depths.{depths_of}
use Rattle.walk.specs.Labels.{relabelled, rising}
use Rattle.walk.proofs.Climbs.{length_depths, upper_depths}
use Rattle.walk.proofs.Labels.{front_counts, upper_entries}

-- ---- the step

-- with k zeros and f ones before the changed place, the 1 there takes the excess up to f - k + 1
excess_up : (k f n e a : ℕ) → n ≡ f + suc a → n ≡ k + (suc e + suc a) → (k ≤ f) × (f - k + 1 ≡ suc (suc e))
excess_up k f n e a ones zeros = (omega arith, omega arith)

module _ (n : ℕ) (p : List ℕ) (g : Feasible n p) where
  pub entries_long : (r : List ℕ) → r ≡ permutation (pattern_tree p) → length r ≡ n
  unfolding permutation
  entries_long r e = ap length e ∙ length_permutation 0 (pattern_tree p) ∙ (pattern_of n p g).1

  pub depths_long : (d : List ℕ) → d ≡ depths_of p → length d ≡ 2 * n + 1
  depths_long d e = ap length e ∙ omega (arith, length_depths p, feasible_length n p g)

  -- with k labels before the block that stay, m nodes of the block that follow its first one, and f nodes before it
  parted_entries : (start k m f : ℕ) (c : Parted lower p start) → k ≡ count 0 c.front → f ≡ count 1 c.front → m ≡ c.others
      → (r s t : List ℕ) → r ≡ permutation (pattern_tree p) → s ≡ map (relabelled k m) (take f r) ++ drop f r
      → t ≡ take (f + 1) (set s f (k + 1)) ++ rising (f + 1) (length (set s f (k + 1)) - (f + 1)) → t ≡ permutation (pattern_tree (next_pattern n p))
  parted_entries start k m f c hk hf hm r s t hr hs ht =
      let u = c.front in
      let g' = subst (Feasible n) c.parts g in
      let front = map (relabelled k m) (take f r) in
      let nodes : n ≡ f + suc m = omega (arith, front_counts n u c.excess c.others g') in
      let long = entries_long r hr in
      let short : length front ≡ f = length-map (take f r) (relabelled k m) ∙ length-take-le f r (omega arith) in
      let whole : length s ≡ n = ap length hs ∙ length-append front (drop f r) ∙ omega (arith, length-drop f r) in
      let left : length (set s f (k + 1)) - (f + 1) ≡ m = omega (arith, length-set s f (k + 1)) in
      let kept : take f s ≡ front = ap (take f) hs ∙ take_at front (drop f r) f short in
      let old : permutation (pattern_tree (lower u c.excess c.others)) ≡ r = sym (hr ∙ ap (λ q. permutation (pattern_tree q)) c.parts) in
      let new = upper_entries n u c.excess c.others g' k f hk hf in
      let next = ap (next_pattern n) c.parts ∙ (next_neighbour (neighbours u c.excess c.others n g')).1 in
      ht
      ∙ written_next s f (k + 1) _ (omega arith)
      ∙ rw (left, kept, hm, next) (rw (old, ← add-one k, ← add-one f) at (sym new))

  module _ (end start : ℕ) (he : end ≡ block_start 0 p (2 * n)) (hs : start ≡ block_start 1 p end) where
    pub last_entries : start ≡ 0 → (r : List ℕ) → r ≡ permutation (pattern_tree p) → r ≡ permutation (pattern_tree (next_pattern n p))
    last_entries none r e = e ∙ ap (λ (q : List ℕ). permutation (pattern_tree q)) (next_none_leaves n p end start g he hs none)

    pub last_depths : start ≡ 0 → (d : List ℕ) → d ≡ depths_of p → d ≡ depths_of (next_pattern n p)
    last_depths none d e = e ∙ ap depths_of (next_none_leaves n p end start g he hs none)

    module _ (inside : start ≡ 0 → ⊥) where
      -- what the code counts is what stands before the changed place and behind the block's first node
      counted : (m : Parted lower p start)
          × (end - n - 1 ≡ count 0 m.front)
          × (n - (end - start - 1) - 1 ≡ count 1 m.front)
          × (end - start - 1 ≡ m.others)
      counted =
          let (m, h) = rise_found n p g end he start hs inside in
          let (ones, zeros) = front_counts n m.front m.excess m.others (subst (Feasible n) m.parts g) in
          let long = feasible_length n p g in
          (m, omega (arith, m.rest), omega arith, omega arith)

      climbed : (m : Parted lower p start)
          × (end - n - 1 ≤ n - (end - start - 1) - 1)
          × (n - (end - start - 1) - 1 - (end - n - 1) + 1 ≡ suc (suc m.excess))
      climbed =
          let (m, kept, first, others) = counted in
          let (ones, zeros) = front_counts n m.front m.excess m.others (subst (Feasible n) m.parts g) in
          let (low, top) = excess_up (count 0 m.front) (count 1 m.front) n m.excess m.others ones zeros in
          (m, rw (kept, first) low, rw (kept, first) top)

      pub moved_entries : (r s t : List ℕ) → r ≡ permutation (pattern_tree p)
          → s ≡ map (relabelled (end - n - 1) (end - start - 1)) (take (n - (end - start - 1) - 1) r) ++ drop (n - (end - start - 1) - 1) r
          → t ≡ take (n - (end - start - 1) - 1 + 1) (set s (n - (end - start - 1) - 1) (end - n - 1 + 1))
          ++ rising (n - (end - start - 1) - 1 + 1) (length (set s (n - (end - start - 1) - 1) (end - n - 1 + 1)) - (n - (end - start - 1) - 1 + 1))
          → t ≡ permutation (pattern_tree (next_pattern n p))
      moved_entries =
          let (m, kept, first, others) = counted in
          parted_entries start (end - n - 1) (end - start - 1) (n - (end - start - 1) - 1) m kept first others

      pub moved_depths : (d t : List ℕ) → d ≡ depths_of p
          → t ≡ take start d ++ replicate (length d - start) (max (get_or d (start - 1) 0) (n - (end - start - 1) - 1 - (end - n - 1) + 1))
          → t ≡ depths_of (next_pattern n p)
      moved_depths d t hd ht =
          let (m, low, top) = climbed in
          let g' = subst (Feasible n) m.parts g in
          let next = ap (next_pattern n) m.parts ∙ (next_neighbour (neighbours m.front m.excess m.others n g')).1 in
          let new = upper_depths n m.front m.excess m.others g' start m.starts in
          let old = hd ∙ ap depths_of m.parts in
          ht ∙ rw (top, old) (sym new) ∙ ap depths_of (sym next)

-- a step answers its change, which is not 0
module _ (n : ℕ) (p : List ℕ) (g : Feasible n p) (end start : ℕ) (he : end ≡ block_start 0 p (2 * n)) (hs : start ≡ block_start 1 p end) where
  pub none_answered : start ≡ 0 → None ≡ nonzero (next_change n p)
  none_answered none = ap nonzero (next_none_answers n p end start g he hs none)

  pub some_answered : (start ≡ 0 → ⊥) → (k : ℕ) → k ≡ next_change n p → Some k ≡ nonzero (next_change n p)
  some_answered inside k h =
      let change : suc (2 * n - start) ≡ next_change n p = omega (arith, next_answers n p end start g he hs inside) in
      rw (h, sym change) refl

-- of the block as the code finds it: it ends behind n places at least, and there are labels for all its nodes behind those that stay
pub block_moves : (n : ℕ) (p : List ℕ) → Feasible n p → block_start 1 p (block_start 0 p (2 * n)) ≢ 0
    → let end = block_start 0 p (2 * n) in
    let start = block_start 1 p end in
    (start < end) × (n < end) × ((end - n - 1) + (end - start - 1) + 2 ≤ n) × (start ≤ 2 * n)
block_moves n p g inside =
    let (m, h) = rise_found n p g _ refl _ refl inside in
    let (ones, zeros) = front_counts n m.front m.excess m.others (subst (Feasible n) m.parts g) in
    let long = feasible_length n p g in
    (omega arith, omega (arith, m.rest), omega (arith, m.rest), omega (arith, m.rest))

pub ruleset steps = (next_none_leaves, entries_long, depths_long, last_entries, last_depths, block_moves, moved_entries, moved_depths, none_answered, some_answered)
