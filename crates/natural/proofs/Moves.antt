-- One step on and one step back, as `next` and `previous` make them: first the right part is asked, then the left one, then the root.
--     Steps has step end                     what a step on and a step back have in common; `next_steps` and `previous_steps` are the two
--     Moves has step b p r q                 of p, r is what a step answers and q what it leaves
--     RightStays has b p q, BothStay ..      q is p still: its right part has no step to make, and neither has the left one
--     parts_put                              a root, and under it the first or the last trees, written one after the other
--     empty_moves, right_moves, left_moves   the step of an empty part, one that the right part makes, one that the left part makes
--     right_stays, left_stays                these parts have no step to make
--     left_still                             the left part, where the right one has none
--     next_root_moves, next_last             the root's label goes one up, or there is nothing to go on to
--     previous_root_moves, previous_first    it goes one down, or there is nothing to go back to
-- Assumes nothing.
use mathlib.Core.Path.{◌≡◌, refl, sym, ap, ◌∙◌}
use mathlib.Core.Bool.{Bool, true, false}
use mathlib.Core.List.{List, [], ◌∷◌}
use Prim.Native.Nat.{ℕ, suc, ◌+◌, ◌-◌, ◌<◌}
use native.Mathlib.Omega.{arith}
use lib.ListN.{length, get_or, set}
use Rattle.catalan.specs.Count.{C}
use Rattle.shape.specs.Tree.{Tree, empty, node, size, permutation_from}
use Rattle.shape.specs.Form.{cut_tree, permutation_tree}
use Rattle.shape.specs.Number.{natural_number}
use Rattle.natural.specs.Parts.{Part, Root, has_next, has_previous, next_tree, previous_tree}
use Rattle.natural.specs.Parts.{first_tree, last_tree, has_step, step_tree, end_tree, end_parts}
use Rattle.natural.proofs.Parts.{Rooted, cut, left_tree, right_tree, tree_node, label, sizes, root, left_part, right_part}
use Rattle.natural.proofs.Trees.{next_size, next_kept, next_right, next_left, next_root, next_none}
use Rattle.natural.proofs.Trees.{previous_size, previous_kept, previous_right, previous_left, previous_root, previous_none}
use Rattle.natural.proofs.Ends.{first_size, last_size}
use Rattle.natural.proofs.Nodes.{left_of, right_of, put_left, put_right, left_same, right_same, node_put, root_put}

-- ---- what the two steps have in common

-- `end m` is the first of the trees of m nodes, or the last
pub record Steps (has : Tree → Bool) (step : Tree → Tree) (end : ℕ → Tree) : Type 0 where
  pub ended : (m : ℕ) → size (end m) ≡ m
  pub sized : (t : Tree) → size (step t) ≡ size t
  pub none : has empty ≡ false
  pub kept : (t : Tree) → has t ≡ false → step t ≡ t
  pub right : (l r : Tree) → has r ≡ true → (has (node l r) ≡ true) × (step (node l r) ≡ node l (step r))
  pub left : (l r : Tree) → has r ≡ false → has l ≡ true
      → (has (node l r) ≡ true) × (step (node l r) ≡ node (step l) (end (size r)))

pub next_steps : Steps has_next next_tree first_tree
unfolding size natural_number C
next_steps =
    record { ended = first_size; sized = next_size; none = refl; kept = next_kept; right = next_right; left = next_left }

pub previous_steps : Steps has_previous previous_tree last_tree
unfolding natural_number
previous_steps =
    record {
      ended = last_size;
      sized = previous_size;
      none = refl;
      kept = previous_kept;
      right = previous_right;
      left = previous_left;
    }

pub steps : (on : Bool) → Steps (has_step on) (step_tree on) (end_tree on)
steps true = next_steps
steps false = previous_steps

-- as the contracts say it
abbrev pub Moves : (Tree → Bool) → (Tree → Tree) → ℕ → List ℕ → Bool → List ℕ → Type 0
Moves has step b p r q = (r ≡ has (permutation_tree p)) × (q ≡ permutation_from b (step (permutation_tree p)))

-- ---- what is known of a part p, and of q, which is what stands there by now, where parts have no step to make

pub record RightStays (has : Tree → Bool) (b : ℕ) (p q : List ℕ) : Type 0 where
  pub same : q ≡ p
  pub right : has (right_tree b p) ≡ false

pub record BothStay (has : Tree → Bool) (b : ℕ) (p q : List ℕ) : Type 0 where
  pub same : q ≡ p
  pub right : has (right_tree b p) ≡ false
  pub left : has (left_tree b p) ≡ false

-- ---- the ways of a step that are the same on and back

-- a left part of as many nodes as there were, and a right part, in their places
parts_moved : {b : ℕ} {p q u v : List ℕ} (h : Rooted b p) (l : Tree) (right : ℕ → Tree) → q ≡ p → size l ≡ size (left_tree b p)
    → u ≡ permutation_from b l → v ≡ permutation_from (get_or p 0 0) (right (length (right_of (cut b p) (put_left (cut b p) q u))))
    → put_right (cut b p) (put_left (cut b p) q u) v ≡ permutation_from b (node l (right (size (right_tree b p))))
parts_moved {b} {p} {q} h l right same as_many hu hv =
    let long = ap length same in
    let rights : length q - cut b p ≡ size (right_tree b p) = omega (arith, label h, sizes h) in
    let front = ap (λ q. get_or q 0 0) same in
    rw rights at
    (node_put b (cut b p) (get_or p 0 0) (λ _. l) right (omega (arith, label h)) (omega (arith, label h)) q _ _ (omega (arith, root h)) front hu hv)

module _ {has : Tree → Bool} {step : Tree → Tree} {end : ℕ → Tree} (s : Steps has step end) where
  pub parts_put : (b x : ℕ) (p u v : List ℕ) → Root b x p → u ≡ permutation_from b (end (length (left_of (x - b) (set p 0 x))))
      → v ≡ permutation_from x (end (length (right_of (x - b) (put_left (x - b) (set p 0 x) u))))
      → put_right (x - b) (put_left (x - b) (set p 0 x) u) v ≡ permutation_from b (node (end (x - b - 1)) (end (length p - (x - b))))
  parts_put b x p u v h hu hv =
      root_put b (x - b) x end end (omega (arith, h, s.ended (x - b - 1))) (omega (arith, h)) p u v (omega (arith, h)) hu hv

  -- a part that has no step to make comes back as it was
  part_stays : {b : ℕ} {p q : List ℕ} {r : Bool} → Part b p → Moves has step b p r q → r ≡ false → q ≡ p
  part_stays {b} {p} h e stays = e.1 ∙ ap (permutation_from b) (s.kept (permutation_tree p) (sym e.0 ∙ stays)) ∙ h.written

  -- and so does the whole
  none_moves : {b : ℕ} {p q : List ℕ} → Part b p → q ≡ p → has (permutation_tree p) ≡ false → Moves has step b p false q
  none_moves {b} {p} h same none =
      (sym none, same ∙ sym h.written ∙ ap (permutation_from b) (sym (s.kept (permutation_tree p) none)))

  pub empty_moves : {b : ℕ} (p : List ℕ) → Part b p → length p ≡ 0 → Moves has step b p false p
  unfolding permutation_tree cut_tree
  empty_moves [] h none = none_moves h refl s.none
  empty_moves (y ∷ p) h none = absurd (omega arith)

  module _ {b : ℕ} {p : List ℕ} (h : Rooted b p) where
    module _ {u : List ℕ} {r : Bool} (e : Moves has step (get_or p 0 0) (right_of (cut b p) p) r u) where
      pub right_moves : r ≡ true → Moves has step b p true (put_right (cut b p) p u)
      right_moves moves =
          let n = s.right (left_tree b p) (right_tree b p) (sym e.0 ∙ moves) in
          let put = parts_moved h (left_tree b p) (λ _. step (right_tree b p)) refl refl (sym (left_part h).written) e.1 in
          rw (tree_node h, n.0, n.1) (refl, rw (left_same (cut b p) p) at put)

      pub right_stays : r ≡ false → RightStays has b p (put_right (cut b p) p u)
      right_stays stays =
          record {
            same = ap (put_right (cut b p) p) (part_stays (right_part h) e stays) ∙ right_same (cut b p) p;
            right = sym e.0 ∙ stays;
          }

    module _ {q : List ℕ} (m : RightStays has b p q) where
      pub left_still : Part b (left_of (cut b p) q)
      left_still = rw m.same (left_part h)

      module _ {u : List ℕ} {r : Bool} (e : Moves has step b (left_of (cut b p) q) r u) where
        e_left : Moves has step b (left_of (cut b p) p) r u
        e_left = rw m.same at e

        pub left_stays : r ≡ false → BothStay has b p (put_left (cut b p) q u)
        left_stays stays =
            record {
              same = rw m.same (ap (put_left (cut b p) p) (part_stays (left_part h) e_left stays) ∙ left_same (cut b p) p);
              right = m.right;
              left = sym e_left.0 ∙ stays;
            }

        pub left_moves : {v : List ℕ} → r ≡ true
            → v ≡ permutation_from (get_or p 0 0) (end (length (right_of (cut b p) (put_left (cut b p) q u))))
            → Moves has step b p true (put_right (cut b p) (put_left (cut b p) q u) v)
        left_moves moves hv =
            let n = s.left (left_tree b p) (right_tree b p) m.right (sym e_left.0 ∙ moves) in
            let put = parts_moved h (step (left_tree b p)) end m.same (s.sized (left_tree b p)) e_left.1 hv in
            rw (tree_node h, n.0, n.1) (refl, put)

-- ---- the root's label changes, or nothing does

-- what the code works out from the new label are the sizes of the parts that the tree after and the tree before have
next_sizes : (b x n l r : ℕ) → suc (b + l) ≡ x → suc (l + r) ≡ n → (x + 1 - b - 1 ≡ suc l) × (n - (x + 1 - b) ≡ r - 1)
next_sizes b x n l r e f = (omega arith, omega arith)

previous_sizes : (b x n l r : ℕ) → suc (b + l) ≡ x → suc (l + r) ≡ n → 0 < l → (x - 1 - b - 1 ≡ l - 1) × (n - (x - 1 - b) ≡ suc r)
previous_sizes b x n l r e f some = (omega arith, omega arith)

module _ {b : ℕ} {p : List ℕ} (h : Rooted b p) where
  abbrev l : Tree
  l = left_tree b p

  abbrev r : Tree
  r = right_tree b p

  still : {q : List ℕ} → q ≡ p → suc (size l + size r) ≡ length q
  still same = sizes h ∙ sym (ap length same)

  module _ {q : List ℕ} (m : BothStay has_next b p q) where
    pub next_last : cut b p ≡ length q → Moves has_next next_tree b p false q
    next_last last =
        let none : size r ≡ 0 = omega (arith, label h, still m.same) in
        none_moves next_steps h.part m.same (rw (tree_node h) (next_none l r m.right m.left none).0)

    pub next_root_moves : {v : List ℕ} → (cut b p ≡ length q → ⊥)
        → v ≡ permutation_from b (end_parts true b (get_or p 0 0 + 1) (length q)) → Moves has_next next_tree b p true v
    next_root_moves more hv =
        let n = next_root l r m.right m.left (omega (arith, label h, still m.same)) in
        let to = next_sizes b (get_or p 0 0) (length q) (size l) (size r) (label h) (still m.same) in
        rw (tree_node h, n.0, n.1, ← to.0, ← to.1) (refl, hv)

  module _ {q : List ℕ} (m : BothStay has_previous b p q) where
    pub previous_first : cut b p ≡ 1 → Moves has_previous previous_tree b p false q
    previous_first first =
        let none : size l ≡ 0 = omega (arith, label h) in
        none_moves previous_steps h.part m.same (rw (tree_node h) (previous_none l r m.right m.left none).0)

    pub previous_root_moves : {v : List ℕ} → (cut b p ≡ 1 → ⊥)
        → v ≡ permutation_from b (end_parts false b (get_or p 0 0 - 1) (length q)) → Moves has_previous previous_tree b p true v
    previous_root_moves more hv =
        let some : 0 < size l = omega (arith, label h) in
        let n = previous_root l r m.right m.left some in
        let to = previous_sizes b (get_or p 0 0) (length q) (size l) (size r) (label h) (still m.same) some in
        rw (tree_node h, n.0, n.1, ← to.0, ← to.1) (refl, hv)
