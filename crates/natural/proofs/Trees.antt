-- One step along the natural order, told of a tree's parts. Each law goes by numbers, since a tree is determined by its size and its number;
-- the step on and the step back share the arithmetic.
--     First m t, Last m t             t is the first, the last tree of m nodes
--     first_tree_lem                  the tree with the number 0 is the first
--     first_node, last_node           the parts of the first and of the last tree
--     Step t s                        s is the tree after t
--     numbered_next                   so s is what next_tree makes of t, and t what previous_tree makes of s
--     next_step, previous_step        where there is a tree after t, before t, it is one step away
--     next_kept, previous_kept        where there is none, t stays as it is
--     next_size, previous_size        the size stays in any case
--     next_right, next_left, next_root, next_none                   the tree after node l r: its right part goes on; or its left part, and
--                                     the right one begins anew; or the left part gets one node more, and both begin anew; or it is the last
--     previous_right, previous_left, previous_root, previous_none   the tree before node l r, likewise
-- Assumes nothing.
use mathlib.Core.Path.{◌≡◌, refl, sym, ap, ap₂, ◌∙◌}
use mathlib.Core.Bool.{Bool, true, false}
use Prim.Native.Nat.{ℕ, suc, ◌+◌, ◌-◌, ◌*◌, ◌≤◌, ◌<◌}
use native.Mathlib.Nat.{add-zero}
use native.Mathlib.Omega.{arith}
use borrow.Author.Tests.{ltb-true, ltb-false, lt-ltb, le-ltb}
use Rattle.catalan.specs.Count.{C}
use Rattle.catalan.proofs.Counting.{C_positive}
use Rattle.shape.specs.Tree.{Tree, empty, node, size}
use Rattle.shape.specs.Number.{natural_number, natural_tree, fewer_left}
use Rattle.shape.proofs.NaturalNumbers.{fewer_step, fewer_none, fewer_all, node_size, node_number}
use Rattle.shape.proofs.NaturalNumbers.{natural_number_below, natural_tree_size, natural_number_tree, natural_tree_number}
use Rattle.natural.specs.Parts.{has_next, has_previous, next_tree, previous_tree}

-- a tree is determined by its size and its number
numbered : (n k : ℕ) (t : Tree) → size t ≡ n → natural_number t ≡ k → natural_tree n k ≡ t
numbered n k t e f = ap₂ natural_tree (sym e) (sym f) ∙ natural_tree_number t

-- ---- the first and the last tree of a size

pub record First (m : ℕ) (t : Tree) : Type 0 where
  pub nodes : size t ≡ m
  pub number : natural_number t ≡ 0

pub record Last (m : ℕ) (t : Tree) : Type 0 where
  pub nodes : size t ≡ m
  pub number : suc (natural_number t) ≡ C m

pub first_tree_lem : (m : ℕ) → First m (natural_tree m 0)
first_tree_lem m = record { nodes = natural_tree_size m 0 (C_positive m); number = natural_number_tree m 0 (C_positive m) }

last_tree_lem : (m : ℕ) → Last m (natural_tree m (C m - 1))
last_tree_lem m =
    let below : C m - 1 < C m = omega (arith, C_positive m) in
    record { nodes = natural_tree_size m _ below; number = omega (arith, natural_number_tree m _ below) }

first_numbered : {m : ℕ} {t : Tree} → First m t → natural_tree m 0 ≡ t
first_numbered h = numbered _ _ _ h.nodes h.number

last_numbered : {m : ℕ} {t : Tree} → Last m t → natural_tree m (C m - 1) ≡ t
last_numbered h = numbered _ _ _ h.nodes (omega (arith, h.number))

first_empty : First 0 empty
unfolding size natural_number
first_empty = record { nodes = refl; number = refl }

last_empty : Last 0 empty
unfolding size natural_number C
last_empty = record { nodes = refl; number = refl }

-- a node's number, by the sizes and the numbers of its parts
parts_number : {a b j k : ℕ} (l r : Tree) → size l ≡ a → size r ≡ b → natural_number l ≡ j → natural_number r ≡ k
    → natural_number (node l r) ≡ fewer_left (a + b) a + (j * C b + k)
parts_number l r el er nl nr = rw (← el, ← er, ← nl, ← nr) (node_number l r)

-- with a nodes on the left and b on the right, both parts first, it is where the trees with a on the left begin
first_number : {a b : ℕ} {l r : Tree} → First a l → First b r → natural_number (node l r) ≡ fewer_left (a + b) a
first_number {a} {b} {l} {r} f g = omega (arith, parts_number l r f.nodes g.nodes f.number g.number)

-- and both parts last, the trees with one more on the left come next
last_number : {a b : ℕ} {l r : Tree} → Last a l → Last b r → suc (natural_number (node l r)) ≡ fewer_left (a + b) (suc a)
last_number {a} {b} {l} {r} f g =
    let right : a + b - a ≡ b = omega arith in
    omega (
      arith,
      parts_number l r f.nodes g.nodes refl refl,
      ap (λ (z : ℕ). z * C b) f.number,
      g.number,
      fewer_step (a + b) a,
      ap (λ (z : ℕ). C a * C z) right,
    )

first_parts_lem : {m : ℕ} {l r : Tree} → First 0 l → First m r → First (suc m) (node l r)
first_parts_lem {m} {l} {r} f g =
    record { nodes = omega (arith, node_size l r, f.nodes, g.nodes); number = first_number f g ∙ fewer_none (0 + m) }

last_parts_lem : {m : ℕ} {l r : Tree} → Last m l → Last 0 r → Last (suc m) (node l r)
last_parts_lem {m} {l} {r} f g =
    record { nodes = omega (arith, node_size l r, f.nodes, g.nodes); number = last_number f g ∙ rw add-zero (fewer_all m) }

pub first_node : (m : ℕ) → natural_tree (suc m) 0 ≡ node empty (natural_tree m 0)
first_node m = first_numbered (first_parts_lem first_empty (first_tree_lem m))

pub last_node : (m : ℕ) → natural_tree (suc m) (C (suc m) - 1) ≡ node (natural_tree m (C m - 1)) empty
last_node m = last_numbered (last_parts_lem (last_tree_lem m) last_empty)

-- ---- one step

pub record Step (t s : Tree) : Type 0 where
  pub nodes : size s ≡ size t
  pub number : natural_number s ≡ suc (natural_number t)

pub numbered_next : {t s : Tree} → Step t s → (has_next t ≡ true) × (next_tree t ≡ s) × (has_previous s ≡ true) × (previous_tree s ≡ t)
unfolding next_tree previous_tree
numbered_next {t} {s} h =
    let on : natural_number t + 1 < C (size t) = omega (arith, natural_number_below s, ap C h.nodes, h.number) in
    let back : 0 < natural_number s = omega (arith, h.number) in
    let yes = lt-ltb _ _ on in
    let yes_back = lt-ltb _ _ back in (
      yes,
      rw yes (numbered _ _ s h.nodes (omega (arith, h.number))),
      yes_back,
      rw yes_back (numbered _ _ t (sym h.nodes) (omega (arith, h.number))),
    )

pub next_step : (t : Tree) → has_next t ≡ true → Step t (next_tree t)
unfolding next_tree
next_step t h =
    let on = ltb-true _ _ h in
    rw h (record { nodes = natural_tree_size _ _ on; number = omega (arith, natural_number_tree _ _ on) })

pub previous_step : (t : Tree) → has_previous t ≡ true → Step (previous_tree t) t
unfolding previous_tree
previous_step t h =
    let on = ltb-true 0 (natural_number t) h in
    let below : natural_number t - 1 < C (size t) = omega (arith, natural_number_below t) in
    rw h (record { nodes = sym (natural_tree_size _ _ below); number = omega (arith, natural_number_tree _ _ below) })

pub next_kept : (t : Tree) → has_next t ≡ false → next_tree t ≡ t
unfolding next_tree
next_kept t h = rw h

pub previous_kept : (t : Tree) → has_previous t ≡ false → previous_tree t ≡ t
unfolding previous_tree
previous_kept t h = rw h

pub next_size : (t : Tree) → size (next_tree t) ≡ size t
next_size t = decide (has_next t) refl
  where
    decide : (b : Bool) → has_next t ≡ b → size (next_tree t) ≡ size t
    decide true h = (next_step t h).nodes
    decide false h = ap size (next_kept t h)

pub previous_size : (t : Tree) → size (previous_tree t) ≡ size t
previous_size t = decide (has_previous t) refl
  where
    decide : (b : Bool) → has_previous t ≡ b → size (previous_tree t) ≡ size t
    decide true h = sym (previous_step t h).nodes
    decide false h = ap size (previous_kept t h)

-- ---- which parts a step changes

step_right : (l : Tree) {r s : Tree} → Step r s → Step (node l r) (node l s)
step_right l {r} {s} h =
    record {
      nodes = omega (arith, node_size l r, node_size l s, h.nodes);
      number = omega (arith, node_number l r, parts_number l s refl h.nodes refl h.number);
    }

step_left : {m : ℕ} {l k r s : Tree} → Step l k → Last m r → First m s → Step (node l r) (node k s)
step_left {m} {l} {k} {r} {s} h f g =
    record {
      nodes = omega (arith, node_size l r, node_size k s, h.nodes, f.nodes, g.nodes);
      number = omega (
        arith,
        parts_number l r refl f.nodes refl refl,
        f.number,
        parts_number k s h.nodes g.nodes h.number g.number,
      );
    }

step_root : {a b : ℕ} {l k r s : Tree} → Last a l → Last (suc b) r → First (suc a) k → First b s → Step (node l r) (node k s)
step_root {a} {b} {l} {k} {r} {s} fl fr gk gs =
    let whole : suc a + b ≡ a + suc b = omega arith in
    record {
      nodes = omega (arith, node_size l r, node_size k s, fl.nodes, fr.nodes, gk.nodes, gs.nodes);
      number = first_number gk gs ∙ ap (λ (m : ℕ). fewer_left m (suc a)) whole ∙ sym (last_number fl fr);
    }

-- ---- the tree after, and the tree before

next_last : (t : Tree) → has_next t ≡ false → Last (size t) t
next_last t h = record { nodes = refl; number = omega (arith, natural_number_below t, ltb-false) }

previous_first : (t : Tree) → has_previous t ≡ false → First (size t) t
previous_first t h = record { nodes = refl; number = omega (arith, ltb-false) }

last_stays : {m : ℕ} {t : Tree} → Last m t → (has_next t ≡ false) × (next_tree t ≡ t)
last_stays {m} {t} h =
    let over : C (size t) ≤ natural_number t + 1 = omega (arith, h.number, ap C h.nodes) in
    let none = le-ltb _ _ over in
    (none, next_kept t none)

first_stays : {m : ℕ} {t : Tree} → First m t → (has_previous t ≡ false) × (previous_tree t ≡ t)
first_stays {m} {t} h =
    let over : natural_number t ≤ 0 = omega (arith, h.number) in
    let none = le-ltb _ _ over in
    (none, previous_kept t none)

module _ (l r : Tree) where
  pub next_right : has_next r ≡ true → (has_next (node l r) ≡ true) × (next_tree (node l r) ≡ node l (next_tree r))
  next_right h = let s = numbered_next (step_right l (next_step r h)) in (s.0, s.1)

  pub next_left : has_next r ≡ false → has_next l ≡ true
      → (has_next (node l r) ≡ true) × (next_tree (node l r) ≡ node (next_tree l) (natural_tree (size r) 0))
  next_left hr hl = let s = numbered_next (step_left (next_step l hl) (next_last r hr) (first_tree_lem (size r))) in (s.0, s.1)

  pub next_root : has_next r ≡ false → has_next l ≡ false → 0 < size r
      → (has_next (node l r) ≡ true) × (next_tree (node l r) ≡ node (natural_tree (suc (size l)) 0) (natural_tree (size r - 1) 0))
  next_root hr hl some =
      let whole : suc (size r - 1) ≡ size r = omega arith in
      let right : Last (suc (size r - 1)) r = rw whole (next_last r hr) in
      let s = numbered_next (step_root (next_last l hl) right (first_tree_lem (suc (size l))) (first_tree_lem (size r - 1))) in
      (s.0, s.1)

  pub next_none : has_next r ≡ false → has_next l ≡ false → size r ≡ 0 → (has_next (node l r) ≡ false) × (next_tree (node l r) ≡ node l r)
  next_none hr hl none = last_stays (last_parts_lem (next_last l hl) (rw none at (next_last r hr)))

  pub previous_right : has_previous r ≡ true → (has_previous (node l r) ≡ true) × (previous_tree (node l r) ≡ node l (previous_tree r))
  previous_right h = let s = numbered_next (step_right l (previous_step r h)) in (s.2, s.3)

  pub previous_left : has_previous r ≡ false → has_previous l ≡ true
      → (has_previous (node l r) ≡ true) × (previous_tree (node l r) ≡ node (previous_tree l) (natural_tree (size r) (C (size r) - 1)))
  previous_left hr hl = let s = numbered_next (step_left (previous_step l hl) (last_tree_lem (size r)) (previous_first r hr)) in (s.2, s.3)

  pub previous_root : has_previous r ≡ false → has_previous l ≡ false → 0 < size l
      → (has_previous (node l r) ≡ true)
      × (previous_tree (node l r) ≡ node (natural_tree (size l - 1) (C (size l - 1) - 1)) (natural_tree (suc (size r)) (C (suc (size r)) - 1)))
  previous_root hr hl some =
      let whole : suc (size l - 1) ≡ size l = omega arith in
      let left : First (suc (size l - 1)) l = rw whole (previous_first l hl) in
      let s = numbered_next (step_root (last_tree_lem (size l - 1)) (last_tree_lem (suc (size r))) left (previous_first r hr)) in
      (s.2, s.3)

  pub previous_none : has_previous r ≡ false → has_previous l ≡ false → size l ≡ 0
      → (has_previous (node l r) ≡ false) × (previous_tree (node l r) ≡ node l r)
  previous_none hr hl none = first_stays (first_parts_lem (rw none at (previous_first l hl)) (previous_first r hr))
