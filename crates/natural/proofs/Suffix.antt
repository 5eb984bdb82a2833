-- What a user can rely on of the working suffix: 004, sections 1 to 3.
--     suffix_ends        it ends the list
--     suffix_empty       it is empty exactly for the last tree permutation of a size
--     suffix_next        the step on makes it anew: entries before it stay, its first entry rises by one, and those behind it stand sorted
--     suffix_previous    the step back takes such a step back: entries before the working suffix of the one before stay
-- It goes by the tree. A node's label is above those of the left part and below those of the right part, so an entry with its next label
-- behind it is one of the left part with both in it, one of the right part with both in it, or the root with any right part behind it.
-- Assumes nothing.
use mathlib.Core.Path.{◌≡◌, refl, sym, ap, ◌∙◌, subst}
use mathlib.Core.Logic.{◌↔◌, ◌⊎◌, inl, inr}
use mathlib.Core.Bool.{Bool, true, false, cond}
use mathlib.Core.List.{List, [], ◌∷◌, ◌++◌, append-nil, append_assoc}
use Prim.Native.Nat.{ℕ, zero, suc, ◌+◌, ◌-◌, ◌<◌}
use native.Mathlib.Nat.{add-zero}
use native.Mathlib.Decide.{dec_lt, ℕ_discrete}
use native.Mathlib.Omega.{arith}
use lib.Dec.{eqb}
use lib.ListN.{length, get_or, take, drop, length-append}
use lib.Seq.{take_at, get_or_at, drop-append-add}
use borrow.Author.Tests.{ltb-true, ltb-false, lt-ltb, le-ltb, eq-eqb, ne_eqb}
use Rattle.catalan.specs.Count.{C}
use Rattle.shape.specs.Tree.{Tree, empty, node, size, permutation, permutation_from}
use Rattle.shape.specs.Form.{count, TreePermutation, permutation_tree}
use Rattle.shape.specs.Every.{All, Pairs}
use Rattle.shape.specs.Number.{natural_number, natural_tree, numbered_tree}
use Rattle.shape.specs.Numbering.{natural, next, previous}
use Rattle.shape.proofs.Lists.{all_map, all_right, all_cross, pairs_append}
use Rattle.shape.proofs.Counts.{count_append, count_same, count_none}
use Rattle.shape.proofs.Permutations.{entries_above, entries_below, permutation_of}
use Rattle.shape.proofs.NaturalNumbers.{node_size, natural_lawful}
use Rattle.shape.proofs.Steps.{previous_formed, number_previous, next_previous}
use Rattle.natural.specs.Parts.{has_next, next_tree}
use Rattle.natural.specs.Suffix.{or_else, working_suffix, suffix_start, Renewed}
use Rattle.natural.proofs.Trees.{first_tree_lem, first_node, next_right, next_left, next_root, next_none, next_size}

-- ---- of one list after another

-- what ends v ends u ++ v
suffix_behind : (u v : List ℕ) {x : ℕ} {s : List ℕ} → working_suffix v ≡ x ∷ s → working_suffix (u ++ v) ≡ x ∷ s
unfolding working_suffix
suffix_behind [] v e = e
suffix_behind (y ∷ u) v e = rw (suffix_behind u v e)

-- the list s, unless it is empty, and v after it
abbrev followed : List ℕ → List ℕ → List ℕ
followed [] v = []
followed (x ∷ s) v = x ∷ (s ++ v)

or_else_followed : (s : List ℕ) (b : Bool) (x : ℕ) (u v : List ℕ)
    → or_else (followed s v) (cond b [] (x ∷ (u ++ v))) ≡ followed (or_else s (cond b [] (x ∷ u))) v
or_else_followed [] true x u v = refl
or_else_followed [] false x u v = refl
or_else_followed (y ∷ s) b x u v = refl

-- no next label in v, neither of an entry of u nor of one of v itself
suffix_before : (u v : List ℕ) → working_suffix v ≡ [] → All (λ x. count (suc x) v ≡ 0) u → working_suffix (u ++ v) ≡ followed (working_suffix u) v
unfolding working_suffix
suffix_before [] v e h = e
suffix_before (x ∷ u) v e h =
    let same : count (suc x) (u ++ v) ≡ count (suc x) u = omega (arith, count_append (suc x) u v, h.0) in
    rw (suffix_before u v e h.1, same) (or_else_followed (working_suffix u) (eqb (count (suc x) u) 0) x u v)

suffix_none : (x : ℕ) (p : List ℕ) → working_suffix p ≡ [] → count (suc x) p ≡ 0 → working_suffix (x ∷ p) ≡ []
unfolding working_suffix
suffix_none x p e h = rw (e, eq-eqb (count (suc x) p) 0 h)

suffix_whole : (x : ℕ) (p : List ℕ) → working_suffix p ≡ [] → (count (suc x) p ≡ 0 → ⊥) → working_suffix (x ∷ p) ≡ x ∷ p
unfolding working_suffix
suffix_whole x p e h = rw (e, ne_eqb (count (suc x) p) 0 h)

-- ---- it ends the list

ends_with : (x : ℕ) (p s : List ℕ) (b : Bool) → ((u : List ℕ) × (p ≡ u ++ s)) → ((u : List ℕ) × (x ∷ p ≡ u ++ or_else s (cond b [] (x ∷ p))))
ends_with x p [] true (u, e) = (x ∷ p, sym (append-nil (x ∷ p)))
ends_with x p [] false (u, e) = ([], refl)
ends_with x p (y ∷ s) b (u, e) = (x ∷ u, ap (λ w. x ∷ w) e)

suffix_front : (p : List ℕ) → (u : List ℕ) × (p ≡ u ++ working_suffix p)
unfolding working_suffix
suffix_front [] = ([], refl)
suffix_front (x ∷ p) = ends_with x p (working_suffix p) (eqb (count (suc x) p) 0) (suffix_front p)

start_front : (p u : List ℕ) → p ≡ u ++ working_suffix p → length u ≡ suffix_start p
unfolding suffix_start
start_front p u e = omega (arith, ap length e, length-append u (working_suffix p))

pub suffix_ends : (p : List ℕ) → take (suffix_start p) p ++ working_suffix p ≡ p
suffix_ends p =
    let (u, e) = suffix_front p in
    let front : take (suffix_start p) p ≡ u = ap (take (suffix_start p)) e ∙ take_at u (working_suffix p) _ (start_front p u e) in
    ap (λ w. w ++ working_suffix p) front ∙ sym e

-- ---- a step, as the lists show it

-- p and q part at the first entry of the working suffix of p; what stands behind it in q rises
record Raised (p q : List ℕ) : Type 0 where
  front : List ℕ
  entry : ℕ
  old : List ℕ
  new : List ℕ
  was : p ≡ front ++ entry ∷ old
  suffix : working_suffix p ≡ entry ∷ old
  is : q ≡ front ++ suc entry ∷ new
  rises : Pairs ◌<◌ new

raised_behind : (u p q : List ℕ) → Raised p q → Raised (u ++ p) (u ++ q)
raised_behind u p q h =
    record {
      front = u ++ h.front;
      entry = h.entry;
      old = h.old;
      new = h.new;
      was = ap (λ w. u ++ w) h.was ∙ sym (append_assoc u h.front _);
      suffix = suffix_behind u p h.suffix;
      is = ap (λ w. u ++ w) h.is ∙ sym (append_assoc u h.front _);
      rises = h.rises;
    }

raised_before : (x : ℕ) (u u' v v' : List ℕ) → Raised u u' → working_suffix v ≡ [] → All (λ y. count (suc y) v ≡ 0) u
    → All (λ y. y < x) u' → All (λ z. x < z) v' → Pairs ◌<◌ v' → Raised (u ++ v) (u' ++ v')
raised_before x u u' v v' h e apart low high rises =
    let below : All (λ y. y < x) (suc h.entry ∷ h.new) = all_right _ h.front _ (rw h.is at low) in
    record {
      front = h.front;
      entry = h.entry;
      old = h.old ++ v;
      new = h.new ++ v';
      was = ap (λ w. w ++ v) h.was ∙ append_assoc h.front _ v;
      suffix = suffix_before u v e apart ∙ ap (λ w. followed w v) h.suffix;
      is = ap (λ w. w ++ v') h.is ∙ append_assoc h.front _ v';
      rises = pairs_append ◌<◌ h.new v' h.rises rises (all_cross (λ y z k l. omega arith) h.new v' below.1 high);
    }

raised_root : (x : ℕ) (p q : List ℕ) → working_suffix p ≡ [] → (count (suc x) p ≡ 0 → ⊥) → Pairs ◌<◌ q → Raised (x ∷ p) (suc x ∷ q)
raised_root x p q e here rises =
    record {
      front = [];
      entry = x;
      old = p;
      new = q;
      was = refl;
      suffix = suffix_whole x p e here;
      is = refl;
      rises = rises;
    }

-- ---- the same of trees

-- the first tree's entries rise
first_rises : (b m : ℕ) → Pairs ◌<◌ (permutation_from b (natural_tree m 0))
unfolding permutation_from
first_rises b zero = unfold natural_tree numbered_tree in tt
first_rises b (suc m) = rw (first_node m) (entries_above _ (natural_tree m 0), first_rises (suc (b + size empty)) m)

parts_rise : (b : ℕ) (l r : Tree) → Pairs ◌<◌ (permutation_from b l) → Pairs ◌<◌ (permutation_from (suc (b + size l)) r)
    → Pairs ◌<◌ (permutation_from b l ++ permutation_from (suc (b + size l)) r)
parts_rise b l r g h =
    let (u, v) : List ℕ × List ℕ = (permutation_from b l, permutation_from (suc (b + size l)) r) in
    pairs_append ◌<◌ u v g h (all_cross (λ y z i j. omega arith) u v (entries_below b l) (entries_above (suc (b + size l)) r))

-- the label after the base is one of a tree's, if the tree has a node
least_label : (b : ℕ) (t : Tree) → 0 < size t → 0 < count (suc b) (permutation_from b t)
unfolding permutation_from size
least_label b empty h = absurd (omega arith)
least_label b (node empty r) h = rw add-zero (omega (arith, count_same (suc b) (suc b) (permutation_from (suc b) r) refl))
least_label b (node (node k l) r) h = within (suc b) _ (permutation_from b (node k l)) _ (least_label b (node k l) (omega arith))
  where
    within : (x y : ℕ) (u v : List ℕ) → 0 < count x u → 0 < count x (y ∷ (u ++ v))
    within x y u v h = omega (arith, count_append x (y ∷ []) (u ++ v), count_append x u v)

-- a label that is above all, or below all
above_absent : (x : ℕ) (p : List ℕ) → All (λ y. y < x) p → count x p ≡ 0
above_absent x p h = count_none x p (all_map (λ y l e. omega arith) p h)

below_absent : (x : ℕ) (p : List ℕ) → All (λ y. x < y) p → count x p ≡ 0
below_absent x p h = count_none x p (all_map (λ y l e. omega arith) p h)

-- what a step on shows of the permutation of t, written after b
abbrev Stepped : ℕ → Tree → Type 0
Stepped b t =
    ((has_next t ≡ true) × Raised (permutation_from b t) (permutation_from b (next_tree t)))
    ⊎ ((has_next t ≡ false) × (working_suffix (permutation_from b t) ≡ []))

module _ (b : ℕ) (l r : Tree) where
  abbrev root : ℕ
  root = suc (b + size l)

  abbrev left : List ℕ
  left = permutation_from b l

  abbrev right : List ℕ
  right = permutation_from root r

  -- labels of the left part are below the root's, those of the right part above it
  apart : All (λ y. count (suc y) right ≡ 0) left
  apart = all_map (λ y k. below_absent (suc y) right (all_map (λ z h. omega arith) right (entries_above root r))) left (entries_below b l)

  -- and the root's next label is the least of the right part
  next_behind : 0 < size r → count (suc root) (left ++ right) ≡ 0 → ⊥
  next_behind some h = omega (arith, count_append (suc root) left right, least_label root r some)

  stepped_right : has_next r ≡ true → Raised right (permutation_from root (next_tree r)) → Stepped b (node l r)
  unfolding permutation_from
  stepped_right h d = inl ((next_right l r h).0, rw (next_right l r h).1 (raised_behind (root ∷ left) _ _ d))

  stepped_left : has_next r ≡ false → working_suffix right ≡ [] → has_next l ≡ true → Raised left (permutation_from b (next_tree l)) → Stepped b (node l r)
  unfolding permutation_from
  stepped_left hr e hl d =
      let low : All (λ y. y < root) (permutation_from b (next_tree l)) = rw (next_size l) at (entries_below b (next_tree l)) in
      let new = natural_tree (size r) 0 in
      let both = raised_before root left _ right _ d e apart low (entries_above root new) (first_rises root (size r)) in
      inl ((next_left l r hr hl).0, rw ((next_left l r hr hl).1, next_size l) (raised_behind (root ∷ []) _ _ both))

  module _ (hr : has_next r ≡ false) (er : working_suffix right ≡ []) (hl : has_next l ≡ false) (el : working_suffix left ≡ []) where
    parts_none : working_suffix (left ++ right) ≡ []
    parts_none = suffix_before left right er apart ∙ ap (λ w. followed w right) el

    stepped_root : 0 < size r → Stepped b (node l r)
    unfolding permutation_from
    stepped_root some =
        let (k, s) : Tree × Tree = (natural_tree (suc (size l)) 0, natural_tree (size r - 1) 0) in
        let up : b + size k ≡ root = omega (arith, (first_tree_lem (suc (size l))).nodes) in
        let rises = parts_rise b k s (first_rises b (suc (size l))) (first_rises (suc (b + size k)) (size r - 1)) in
        let both = raised_root root (left ++ right) _ parts_none (next_behind some) (rw up at rises) in
        inl ((next_root l r hr hl some).0, rw ((next_root l r hr hl some).1, up) both)

    stepped_none : size r ≡ 0 → Stepped b (node l r)
    unfolding permutation_from
    stepped_none none =
        let whole : b + size (node l r) ≡ root = omega (arith, node_size l r) in
        let low : All (λ y. y < suc root) (permutation_from b (node l r)) =
        subst (λ (k : ℕ). All (λ y. y < suc k) (permutation_from b (node l r))) whole (entries_below b (node l r)) in
        inr ((next_none l r hr hl none).0, suffix_none root (left ++ right) parts_none (above_absent (suc root) (left ++ right) low.1))

stepped_node : (b : ℕ) (l r : Tree) → Stepped b l → Stepped (suc (b + size l)) r → Stepped b (node l r)
stepped_node b l r tl (inl (hr, d)) = stepped_right b l r hr d
stepped_node b l r (inl (hl, d)) (inr (hr, er)) = stepped_left b l r hr er hl d
stepped_node b l r (inr (hl, el)) (inr (hr, er)) =
    elim (ℕ_discrete (size r) 0) [
      | yes e ↦ stepped_none b l r hr er hl el e
      | no g ↦ stepped_root b l r hr er hl el (omega arith)
    ]

stepped_empty : (b : ℕ) → Stepped b empty
unfolding permutation_from natural_number size C working_suffix
stepped_empty b = inr (refl, refl)

stepped : (b : ℕ) (t : Tree) → Stepped b t
stepped b empty = stepped_empty b
stepped b (node l r) = stepped_node b l r (stepped b l) (stepped (suc (b + size l)) r)

-- ---- the same of tree permutations

-- a list that is cut at place i
cut_at : (i : ℕ) (u v w : List ℕ) (x : ℕ) → length u ≡ i → w ≡ u ++ x ∷ v → (take i w ≡ u) × (get_or w i 0 ≡ x) × (drop (suc i) w ≡ v)
cut_at i u v w x start e =
    let past : suc i ≡ length u + 1 = omega arith in
    rw e (take_at u (x ∷ v) i start, get_or_at u x v 0 i start, rw past (drop-append-add u (x ∷ v) 1))

raised_renewed : (p q : List ℕ) → Raised p q → Renewed p q
raised_renewed p q h =
    let start = start_front p h.front (h.was ∙ ap (λ w. h.front ++ w) (sym h.suffix)) in
    let before = cut_at (suffix_start p) h.front h.old p h.entry start h.was in
    let after = cut_at (suffix_start p) h.front h.new q (suc h.entry) start h.is in
    record { kept = after.0 ∙ sym before.0; raised = after.1 ∙ ap suc (sym before.1); sorted = rw after.2 h.rises }

stepped_next : (t : Tree) → has_next t ≡ true → Raised (permutation t) (permutation (next_tree t))
unfolding permutation
stepped_next t h = elim (stepped 0 t) [ inl (k, d) ↦ d | inr (k, e) ↦ absurd (omega (arith, ltb-true, ltb-false)) ]

stepped_last : (t : Tree) → has_next t ≡ false → working_suffix (permutation t) ≡ []
unfolding permutation
stepped_last t h = elim (stepped 0 t) [ inl (k, d) ↦ absurd (omega (arith, ltb-true, ltb-false)) | inr (k, e) ↦ e ]

module _ (n : ℕ) (p : List ℕ) (g : TreePermutation n p) where
  raised_of : natural_number (permutation_tree p) + 1 < C n → Raised p (next (natural n) p)
  unfolding next next_tree
  raised_of h =
      let (w, z) = permutation_of n p g in
      let on = lt-ltb (natural_number (permutation_tree p) + 1) (C (size (permutation_tree p))) (rw z h) in
      rw (w, on, z) at (stepped_next (permutation_tree p) on)

  last_of : natural_number (permutation_tree p) + 1 ≡ C n → working_suffix p ≡ []
  last_of h =
      let (w, z) = permutation_of n p g in
      let over = le-ltb (natural_number (permutation_tree p) + 1) (C (size (permutation_tree p))) (omega (arith, ap C z)) in
      rw w at (stepped_last (permutation_tree p) over)

  pub suffix_empty : (working_suffix p ≡ []) ↔ (natural_number (permutation_tree p) + 1 ≡ C n)
  suffix_empty = (only, last_of)
    where
      only : working_suffix p ≡ [] → natural_number (permutation_tree p) + 1 ≡ C n
      only e =
          elim (dec_lt (natural_number (permutation_tree p) + 1) (C n)) [
            | yes h ↦ absurd (omega (arith, ap length (sym e ∙ (raised_of h).suffix)))
            | no h ↦ omega (arith, (natural_lawful n).number_below p g)
          ]

  pub suffix_next : natural_number (permutation_tree p) + 1 < C n → Renewed p (next (natural n) p)
  suffix_next h = raised_renewed p (next (natural n) p) (raised_of h)

pub suffix_previous : (n : ℕ) (p : List ℕ) → TreePermutation n p → 0 < natural_number (permutation_tree p) → Renewed (previous (natural n) p) p
suffix_previous n p g h =
    let laws = natural_lawful n in
    let q = previous (natural n) p in
    let less = number_previous (natural n) laws p g in
    let below = laws.number_below p g in
    rw (next_previous (natural n) laws p g h) at (suffix_next n q (previous_formed (natural n) laws p g) (omega arith))
