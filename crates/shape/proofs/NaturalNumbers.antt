-- Numbers in the natural order: the number is the position.
--     fewer_none, fewer_step, fewer_all      the trees with fewer nodes on the left than 0, than one more, than m + 1
--     fewer_rises                no fewer trees for more nodes
--     HasLeft                    shape k has l nodes on the left
--     left_nodes_lem, left_nodes_only  what is worked out from k is such an l, and the only one
--     left_below, right_below    the numbers of the two parts are below their counts
--     node_size, node_number     a node's size and number, by its parts
--     natural_number_below       the number is below C(n)
--     natural_tree_size, natural_number_tree      the tree worked out from a number has the size, and has that number
--     natural_tree_number        a tree is what is worked out from its number
--     natural_tree_node          the parts of a tree worked out are worked out from what the trees with fewer nodes on the left leave of its number
--     natural_number_rises       the number follows the natural order
--     natural_lawful             all of it for the tree permutations of one size
-- Assumes nothing.
use mathlib.Core.Path.{◌≡◌, refl, sym, ap, ap₂, ◌∙◌, subst₂}
use mathlib.Core.Logic.{◌⊎◌, inl, inr}
use mathlib.Core.List.{List}
use Prim.Native.Nat.{ℕ, zero, suc, ◌+◌, ◌-◌, ◌*◌, ◌/◌, ◌%◌, ◌≤◌, ◌<◌}
use native.Mathlib.Nat.{le_antisymm, mod-lt, div-lt_iff_lt-mul, div-add-mod', le_refl, eq-or-lt_of_le}
use native.Mathlib.Decide.{dec_le}
use native.Mathlib.Omega.{arith}
use lib.Arith.{digits_lt, digits_div, digits_mod}
use borrow.Author.Tests.{le-leb, lt-leb}
use Rattle.catalan.specs.Count.{C, sum}
use Rattle.catalan.proofs.Sums.{sum_last, sum_rises}
use Rattle.catalan.proofs.Counting.{segner, C_positive}
use Rattle.shape.specs.Tree.{Tree, empty, node, size, permutation}
use Rattle.shape.specs.Form.{TreePermutation, permutation_tree}
use Rattle.shape.specs.Order.{Natural, Dictionary}
use Rattle.shape.specs.Number.{fewer_left, natural_number, left_nodes, numbered_tree, natural_tree}
use Rattle.shape.specs.Numbering.{Lawful, natural}
use Rattle.shape.proofs.Permutations.{permutation_formed, permutation_read, permutation_of}
use Rattle.shape.proofs.Orders.{natural_size, natural_permutation, permutation_natural, positioned}

-- ---- the shapes before those with l nodes on the left

pub fewer_step : (m l : ℕ) → fewer_left m (suc l) ≡ fewer_left m l + C l * C (m - l)
unfolding fewer_left
fewer_step m l = sum_last l (λ j. C j * C (m - j))

pub fewer_rises : (m : ℕ) {l l' : ℕ} → l ≤ l' → fewer_left m l ≤ fewer_left m l'
unfolding fewer_left
fewer_rises m h = sum_rises (λ j. C j * C (m - j)) h

pub fewer_none : (m : ℕ) → fewer_left m 0 ≡ 0
unfolding fewer_left sum
fewer_none m = refl

pub fewer_all : (m : ℕ) → fewer_left m (suc m) ≡ C (suc m)
unfolding fewer_left
fewer_all m = sym (segner m)

-- shape k of m + 1 nodes has l of them on the left
pub record HasLeft (m k l : ℕ) : Type 0 where
  pub from : fewer_left m l ≤ k
  pub to : k < fewer_left m (suc l)

has_left_unique : (m k l l' : ℕ) → HasLeft m k l → HasLeft m k l' → l ≡ l'
has_left_unique m k l l' h h' = le_antisymm (lower l l' h h') (lower l' l h' h)
  where
    lower : (l l' : ℕ) → HasLeft m k l → HasLeft m k l' → l ≤ l'
    lower l l' h h' =
        elim (dec_le l l') [
          | yes a ↦ a
          | no a ↦ absurd (omega (arith, fewer_rises m {l = suc l'} {l' = l} (omega arith), h.from, h'.to))
        ]

pub left_nodes_lem : (i m k : ℕ) → k < fewer_left m (suc i) → HasLeft m k (left_nodes i m k) × (left_nodes i m k ≤ i)
unfolding left_nodes
left_nodes_lem zero m k h = (record { from = omega (arith, fewer_none m); to = h }, omega arith)
left_nodes_lem (suc i) m k h = decide (dec_le (fewer_left m (suc i)) k) (left_nodes_lem i m k)
  where
    decide : Dec (fewer_left m (suc i) ≤ k) → (k < fewer_left m (suc i) → HasLeft m k (left_nodes i m k) × (left_nodes i m k ≤ i))
        → HasLeft m k (left_nodes (suc i) m k) × (left_nodes (suc i) m k ≤ suc i)
    decide (yes l) rest = rw (le-leb (fewer_left m (suc i)) k l) (record { from = l; to = h }, omega arith)
    decide (no g) rest =
        let r = rest (omega arith) in
        rw (lt-leb (fewer_left m (suc i)) k (omega arith)) (r.0, omega (arith, r.1))

pub left_nodes_only : (m k l : ℕ) → HasLeft m k l → l ≤ m → left_nodes m m k ≡ l
left_nodes_only m k l h most =
    let found = left_nodes_lem m m k (omega (arith, h.to, fewer_rises m {l = suc l} {l' = suc m} (omega arith))) in
    has_left_unique m k (left_nodes m m k) l found.0 h

-- ---- numbers of trees

pub node_size : (l r : Tree) → size (node l r) ≡ suc (size l + size r)
unfolding size
node_size l r = refl

pub node_number : (l r : Tree) → natural_number (node l r) ≡ fewer_left (size l + size r) (size l) + (natural_number l * C (size r) + natural_number r)
unfolding natural_number
node_number l r = omega arith

-- a node's number lies among those of its left part's size
node_has_left : (l r : Tree) → natural_number l < C (size l) → natural_number r < C (size r)
    → HasLeft (size l + size r) (natural_number (node l r)) (size l)
node_has_left l r hl hr =
    let right : size l + size r - size l ≡ size r = omega arith in
    let last = fewer_step (size l + size r) (size l) ∙ ap (λ (z : ℕ). fewer_left (size l + size r) (size l) + C (size l) * C z) right in
    record { from = omega (arith, node_number l r); to = omega (arith, node_number l r, digits_lt hl hr) }

pub natural_number_below : (t : Tree) → natural_number t < C (size t)
natural_number_below empty = unfold natural_number size C in omega arith
natural_number_below (node l r) =
    let m = size l + size r in
    let whole : C (size (node l r)) ≡ fewer_left m (suc m) = unfold size in sym (fewer_all m) in
    let within = node_has_left l r (natural_number_below l) (natural_number_below r) in
    omega (arith, within.to, fewer_rises m {l = suc (size l)} {l' = suc m} (omega arith))

-- ---- trees from numbers

-- t has n nodes and the number k
abbrev HasNumber : ℕ → ℕ → Tree → Type 0
HasNumber n k t = (size t ≡ n) × (natural_number t ≡ k)

empty_numbered : (n k : ℕ) → n ≡ 0 → k < C n → HasNumber n k empty
unfolding size natural_number
empty_numbered n k e h = (sym e, let one : C 0 ≡ 1 = unfold C in refl in omega (arith, ap C e))

-- the parts' numbers are the two digits of what is left of k, to the base of the right part's count
module _ (m k l : ℕ) (h : HasLeft m k l) (most : l ≤ m) where
  pub left_below : (k - fewer_left m l) / C (m - l) < C l
  left_below = (div-lt_iff_lt-mul (C_positive (m - l))).1 (omega (arith, h.from, h.to, fewer_step m l))

  pub right_below : (k - fewer_left m l) % C (m - l) < C (m - l)
  right_below = mod-lt (k - fewer_left m l) (C_positive (m - l))

  node_numbered : (x y : Tree) → HasNumber l ((k - fewer_left m l) / C (m - l)) x → HasNumber (m - l) ((k - fewer_left m l) % C (m - l)) y
      → HasNumber (suc m) k (node x y)
  node_numbered x y nx ny =
      let sizes : size x + size y ≡ m = omega (arith, nx.0, ny.0) in
      let before : fewer_left (size x + size y) (size x) ≡ fewer_left m l = ap₂ fewer_left sizes nx.0 in
      let digits : natural_number x * C (size y) ≡ (k - fewer_left m l) / C (m - l) * C (m - l) = ap₂ ◌*◌ nx.1 (ap C ny.0) in
      (node_size x y ∙ ap suc sizes, node_number x y ∙ omega (arith, div-add-mod' (k - fewer_left m l) (C (m - l)), h.from, ny.1))

tree_numbered : (d n k : ℕ) → n ≤ d → k < C n → HasNumber n k (numbered_tree d n k)
unfolding numbered_tree
tree_numbered zero n k h b = empty_numbered n k (omega arith) b
tree_numbered (suc d) zero k h b = empty_numbered 0 k refl b
tree_numbered (suc d) (suc m) k h b =
    let l = left_nodes m m k in
    let found = left_nodes_lem m m k (omega (arith, fewer_all m)) in
    node_numbered m k l found.0 found.1 _ _
    (tree_numbered d l _ (omega (arith, found.1)) (left_below m k l found.0 found.1))
    (tree_numbered d (m - l) _ (omega arith) (right_below m k l found.0 found.1))

natural_numbered : (n k : ℕ) → k < C n → HasNumber n k (natural_tree n k)
unfolding natural_tree
natural_numbered n k h = tree_numbered n n k (le_refl n) h

pub natural_tree_size : (n k : ℕ) → k < C n → size (natural_tree n k) ≡ n
natural_tree_size n k h = (natural_numbered n k h).0

pub natural_number_tree : (n k : ℕ) → k < C n → natural_number (natural_tree n k) ≡ k
natural_number_tree n k h = (natural_numbered n k h).1

-- a tree's number leads back to it
numbered_node : ℕ → ℕ → ℕ → ℕ → Tree
numbered_node d m k l =
    node (numbered_tree d l ((k - fewer_left m l) / C (m - l))) (numbered_tree d (m - l) ((k - fewer_left m l) % C (m - l)))

tree_node : (d m k l : ℕ) → HasLeft m k l → l ≤ m → numbered_tree (suc d) (suc m) k ≡ numbered_node d m k l
unfolding numbered_tree numbered_node
tree_node d m k l h most = ap (numbered_node d m k) (left_nodes_only m k l h most)

parts_again : (d : ℕ) (l r : Tree) → numbered_tree d (size l) (natural_number l) ≡ l → numbered_tree d (size r) (natural_number r) ≡ r
    → numbered_node d (size l + size r) (natural_number (node l r)) (size l) ≡ node l r
unfolding numbered_node
parts_again d l r el er =
    let m = size l + size r in
    let rest : natural_number (node l r) - fewer_left m (size l) ≡ natural_number l * C (size r) + natural_number r = omega (arith, node_number l r) in
    let right : m - size l ≡ size r = omega arith in
    let hr = natural_number_below r in
    let first = ap₂ (λ (x y : ℕ). x / C y) rest right ∙ digits_div (natural_number l) hr in
    let second = ap₂ (λ (x y : ℕ). x % C y) rest right ∙ digits_mod (natural_number l) hr in
    ap₂ node (ap (numbered_tree d (size l)) first ∙ el) (ap₂ (numbered_tree d) right second ∙ er)

tree_again : (t : Tree) (d : ℕ) → size t ≤ d → numbered_tree d (size t) (natural_number t) ≡ t
tree_again empty zero h = unfold numbered_tree in refl
tree_again empty (suc d) h = unfold numbered_tree size in refl
tree_again (node l r) zero h = absurd (omega (arith, node_size l r))
tree_again (node l r) (suc d) h =
    let m = size l + size r in
    let k = natural_number (node l r) in
    let hl = natural_number_below l in
    let hr = natural_number_below r in
    ap (λ (n : ℕ). numbered_tree (suc d) n k) (node_size l r)
    ∙ tree_node d m k (size l) (node_has_left l r hl hr) (omega arith)
    ∙ parts_again d l r (tree_again l d (omega (arith, node_size l r))) (tree_again r d (omega (arith, node_size l r)))

pub natural_tree_number : (t : Tree) → natural_tree (size t) (natural_number t) ≡ t
unfolding natural_tree
natural_tree_number t = tree_again t (size t) (le_refl (size t))

pub natural_tree_node : (m k l : ℕ) → HasLeft m k l → l ≤ m
    → natural_tree (suc m) k ≡ node (natural_tree l ((k - fewer_left m l) / C (m - l))) (natural_tree (m - l) ((k - fewer_left m l) % C (m - l)))
natural_tree_node m k l h most =
    let left = natural_numbered l ((k - fewer_left m l) / C (m - l)) (left_below m k l h most) in
    let right = natural_numbered (m - l) ((k - fewer_left m l) % C (m - l)) (right_below m k l h most) in
    let whole = node_numbered m k l h most _ _ left right in
    sym (ap₂ natural_tree whole.0 whole.1) ∙ natural_tree_number _

-- ---- order

-- fewer nodes on the left, of as many in all
fewer_before : (l r l' r' : Tree) → size l + size r ≡ size l' + size r' → size l < size l' → natural_number (node l r) < natural_number (node l' r')
fewer_before l r l' r' e h =
    omega (
      arith,
      (node_has_left l r (natural_number_below l) (natural_number_below r)).to,
      fewer_rises (size l + size r) h,
      ap (λ (m : ℕ). fewer_left m (size l')) e,
      node_number l' r',
    )

-- as many on the left: the left's number, then the right's, as two digits of one base
left_before : (l r l' r' : Tree) → size l ≡ size l' → size r ≡ size r' → natural_number l < natural_number l'
    → natural_number (node l r) < natural_number (node l' r')
left_before l r l' r' el er h =
    omega (
      arith,
      node_number l r,
      node_number l' r',
      ap₂ (λ (x y : ℕ). fewer_left (x + y) x) el er,
      digits_lt h (natural_number_below r),
      ap (λ (y : ℕ). natural_number l' * C y) er,
    )

right_before : (l r r' : Tree) → size r ≡ size r' → natural_number r < natural_number r' → natural_number (node l r) < natural_number (node l r')
right_before l r r' er h =
    omega (
      arith,
      node_number l r,
      node_number l r',
      ap (λ (y : ℕ). fewer_left (size l + y) (size l)) er,
      ap (λ (y : ℕ). natural_number l * C y) er,
    )

pub natural_number_rises : {s t : Tree} → size s ≡ size t → Natural s t → natural_number s < natural_number t
natural_number_rises e (Natural.smaller_first h) = absurd (omega arith)
natural_number_rises e (Natural.left_first {l} {r} {l'} {r'} f d) = decide (eq-or-lt_of_le (natural_size d)) (λ q. natural_number_rises q d)
  where
    decide : (size l ≡ size l') ⊎ (size l < size l') → (size l ≡ size l' → natural_number l < natural_number l')
        → natural_number (node l r) < natural_number (node l' r')
    decide (inl q) g = left_before l r l' r' q (omega (arith, node_size l r, node_size l' r')) (g q)
    decide (inr h) g = fewer_before l r l' r' (omega (arith, node_size l r, node_size l' r')) h
natural_number_rises e (Natural.right_first {l} {r} {r'} f d) =
    let parts : size r ≡ size r' = omega (arith, node_size l r, node_size l r') in
    right_before l r r' parts (natural_number_rises parts d)

-- ---- the tree permutations of one size

pub natural_lawful : (n : ℕ) → Lawful (natural n)
natural_lawful n =
    record {
      number_below = λ p f. rw (← (permutation_of n p f).1) (natural_number_below (permutation_tree p));
      shape_formed = λ k h. rw (natural_tree_size n k h) at (permutation_formed (natural_tree n k));
      number_shape = λ k h. ap natural_number (permutation_read (natural_tree n k)) ∙ natural_number_tree n k h;
      shape_number = λ p f. ap permutation (again (permutation_tree p) (permutation_of n p f).1) ∙ (permutation_of n p f).0;
      ordered = λ s t e. (natural_permutation s t e, permutation_natural s t e);
      position = λ p q f g.
          positioned (λ p. natural_number (permutation_tree p)) p q (rises p q f g) (rises q p g f) (f.entries ∙ sym g.entries);
    }
  where
    again : (t : Tree) → size t ≡ n → natural_tree n (natural_number t) ≡ t
    again t e = rw (← e) (natural_tree_number t)

    rises : (p q : List ℕ) → TreePermutation n p → TreePermutation n q → Dictionary p q
        → natural_number (permutation_tree p) < natural_number (permutation_tree q)
    rises p q f g d =
        let (wp, sp) = permutation_of n p f in
        let (wq, sq) = permutation_of n q g in
        natural_number_rises (sp ∙ sym sq)
        (permutation_natural _ _ (sp ∙ sym sq) (subst₂ Dictionary (sym wp) (sym wq) d))
