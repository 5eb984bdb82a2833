-- A list is feasible exactly when it is some tree's pattern, and the form is one to one.
--     Word e a w           w can follow a prefix with e more ones than zeros, and has a ones: the working form of "feasible"
--     word_ones, word_zeros, word_length      what a word holds
--     feasible_word, word_feasible            a feasible pattern of size n is a word with no excess before it and n ones
--     feasible_length      so it has 2n places
--     pattern_node         a node's pattern, and what follows it, part after part
--     pattern_formed       a tree's pattern is feasible
--     forest_last          its places complete that tree alone
--     pattern_read         the tree is read back from its pattern
--     pattern_of           a feasible pattern is the pattern of the tree read from it
--     length_pattern       2n places
--     head_part_lem        a node's pattern is its head and then the pattern of its right part
--     head_length          the head has two places for each node of the left part, and two for the root
--     patterns_faithful    all of it together: patterns are one to one with trees
-- Assumes nothing.
use mathlib.Core.Path.{◌≡◌, refl, sym, ap, ◌∙◌, subst, subst₂}
use mathlib.Core.List.{List, [], ◌∷◌, ◌++◌, append_assoc, append-nil}
use Prim.Native.Nat.{ℕ, zero, suc, ◌+◌, ◌*◌, ◌≤◌, ◌<◌, zero-le}
use native.Mathlib.Nat.{add-zero, zero-add, le_refl}
use native.Mathlib.Omega.{arith}
use lib.ListN.{length, get_or, take, length-append}
use Rattle.shape.specs.Tree.{Tree, empty, node, size, pattern, head}
use Rattle.shape.specs.Form.{count, Feasible, forest, joined, pattern_tree, patterns, Faithful}

pub data Word : ℕ → ℕ → List ℕ → Type 0 where
  done : Word 0 0 []
  zero_next : {e a : ℕ} {w : List ℕ} → Word e a w → Word (suc e) a (0 ∷ w)
  one_next : {e a : ℕ} {w : List ℕ} → Word (suc e) a w → Word e (suc a) (1 ∷ w)

-- ---- what a word holds

pub word_ones : {e a : ℕ} {w : List ℕ} → Word e a w → count 1 w ≡ a
unfolding count
word_ones done = refl
word_ones (zero_next r) = word_ones r
word_ones (one_next r) = ap suc (word_ones r)

pub word_zeros : {e a : ℕ} {w : List ℕ} → Word e a w → count 0 w ≡ e + a
unfolding count
word_zeros done = refl
word_zeros (zero_next r) = omega (arith, word_zeros r)
word_zeros (one_next r) = omega (arith, word_zeros r)

pub word_length : {e a : ℕ} {w : List ℕ} → Word e a w → length w ≡ e + a + a
word_length done = refl
word_length (zero_next r) = omega (arith, word_length r)
word_length (one_next r) = omega (arith, word_length r)

word_places : {e a : ℕ} {w : List ℕ} → Word e a w → (i : ℕ) → i < length w → get_or w i 0 ≤ 1
word_places done i h = zero-le
word_places (zero_next r) zero h = zero-le
word_places (zero_next r) (suc i) h = word_places r i (omega arith)
word_places (one_next r) zero h = le_refl 1
word_places (one_next r) (suc i) h = word_places r i (omega arith)

word_prefix : {e a : ℕ} {w : List ℕ} → Word e a w → (i : ℕ) → count 0 (take i w) ≤ e + count 1 (take i w)
unfolding count
word_prefix done zero = omega arith
word_prefix done (suc i) = omega arith
word_prefix (zero_next r) zero = omega arith
word_prefix (zero_next r) (suc i) = omega (arith, word_prefix r i)
word_prefix (one_next r) zero = omega arith
word_prefix (one_next r) (suc i) = omega (arith, word_prefix r i)

pub word_feasible : {n : ℕ} {p : List ℕ} → Word 0 n p → Feasible n p
word_feasible {n} {p} r =
    record {
      places = word_places r;
      ones = word_ones r;
      zeros = omega (arith, word_zeros r);
      prefix = λ i. omega (arith, word_prefix r i);
    }

-- the facts of `Feasible`, after a prefix with e more ones than zeros
follows : (p : List ℕ) (e a : ℕ) → ((i : ℕ) → i < length p → get_or p i 0 ≤ 1) → count 1 p ≡ a → count 0 p ≡ e + a
    → ((i : ℕ) → count 0 (take i p) ≤ e + count 1 (take i p)) → Word e a p
unfolding count
follows [] e a h o z f =
    let none : 0 ≡ a = o in
    let even : 0 ≡ e = omega arith in
    subst₂ (λ (e a : ℕ). Word e a []) even none done
follows (zero ∷ p) zero a h o z f = absurd (let z = f 1 in omega arith)
follows (zero ∷ p) (suc e) a h o z f =
    zero_next (follows p e a (λ i l. h (suc i) (omega arith)) o (omega arith) (λ i. omega (arith, f (suc i))))
follows (suc zero ∷ p) e zero h o z f = absurd (omega arith)
follows (suc zero ∷ p) e (suc a) h o z f =
    one_next (follows p (suc e) a (λ i l. h (suc i) (omega arith)) (omega arith) (omega arith) (λ i. omega (arith, f (suc i))))
follows (suc (suc x) ∷ p) e a h o z f = absurd (let z = h 0 (omega arith) in omega arith)

pub feasible_word : {n : ℕ} {p : List ℕ} → Feasible n p → Word 0 n p
feasible_word {n} {p} g = follows p 0 n g.places g.ones (omega (arith, g.zeros)) (λ i. omega (arith, g.prefix i))

pub feasible_length : (n : ℕ) (p : List ℕ) → Feasible n p → length p ≡ 2 * n
feasible_length n p g = omega (arith, word_length (feasible_word g))

-- ---- trees

-- a node's pattern, and what follows it, part after part
pub pattern_node : (l r : Tree) (w : List ℕ) → pattern (node l r) ++ w ≡ 1 ∷ (pattern l ++ 0 ∷ (pattern r ++ w))
unfolding pattern
pattern_node l r w = ap {B = List ℕ} (λ v. 1 ∷ v) (append_assoc (pattern l) (0 ∷ pattern r) w)

-- the pattern of a tree, put before a word, leaves its excess
laid : (t : Tree) {e a : ℕ} {w : List ℕ} → Word e a w → Word e (size t + a) (pattern t ++ w)
unfolding size pattern
laid empty {e} {a} {w} r = subst (λ (n : ℕ). Word e n w) (sym (zero-add a)) r
laid (node l r) {e} {a} {w} s =
    subst₂ (Word e) (omega arith) (sym (pattern_node l r w)) (one_next (laid l (zero_next (laid r s))))

pub pattern_word : (t : Tree) → Word 0 (size t) (pattern t)
pattern_word t = subst₂ (Word 0) (add-zero (size t)) (append-nil (pattern t)) (laid t done)

pub pattern_formed : (t : Tree) → Feasible (size t) (pattern t)
pattern_formed t = word_feasible (pattern_word t)

pub length_pattern : (t : Tree) → length (pattern t) ≡ 2 * size t
length_pattern t = omega (arith, word_length (pattern_word t))

pub head_part_lem : (l r : Tree) → pattern (node l r) ≡ head (node l r) ++ pattern r
unfolding pattern head
head_part_lem l r = ap {B = List ℕ} (λ v. 1 ∷ v) (sym (append_assoc (pattern l) (0 ∷ []) (pattern r)))

pub head_length : (l r : Tree) → length (head (node l r)) ≡ 2 * size l + 2
unfolding head
head_length l r = omega (arith, length-append (pattern l) (0 ∷ []), length_pattern l)

-- a tree that another one follows, and the last tree, whose own 0 is dropped
forest_tree : (t : Tree) (w : List ℕ) → forest (pattern t ++ 0 ∷ w) ≡ t ∷ forest w
unfolding forest pattern
forest_tree empty w = refl
forest_tree (node l r) w =
    ap forest (pattern_node l r (0 ∷ w))
    ∙ ap joined (forest_tree l (pattern r ++ 0 ∷ w) ∙ ap {B = List Tree} (λ ts. l ∷ ts) (forest_tree r w))

pub forest_last : (t : Tree) → forest (pattern t) ≡ t ∷ []
unfolding forest pattern
forest_last empty = refl
forest_last (node l r) = ap joined (forest_tree l (pattern r) ∙ ap {B = List Tree} (λ ts. l ∷ ts) (forest_last r))

pub pattern_read : (t : Tree) → pattern_tree (pattern t) ≡ t
unfolding pattern_tree
pattern_read t = ap (λ (ts : List Tree). get_or ts 0 empty) (forest_last t)

-- the e + 1 trees that a word after an excess of e completes
data Laid : ℕ → List ℕ → Type 0 where
  last : (t : Tree) → Laid 0 (pattern t)
  before : {e : ℕ} {w : List ℕ} (t : Tree) → Laid e w → Laid (suc e) (pattern t ++ 0 ∷ w)

joins : {e : ℕ} {w : List ℕ} → Laid (suc e) w → Laid e (1 ∷ w)
unfolding pattern
joins (before l (last r)) = last (node l r)
joins (before l (before {e = e} {w = w} r ts)) =
    subst (Laid (suc e)) (pattern_node l r (0 ∷ w)) (before (node l r) ts)

grown : {e a : ℕ} {w : List ℕ} → Word e a w → Laid e w
unfolding pattern
grown done = last empty
grown (zero_next r) = before empty (grown r)
grown (one_next r) = joins (grown r)

only : {e : ℕ} {w : List ℕ} → Laid e w → e ≡ 0 → (t : Tree) × (pattern t ≡ w)
only (last t) h = (t, refl)
only (before t ts) h = absurd (omega arith)

pub pattern_of : (n : ℕ) (p : List ℕ) → Feasible n p → (pattern (pattern_tree p) ≡ p) × (size (pattern_tree p) ≡ n)
pattern_of n p g =
    let found = only (grown (feasible_word g)) refl in
    let t = found.0 in
    let same : pattern_tree p ≡ t = ap pattern_tree (sym found.1) ∙ pattern_read t in
    let whole : pattern (pattern_tree p) ≡ p = ap pattern same ∙ found.1 in
    (whole, sym (word_ones (pattern_word (pattern_tree p))) ∙ ap (count 1) whole ∙ g.ones)

pub patterns_faithful : Faithful patterns
patterns_faithful =
    record {
      write_formed = pattern_formed;
      read_write = pattern_read;
      write_read = λ n p g. (pattern_of n p g).0;
      read_size = λ n p g. (pattern_of n p g).1;
    }
