-- The tree permutations are the permutations of trees, and each is of one tree only.
--     length_permutation     as many entries as nodes
--     entries_above, entries_below      the labels lie after the base, and no further than there are nodes
--     permutation_node       a node's permutation, and what follows it, part after part
--     permutation_formed     the permutation of a tree is a tree permutation of its size
--     part_tree              its tree is that tree, whatever number its labels come after
--     permutation_read       so it is where they come after 0
--     permutation_of         a tree permutation of size n is the permutation of its tree, which has n nodes
--     permutations_faithful  all of it together: tree permutations are one to one with trees
-- Assumes nothing.
use mathlib.Core.Path.{◌≡◌, refl, sym, ap, ◌∙◌}
use mathlib.Core.List.{List, [], ◌∷◌, ◌++◌, append_assoc, append-nil}
use Prim.Native.Nat.{ℕ, zero, suc, ◌+◌, ◌≤◌, ◌<◌}
use native.Mathlib.Nat.{zero-add}
use native.Mathlib.Omega.{arith}
use native.Mathlib.Decide.{dec_lt, ℕ_discrete}
use lib.ListN.{length, length-append}
use lib.Seq.{take_at, drop_at}
use borrow.Author.Tests.{lt-ltb, le-ltb}
use Rattle.shape.specs.Tree.{Tree, empty, node, size, permutation, permutation_from}
use Rattle.shape.specs.Form.{below, cut_tree, permutation_tree, TreePermutation, permutations, Faithful}
use Rattle.shape.specs.Every.{All, Pairs, Triples}
use Rattle.shape.proofs.Lists.{all_map, all_both, pairs_all, all_cross}
use Rattle.shape.proofs.Lists.{all_append, pairs_append, triples_append}
use Rattle.shape.proofs.Lists.{all_left, pairs_left, triples_left, all_right, pairs_right, triples_right}
use Rattle.shape.proofs.Lists.{all_at, pairs_at, triples_at, all_of, pairs_of, triples_of}

abbrev Differ : ℕ → ℕ → Type 0
Differ x y = x ≡ y → ⊥

-- x, y, z in this order are not three that a tree permutation avoids
abbrev Avoid : ℕ → ℕ → ℕ → Type 0
Avoid x y z = z < x → x < y → ⊥

abbrev Between : ℕ → ℕ → ℕ → Type 0
Between lo hi x = (lo < x) × (x < hi)

-- What a tree permutation and each of its parts are: different labels between lo and hi that avoid what it avoids. If there are as many
-- entries as labels, `suc (lo + length p) ≡ hi`, every label is there.
record Labels (lo hi : ℕ) (p : List ℕ) : Type 0 where
  between : All (Between lo hi) p
  differ : Pairs Differ p
  avoid : Triples Avoid p

labels_above : {lo hi : ℕ} {p : List ℕ} → Labels lo hi p → All (λ x. lo < x) p
labels_above {p = p} h = all_map (λ x b. b.0) p h.between

labels_below : {lo hi : ℕ} {p : List ℕ} → Labels lo hi p → All (λ x. x < hi) p
labels_below {p = p} h = all_map (λ x b. b.1) p h.between

-- ---- how many entries are below x

below_nil : (x : ℕ) → below x [] ≡ 0
unfolding below
below_nil x = refl

below_less : (x y : ℕ) (p : List ℕ) → y < x → below x (y ∷ p) ≡ suc (below x p)
unfolding below
below_less x y p h = rw (lt-ltb y x h)

below_not_less : (x y : ℕ) (p : List ℕ) → x ≤ y → below x (y ∷ p) ≡ below x p
unfolding below
below_not_less x y p h = rw (le-ltb y x h)

below_none : (x : ℕ) (p : List ℕ) → All (λ y. x ≤ y) p → below x p ≡ 0
below_none x [] h = below_nil x
below_none x (y ∷ p) h = below_not_less x y p h.0 ∙ below_none x p h.1

below_first : (x : ℕ) (u v : List ℕ) → All (λ y. y < x) u → below x (u ++ v) ≡ length u + below x v
below_first x [] v h = sym (zero-add (below x v))
below_first x (y ∷ u) v h = omega (arith, below_less x y (u ++ v) h.0, below_first x u v h.1)

below_all : (x : ℕ) (p : List ℕ) → All (λ y. y < x) p → below x p ≡ length p
below_all x p h = omega (arith, below_nil x, rw append-nil at (below_first x p [] h))

-- ---- pigeonhole: different labels are no more than there are

-- an entry other than x is below suc x just when it is below x
below_other : (x y : ℕ) (p : List ℕ) → Differ x y → below (suc x) (y ∷ p) + below x p ≡ below x (y ∷ p) + below (suc x) p
below_other x y p h =
    elim (dec_lt y x) [
      | yes l ↦ omega (arith, below_less x y p l, below_less (suc x) y p (omega arith))
      | no g ↦ omega (arith, below_not_less x y p (omega arith), below_not_less (suc x) y p (omega arith))
    ]

below_absent : (x : ℕ) (p : List ℕ) → All (Differ x) p → below (suc x) p ≡ below x p
below_absent x [] h = below_nil (suc x) ∙ sym (below_nil x)
below_absent x (y ∷ p) h = omega (arith, below_other x y p h.0, below_absent x p h.1)

below_next : (x : ℕ) (p : List ℕ) → Pairs Differ p → below (suc x) p ≤ suc (below x p)
below_next x [] h = omega (arith, below_nil x, below_nil (suc x))
below_next x (y ∷ p) h =
    elim (ℕ_discrete x y) [
      | yes e ↦ rw e (omega (arith, below_less (suc y) y p (omega arith), below_not_less y y p (omega arith), below_absent y p h.0))
      | no g ↦ omega (arith, below_other x y p g, below_next x p h.1)
    ]

below_most : (lo hi : ℕ) (p : List ℕ) → lo < hi → Pairs Differ p → All (λ x. lo < x) p → lo + below hi p < hi
below_most lo zero p l d h = absurd (omega arith)
below_most lo (suc hi) p l d h =
    elim (dec_lt lo hi) [
      | yes k ↦ omega (arith, below_next hi p d, below_most lo hi p k d h)
      | no k ↦ omega (arith, below_none (suc hi) p (all_map (λ x m. omega arith) p h))
    ]

pigeonhole : (lo hi : ℕ) (p : List ℕ) → lo < hi → Labels lo hi p → lo + length p < hi
pigeonhole lo hi p l h = rw (← below_all hi p (labels_below h)) (below_most lo hi p l h.differ (labels_above h))

-- ---- a root x, before a list u of what is below it and a list v of what is above it

labels_node : (lo hi x : ℕ) (u v : List ℕ) → Between lo hi x → Labels lo x u → Labels x hi v → Labels lo hi (x ∷ (u ++ v))
labels_node lo hi x u v b g h =
    let low = labels_below g in
    let high = labels_above h in
    record {
      between = (b, all_append _ u v (all_map (λ y c. omega arith) u g.between) (all_map (λ y c. omega arith) v h.between));
      differ = (
        all_append _ u v (all_map (λ y l. omega arith) u low) (all_map (λ y l. omega arith) v high),
        pairs_append _ u v g.differ h.differ (all_cross (λ y z k l. omega arith) u v low high),
      );
      avoid = (
        pairs_append _ u v (pairs_all (λ y z k l. omega arith) u low) (pairs_all (λ y z k l. omega arith) v high)
            (all_cross (λ y z k l. omega arith) u v low high),
        triples_append _ u v g.avoid h.avoid
            (pairs_all (λ y y' k k'. all_map (λ z l. omega arith) v high) u low)
            (all_map (λ y k. pairs_all (λ z z' l l'. omega arith) v high) u low),
      );
    }

module _ (x : ℕ) (u v : List ℕ) (low : All (λ y. y < x) u) (high : All (λ y. x < y) v) where
  labels_left : (lo hi : ℕ) → Labels lo hi (x ∷ (u ++ v)) → Labels lo x u
  labels_left lo hi h =
      record {
        between = all_both (λ y b l. (b.0, l)) u (all_left _ u v h.between.1) low;
        differ = pairs_left _ u v h.differ.1;
        avoid = triples_left _ u v h.avoid.1;
      }

  labels_right : (lo hi : ℕ) → Labels lo hi (x ∷ (u ++ v)) → Labels x hi v
  labels_right lo hi h =
      record {
        between = all_both (λ y b l. (l, b.1)) v (all_right _ u v h.between.1) high;
        differ = pairs_right _ u v h.differ.1;
        avoid = triples_right _ u v h.avoid.1;
      }

  below_node : below x (u ++ v) ≡ length u
  below_node = omega (arith, below_first x u v low, below_none x v (all_map (λ y l. omega arith) v high))

  cut_node : (d : ℕ) → cut_tree (suc d) (x ∷ (u ++ v)) ≡ node (cut_tree d u) (cut_tree d v)
  unfolding cut_tree
  cut_node d = rw (below_node, take_at u v (length u) refl, drop_at u v (length u) refl)

-- ---- from the tree

pub length_permutation : (b : ℕ) (t : Tree) → length (permutation_from b t) ≡ size t
unfolding permutation_from size
length_permutation b empty = refl
length_permutation b (node l r) = rw length-append (omega (arith, length_permutation b l, length_permutation (suc (b + size l)) r))

-- a node's permutation, and what follows it, part after part
pub permutation_node : (b : ℕ) (l r : Tree) (e : List ℕ)
    → permutation_from b (node l r) ++ e ≡ suc (b + size l) ∷ (permutation_from b l ++ (permutation_from (suc (b + size l)) r ++ e))
unfolding permutation_from
permutation_node b l r e =
    let x = suc (b + size l) in
    ap {B = List ℕ} (λ v. x ∷ v) (append_assoc (permutation_from b l) (permutation_from x r) e)

labels_permutation : (b hi : ℕ) (t : Tree) → suc (b + size t) ≡ hi → Labels b hi (permutation_from b t)
unfolding permutation_from size
labels_permutation b hi empty e = record { between = tt; differ = tt; avoid = tt }
labels_permutation b hi (node l r) e =
    let x = suc (b + size l) in
    labels_node b hi x _ _ (omega arith, omega arith) (labels_permutation b x l refl) (labels_permutation x hi r (omega arith))

pub entries_above : (b : ℕ) (t : Tree) → All (λ x. b < x) (permutation_from b t)
entries_above b t = labels_above (labels_permutation b (suc (b + size t)) t refl)

pub entries_below : (b : ℕ) (t : Tree) → All (λ x. x < suc (b + size t)) (permutation_from b t)
entries_below b t = labels_below (labels_permutation b (suc (b + size t)) t refl)

cut_permutation : (d b : ℕ) (t : Tree) → size t ≤ d → cut_tree d (permutation_from b t) ≡ t
unfolding permutation_from size
cut_permutation zero b empty h = unfold cut_tree in refl
cut_permutation zero b (node l r) h = absurd (omega arith)
cut_permutation (suc d) b empty h = unfold cut_tree in refl
cut_permutation (suc d) b (node l r) h =
    let x = suc (b + size l) in
    rw (cut_node x _ _ (entries_below b l) (entries_above x r) d, cut_permutation d b l (omega arith), cut_permutation d x r (omega arith))

pub part_tree : (b : ℕ) (t : Tree) → permutation_tree (permutation_from b t) ≡ t
unfolding permutation_tree
part_tree b t = cut_permutation (length (permutation_from b t)) b t (omega (arith, length_permutation b t))

-- ---- from the list

record Cut (x : ℕ) (p : List ℕ) : Type 0 where
  low : List ℕ
  high : List ℕ
  whole : p ≡ low ++ high
  all_low : All (λ y. y < x) low
  all_high : All (λ y. x < y) high

-- What comes after an x is cut in two by it: once an entry is above x, none that follows is below it, as those three are avoided.
cut : (x : ℕ) (p : List ℕ) → All (Differ x) p → Pairs (Avoid x) p → Cut x p
cut x [] d a = record { low = []; high = []; whole = refl; all_low = tt; all_high = tt }
cut x (y ∷ p) d a =
    elim (dec_lt y x) [
      | yes l ↦ let c = cut x p d.1 a.1 in
          record { low = y ∷ c.low; high = c.high; whole = ap (λ q. y ∷ q) c.whole; all_low = (l, c.all_low); all_high = c.all_high }
      | no g ↦ let l : x < y = omega (arith, d.0) in
          let rest = all_both {R = λ z. x < z} (λ z e f. let k : ¬ (z < x) = λ m. f m l in omega arith) p d.1 a.0 in
          record { low = []; high = y ∷ p; whole = refl; all_low = tt; all_high = (l, rest) }
    ]

-- The tree cut out of p, written after b, is p.
abbrev Restored : ℕ → ℕ → List ℕ → Type 0
Restored d b p = (permutation_from b (cut_tree d p) ≡ p) × (size (cut_tree d p) ≡ length p)

restored_node : (d b x : ℕ) (u v : List ℕ) → suc (b + length u) ≡ x → All (λ y. y < x) u → All (λ y. x < y) v
    → Restored d b u → Restored d x v → Restored (suc d) b (x ∷ (u ++ v))
unfolding permutation_from size
restored_node d b x u v e low high g h =
    rw (cut_node x u v low high d, g.1, h.1, e, g.0, h.0) (refl, omega (arith, length-append u v))

-- The bounds that the pigeonhole sets to the two parts add up to the length of the whole, so each part has all its labels.
restored : (d b hi : ℕ) (p : List ℕ) → length p ≤ d → suc (b + length p) ≡ hi → Labels b hi p → Restored d b p
unfolding permutation_from size
restored zero b hi [] l e h = unfold cut_tree in (refl, refl)
restored zero b hi (x ∷ q) l e h = absurd (omega arith)
restored (suc d) b hi [] l e h = unfold cut_tree in (refl, refl)
restored (suc d) b hi (x ∷ q) l e h =
    let c = cut x q h.differ.0 h.avoid.0 in
    let u = c.low in
    let v = c.high in
    let parts : Labels b hi (x ∷ (u ++ v)) = rw c.whole at h in
    let left = labels_left x u v c.all_low c.all_high b hi parts in
    let right = labels_right x u v c.all_low c.all_high b hi parts in
    let total : length q ≡ length u + length v = ap length c.whole ∙ length-append u v in
    let left_most = pigeonhole b x u h.between.0.0 left in
    let right_most = pigeonhole x hi v h.between.0.1 right in
    let root : suc (b + length u) ≡ x = omega arith in
    let again_left = restored d b x u (omega arith) root left in
    let again_right = restored d x hi v (omega arith) (omega arith) right in
    rw c.whole (restored_node d b x u v root c.all_low c.all_high again_left again_right)

-- ---- by positions

pub permutation_formed : (t : Tree) → TreePermutation (size t) (permutation t)
unfolding permutation
permutation_formed t =
    let p = permutation_from 0 t in
    let h = labels_permutation 0 (suc (size t)) t (omega arith) in
    record {
      entries = length_permutation 0 t;
      least = all_at _ p (labels_above h);
      most = all_at (λ x. x ≤ size t) p (all_map (λ x l. omega arith) p (labels_below h));
      distinct = λ i j a l. pairs_at Differ p h.differ i j (omega arith) l;
      avoids = triples_at Avoid p h.avoid;
    }

pub permutation_read : (t : Tree) → permutation_tree (permutation t) ≡ t
unfolding permutation
permutation_read t = part_tree 0 t

labels_formed : {n : ℕ} {p : List ℕ} → TreePermutation n p → Labels 0 (suc n) p
labels_formed {p = p} f =
    record {
      between = all_of _ p (λ i l. (f.least i l, omega (arith, f.most i l)));
      differ = pairs_of Differ p f.distinct;
      avoid = triples_of Avoid p f.avoids;
    }

pub permutation_of : (n : ℕ) (p : List ℕ) → TreePermutation n p → (permutation (permutation_tree p) ≡ p) × (size (permutation_tree p) ≡ n)
unfolding permutation permutation_tree
permutation_of n p f =
    let r = restored (length p) 0 (suc n) p (omega arith) (omega (arith, f.entries)) (labels_formed f) in
    (r.0, r.1 ∙ f.entries)

pub permutations_faithful : Faithful permutations
permutations_faithful =
    record {
      write_formed = permutation_formed;
      read_write = permutation_read;
      write_read = λ n p f. (permutation_of n p f).0;
      read_size = λ n p f. (permutation_of n p f).1;
    }
