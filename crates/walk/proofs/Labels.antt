-- What a step along the local order makes of the labels, shown by reading both patterns from the last place to the first.
--     relabelled_kept, relabelled_next, relabelled_above      the three cases of a label
--     rising_length, rising_last, rising_relabelled           labels one after the other: how many, the last of them, and relabelled
--     zero_closing, zero_entries, one_labels                  what a 0 and a 1 make of the labels that wait and of the entries
--     none_closing, none_entries, zeros_closing, greatest_closing, pairs_labels, least_labels      what the words at the end of two neighbours
--                                                             leave of them
--     Alike, alike_zero, alike_one, alike_behind              the same places before two words treat the labels of both alike
--     ends_alike                                              so it is with the ends of two neighbours, where those of the one are relabelled
--     pattern_entries                                         a pattern read to its first place leaves its permutation
--     front_counts                                            how many nodes and labels there are before the block
--     upper_entries                                           the law: the permutation of the upper one of two neighbours, from the lower one's
-- Assumes nothing.
use mathlib.Core.Path.{◌≡◌, refl, sym, ap, ap₂, ◌∙◌, subst₂}
use mathlib.Core.List.{List, [], ◌∷◌, ◌++◌, append_assoc, append-nil, map}
use Prim.Native.Nat.{ℕ, zero, suc, ◌+◌, ◌-◌, ◌≤◌, ◌<◌}
use native.Mathlib.Nat.{add-zero, sub_self}
use native.Mathlib.Omega.{arith}
use lib.ListN.{length, take, replicate, length-append}
use lib.Seq.{take_at}
use borrow.Author.Tests.{le-leb, lt-leb, lt-ltb, le-ltb}
use Rattle.shape.specs.Tree.{size, permutation_from, permutation}
use Rattle.shape.specs.Form.{count, Feasible, forest, pattern_tree}
use Rattle.shape.proofs.Counts.{count_append}
use Rattle.shape.proofs.Patterns.{Word, zero_next, one_next, word_ones, word_zeros, feasible_word, forest_last, pattern_of}
use Rattle.shape.proofs.Neighbours.{pairs, greatest, least, greatest_word, lower, upper, neighbours, word_same}
use Rattle.natural.proofs.Labels.{closing, entries_from, closing_empty, entries_empty, joined_labels}
use Rattle.walk.specs.Labels.{relabelled, rising}

-- ---- the labels one by one

module _ (k m x : ℕ) where
  pub relabelled_kept : x ≤ k → x ≡ relabelled k m x
  unfolding relabelled
  relabelled_kept h = rw (le-leb x k h)

  pub relabelled_next : k < x → x < k + m + 2 → k + 2 ≡ relabelled k m x
  unfolding relabelled
  relabelled_next h l = rw (lt-leb x k h, lt-ltb x (k + m + 2) l)

  pub relabelled_above : k < x → k + m + 2 ≤ x → x - m ≡ relabelled k m x
  unfolding relabelled
  relabelled_above h l = rw (lt-leb x k h, le-ltb x (k + m + 2) l)

pub ruleset cases = (relabelled_kept, relabelled_next, relabelled_above)

rising_length : (b j : ℕ) → length (rising b j) ≡ j
unfolding rising
rising_length b zero = refl
rising_length b (suc j) = ap suc (rising_length (suc b) j)

rising_last : (b j : ℕ) → rising b (suc j) ≡ rising b j ++ suc (b + j) ∷ []
unfolding rising
rising_last b zero = rw add-zero
rising_last b (suc j) =
    let next : b + suc j ≡ suc b + j = omega arith in
    rw next (ap {B = List ℕ} (λ w. suc b ∷ w) (rising_last (suc b) j))

module _ (front : List ℕ) (b : ℕ) where
  pub rising_begin : front ≡ front ++ rising b (b - b)
  unfolding rising
  rising_begin = rw sub_self (sym (append-nil front))

  pub rising_more : (written : List ℕ) (i : ℕ) → written ≡ front ++ rising b (i - b) → b ≤ i
      → written ++ (i + 1) ∷ [] ≡ front ++ rising b (i + 1 - b)
  rising_more written i h on =
      let more : i + 1 - b ≡ suc (i - b) = omega arith in
      let label : suc (b + (i - b)) ≡ i + 1 = omega arith in
      rw (h, append_assoc front (rising b (i - b)) ((i + 1) ∷ []), more, rising_last b (i - b), label) refl

pub ruleset rises = (rising_begin, rising_more)

rising_relabelled : (k m b c j : ℕ) → k + m + 1 ≤ b → b ≡ c + m → map (relabelled k m) (rising b j) ≡ rising c j
unfolding rising
rising_relabelled k m b c zero low h = refl
rising_relabelled k m b c (suc j) low h =
    let label : relabelled k m (suc b) ≡ suc c = omega (arith, relabelled_above k m (suc b) (omega arith) (omega arith)) in
    ap₂ (λ (x : ℕ) (w : List ℕ). x ∷ w) label (rising_relabelled k m (suc b) (suc c) j (omega arith) (omega arith))

-- ---- reading a 0 and a 1

module _ (b : ℕ) (w : List ℕ) where
  zero_closing : closing b (forest (0 ∷ w)) ≡ suc b ∷ closing (suc b) (forest w)
  unfolding forest
  zero_closing = closing_empty b (suc b) refl (forest w)

  zero_entries : entries_from b (forest (0 ∷ w)) ≡ entries_from (suc b) (forest w)
  unfolding forest
  zero_entries = entries_empty b (suc b) refl (forest w)

  one_labels : (x : ℕ) (v : List ℕ) → 1 ≤ length v → closing b (forest w) ≡ x ∷ v
      → (closing b (forest (1 ∷ w)) ≡ v) × (entries_from b (forest (1 ∷ w)) ≡ x ∷ entries_from b (forest w))
  unfolding forest
  one_labels x v some h = let (rest, more) = joined_labels b x v (forest w) some (sym h) in (sym rest, sym more)

-- ---- the greatest word and the least

none_closing : (b : ℕ) → closing b (forest []) ≡ suc b ∷ []
unfolding forest closing size
none_closing b = rw add-zero

none_entries : (b : ℕ) → entries_from b (forest []) ≡ []
unfolding forest entries_from permutation_from
none_entries b = refl

zeros_closing : (b e : ℕ) → closing b (forest (replicate e 0)) ≡ rising b (suc e)
unfolding rising
zeros_closing b zero = none_closing b
zeros_closing b (suc e) = zero_closing b (replicate e 0) ∙ ap {B = List ℕ} (λ w. suc b ∷ w) (zeros_closing (suc b) e)

greatest_closing : (b e a : ℕ) → closing b (forest (greatest e a)) ≡ rising (b + a) (suc e)
unfolding rising
greatest_closing b e zero = rw (add-zero e, add-zero b) (zeros_closing b e)
greatest_closing b e (suc a) =
    let one_more : e + suc a ≡ suc e + a = omega arith in
    let next : b + suc a ≡ suc (b + a) = omega arith in
    rw (one_more, next)
    (one_labels b (greatest (suc e) a) (suc (b + a)) (rising (suc (b + a)) (suc e)) (omega arith) (greatest_closing b (suc e) a)).0

pairs_labels : (b a : ℕ) → (closing b (forest (pairs a)) ≡ suc (b + a) ∷ []) × (entries_from b (forest (pairs a)) ≡ rising b a)
unfolding rising
pairs_labels b zero = rw add-zero (none_closing b, none_entries b)
pairs_labels b (suc a) =
    let (before, labels) = pairs_labels (suc b) a in
    let next : b + suc a ≡ suc b + a = omega arith in
    let given = zero_closing b (pairs a) ∙ ap {B = List ℕ} (λ w. suc b ∷ w) before in
    let (rest, more) = one_labels b (0 ∷ pairs a) (suc b) (suc (suc b + a) ∷ []) (omega arith) given in
    rw next (rest, more ∙ ap {B = List ℕ} (λ w. suc b ∷ w) (zero_entries b (pairs a) ∙ labels))

least_labels : (b e a : ℕ)
    → (closing b (forest (least e a)) ≡ rising b e ++ suc (b + e + a) ∷ []) × (entries_from b (forest (least e a)) ≡ rising (b + e) a)
unfolding rising
least_labels b zero a = rw add-zero (pairs_labels b a)
least_labels b (suc e) a =
    let (given, labels) = least_labels (suc b) e a in
    let next : b + suc e ≡ suc b + e = omega arith in
    rw next (zero_closing b (least e a) ∙ ap {B = List ℕ} (λ w. suc b ∷ w) given, zero_entries b (least e a) ∙ labels)

-- ---- reading the same before both

-- The places p have been read, and the places q: of each, e labels wait beside the last, and k entries stand before `old` and before `new`.
-- Those of q are f of those of p.
record Alike (f : ℕ → ℕ) (b e k : ℕ) (p q old new : List ℕ) : Type 0 where
  pub labels : List ℕ
  pub entries : List ℕ
  pub last : ℕ
  pub last' : ℕ
  pub many : length labels ≡ e
  pub long : length entries ≡ k
  pub waiting : closing b (forest p) ≡ labels ++ last ∷ []
  pub waiting' : closing b (forest q) ≡ map f labels ++ last' ∷ []
  pub read : entries_from b (forest p) ≡ entries ++ old
  pub read' : entries_from b (forest q) ≡ map f entries ++ new

module _ (f : ℕ → ℕ) (old new : List ℕ) where
  alike_zero : (b e k : ℕ) (p q : List ℕ) → f (suc b) ≡ suc b → Alike f (suc b) e k p q old new → Alike f b (suc e) k (0 ∷ p) (0 ∷ q) old new
  alike_zero b e k p q fixed m =
      record {
        labels = suc b ∷ m.labels;
        entries = m.entries;
        last = m.last;
        last' = m.last';
        many = ap suc m.many;
        long = m.long;
        waiting = zero_closing b p ∙ rw m.waiting;
        waiting' = zero_closing b q ∙ rw (fixed, m.waiting');
        read = zero_entries b p ∙ m.read;
        read' = zero_entries b q ∙ m.read';
      }

  alike_one : (b e k : ℕ) (p q : List ℕ) → Alike f b (suc e) k p q old new → Alike f b e (suc k) (1 ∷ p) (1 ∷ q) old new
  alike_one b e k p q m = taken m.labels m.many m.waiting m.waiting'
    where
      behind_one : (v : List ℕ) (x : ℕ) → 1 ≤ length (v ++ x ∷ [])
      behind_one v x = omega (arith, length-append v (x ∷ []))

      taken : (labels : List ℕ) → length labels ≡ suc e → closing b (forest p) ≡ labels ++ m.last ∷ []
          → closing b (forest q) ≡ map f labels ++ m.last' ∷ [] → Alike f b e (suc k) (1 ∷ p) (1 ∷ q) old new
      taken [] many h h' = absurd (omega arith)
      taken (x ∷ v) many h h' =
          let (rest, more) = one_labels b p x (v ++ m.last ∷ []) (behind_one v _) h in
          let (rest', more') = one_labels b q (f x) (map f v ++ m.last' ∷ []) (behind_one (map f v) _) h' in
          record {
            labels = v;
            entries = x ∷ m.entries;
            last = m.last;
            last' = m.last';
            many = omega arith;
            long = ap suc m.long;
            waiting = rest;
            waiting' = rest';
            read = more ∙ rw m.read;
            read' = more' ∙ rw m.read';
          }

  alike_behind : (z c d : ℕ) (v w : List ℕ) → ((x : ℕ) → x ≤ z → f x ≡ x) → Word c d v → Alike f z c 0 v w old new
      → (u : List ℕ) {e a : ℕ} → Word e a (u ++ v) → (b : ℕ) → b + count 0 u ≡ z → Alike f b e (count 1 u) (u ++ v) (u ++ w) old new
  unfolding count
  alike_behind z c d v w fixed r m [] s b h =
      let here : b ≡ z = omega arith in
      subst₂ (λ (b e : ℕ). Alike f b e 0 v w old new) (sym here) (word_same r s).0 m
  alike_behind z c d v w fixed r m (x ∷ u) (zero_next {e} s) b h =
      alike_zero b e (count 1 u) (u ++ v) (u ++ w) (fixed (suc b) (omega arith)) (alike_behind z c d v w fixed r m u s (suc b) (omega arith))
  alike_behind z c d v w fixed r m (x ∷ u) (one_next {e} s) b h =
      alike_one b e (count 1 u) (u ++ v) (u ++ w) (alike_behind z c d v w fixed r m u s b h)

-- ---- two neighbours

module _ (z e a : ℕ) where
  ends_alike : Alike (relabelled z a) z (suc e) 0 (0 ∷ greatest e (suc a)) (1 ∷ least (suc (suc e)) a)
      (entries_from z (forest (0 ∷ greatest e (suc a)))) (suc z ∷ rising (z + suc (suc e)) a)
  unfolding rising
  ends_alike =
      let (given, entries) = least_labels z (suc (suc e)) a in
      let last = suc (z + suc (suc e) + a) in
      let (rest, more) = one_labels z (least (suc (suc e)) a) (suc z) (rising (suc z) (suc e) ++ last ∷ []) (omega arith) given in
      let next : relabelled z a (suc z) ≡ suc (suc z) = omega (arith, relabelled_next z a (suc z) (omega arith) (omega arith)) in
      let above = rising_relabelled z a (suc z + suc a) (suc (suc z)) e (omega arith) (omega arith) in
      record {
        labels = suc z ∷ rising (suc z + suc a) e;
        entries = [];
        last = suc (suc z + suc a + e);
        last' = last;
        many = ap suc (rising_length (suc z + suc a) e);
        long = refl;
        waiting =
            zero_closing z (greatest e (suc a))
            ∙ ap {B = List ℕ} (λ w. suc z ∷ w) (greatest_closing (suc z) e (suc a) ∙ rising_last (suc z + suc a) e);
        waiting' = rest ∙ rw (next, above);
        read = refl;
        read' = more ∙ ap {B = List ℕ} (λ w. suc z ∷ w) entries;
      }

-- a pattern's places leave the permutation of its tree
pattern_entries : (n : ℕ) (p : List ℕ) → Feasible n p → permutation (pattern_tree p) ≡ entries_from 0 (forest p)
unfolding permutation entries_from
pattern_entries n p g =
    let one : forest p ≡ pattern_tree p ∷ [] = ap forest (sym (pattern_of n p g).0) ∙ forest_last (pattern_tree p) in
    rw (one, append-nil)

module _ (n : ℕ) (u : List ℕ) (e a : ℕ) (g : Feasible n (lower u e a)) where
  pub front_counts : (n ≡ count 1 u + suc a) × (n ≡ count 0 u + (suc e + suc a))
  front_counts =
      let r = zero_next (greatest_word e (suc a)) in
      let ones = count_append 1 u (0 ∷ greatest e (suc a)) in
      let zeros = count_append 0 u (0 ∷ greatest e (suc a)) in
      (omega (arith, g.ones, ones, word_ones r), omega (arith, g.zeros, zeros, word_zeros r))

  pub upper_entries : (z f : ℕ) → z ≡ count 0 u → f ≡ count 1 u
      → permutation (pattern_tree (upper u e a))
      ≡ map (relabelled z a) (take f (permutation (pattern_tree (lower u e a)))) ++ suc z ∷ rising (suc f) a
  upper_entries z f hz hf =
      let m = alike_behind (relabelled z a) _ _ z (suc e) (suc a) _ _ (λ x h. sym (relabelled_kept z a x h))
      (zero_next (greatest_word e (suc a))) (ends_alike z e a) u (feasible_word g) 0 (omega arith) in
      let new = pattern_entries n (upper u e a) (neighbours u e a n g).formed' ∙ m.read' in
      let old = pattern_entries n (lower u e a) g ∙ m.read in
      let front = ap (take f) old ∙ take_at m.entries _ f (m.long ∙ sym hf) in
      let behind : z + suc (suc e) ≡ suc f = omega (arith, front_counts) in
      rw (front, ← behind) new
