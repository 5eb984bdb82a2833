-- Laws of the loop that writes the tree permutation of a pattern, `permutation_of`: which labels the zeros read so far have been given. The
-- places read complete trees one after the other (`forest`), and the 0 that closes each tree has the label after the tree's own.
--     closing b ts         the labels of the zeros that close the trees ts, where the labels begin after b
--     entries_from b ts    the entries of the trees, one tree after the other
--     closing_empty, entries_empty, joined_labels      what a 0 and a 1 before the places read make of both
--     stacked q w r        the first w entries of q, the last of them first, and then r
--     Labelling n p q w k v      of the pattern p all places but the first, v, are read: their trees' entries stand in q from k on, and the
--                                labels of their zeros wait at the front, w of them. The last tree's 0 is dropped; its label would be n + 1
--     labelling_begin, labelling_end      so it is at the start, and what it is at the end
--     labelling_zero, labelling_one       so it is after a 0 and after a 1
--     by_place, labelling_place           what holds at a 0 and at a 1 holds of the place, and so it is after a turn
--     labelling            that, and that what a turn reads and writes is there, and that what it reckons fits
-- Assumes nothing.
use mathlib.Core.Path.{◌≡◌, refl, sym, ap, ◌∙◌, subst}
use mathlib.Core.List.{List, [], ◌∷◌, ◌++◌, append_assoc, append-nil, reverse_aux, reverse_aux-append}
use Prim.Native.Nat.{ℕ, suc, ◌+◌, ◌-◌, ◌*◌, ◌≤◌, ◌<◌}
use native.Mathlib.Nat.{le_refl, add-zero, sub-zero, sub_self, mul-le-mul_right}
use native.Mathlib.Decide.{dec_le}
use native.Mathlib.Numerals.{add-one}
use native.Mathlib.Omega.{arith}
use lib.ListN.{length, get_or, set, take, drop, length-append, length-set, drop_of_length-le, length-reverse_aux}
use lib.Seq.{take-suc, take-set-le, drop-set-lt, drop-length, drop-append_seam, drop-cons, get_or-set_same}
use mir.Syntax.{w16, w64}
use mir.Val.{Fits}
use mir.Facts.{Fits-widen}
use Rattle.catalan.specs.Count.{largest_size}
use Rattle.shape.specs.Tree.{Tree, empty, node, size, permutation_from, permutation}
use Rattle.shape.specs.Form.{count, Feasible, forest, joined, pattern_tree}
use Rattle.shape.proofs.Writing.{written_before}
use Rattle.shape.proofs.Counts.{count_split}
use Rattle.shape.proofs.Patterns.{Word, done, zero_next, one_next, word_ones, word_zeros, feasible_word, forest_last, pattern_of}
use Rattle.shape.proofs.Permutations.{permutation_node}
use Rattle.shape.proofs.Neighbours.{word_same}

-- ---- the labels of trees one after the other

unfoldable pub closing : ℕ → List Tree → List ℕ
closing b [] = []
closing b (t ∷ ts) = suc (b + size t) ∷ closing (suc (b + size t)) ts

unfoldable pub entries_from : ℕ → List Tree → List ℕ
entries_from b [] = []
entries_from b (t ∷ ts) = permutation_from b t ++ entries_from (suc (b + size t)) ts

module _ (b c : ℕ) (next : suc b ≡ c) (ts : List Tree) where
  pub closing_empty : closing b (empty ∷ ts) ≡ c ∷ closing c ts
  unfolding closing size
  closing_empty = rw (add-zero, next)

  pub entries_empty : entries_from b (empty ∷ ts) ≡ entries_from c ts
  unfolding entries_from permutation_from size
  entries_empty = rw (add-zero, next)

-- the 0 that closes a node closes its right part, and the one that closes its left part has its label
module _ (b : ℕ) (l r : Tree) (ts : List Tree) where
  right_last : suc (b + size (node l r)) ≡ suc (suc (b + size l) + size r)
  unfolding size
  right_last = omega arith

  closing_node : closing b (l ∷ r ∷ ts) ≡ suc (b + size l) ∷ closing b (node l r ∷ ts)
  unfolding closing
  closing_node = rw right_last

  entries_node : entries_from b (node l r ∷ ts) ≡ suc (b + size l) ∷ entries_from b (l ∷ r ∷ ts)
  unfolding entries_from
  entries_node = permutation_node b l r _ ∙ rw right_last

pub joined_labels : (b x : ℕ) (v : List ℕ) (ts : List Tree) → 1 ≤ length v → x ∷ v ≡ closing b ts
    → (v ≡ closing b (joined ts)) × (x ∷ entries_from b ts ≡ entries_from b (joined ts))
joined_labels b x v [] some h = absurd (unfold closing in omega (arith, ap length h))
joined_labels b x v (t ∷ []) some h = absurd (unfold closing in omega (arith, ap length h))
joined_labels b x v (l ∷ r ∷ ts) some h =
    let both = h ∙ closing_node b l r ts in
    let label : x ≡ suc (b + size l) = cc both in
    (cc both, rw (label, entries_node))

-- ---- the labels that wait

abbrev pub stacked : List ℕ → ℕ → List ℕ → List ℕ
stacked q w r = reverse_aux (take w q) r

top : (q : List ℕ) (w : ℕ) (r : List ℕ) → w < length q → stacked q (suc w) r ≡ get_or q w 0 ∷ stacked q w r
top q w r h = rw (take-suc q w 0 h) (reverse_aux-append (take w q) (get_or q w 0 ∷ []) r)

pushed : (q : List ℕ) (w x : ℕ) (r : List ℕ) → w < length q → stacked (set q w x) (w + 1) r ≡ x ∷ stacked q w r
pushed q w x r h = rw (add-one, top (set q w x) w r (rw length-set h), get_or-set_same q w x 0 h, take-set-le w q w x (le_refl w))

popped : (q : List ℕ) (w : ℕ) (r : List ℕ) → 1 ≤ w → w ≤ length q → get_or q (w - 1) 0 ∷ stacked q (w - 1) r ≡ stacked q w r
popped q w r low h =
    let next : suc (w - 1) ≡ w = omega arith in
    sym (top q (w - 1) r (omega arith)) ∙ rw next

-- ---- the loop

pub record Labelling (n : ℕ) (p q : List ℕ) (w k : ℕ) (v : List ℕ) : Type 0 where
  pub long : length q ≡ n
  pub left : v ++ drop (length v) p ≡ p
  pub within : k ≤ n
  pub word : Word w (n - k) (drop (length v) p)
  pub waiting : stacked q w (suc n ∷ []) ≡ closing (k - w) (forest (drop (length v) p))
  pub entries : drop k q ≡ entries_from (k - w) (forest (drop (length v) p))

pub labelling_begin : (n : ℕ) (p q : List ℕ) → length q ≡ n → Labelling n p q 0 n p
labelling_begin n p q long =
    let none : drop (length p) p ≡ [] = drop-length p in
    record {
      long = long;
      left = rw none (append-nil p);
      within = le_refl n;
      word = rw (none, sub_self) done;
      waiting = rw (none, sub-zero) (unfold forest closing size in rw add-zero);
      entries = rw (none, drop_of_length-le q {i = n} (omega arith)) (unfold forest entries_from permutation_from in refl);
    }

module _ {n : ℕ} {p : List ℕ} (g : Feasible n p) (i : ℕ) where
  zeros_within : {e a : ℕ} → Word e a (drop i p) → e + a ≤ n
  zeros_within r = omega (arith, word_zeros r, count_split 0 i p, g.zeros)

  zeros_behind : count 1 (drop i p) ≤ count 0 (drop i p)
  zeros_behind = omega (arith, g.prefix i, g.zeros, g.ones, count_split 0 i p, count_split 1 i p)

module _ (n : ℕ) (p : List ℕ) (g : Feasible n p) (q : List ℕ) (w k : ℕ) (v : List ℕ) (m : Labelling n p q w k v) where
  pub labelling_end : length v ≡ 0 → q ≡ permutation (pattern_tree p)
  unfolding permutation entries_from
  labelling_end first =
      let (no_label, all) = word_same (rw first at m.word) (feasible_word g) in
      let no_entry : k ≡ 0 = omega (arith, m.within) in
      let one : forest p ≡ pattern_tree p ∷ [] = ap forest (sym (pattern_of n p g).0) ∙ forest_last (pattern_tree p) in
      rw (no_entry, no_label, first, one, append-nil) at m.entries

  waiting_within : w ≤ k
  waiting_within = omega (arith, zeros_within g (length v) m.word, m.within)

  pub waiting_fits : n ≤ largest_size → (x y : ℕ) → Fits w64 (w - x + (1 - y))
  waiting_fits small x y = record { fits = omega (arith, waiting_within, m.within) }

  pub within_fits : n ≤ largest_size → (x y : ℕ) → x + y < length q → Fits w64 (x + y)
  within_fits small x y h = record { fits = omega (arith, m.long) }

  pub index_fits : n ≤ largest_size → (x : ℕ) → x < length q → Fits w64 (x * 2)
  index_fits small x h = record { fits = omega (arith, m.long) }

  -- y is the last place of those that are not read, and u are the others
  module _ (u : List ℕ) (y : ℕ) (next : v ≡ u ++ y ∷ []) where
    whole : u ++ y ∷ drop (length v) p ≡ p
    whole = sym (append_assoc u (y ∷ []) (drop (length v) p)) ∙ rw (← next) m.left

    here : drop (length u) p ≡ y ∷ drop (length v) p
    here = ap (drop (length u)) (sym whole) ∙ drop-append_seam u (y ∷ drop (length v) p)

    left_more : u ++ drop (length u) p ≡ p
    left_more = rw here whole

    pub place_most : y ≤ 1
    place_most =
        let on : length u < length p = omega (arith, ap length whole, length-append u (y ∷ drop (length v) p)) in
        let at : get_or p (length u) 0 ≡ y = cc (drop-cons p (length u) 0 on, here) in
        omega (arith, g.places (length u) on)

    -- a 0 gives the largest label not yet given
    module _ (z : y ≡ 0) where
      here_zero : drop (length u) p ≡ 0 ∷ drop (length v) p
      here_zero = here ∙ rw z

      word_zero : Word (suc w) (n - k) (drop (length u) p)
      word_zero = rw here_zero (zero_next m.word)

      trees_zero : forest (drop (length u) p) ≡ empty ∷ forest (drop (length v) p)
      unfolding forest
      trees_zero = rw here_zero

      label_left : w < k
      label_left = omega (arith, zeros_within g (length u) word_zero, m.within)

      label_room : w < length q
      label_room = omega (arith, label_left, m.within, m.long)

      labelling_zero : Labelling n p (set q w (k - w)) (w + 1) k u
      labelling_zero =
          let x = k - w in
          let after : suc (k - (w + 1)) ≡ x = omega (arith, label_left) in
          let ts = forest (drop (length v) p) in
          record {
            long = length-set q w x ∙ m.long;
            left = left_more;
            within = m.within;
            word = rw add-one word_zero;
            waiting = pushed q w x (suc n ∷ []) label_room ∙ rw (m.waiting, trees_zero, closing_empty (k - (w + 1)) x after ts);
            entries = drop-set-lt k q w x label_left ∙ rw (m.entries, trees_zero, entries_empty (k - (w + 1)) x after ts);
          }

    -- a 1 takes the label given last
    module _ (o : y ≡ 0 → ⊥) where
      here_one : drop (length u) p ≡ 1 ∷ drop (length v) p
      here_one =
          let one : y ≡ 1 = omega (arith, place_most) in
          here ∙ rw one

      trees_one : forest (drop (length u) p) ≡ joined (forest (drop (length v) p))
      unfolding forest
      trees_one = rw here_one

      label_waits : 1 ≤ w
      unfolding count
      label_waits = omega (arith, rw here_one at (zeros_behind g (length u)), word_zeros m.word, word_ones m.word)

      word_one : Word (w - 1) (suc (n - k)) (drop (length u) p)
      word_one =
          let some : w ≡ suc (w - 1) = omega (arith, label_waits) in
          rw here_one (one_next (subst (λ (e : ℕ). Word e (n - k) (drop (length v) p)) some m.word))

      entry_left : 1 ≤ k
      entry_left = omega (arith, waiting_within, label_waits)

      waiting_room : w - 1 < length q
      waiting_room = omega (arith, waiting_within, entry_left, m.within, m.long)

      entry_room : k - 1 < length q
      entry_room = omega (arith, entry_left, m.within, m.long)

      labels_one : (x : ℕ) (s : List ℕ) → x ∷ s ≡ closing (k - w) (forest (drop (length v) p)) → 1 ≤ length s
          → (s ≡ closing (k - 1 - (w - 1)) (forest (drop (length u) p))) × (x ∷ drop k q ≡ entries_from (k - 1 - (w - 1)) (forest (drop (length u) p)))
      labels_one x s h some =
          let base : k - 1 - (w - 1) ≡ k - w = omega (arith, label_waits) in
          rw (trees_one, base, m.entries) (joined_labels (k - w) x s (forest (drop (length v) p)) some h)

      labelling_one : Labelling n p (set q (k - 1) (get_or q (w - 1) 0)) (w - 1) (k - 1) u
      labelling_one =
          let x = get_or q (w - 1) 0 in
          let taken = popped q w (suc n ∷ []) label_waits (omega (arith, waiting_room)) ∙ m.waiting in
          let last = length-reverse_aux (take (w - 1) q) (suc n ∷ []) in
          let (rest, more) = labels_one x (stacked q (w - 1) (suc n ∷ [])) taken (omega (arith, last)) in
          record {
            long = length-set q (k - 1) x ∙ m.long;
            left = left_more;
            within = omega (arith, m.within);
            word = subst (λ (a : ℕ). Word (w - 1) a (drop (length u) p)) (omega (arith, entry_left, m.within)) word_one;
            waiting = rw (take-set-le (w - 1) q (k - 1) x (omega (arith, waiting_within))) rest;
            entries = written_before q k x entry_left (omega (arith, entry_room)) ∙ more;
          }

    -- What holds at a 0 and at a 1 holds of the place. A turn reckons with the place and does not ask which it is.
    by_place : (P : ℕ → Type 0) → (y ≡ 0 → P 0) → ((y ≡ 0 → ⊥) → P 1) → P y
    by_place P at_zero at_one =
        elim (dec_le 1 y) [
          | yes h ↦
              let one : y ≡ 1 = omega (arith, place_most) in
              rw one (at_one (λ z. omega arith))
          | no h ↦ let none : y ≡ 0 = omega arith in rw none (at_zero none)
        ]

    pub other_most : (x : ℕ) → 1 - x ≤ 1
    other_most x = omega arith

    pub place_fits_lem : Fits w64 y
    place_fits_lem = record { fits = omega (arith, place_most) }

    pub place_waits : y ≤ w
    place_waits = by_place (λ (x : ℕ). x ≤ w) (λ z. omega arith) label_waits

    pub place_left : y ≤ k
    place_left = omega (arith, place_waits, waiting_within)

    pub taken_room : w - y < length q
    taken_room = by_place (λ (x : ℕ). w - x < length q) (λ z. omega (arith, label_room z)) waiting_room

    pub gap_left : w - y ≤ k - y
    gap_left = omega (arith, place_waits, waiting_within)

    -- where and what a turn writes at the place x
    abbrev where_written : ℕ → ℕ
    where_written x = w - x + x * (k - x - (w - x))

    abbrev what_written : ℕ → ℕ
    what_written x = x * get_or q (w - x) 0 + (1 - x) * (k - x - (w - x))

    pub gap_fits : n ≤ largest_size → (x y : ℕ) → x ≤ 1 → Fits w64 (x * (k - y - (w - y)))
    gap_fits small x y h = record { fits = omega (arith, mul-le-mul_right (k - y - (w - y)) h, m.within) }

    -- a label that waits is a number of 16 bits, as all that stand in the slice
    module _ (short : (x : ℕ) → Fits w16 (get_or q x 0)) where
      pub label_widens : (x : ℕ) → Fits w64 (get_or q x 0)
      label_widens x = Fits-widen tt (short x)

      pub taken_fits : (x y : ℕ) → x ≤ 1 → Fits w64 (x * get_or q y 0)
      taken_fits x y h = record { fits = omega (arith, mul-le-mul_right (get_or q y 0) h, (short y).fits) }

    pub written_fits : n ≤ largest_size → Fits w16 (get_or q (w - y) 0) → Fits w16 (what_written y)
    written_fits small short =
        by_place
        (λ (x : ℕ). Fits w16 (get_or q (w - x) 0) → Fits w16 (what_written x))
        (λ z h. record { fits = omega (arith, m.within) })
        (λ o h. record { fits = omega (arith, h.fits) })
        short

    pub written_widens : n ≤ largest_size → Fits w16 (get_or q (w - y) 0) → Fits w64 (what_written y)
    written_widens small short = Fits-widen tt (written_fits small short)

    last_room : where_written y < length q
    last_room =
        by_place
        (λ (x : ℕ). where_written x < length q)
        (λ z. omega (arith, label_room z))
        (λ o. omega (arith, entry_room o, waiting_within, label_waits o))

    pub write_room
        : (x : ℕ) → x ≤ y → w - y + x * (k - y - (w - y)) < length q
    write_room x h = omega (arith, mul-le-mul_right (k - y - (w - y)) h, last_room)

    abbrev Turned : ℕ → Type 0
    Turned x = Labelling n p (set q (where_written x) (what_written x)) (w - x + (1 - x)) (k - x) u

    pub labelling_place : Turned y
    labelling_place =
        by_place
        Turned
        (λ z.
        let at : where_written 0 ≡ w = omega arith in
        let label : what_written 0 ≡ k - w = omega arith in
        rw (at, label, sub-zero w, sub-zero k) (labelling_zero z))
        (λ o.
        let at : where_written 1 ≡ k - 1 = omega (arith, waiting_within, label_waits o) in
        let label : what_written 1 ≡ get_or q (w - 1) 0 = omega arith in
        rw (at, label, add-zero) (labelling_one o))

-- what `permutation_of` is proved with
pub ruleset labelling = (
  le_refl,
  waiting_fits,
  within_fits,
  index_fits,
  place_most,
  other_most,
  place_fits_lem,
  place_waits,
  place_left,
  taken_room,
  gap_left,
  gap_fits,
  label_widens,
  taken_fits,
  written_fits,
  written_widens,
  write_room,
  labelling_begin,
  labelling_place,
  labelling_end,
)
