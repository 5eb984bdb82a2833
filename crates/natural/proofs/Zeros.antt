-- Laws of the loop that writes the pattern of a tree permutation, `pattern_of`: where among the ones the zeros stand.
--     unplaced n e            of the labels up to n, how many have no 0 behind the 1 of the first of e, the last entries of a permutation
--     written n e m           the places from that 1 on, and before them a 0 for each of these labels above m
--     unplaced_tree           with the entries of a tree put before e, its labels have their zeros; those up to b, where its labels begin, have not
--     written_tree            and what that puts before the places is the tree's pattern
--     Writing n q p m k i     of the permutation q, the ones of the entries from k on and the zeros of the labels above m are written, and
--                             they are the places of p from i on
--     writing_begin, writing_end        so it is at the start, and what is written in the end
--     writing_zero, writing_one         so it is after a 0 and after a 1
--     by_due, writing_place             what holds at a 0 and at a 1 holds of the place due, and so it is after a turn
--     writing                 that, and that what a turn reads and writes is there, and that what it reckons fits
-- Assumes nothing.
use mathlib.Core.Path.{◌≡◌, sym, ap, ◌∙◌}
use mathlib.Core.Bool.{Bool, true, false}
use mathlib.Core.List.{List, [], ◌∷◌, ◌++◌, append-nil}
use Prim.Native.Nat.{ℕ, zero, suc, ◌+◌, ◌-◌, ◌*◌, ◌≤◌, ◌<◌, min}
use native.Mathlib.Nat.{le_refl, sub_self, sub-zero}
use native.Mathlib.Decide.{dec_le}
use native.Mathlib.Omega.{arith}
use lib.ListN.{length, get_or, set, drop, replicate, length-set, drop_of_length-le}
use lib.Dec.{ltb}
use mir.Syntax.{w8, w64}
use mir.Val.{Fits, bool_byte}
use borrow.Author.Tests.{le-ltb, lt-ltb}
use Rattle.catalan.specs.Count.{largest_size}
use Rattle.shape.specs.Tree.{Tree, empty, node, size, pattern, permutation_from, permutation}
use Rattle.shape.specs.Form.{TreePermutation, permutation_tree}
use Rattle.shape.proofs.Writing.{from_before, written_before}
use Rattle.shape.proofs.Patterns.{pattern_node}
use Rattle.shape.proofs.Permutations.{permutation_node, permutation_of}

pub due_most : (b : Bool) → bool_byte b ≤ 1
due_most true = omega arith
due_most false = omega arith

pub due_fits : (b : Bool) → Fits w8 (bool_byte b)
due_fits b = record { fits = omega (arith, due_most b) }

module _ (n : ℕ) where
  -- The labels not below an entry have their zeros behind its 1.
  unfoldable pub unplaced : List ℕ → ℕ
  unplaced [] = n
  unplaced (x ∷ e) = min (x - 1) (unplaced e)

  unfoldable pub written : List ℕ → ℕ → List ℕ
  written [] m = replicate (n - m) 0
  written (x ∷ e) m = replicate (unplaced (x ∷ e) - m) 0 ++ 1 ∷ written e (unplaced (x ∷ e))

  unplaced_none : n ≤ unplaced []
  unfolding unplaced
  unplaced_none = le_refl n

  unplaced_most : (e : List ℕ) → unplaced e ≤ n
  unfolding unplaced
  unplaced_most [] = le_refl n
  unplaced_most (x ∷ e) = omega (arith, unplaced_most e)

  written_none : written [] n ≡ []
  unfolding written
  written_none = rw sub_self

  written_zero : (e : List ℕ) (m : ℕ) → m < unplaced e → written e m ≡ 0 ∷ written e (suc m)
  unfolding written unplaced
  written_zero [] m h = let more : n - m ≡ suc (n - suc m) = omega arith in rw more
  written_zero (x ∷ e) m h =
      let u = min (x - 1) (unplaced e) in
      let more : u - m ≡ suc (u - suc m) = omega arith in
      rw more

  written_one : (x : ℕ) (e : List ℕ) (m : ℕ) → min (x - 1) (unplaced e) ≡ m → written (x ∷ e) m ≡ 1 ∷ written e m
  unfolding written unplaced
  written_one x e m h = rw (h, sub_self)

  -- ---- before the entries of a tree, whose labels begin after b

  unplaced_tree : (b : ℕ) (t : Tree) (e : List ℕ) → b + size t ≤ unplaced e → min (b + size t) (unplaced (permutation_from b t ++ e)) ≡ b
  unfolding size unplaced
  unplaced_tree b empty e h = unfold permutation_from in omega arith
  unplaced_tree b (node l r) e h =
      let x = suc (b + size l) in
      let right = unplaced_tree x r e (omega arith) in
      let left = unplaced_tree b l (permutation_from x r ++ e) (omega arith) in
      rw permutation_node (omega arith)

  -- The right part is written first; its labels are those above the root's, x. The entry before it, the last of the left part or x itself,
  -- is not above x, so the 0 of x comes next; then the left part, and with that no label is left but those up to b, so the 1 of x comes.
  written_tree : (b : ℕ) (t : Tree) (e : List ℕ) → b + size t ≤ unplaced e
      → written (permutation_from b t ++ e) b ≡ pattern t ++ written e (b + size t)
  unfolding size
  written_tree b empty e h = unfold pattern permutation_from in ap (written e) (omega arith)
  written_tree b (node l r) e h =
      let x = suc (b + size l) in
      let q = permutation_from x r ++ e in
      let right = unplaced_tree x r e (omega arith) in
      let left = unplaced_tree b l q (omega arith) in
      let last : b + suc (size l + size r) ≡ x + size r = omega arith in
      let between = written_zero q (b + size l) (omega arith) in
      let root = written_one x (permutation_from b l ++ q) b (omega arith) in
      rw (permutation_node, pattern_node, last, root, written_tree b l q (omega arith), between, written_tree x r e (omega arith))

-- ---- the loop

-- Between the 1 of entry k and that of the entry before it the zeros come one at a time: m is between what is unplaced at the two.
pub record Writing (n : ℕ) (q p : List ℕ) (m k i : ℕ) : Type 0 where
  pub long : length p ≡ 2 * n
  pub left : m + k ≡ i
  pub within : k ≤ n
  pub most : m ≤ unplaced n (drop k q)
  pub least : unplaced n (drop (k - 1) q) ≤ m
  pub places : drop i p ≡ written n (drop k q) m

module _ (n : ℕ) (q : List ℕ) (f : TreePermutation n q) where
  module _ (k : ℕ) (low : 0 < k) (within : k ≤ n) where
    from_entry : drop (k - 1) q ≡ get_or q (k - 1) 0 ∷ drop k q
    from_entry = from_before q k low (omega (arith, f.entries))

    unplaced_entry : unplaced n (drop (k - 1) q) ≡ min (get_or q (k - 1) 0 - 1) (unplaced n (drop k q))
    unfolding unplaced
    unplaced_entry = ap (unplaced n) from_entry

  unplaced_before : (k : ℕ) → k ≤ n → unplaced n (drop (k - 1) q) ≤ unplaced n (drop k q)
  unplaced_before zero within = le_refl (unplaced n q)
  unplaced_before (suc k) within = omega (arith, unplaced_entry (suc k) (omega arith) within)

  all_entries : drop n q ≡ []
  all_entries = drop_of_length-le q {i = n} (omega (arith, f.entries))

  nodes : 0 + size (permutation_tree q) ≡ n
  nodes = omega (arith, (permutation_of n q f).1)

  whole : permutation_from 0 (permutation_tree q) ++ [] ≡ q
  unfolding permutation
  whole = append-nil (permutation_from 0 (permutation_tree q)) ∙ (permutation_of n q f).0

  unplaced_all : unplaced n q ≡ 0
  unplaced_all =
      let least = unplaced_tree n 0 (permutation_tree q) [] (rw nodes (unplaced_none n)) in
      omega (arith, rw (whole, nodes) at least, unplaced_most n q)

  written_all : written n q 0 ≡ pattern (permutation_tree q)
  written_all =
      ap (λ (e : List ℕ). written n e 0) (sym whole)
      ∙ written_tree n 0 (permutation_tree q) [] (rw nodes (unplaced_none n))
      ∙ rw (nodes, written_none n, append-nil)

  pub writing_begin : (p : List ℕ) → length p ≡ 2 * n → Writing n q p n n (2 * n)
  writing_begin p long =
      record {
        long = long;
        left = omega arith;
        within = le_refl n;
        most = rw all_entries (unplaced_none n);
        least = unplaced_most n (drop (n - 1) q);
        places = rw (all_entries, written_none) (drop_of_length-le p {i = 2 * n} (omega arith));
      }

  module _ (p : List ℕ) (m k i : ℕ) (w : Writing n q p m k i) where
    pub writing_end : i ≤ 0 → p ≡ pattern (permutation_tree q)
    writing_end h =
        let first : i ≡ 0 = omega arith in
        let no_label : m ≡ 0 = omega (arith, w.left) in
        let no_entry : k ≡ 0 = omega (arith, w.left) in
        rw (first, no_label, no_entry) at w.places ∙ written_all

    module _ (low : 0 < i) where
      pub place_within : i - 1 < length p
      place_within = omega (arith, w.left, w.long, w.within, w.most, unplaced_most n (drop k q))

      -- with all ones written, all zeros are
      pub entry_left : 1 ≤ k
      entry_left =
          elim (dec_le 1 k) [
            | yes h ↦ h
            | no h ↦ let none : k ≡ 0 = omega arith in absurd (omega (arith, w.left, rw none at w.most, unplaced_all))
          ]

      pub entry_within : k - 1 < length q
      entry_within = omega (arith, w.within, entry_left, f.entries)

      pub entry_fits_lem : n ≤ largest_size → Fits w64 (get_or q (k - 1) 0)
      entry_fits_lem small = record { fits = omega (arith, f.most (k - 1) entry_within) }

      place_written : (x : ℕ) → drop (i - 1) (set p (i - 1) x) ≡ x ∷ written n (drop k q) m
      place_written x = written_before p i x low (omega (arith, place_within)) ∙ ap (λ (v : List ℕ). x ∷ v) w.places

      module _ (reached : get_or q (k - 1) 0 ≤ m) where
        label_left : 1 ≤ m
        label_left = omega (arith, f.least (k - 1) entry_within)

        writing_zero : Writing n q (set p (i - 1) 0) (m - 1) k (i - 1)
        writing_zero =
            let next : suc (m - 1) ≡ m = omega (arith, label_left) in
            record {
              long = length-set p (i - 1) 0 ∙ w.long;
              left = omega (arith, w.left, label_left);
              within = w.within;
              most = omega (arith, w.most);
              least = omega (arith, unplaced_entry k entry_left w.within);
              places = place_written 0 ∙ sym (written_zero n (drop k q) (m - 1) (omega (arith, w.most, label_left)) ∙ rw next);
            }

      module _ (above : m < get_or q (k - 1) 0) where
        behind_entry : unplaced n (drop (k - 1) q) ≡ m
        behind_entry = omega (arith, unplaced_entry k entry_left w.within, w.most, w.least)

        writing_one : Writing n q (set p (i - 1) 1) m (k - 1) (i - 1)
        writing_one =
            let same = sym (unplaced_entry k entry_left w.within) ∙ behind_entry in
            record {
              long = length-set p (i - 1) 1 ∙ w.long;
              left = omega (arith, w.left, entry_left);
              within = omega (arith, w.within);
              most = omega (arith, behind_entry);
              least = omega (arith, unplaced_before (k - 1) (omega (arith, w.within)), behind_entry);
              places = place_written 1 ∙ rw (from_entry k entry_left w.within) (sym (written_one n (get_or q (k - 1) 0) (drop k q) m same));
            }

      -- What holds where a 0 is due and where a 1 is holds of the place due. A turn reckons with that place and does not ask which it is.
      by_due : (P : ℕ → Type 0) → (get_or q (k - 1) 0 ≤ m → P 0) → (m < get_or q (k - 1) 0 → P 1) → P (bool_byte (ltb m (get_or q (k - 1) 0)))
      by_due P at_zero at_one =
          elim (dec_le (get_or q (k - 1) 0) m) [
            | yes h ↦ rw (le-ltb m (get_or q (k - 1) 0) h) (at_zero h)
            | no h ↦ let above : m < get_or q (k - 1) 0 = omega arith in rw (lt-ltb m (get_or q (k - 1) 0) above) (at_one above)
          ]

      pub due_left : (b : Bool) → bool_byte b ≤ k
      due_left b = omega (arith, due_most b, entry_left)

      pub label_due : 1 - bool_byte (ltb m (get_or q (k - 1) 0)) ≤ m
      label_due = by_due (λ (x : ℕ). 1 - x ≤ m) label_left (λ h. omega arith)

      abbrev Turned : ℕ → Type 0
      Turned x = Writing n q (set p (i - 1) x) (m - (1 - x)) (k - x) (i - 1)

      pub writing_place : Turned (bool_byte (ltb m (get_or q (k - 1) 0)))
      writing_place = by_due Turned (λ h. rw (sub-zero k) (writing_zero h)) (λ h. rw (sub-zero m) (writing_one h))

-- what `pattern_of` is proved with
pub ruleset writing = (
  place_within,
  entry_left,
  entry_within,
  entry_fits_lem,
  due_most,
  due_fits,
  due_left,
  label_due,
  writing_begin,
  writing_place,
  writing_end,
)
