-- Laws of the loops that count trees of m + 1 nodes by their nodes on the left, j of them at a turn.
--     left_entry, right_entry              the counts of left and of right parts are in the table
--     trees_fit                            the trees with j nodes on the left fit 64 bits
--     fewer_start, fewer_next, fewer_end   the trees with fewer are counted: at the start, after a turn, at the end
--     fewer_fits                           and fit 64 bits
--     left_start, left_first, left_more    the trees with fewer are taken off a number k: none, those with no node on the left, after a turn
--     left_none, left_some                 whether tree k has no node on the left
--     right_whole                          the count of right parts that are the whole rest is in the table
--     left_here, left_last                 what is left is too few for another turn, or there is none: tree k has j nodes on the left
-- Assumes nothing.
use mathlib.Core.Path.{◌≡◌, refl, sym, ap, ◌∙◌}
use mathlib.Core.List.{List}
use Prim.Native.Nat.{ℕ, suc, ◌+◌, ◌-◌, ◌*◌, ◌≤◌, ◌<◌, ◌^◌}
use native.Mathlib.Nat.{le_refl}
use native.Mathlib.Decide.{dec_le}
use native.Mathlib.Numerals.{add-one}
use native.Mathlib.Omega.{arith}
use lib.ListN.{length, get_or}
use mir.Syntax.{w64}
use mir.Val.{Fits}
use Rattle.catalan.specs.Count.{C, largest_size}
use Rattle.catalan.specs.Table.{catalans}
use Rattle.catalan.proofs.Counting.{C_fits}
use Rattle.catalan.proofs.Tables.{table_at_lem, table_long}
use Rattle.shape.specs.Number.{fewer_left, left_nodes}
use Rattle.shape.proofs.NaturalNumbers.{fewer_step, fewer_rises, fewer_none, fewer_all, left_nodes_only}

-- the trees counted are some of the C(m + 1)
fewer_below : (m l : ℕ) → l ≤ suc m → m < largest_size → fewer_left m l < 2 ^ 64
fewer_below m l h small = omega (arith, fewer_rises m h, fewer_all m, C_fits (suc m) (omega arith))

pub fewer_start : (m : ℕ) → 0 ≡ fewer_left m 0
fewer_start m = sym (fewer_none m)

module _ (table : List ℕ) (e : table ≡ catalans) (m l j : ℕ) (on : j < l) (within : l ≤ m) (small : m < largest_size) where
  pub left_entry : j < length table
  left_entry = omega (arith, table_long table e)

  pub right_entry : m - j < length table
  right_entry = omega (arith, table_long table e)

  trees_more : fewer_left m (j + 1) ≡ fewer_left m j + get_or table j 0 * get_or table (m - j) 0
  trees_more = rw (add-one, table_at_lem table j e (omega arith), table_at_lem table (m - j) e (omega arith)) (fewer_step m j)

  pub trees_fit : Fits w64 (get_or table j 0 * get_or table (m - j) 0)
  trees_fit = record { fits = omega (arith, trees_more, fewer_below m (j + 1) (omega arith) small) }

  module _ (fewer : ℕ) (f : fewer ≡ fewer_left m j) where
    pub fewer_next : fewer + get_or table j 0 * get_or table (m - j) 0 ≡ fewer_left m (j + 1)
    fewer_next = omega (arith, trees_more)

    pub fewer_fits : Fits w64 (fewer + get_or table j 0 * get_or table (m - j) 0)
    fewer_fits = record { fits = omega (arith, fewer_next, fewer_below m (j + 1) (omega arith) small) }

pub fewer_end : (m l j fewer : ℕ) → fewer ≡ fewer_left m j → j ≤ l → l ≤ j → fewer ≡ fewer_left m l
fewer_end m l j fewer f h k = let all : j ≡ l = omega arith in f ∙ ap (fewer_left m) all

-- ---- the nodes on the left of tree k

pub left_start : (m k : ℕ) → fewer_left m 0 + k ≡ k
left_start m k = omega (arith, fewer_none m)

module _ (m j rest k : ℕ) (i : fewer_left m j + rest ≡ k) where
  found : j ≤ m → k < fewer_left m (suc j) → j ≡ left_nodes m m k
  found h below = sym (left_nodes_only m k j (record { from = omega arith; to = below }) h)

  pub left_last : (1 ≤ m → j ≤ m) → 1 ≤ m → m ≤ j → k < C (m + 1) → (m ≡ left_nodes m m k) × (fewer_left m m + rest ≡ k)
  left_last within some all below =
      let last : j ≡ m = omega arith in
      let nodes : j ≡ left_nodes m m k = found (omega arith) (rw (last, fewer_all m) (rw add-one at below)) in
      (sym last ∙ nodes, rw last at i)

  module _ (table : List ℕ) (e : table ≡ catalans) (on : j < m) (small : m < largest_size) where
    pub left_here : rest < get_or table j 0 * get_or table (m - j) 0 → j ≡ left_nodes m m k
    left_here h = found (omega arith) (omega (arith, rw add-one at (trees_more table e m m j on (le_refl m) small)))

    pub left_more : get_or table j 0 * get_or table (m - j) 0 ≤ rest
        → fewer_left m (j + 1) + (rest - get_or table j 0 * get_or table (m - j) 0) ≡ k
    left_more h = omega (arith, trees_more table e m m j on (le_refl m) small)

-- ---- none of them

module _ (table : List ℕ) (e : table ≡ catalans) (m : ℕ) (small : m < largest_size) where
  pub right_whole : m < length table
  right_whole = omega (arith, table_long table e)

  with_none : fewer_left m 1 ≡ get_or table m 0
  with_none =
      let one : C 0 ≡ 1 = unfold C in refl in
      let all : m - 0 ≡ m = omega arith in
      let trees : C 0 * C (m - 0) ≡ C m = rw (all, one) (omega arith) in
      fewer_step m 0 ∙ omega (arith, fewer_none m, trees, table_at_lem table m e (omega arith))

  module _ (k : ℕ) where
    pub left_none : k < get_or table m 0 → 0 ≡ left_nodes m m k
    left_none h = found m 0 k k (left_start m k) (omega arith) (omega (arith, with_none))

    module _ (past : get_or table m 0 ≤ k) where
      pub left_first : fewer_left m 1 + (k - get_or table m 0) ≡ k
      left_first = omega (arith, with_none)

      pub left_some : k < C (m + 1) → 1 ≤ m
      left_some below =
          elim (dec_le 1 m) [
            | yes some ↦ some
            | no g ↦ let alone : suc m ≡ 1 = omega arith in
                absurd (omega (arith, rw add-one at below, with_none, fewer_all m, ap (fewer_left m) alone))
          ]

-- what `fewer_left` and `left_nodes` are proved with
pub ruleset counted = (left_entry, right_entry, trees_fit, fewer_start, fewer_fits, fewer_next, fewer_end)

pub ruleset taken_off = (
  le_refl,
  left_entry,
  right_entry,
  right_whole,
  trees_fit,
  left_start,
  left_none,
  left_first,
  left_some,
  left_here,
  left_more,
  left_last,
)
