-- Laws of the work on the number of a part p with the labels after b, cut as `Parts` says.
--     number_small                        with at most one entry it has the number 0
--     number_fits                         its number fits 64 bits
--     Joined table b p fewer left right   its number, put together from the count of the trees with fewer nodes on the left and from the
--                                         parts' numbers; it fits 64 bits, and the count of right parts is in the table
--     joined                              so it is where these three are known
--     right_alone, left_alone             its number where it has no left part, and where it has no right part
--     right_behind                        where it has no left part, what stands behind the root is a part
--     numbered                            these, for `number`
-- Assumes nothing.
use mathlib.Core.Path.{◌≡◌, refl, ◌∙◌}
use mathlib.Core.List.{List}
use Prim.Native.Nat.{ℕ, ◌+◌, ◌-◌, ◌*◌, ◌<◌, ◌^◌}
use native.Mathlib.Omega.{arith}
use lib.ListN.{length, get_or}
use Rattle.catalan.specs.Count.{C, sum}
use Rattle.catalan.specs.Table.{catalans}
use Rattle.catalan.proofs.Counting.{C_fits, C_rises}
use Rattle.catalan.proofs.Tables.{table_at_lem, table_long}
use Rattle.shape.specs.Tree.{size}
use Rattle.shape.specs.Form.{permutation_tree}
use Rattle.shape.specs.Number.{fewer_left, natural_number}
use Rattle.shape.proofs.NaturalNumbers.{natural_number_below}
use Rattle.natural.specs.Parts.{Part}
use Rattle.natural.proofs.Nodes.{right_of, left_long, right_long}
use Rattle.natural.proofs.Parts.{part_size, Rooted, cut, left_tree, right_tree, tree_node, label, sizes, root, left_part, right_part}

pub number_small : {b : ℕ} {p : List ℕ} → Part b p → length p < 2 → 0 ≡ natural_number (permutation_tree p)
number_small {b} {p} h few =
    let one : C 1 ≡ 1 = unfold C in refl in
    let most = C_rises (size (permutation_tree p)) 1 (omega (arith, part_size b p h)) in
    omega (arith, natural_number_below (permutation_tree p))

pub number_fits : {b : ℕ} {p : List ℕ} → Part b p → natural_number (permutation_tree p) < 2 ^ 64
number_fits {b} {p} h =
    let most = C_fits (size (permutation_tree p)) (omega (arith, part_size b p h, h.small)) in
    omega (arith, natural_number_below (permutation_tree p))

pub record Joined (table : List ℕ) (b : ℕ) (p : List ℕ) (fewer left right : ℕ) : Type 0 where
  pub entry : length p - cut b p < length table
  pub whole : fewer + left * get_or table (length p - cut b p) 0 + right ≡ natural_number (permutation_tree p)
  pub small : natural_number (permutation_tree p) < 2 ^ 64

pub joined : {table : List ℕ} {b : ℕ} {p : List ℕ} {fewer left right : ℕ} → table ≡ catalans → Rooted b p
    → fewer ≡ fewer_left (length p - 1) (cut b p - 1) → left ≡ natural_number (left_tree b p) → right ≡ natural_number (right_tree b p)
    → Joined table b p fewer left right
unfolding natural_number
joined {table} {b} {p} filled h f l r =
    let lefts : size (left_tree b p) ≡ cut b p - 1 = omega (arith, label h) in
    let rights : size (right_tree b p) ≡ length p - cut b p = omega (arith, label h, sizes h) in
    let others : cut b p - 1 + (length p - cut b p) ≡ length p - 1 = omega (arith, root h) in
    let count = table_at_lem table (length p - cut b p) filled (omega (arith, root h)) in
    record {
      entry = omega (arith, table_long table filled, root h);
      whole = rw (tree_node h, f, l, r, count, lefts, rights, others) refl;
      small = number_fits h.part;
    }

-- ---- with no node on the left, or none on the right

module _ {b : ℕ} {p : List ℕ} (h : Rooted b p) where
  pub right_alone : {right : ℕ} → cut b p ≡ 1 → right ≡ natural_number (permutation_tree (right_of 1 p)) → right ≡ natural_number (permutation_tree p)
  right_alone {right} first r =
      let none = number_small (left_part h) (omega (arith, left_long (cut b p) p (omega (arith, root h)))) in
      let fewer : 0 ≡ fewer_left (length p - 1) (cut b p - 1) = rw first (unfold fewer_left sum in refl) in
      let behind : right ≡ natural_number (right_tree b p) = rw first r in
      omega (arith, (joined {table = catalans} refl h fewer none behind).whole)

  pub right_behind : cut b p ≡ 1 → Part (get_or p 0 0) (right_of 1 p)
  right_behind first = rw first at (right_part h)

  pub left_alone : {fewer left : ℕ} → cut b p ≡ length p
      → fewer ≡ fewer_left (length p - 1) (cut b p - 1) → left ≡ natural_number (left_tree b p) → fewer + left ≡ natural_number (permutation_tree p)
  left_alone {fewer} {left} last f l =
      let none = number_small (right_part h) (omega (arith, right_long (cut b p) p)) in
      let behind : length p - cut b p ≡ 0 = omega arith in
      let one : get_or catalans (length p - cut b p) 0 ≡ 1 = rw behind (table_at_lem catalans 0 refl (omega arith) ∙ unfold C in refl) in
      omega (arith, rw one at (joined {table = catalans} refl h f l none).whole)

-- what `number` is proved with
pub ruleset numbered = (number_small, number_fits, joined, root, left_part, right_part, right_alone, right_behind, left_alone)
