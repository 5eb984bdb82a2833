-- Laws of the loop that writes the tree permutation with a number, entry by entry. A part of c entries has a number k and the labels after b;
-- its root is written at its front and leaves the rest to the left part, of l nodes, and to the right part, which waits at the entry where
-- it begins.
--     part_of b c k                     what is to be written for a part
--     rights_of table c l               how many right parts there are, by the table
--     Split table c k l rest            the tree has l nodes on the left, and `rest` is its number among the trees with as many there:
--                                       how `rest` numbers the two parts
--     split                             so it is once `left_nodes` has answered
--     Waiting n parts j w               the parts that wait, one after the other from entry j on to entry n, make w
--     Shaping q p parts i u             the entries before i, the part u, and those that wait make q
--     shaping_none                      so it is before an entry is written
--     Next q p parts i u, next          and with the part that waits at entry i, where the one before it is written: u has an entry
--     shaping_right, shaping_left, shaping_both      and with one root more: with no left part, with no right part, and with both or neither
--     shaping_all                       with every entry written, they are q
--     count_some, count_within, number_within        what is asked for the left part's size
--     left_within, left_cast, root_low, root_fits, root_cast      the left part's size, and the root's label
--     right_entry, rights_some, right_cast, right_on, right_held  the right part's count, and the entry where it waits
--     others_entry, next_fits, next_cast      with no left part: the right part's count, and the root's label
--     shaped                            these, for `shape`
-- Assumes nothing.
use mathlib.Core.Logic.{◌≢◌}
use mathlib.Core.Path.{◌≡◌, refl, sym, ap, ◌∙◌}
use mathlib.Core.List.{List, [], ◌∷◌, ◌++◌, append-nil, append_assoc}
use Prim.Native.Nat.{ℕ, suc, ◌+◌, ◌-◌, ◌/◌, ◌%◌, ◌≤◌, ◌<◌}
use native.Mathlib.Nat.{mod-eq_of_lt, div-lt_iff_lt-mul, div-one}
use native.Mathlib.Decide.{dec_le}
use native.Mathlib.Omega.{arith}
use mir.Syntax.{w16, w32}
use mir.Val.{Fits}
use lib.ListN.{length, get_or, set, take, length-set}
use lib.Seq.{take_all, get_or-set_same, get_or-set_other}
use Rattle.catalan.specs.Count.{C, largest_size}
use Rattle.catalan.specs.Table.{catalans}
use Rattle.catalan.proofs.Counting.{C_positive}
use Rattle.catalan.proofs.Tables.{table_at_lem, table_long}
use Rattle.shape.specs.Tree.{node, size, permutation_from}
use Rattle.shape.specs.Number.{fewer_left, left_nodes, numbered_tree, natural_tree}
use Rattle.natural.specs.declared.Unwritten.{Unwritten}
use Rattle.natural.proofs.Counts.{left_start, left_none}
use Rattle.shape.proofs.Writing.{written_next}
use Rattle.shape.proofs.NaturalNumbers.{HasLeft, left_nodes_lem, fewer_all, left_below, right_below, natural_tree_size, natural_tree_node}

abbrev pub part_of : ℕ → ℕ → ℕ → List ℕ
part_of b c k = permutation_from b (natural_tree c k)

part_none : (b c k : ℕ) → c ≡ 0 → part_of b c k ≡ []
unfolding natural_tree numbered_tree permutation_from
part_none b c k none = rw none refl

-- ---- how a number is split

abbrev pub rights_of : List ℕ → ℕ → ℕ → ℕ
rights_of table c l = get_or table (c - 1 - l) 0

pub record Split (table : List ℕ) (c k l rest : ℕ) : Type 0 where
  pub filled : table ≡ catalans
  pub within : l < c
  pub entry : c - 1 - l < length table
  pub some : 0 < rights_of table c l
  pub left_number : rest / rights_of table c l < C l
  pub right_number : rest % rights_of table c l < C (c - 1 - l)
  pub tree : natural_tree c k ≡ node (natural_tree l (rest / rights_of table c l)) (natural_tree (c - 1 - l) (rest % rights_of table c l))

pub split : (table : List ℕ) (c k l rest : ℕ) → table ≡ catalans → c ≤ largest_size → k < C c → (c ≡ 0 → ⊥)
    → l ≡ left_nodes (c - 1) (c - 1) k → fewer_left (c - 1) l + rest ≡ k → Split table c k l rest
split table c k l rest filled small below some nodes after_fewer =
    let m = c - 1 in
    let whole : suc m ≡ c = omega arith in
    let found : HasLeft m k l × (l ≤ m) = rw nodes (left_nodes_lem m m k (rw (fewer_all, whole) below)) in
    let left_over : k - fewer_left m l ≡ rest = omega arith in
    let rights = table_at_lem table (m - l) filled (omega arith) in
    record {
      filled = filled;
      within = omega (arith, found.1);
      entry = omega (arith, table_long table filled);
      some = rw rights (C_positive (m - l));
      left_number = rw (rights, ← left_over) (left_below m k l found.0 found.1);
      right_number = rw (rights, ← left_over) (right_below m k l found.0 found.1);
      tree = rw (rights, ← left_over) (rw whole at (natural_tree_node m k l found.0 found.1));
    }

module _ {table : List ℕ} {c k l rest : ℕ} (s : Split table c k l rest) where
  left_empty : l ≡ 0 → rest % rights_of table c l ≡ rest
  left_empty none =
      let one : C 0 ≡ 1 = unfold C in refl in
      let low : rest / rights_of table c l ≡ 0 = omega (arith, s.left_number, ap C none) in
      mod-eq_of_lt (omega (arith, (div-lt_iff_lt-mul {x = rest} {y = 1} s.some).0 (omega arith)))

  right_empty : c - 1 - l ≡ 0 → rest / rights_of table c l ≡ rest
  right_empty none =
      let one : rights_of table c l ≡ 1 = rw none (table_at_lem table 0 s.filled (omega arith) ∙ unfold C in refl) in
      rw one (div-one rest)

  -- x is the root's label
  part_split : (b x : ℕ) → x ≡ b + l + 1
      → part_of b c k ≡ x ∷ (part_of b l (rest / rights_of table c l) ++ part_of x (c - 1 - l) (rest % rights_of table c l))
  unfolding permutation_from
  part_split b x label =
      let nodes = natural_tree_size l _ s.left_number in
      let root : suc (b + size (natural_tree l (rest / rights_of table c l))) ≡ x = omega (arith, nodes) in
      ap (permutation_from b) s.tree ∙ rw root refl

-- ---- the parts that wait

abbrev pub at : List Unwritten → ℕ → Unwritten
at parts j = get_or parts j (record { base = 0; count = 0; number = 0 })

pub data Waiting (n : ℕ) (parts : List Unwritten) : ℕ → List ℕ → Type 0 where
  ended : {j : ℕ} {w : List ℕ} → j ≡ n → w ≡ [] → Waiting n parts j w
  follows : {j : ℕ} {v w : List ℕ} → 0 < (at parts j).count → (at parts j).base + (at parts j).count ≤ largest_size
      → (at parts j).number < C (at parts j).count → j + (at parts j).count ≤ n → Waiting n parts (j + (at parts j).count) v
      → w ≡ part_of (at parts j).base (at parts j).count (at parts j).number ++ v → Waiting n parts j w

-- a part that is put before entry j leaves those that wait from there on
module _ (n : ℕ) (parts : List Unwritten) (i : ℕ) (u : Unwritten) where
  waiting_behind : {j : ℕ} {w : List ℕ} → i < j → Waiting n parts j w → Waiting n (set parts i u) j w
  waiting_behind before (ended end empty) = ended end empty
  waiting_behind {j} {w} before (follows {v = v} some small below within after made) =
      let same : at (set parts i u) j ≡ at parts j = get_or-set_other parts i j u (record { base = 0; count = 0; number = 0 }) (λ e. absurd (omega arith)) in
      follows {j = j} {v = v} {w = w} (rw same some) (rw same small) (rw same below) (rw same within)
      (rw same (waiting_behind (omega arith) after)) (rw same made)

-- ---- the entries written

pub record Shaping (q p : List ℕ) (parts : List Unwritten) (i : ℕ) (u : Unwritten) : Type 0 where
  pub places : length p ≤ largest_size
  pub parts_long : length parts ≡ 35
  pub within : i + u.count ≤ length p
  pub small : u.base + u.count ≤ largest_size
  pub below : u.number < C u.count
  pub rest : List ℕ
  pub waiting : Waiting (length p) parts (i + u.count) rest
  pub entries : take i p ++ (part_of u.base u.count u.number ++ rest) ≡ q

pub shaping_none : (p : List ℕ) (parts : List Unwritten) (k : ℕ) → length p ≤ largest_size → length parts ≡ 35 → k < C (length p)
    → Shaping (permutation_from 0 (natural_tree (length p) k)) p parts 0 (record { base = 0; count = length p; number = k })
shaping_none p parts k places parts_long below =
    record {
      places = places;
      parts_long = parts_long;
      within = omega arith;
      small = omega arith;
      below = below;
      rest = [];
      waiting = ended {j = 0 + length p} (omega arith) refl;
      entries = append-nil (part_of 0 (length p) k);
    }

-- the first of the parts that wait, which begins at entry j
record First (n : ℕ) (parts : List Unwritten) (j : ℕ) (w : List ℕ) : Type 0 where
  some : 0 < (at parts j).count
  small : (at parts j).base + (at parts j).count ≤ largest_size
  below : (at parts j).number < C (at parts j).count
  within : j + (at parts j).count ≤ n
  rest : List ℕ
  waiting : Waiting n parts (j + (at parts j).count) rest
  made : w ≡ part_of (at parts j).base (at parts j).count (at parts j).number ++ rest

first : {n : ℕ} {parts : List Unwritten} {j : ℕ} {w : List ℕ} → Waiting n parts j w → j < n → First n parts j w
first (ended end empty) on = absurd (omega arith)
first (follows {v = v} some small below within after made) on =
    record { some = some; small = small; below = below; within = within; rest = v; waiting = after; made = made }

no_more : {n : ℕ} {parts : List Unwritten} {j : ℕ} {w : List ℕ} → Waiting n parts j w → n ≤ j → w ≡ []
no_more (ended end empty) past = empty
no_more (follows some small below within after made) past = absurd (omega arith)

pub record Next (q p : List ℕ) (parts : List Unwritten) (i : ℕ) (u : Unwritten) : Type 0 where
  pub shaping : Shaping q p parts i u
  pub on : i < length p
  pub some : 0 < u.count

module _ (q p : List ℕ) (parts : List Unwritten) (i : ℕ) (u : Unwritten) (m : Shaping q p parts i u) where
  pub shaping_all : length p ≤ i → p ≡ q
  shaping_all past =
      let written = part_none u.base u.count u.number (omega (arith, m.within)) in
      let last = no_more m.waiting (omega arith) in
      rw (written, last, append-nil {A = ℕ}, take_all i p past) at m.entries

  module _ (on : i < length p) where
    waited : u.count ≡ 0 → Next q p parts i (at parts i)
    waited done =
        let same : i + u.count ≡ i = omega arith in
        let here = first (rw same at m.waiting) on in
        record {
          shaping =
              record {
                places = m.places;
                parts_long = m.parts_long;
                within = here.within;
                small = here.small;
                below = here.below;
                rest = here.rest;
                waiting = here.waiting;
                entries = rw (sym here.made) (rw (part_none u.base u.count u.number done) at m.entries);
              };
          on = on;
          some = here.some;
        }

    pub next : (v : Unwritten) → (u.count ≢ 0 → v ≡ u) → (u.count ≡ 0 → v ≡ at parts i) → Next q p parts i v
    next v same other =
        elim (dec_le 1 u.count) [
          | yes some ↦ rw (same (λ e. absurd (omega arith))) (record { shaping = m; on = on; some = some })
          | no none ↦ let done : u.count ≡ 0 = omega arith in rw (other done) (waited done)
        ]

module _ (q p : List ℕ) (parts : List Unwritten) (i : ℕ) (u : Unwritten) (next : Next q p parts i u) where
  abbrev b : ℕ
  b = u.base

  abbrev c : ℕ
  c = u.count

  abbrev k : ℕ
  k = u.number

  abbrev m : Shaping q p parts i u
  m = next.shaping

  pub count_some : 1 ≤ c
  count_some = omega (arith, next.some)

  pub count_within : c - 1 < largest_size
  count_within = omega (arith, m.small, next.some)

  pub number_within : k < C (c - 1 + 1)
  number_within = let whole : c - 1 + 1 ≡ c = omega (arith, next.some) in rw whole m.below

  pub others_entry : c - 1 < 37
  others_entry = omega (arith, m.small)

  module _ (table : List ℕ) (filled : table ≡ catalans) (l rest : ℕ) (nodes : l ≡ left_nodes (c - 1) (c - 1) k)
      (after_fewer : fewer_left (c - 1) l + rest ≡ k) where
    s : Split table c k l rest
    s = split table c k l rest filled (omega (arith, m.small)) m.below (λ e. absurd (omega (arith, next.some))) nodes after_fewer

    -- the root's label
    abbrev x : ℕ
    x = b + l + 1

    rooted : take (i + 1) (set p i x)
        ++ (part_of b l (rest / rights_of table c l) ++ (part_of x (c - 1 - l) (rest % rights_of table c l) ++ m.rest)) ≡ q
    rooted =
        let v = part_of b l (rest / rights_of table c l) in
        let w = part_of x (c - 1 - l) (rest % rights_of table c l) in
        ap (λ (z : List ℕ). take (i + 1) (set p i x) ++ z) (sym (append_assoc v w m.rest))
        ∙ written_next p i x ((v ++ w) ++ m.rest) next.on
        ∙ rw (part_split s b x refl) at m.entries

    root_kept : length (set p i x) ≡ length p
    root_kept = length-set p i x

    -- what waits stands behind the part that is written
    still : (j : ℕ) → i + 1 + j ≡ i + c → Waiting (length (set p i x)) parts (i + 1 + j) m.rest
    still j e = rw (e, root_kept) m.waiting

    pub left_within : l ≤ c - 1
    left_within = omega (arith, s.within)

    pub left_cast : Fits w32 l
    left_cast = record { fits = omega (arith, s.within, m.small) }

    pub root_low : Fits w32 (b + l)
    root_low = record { fits = omega (arith, s.within, m.small) }

    pub root_fits : Fits w32 (b + l + 1)
    root_fits = record { fits = omega (arith, s.within, m.small) }

    pub root_cast : Fits w16 (b + l + 1)
    root_cast = record { fits = omega (arith, s.within, m.small) }

    right_only : l ≡ 0
        → Shaping q (set p i (b + l + 1)) parts (i + 1) (record { base = b + l + 1; count = c - 1 - l; number = rest })
    right_only none =
        let same = left_empty s none in
        record {
          places = omega (arith, m.places, root_kept);
          parts_long = m.parts_long;
          within = omega (arith, m.within, root_kept, next.some);
          small = omega (arith, m.small, next.some);
          below = rw same at s.right_number;
          rest = m.rest;
          waiting = still (c - 1 - l) (omega (arith, s.within));
          entries = rw (same, part_none b l _ none) at rooted;
        }

    pub shaping_left : c - 1 - l ≡ 0 → Shaping q (set p i (b + l + 1)) parts (i + 1) (record { base = b; count = l; number = rest })
    shaping_left none =
        let same = right_empty s none in
        record {
          places = omega (arith, m.places, root_kept);
          parts_long = m.parts_long;
          within = omega (arith, m.within, root_kept, s.within);
          small = omega (arith, m.small, s.within);
          below = rw same at s.left_number;
          rest = m.rest;
          waiting = still l (omega (arith, s.within));
          entries = rw (same, part_none x (c - 1 - l) _ none) at rooted;
        }

    pub right_entry : c - 1 - l < 37
    right_entry = omega (arith, m.small)

    pub rights_some : 0 < get_or table (c - 1 - l) 0
    rights_some = s.some

    pub right_cast : Fits w32 (c - 1 - l)
    right_cast = record { fits = omega (arith, m.small) }

    module _ (rights : c - 1 - l ≡ 0 → ⊥) where
      pub right_on : i + 1 + l < length p
      right_on = omega (arith, m.within, s.within)

      pub right_held : i + 1 + l < 35
      right_held = omega (arith, right_on, m.places)

      abbrev right : Unwritten
      right = record { base = x; count = c - 1 - l; number = rest % rights_of table c l }

      abbrev parts' : List Unwritten
      parts' = set parts (i + 1 + l) right

      right_waits : Waiting (length (set p i x)) parts' (i + 1 + l) (part_of x (c - 1 - l) (rest % rights_of table c l) ++ m.rest)
      right_waits =
          let here : at parts' (i + 1 + l) ≡ right = get_or-set_same parts (i + 1 + l) right _ (omega (arith, right_held, m.parts_long)) in
          let end : i + 1 + l + (c - 1 - l) ≡ i + c = omega (arith, s.within) in
          let after : Waiting (length p) parts' (i + c) m.rest = waiting_behind _ parts _ right (omega (arith, s.within)) m.waiting in
          follows {j = i + 1 + l} {v = m.rest} {w = part_of x (c - 1 - l) (rest % rights_of table c l) ++ m.rest} (rw here (omega arith))
          (rw here (omega (arith, m.small, s.within))) (rw here s.right_number) (rw (here, root_kept) (omega (arith, m.within, s.within)))
          (rw (here, root_kept, end) after) (rw here refl)

      pub shaping_both
          : Shaping q (set p i (b + l + 1))
          (set parts (i + 1 + l) (record { base = b + l + 1; count = c - 1 - l; number = rest % get_or table (c - 1 - l) 0 })) (i + 1)
          (record { base = b; count = l; number = rest / get_or table (c - 1 - l) 0 })
      shaping_both =
          record {
            places = omega (arith, m.places, root_kept);
            parts_long = length-set parts (i + 1 + l) right ∙ m.parts_long;
            within = omega (arith, m.within, root_kept, s.within);
            small = omega (arith, m.small, s.within);
            below = s.left_number;
            rest = part_of x (c - 1 - l) (rest % rights_of table c l) ++ m.rest;
            waiting = right_waits;
            entries = rooted;
          }

  module _ (table : List ℕ) (filled : table ≡ catalans) (low : k < get_or table (c - 1) 0) where
    pub next_fits : Fits w32 (b + 1)
    next_fits = record { fits = omega (arith, m.small, next.some) }

    pub next_cast : Fits w16 (b + 1)
    next_cast = record { fits = omega (arith, m.small, next.some) }

    pub shaping_right : Shaping q (set p i (b + 1)) parts (i + 1) (record { base = b + 1; count = c - 1; number = k })
    shaping_right =
        let root : b + 0 + 1 ≡ b + 1 = omega arith in
        let all : c - 1 - 0 ≡ c - 1 = omega arith in
        let nodes = left_none table filled (c - 1) count_within k low in
        rw (root, all) at (right_only table filled 0 k nodes (left_start (c - 1) k) refl)

-- what `shape` is proved with
pub ruleset shaped = (
  shaping_none,
  shaping_all,
  next,
  count_some,
  count_within,
  number_within,
  others_entry,
  left_within,
  left_cast,
  root_low,
  root_fits,
  root_cast,
  shaping_left,
  right_entry,
  rights_some,
  right_cast,
  right_held,
  shaping_both,
  next_fits,
  next_cast,
  shaping_right,
)
