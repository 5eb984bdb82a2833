-- The whole list of a numbering, for any size, form and order: each shape of the size is there exactly once, in order.
--     length_numbers, numbers_at, numbers_join      so many numbers from one on, place by place, and one stretch after another
--     numbers_within, numbers_hold, numbers_rise    they are exactly the numbers of the stretch, in order
--     list_at, length_list, length_trees     the shape numbered k stands at place k of the list, which has C(n) places
--     shape_before             of two shapes, the one with the smaller number stands first
--     listed, list_rises       the list holds exactly the well formed lists, in dictionary order
--     trees_listed, trees_differ, trees_rise     as trees: exactly those of n nodes, no two the same, in the order of trees
--     position_tree            the shape numbered k stands before t exactly when k is below t's number
-- Assumes nothing.
use mathlib.Core.Path.{◌≡◌, refl, sym, ap, ◌∙◌, subst, subst⁻¹, subst₂}
use mathlib.Core.Logic.{◌↔◌, inl, inr}
use mathlib.Core.List.Memᴰ
use mathlib.Core.List.{List, [], ◌∷◌, ◌++◌, Memᴰ}
use Prim.Native.Nat.{ℕ, zero, suc, ◌+◌, ◌≤◌, ◌<◌}
use native.Mathlib.Nat.{zero-add, add-zero, add-suc, suc-add, eq-or-lt_of_le}
use native.Mathlib.Omega.{arith}
use lib.ListN.{length, get_or}
use Rattle.shape.specs.Tree.{Tree, size}
use Rattle.shape.specs.Form.{Faithful}
use Rattle.shape.specs.Order.{Dictionary}
use Rattle.shape.specs.Numbering.{Numbering, total, WellFormed, Lawful, numbers_from, list_of, trees_of}
use Rattle.shape.specs.Every.{All, Pairs}
use Rattle.shape.proofs.Lists.{all_map, all_member, all_each, pairs_weaken, pairs_map, length-map, get_d_map}
use Rattle.shape.proofs.Orders.{dictionary_irreflexive}

-- ---- numbers

pub length_numbers : (k n : ℕ) → length (numbers_from k n) ≡ n
unfolding numbers_from
length_numbers k zero = refl
length_numbers k (suc n) = ap suc (length_numbers (suc k) n)

pub numbers_at : (k n i : ℕ) → i < n → get_or (numbers_from k n) i 0 ≡ k + i
unfolding numbers_from
numbers_at k zero i h = absurd (omega arith)
numbers_at k (suc n) zero h = omega arith
numbers_at k (suc n) (suc i) h = omega (arith, numbers_at (suc k) n i (omega arith))

pub numbers_join : (k m n : ℕ) → numbers_from k m ++ numbers_from (k + m) n ≡ numbers_from k (m + n)
unfolding numbers_from
numbers_join k zero n = rw (add-zero, zero-add)
numbers_join k (suc m) n = rw (suc-add, add-suc k m) (ap {B = List ℕ} (λ l. k ∷ l) (rw suc-add at (numbers_join (suc k) m n)))

-- j is one of the n numbers from k on
abbrev pub Within : ℕ → ℕ → ℕ → Type 0
Within k n j = (k ≤ j) × (j < k + n)

pub numbers_within : (k n : ℕ) → All (Within k n) (numbers_from k n)
unfolding numbers_from
numbers_within k zero = tt
numbers_within k (suc n) =
    ((omega arith, omega arith), all_map within (numbers_from (suc k) n) (numbers_within (suc k) n))
  where
    within : (j : ℕ) → Within (suc k) n j → Within k (suc n) j
    within j w = (omega arith, omega arith)

pub numbers_rise : (k n : ℕ) → Pairs ◌<◌ (numbers_from k n)
unfolding numbers_from
numbers_rise k zero = tt
numbers_rise k (suc n) = (all_map {P = Within (suc k) n} (λ j w. w.0) (numbers_from (suc k) n) (numbers_within (suc k) n), numbers_rise (suc k) n)

pub numbers_hold : (k n j : ℕ) → k ≤ j → j < k + n → Memᴰ j (numbers_from k n)
unfolding numbers_from
numbers_hold k zero j l h = absurd (omega arith)
numbers_hold k (suc n) j l h =
    elim (eq-or-lt_of_le l) [
      | inl e ↦ Memᴰ.head (sym e)
      | inr g ↦ Memᴰ.tail (numbers_hold (suc k) n j g (omega arith))
    ]

-- ---- the list

pub shape_before : (N : Numbering) → Lawful N → (j k : ℕ) → j < total N → k < total N → j < k → Dictionary (N.shape j) (N.shape k)
shape_before N laws j k hj hk l =
    (laws.position _ _ (laws.shape_formed j hj) (laws.shape_formed k hk)).1
    (omega (arith, laws.number_shape j hj, laws.number_shape k hk))

module _ (N : Numbering) (faithful : Faithful N.form) (laws : Lawful N) where
  numbers_below : All (λ k. k < total N) (numbers_from 0 (total N))
  numbers_below = all_map {P = Within 0 (total N)} (λ k w. omega arith) (numbers_from 0 (total N)) (numbers_within 0 (total N))

  tree_formed : (t : Tree) → size t ≡ N.nodes → WellFormed N (N.form.write t)
  tree_formed t e = subst (λ (n : ℕ). N.form.WellFormed n (N.form.write t)) e (faithful.write_formed t)

  pub listed : (p : List ℕ) → WellFormed N p ↔ Memᴰ p (list_of N)
  unfolding list_of
  listed p = (
    λ g. let h = laws.number_below p g in
        Memᴰ.cast (sym (laws.shape_number p g)) (Memᴰ.map N.shape (numbers_hold 0 (total N) (N.number p) (omega arith) (omega arith))),
    λ m. let (k, h, e) = Memᴰ.of_map N.shape (numbers_from 0 (total N)) m in
        subst (WellFormed N) e (laws.shape_formed k (all_member (λ j. j < total N) (numbers_from 0 (total N)) numbers_below h)),
  )

  pub list_rises : Pairs Dictionary (list_of N)
  unfolding list_of
  list_rises =
      pairs_map N.shape Dictionary (shape_before N laws) (numbers_from 0 (total N)) numbers_below (numbers_rise 0 (total N))

  list_formed : All (WellFormed N) (list_of N)
  list_formed = all_each (list_of N) (λ p m. (listed p).1 m)

  -- well formed lists in dictionary order are of trees in order
  tree_before : (p q : List ℕ) → WellFormed N p → WellFormed N q → Dictionary p q → N.Before (N.form.read p) (N.form.read q)
  tree_before p q g h d =
      (laws.ordered _ _ (faithful.read_size _ p g ∙ sym (faithful.read_size _ q h))).1
      (subst₂ Dictionary (sym (faithful.write_read _ p g)) (sym (faithful.write_read _ q h)) d)

  pub trees_rise : Pairs N.Before (trees_of N)
  unfolding trees_of
  trees_rise = pairs_map N.form.read N.Before tree_before (list_of N) list_formed list_rises

  pub trees_differ : Pairs (λ s t. s ≡ t → ⊥) (trees_of N)
  trees_differ = pairs_weaken differ (trees_of N) trees_rise
    where
      differ : (s t : Tree) → N.Before s t → s ≡ t → ⊥
      differ s t b e = dictionary_irreflexive ((laws.ordered t t refl).0 (subst (λ (x : Tree). N.Before x t) e b))

  pub trees_listed : (t : Tree) → (size t ≡ N.nodes) ↔ Memᴰ t (trees_of N)
  unfolding trees_of
  trees_listed t = (
    λ e. Memᴰ.cast (sym (faithful.read_write t)) (Memᴰ.map N.form.read ((listed (N.form.write t)).0 (tree_formed t e))),
    λ m. let (p, h, e) = Memᴰ.of_map N.form.read (list_of N) m in
        ap size (sym e) ∙ faithful.read_size N.nodes p ((listed p).1 h),
  )

  pub length_list : length (list_of N) ≡ total N
  unfolding list_of
  length_list = length-map N.shape (numbers_from 0 (total N)) ∙ length_numbers 0 (total N)

  pub length_trees : length (trees_of N) ≡ total N
  unfolding trees_of
  length_trees = length-map N.form.read (list_of N) ∙ length_list

  pub list_at : (k : ℕ) → k < total N → get_or (list_of N) k [] ≡ N.shape k
  unfolding list_of
  list_at k h =
      get_d_map N.shape (numbers_from 0 (total N)) k 0 [] (omega (arith, length_numbers 0 (total N)))
      ∙ ap N.shape (numbers_at 0 (total N) k h ∙ zero-add k)

  pub position_tree : (k : ℕ) (t : Tree) → k < total N → size t ≡ N.nodes
      → N.Before (N.form.read (N.shape k)) t ↔ (k < N.number (N.form.write t))
  position_tree k t h e =
      let p = N.shape k in
      let q = N.form.write t in
      let formed = laws.shape_formed k h in
      let by_number = laws.position p q formed (tree_formed t e) in
      let by_form = laws.ordered (N.form.read p) t (faithful.read_size _ p formed ∙ sym e) in
      let again = faithful.write_read _ p formed in
      let number = laws.number_shape k h in (
        λ b. omega (arith, by_number.0 (subst (λ (w : List ℕ). Dictionary w q) again (by_form.0 b))),
        λ l. by_form.1 (subst⁻¹ (λ (w : List ℕ). Dictionary w q) again (by_number.1 (omega arith))),
      )
