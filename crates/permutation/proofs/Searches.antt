-- Laws of the loop that asks whether the entries are those of a permutation, and of what is answered.
--     Passed n p above closed k                 the pass has come to entry k, and has linked those before it
--     passed_none, passed_next, passed_end      where it begins, an entry that fits, and no entry left
--     fault_zero, fault_large, fault_seen, fault_closed      the four tests of the code: where one of them stops it, there is a fault
--     passing                                   these, for `is_permutation`
--     permutation_done, permutation_entry, permutation_shape      what the two passes answer is what is asked of the contents
-- Assumes nothing.
use Rattle.std.proofs.Common.{◌≡◌, ◌↔◌, ℕ, ◌+◌, ◌<◌, ◌≤◌, Bool, true, false, List, length, get_or, sym, refl, ap, ◌∙◌, arith}
use Rattle.std.proofs.lemmas.Bool.{false≢true, false_from_ne_true}
use native.Mathlib.Decide.{dec_lt, ℕ_discrete}
use Rattle.catalan.specs.Count.{largest_size}
use Rattle.shape.specs.Form.{TreePermutation, every, entry_fits, triple_fits, permutations}
use Rattle.shape.specs.Check.{contents}
use Rattle.shape.specs.declared.Refusal.TheVariants.{Entry, Shape}
use Rattle.std.specs.Prelude.{Ok, Err}
use Rattle.shape.proofs.Tests.{permutations_tested}
use Rattle.permutation.specs.Links.{Linked, Links, LinkedBelow}
use Rattle.permutation.proofs.Labels.{Marks, marks_none, no_links, only_zero, links_none, entry_above, relink, linked_next, links_next}

-- ---- the pass

-- so far: the entries before k are right, and they are what has a link; `closed`, unless it is 0, is one that a larger one follows, and
-- none that a larger one follows is larger
pub record Passed (n : ℕ) (p above : List ℕ) (closed k : ℕ) : Type 0 where
  pub links : Links above closed
  pub marks : Marks p k (Linked above)
  pub followed : (closed ≡ 0 → ⊥) → (i : ℕ) × (j : ℕ) × (i < j) × (j < k) × (get_or p i 0 ≡ closed) × (closed < get_or p j 0)
  pub largest : (i j : ℕ) → i < j → j < k → get_or p i 0 < get_or p j 0 → get_or p i 0 ≤ closed
  pub least : (i : ℕ) → i < k → 1 ≤ get_or p i 0
  pub most : (i : ℕ) → i < k → get_or p i 0 ≤ n
  pub distinct : (i j : ℕ) → i < j → j < k → get_or p i 0 ≡ get_or p j 0 → ⊥
  pub avoids : (i j h : ℕ) → i < j → j < h → h < k → get_or p h 0 < get_or p i 0 → get_or p i 0 < get_or p j 0 → ⊥

pub passed_none : (n : ℕ) (p : List ℕ) → Passed n p no_links 0 0
passed_none n p =
    record {
      links = links_none;
      marks = marks_none p (Linked no_links) only_zero;
      followed = λ g. absurd (g refl);
      largest = λ i j l h. absurd (omega arith);
      least = λ i l. absurd (omega arith);
      most = λ i l. absurd (omega arith);
      distinct = λ i j l h. absurd (omega arith);
      avoids = λ i j h l o g. absurd (omega arith);
    }

module _ (n : ℕ) (p above : List ℕ) (closed k : ℕ) (m : Passed n p above closed k) (whole : length p ≡ n) where
  pub passed_end : n ≤ k → (true ≡ true) ↔ TreePermutation n p
  passed_end h = (
    λ t. record {
      entries = whole;
      least = λ i l. m.least i (omega arith);
      most = λ i l. m.most i (omega arith);
      distinct = λ i j l o. m.distinct i j l (omega arith);
      avoids = λ i j g l o on. m.avoids i j g l o (omega arith);
    },
    λ f. refl,
  )

  module _ (on : k < n) where
    here : k < length p
    here = omega arith

    wrong : (TreePermutation n p → ⊥) → (false ≡ true) ↔ TreePermutation n p
    wrong g = (λ t. absurd (false≢true t), λ f. absurd (g f))

    pub fault_zero : get_or p k 0 ≡ 0 → (false ≡ true) ↔ TreePermutation n p
    fault_zero e = wrong (λ f. omega (arith, f.least k here))

    pub fault_large : n < get_or p k 0 → (false ≡ true) ↔ TreePermutation n p
    fault_large h = wrong (λ f. omega (arith, f.most k here))

    -- the entry is below `closed` and what follows that
    pub fault_closed : get_or p k 0 < closed → (false ≡ true) ↔ TreePermutation n p
    fault_closed h =
        let (i, j, l, o, e, g) = m.followed (λ z. omega arith) in
        wrong (λ f. f.avoids i j k l o here (omega arith) (omega arith))

    module _ (some : get_or p k 0 ≡ 0 → ⊥) where
      pub fault_seen : Linked above (get_or p k 0) → (false ≡ true) ↔ TreePermutation n p
      fault_seen s = let (i, l, e) = m.marks.place (get_or p k 0) some s in wrong (λ f. f.distinct i k l here e)

      module _ (most : get_or p k 0 ≤ n) (unseen : get_or above (get_or p k 0) 0 ≡ 0) where
        distinct : (i j : ℕ) → i < j → j < k + 1 → get_or p i 0 ≡ get_or p j 0 → ⊥
        distinct i j l o e =
            elim (ℕ_discrete j k) [
              | yes same ↦ m.marks.entry i (omega arith) (ap (λ x. get_or above x 0) (e ∙ ap (λ a. get_or p a 0) same) ∙ unseen)
              | no g ↦ m.distinct i j l (omega arith) e
            ]

        avoids : closed ≤ get_or p k 0 → (i j h : ℕ) → i < j → j < h → h < k + 1 → get_or p h 0 < get_or p i 0 → get_or p i 0 < get_or p j 0 → ⊥
        avoids c i j h l o on low high =
            elim (ℕ_discrete h k) [
              | yes same ↦ omega (arith, m.largest i j l (omega arith) high, ap (λ a. get_or p a 0) same)
              | no g ↦ m.avoids i j h l o (omega arith) low high
            ]

        each : (P : ℕ → Type 0) → ((i : ℕ) → i < k → P i) → P k → (i : ℕ) → i < k + 1 → P i
        each P before now i l = elim (ℕ_discrete i k) [ yes same ↦ rw same now | no g ↦ before i (omega arith) ]

        module _ (small : n ≤ largest_size) (b : ℕ) (w : LinkedBelow above closed (get_or p k 0) b) (last : get_or p k 0 ≤ get_or above b 0) where
          label : get_or p k 0 ≤ largest_size
          label = omega arith

          -- the entry follows b, which has been seen unless it is 0
          followed : (b ≡ 0 → ⊥) → (i : ℕ) × (j : ℕ) × (i < j) × (j < k + 1) × (get_or p i 0 ≡ b) × (b < get_or p j 0)
          followed g = let (i, l, e) = m.marks.place b g w.linked in (i, k, l, omega arith, e, w.under)

          -- no label between b and the entry has been seen
          under : (i : ℕ) → i < k → get_or p i 0 < get_or p k 0 → get_or p i 0 ≤ b
          under i l h =
              elim (dec_lt b (get_or p i 0)) [
                | yes o ↦ omega (arith, m.links.nearest b (get_or p i 0) w.from w.linked (m.marks.entry i l) o)
                | no o ↦ omega arith
              ]

          largest : (i j : ℕ) → i < j → j < k + 1 → get_or p i 0 < get_or p j 0 → get_or p i 0 ≤ b
          largest i j l o h =
              elim (ℕ_discrete j k) [
                | yes e ↦ under i (omega arith) (rw e at h)
                | no g ↦ omega (arith, w.from, m.largest i j l (omega arith) h)
              ]

          pub passed_next : closed ≤ get_or p k 0 → Passed n p (relink above b (get_or p k 0)) b (k + 1)
          passed_next h =
              record {
                links = links_next above closed (get_or p k 0) b m.links some label w unseen last;
                marks = linked_next above closed (get_or p k 0) b m.links some label w p k m.marks refl;
                followed = followed;
                largest = largest;
                least = each (λ i. 1 ≤ get_or p i 0) m.least (omega arith);
                most = each (λ i. get_or p i 0 ≤ n) m.most most;
                distinct = distinct;
                avoids = avoids h;
              }

-- what `is_permutation` is proved with
pub ruleset passing = (entry_above, passed_none, passed_next, passed_end, fault_zero, fault_large, fault_seen, fault_closed)

-- ---- the contents

module _ (n : ℕ) (p : List ℕ) (whole : length p ≡ n) (r : Bool) (e : (r ≡ true) ↔ TreePermutation n p) where
  pub permutation_done : r ≡ true → Ok tt ≡ contents permutations n p
  unfolding contents
  permutation_done h = let passes = (permutations_tested n p).1 (e.0 h) in simp (passes.entries, passes.shape)

  module _ (a : Bool) (d : a ≡ every (length p) (entry_fits n p)) where
    pub permutation_entry : a ≡ false → Err Entry ≡ contents permutations n p
    unfolding contents
    permutation_entry h = simp (sym d ∙ h)

    module _ (other : r ≡ false) (h : a ≡ true) where
      otherwise_right : every (length p) (triple_fits n p) ≡ true → r ≡ true
      otherwise_right shape = e.1 ((permutations_tested n p).0 (record { long = whole; entries = sym d ∙ h; shape = shape }))

      pub permutation_shape : Err Shape ≡ contents permutations n p
      unfolding contents
      permutation_shape =
          let misshapen = false_from_ne_true _ (λ shape. false≢true (sym other ∙ otherwise_right shape)) in
          simp (sym d ∙ h, misshapen)
