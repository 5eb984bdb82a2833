-- Laws of the loops that look for a fault, and what their answers say of the contents of a slice.
--     Fault i d f r, found         what it means that r is the first fault of the test f among the d numbers from i on
--     search_on, search_hit, search_end      a search from place to place: the test passes, the test fails, no place is left
--     contents_done, contents_entry, contents_shape      what two searches find, the second for the lower refusal alone, is what is asked of
--                                  the contents
-- Assumes nothing.
use mathlib.Core.Path.{◌≡◌, refl, sym, ◌∙◌}
use mathlib.Core.Bool.{Bool, true, false, cond, ◌&&◌, and-eq-true_iff}
use mathlib.Core.List.{List}
use Prim.Native.Nat.{ℕ, zero, suc, ◌+◌, ◌-◌, ◌≤◌, ◌<◌}
use native.Mathlib.Numerals.{add-one}
use native.Mathlib.Decide.{dec_lt}
use native.Mathlib.Omega.{arith}
use lib.ListN.{length}
use Rattle.shape.specs.Form.{Form}
use Rattle.shape.specs.Check.{contents}
use Rattle.shape.specs.Faults.{first_fault, fits}
use Rattle.shape.specs.declared.Refusal.TheVariants.{Entry, Shape}
use Rattle.std.specs.Prelude.{Ok, Err}
use Rattle.shape.proofs.Tests.{every_all, every_fails}

-- ---- the first fault of a test

passes : (i d : ℕ) (f : ℕ → Bool) → f i ≡ true → first_fault i (suc d) f ≡ first_fault (suc i) d f
unfolding first_fault
passes i d f e = simp e

fails : (i d : ℕ) (f : ℕ → Bool) → f i ≡ false → first_fault i (suc d) f ≡ i
unfolding first_fault
fails i d f e = simp e

pub record Fault (i d : ℕ) (f : ℕ → Bool) (r : ℕ) : Type 0 where
  pub within : r ≤ i + d
  pub before : (j : ℕ) → i ≤ j → j < r → f j ≡ true
  pub at : r < i + d → f r ≡ false

further : (i d : ℕ) (f : ℕ → Bool) (r : ℕ) → f i ≡ true → Fault (suc i) d f r → Fault i (suc d) f r
further i d f r e g =
    record {
      within = omega (arith, g.within);
      before = λ j l h. elim (dec_lt i j) [ yes k ↦ g.before j k h | no k ↦ let here : j ≡ i = omega arith in rw here e ];
      at = λ h. g.at (omega arith);
    }

here : (i d : ℕ) (f : ℕ → Bool) → f i ≡ false → Fault i (suc d) f i
here i d f e = record { within = omega arith; before = λ j l h. absurd (omega arith); at = λ h. e }

pub found : (i d : ℕ) (f : ℕ → Bool) → Fault i d f (first_fault i d f)
unfolding first_fault
found i zero f = record { within = omega arith; before = λ j l h. absurd (omega arith); at = λ h. absurd (omega arith) }
found i (suc d) f =
    elim (f i) as (λ b. f i ≡ b → Fault i (suc d) f (cond b (first_fault (suc i) d f) i)) [
      | true ↦ λ e. further i d f (first_fault (suc i) d f) e (found (suc i) d f)
      | false ↦ λ e. here i d f e
    ] refl

-- ---- the search, from place to place of the first n

module _ (f : ℕ → Bool) (r n i : ℕ) (e : r ≡ first_fault i (n - i) f) where
  pub search_on : i < n → f i ≡ true → r ≡ first_fault (i + 1) (n - (i + 1)) f
  search_on on t =
      let left : n - i ≡ suc (n - suc i) = omega arith in
      e ∙ rw (left, add-one i) (passes i (n - suc i) f t)

  pub search_hit : i < n → f i ≡ false → i ≡ r
  search_hit on t =
      let left : n - i ≡ suc (n - suc i) = omega arith in
      sym (e ∙ rw left (fails i (n - suc i) f t))

  pub search_end : n ≤ i → i ≡ r
  unfolding first_fault
  search_end off = let none : n - i ≡ 0 = omega arith in sym (e ∙ rw none)

-- ---- the contents

module _ (F : Form) (n : ℕ) (p : List ℕ) (r : ℕ) (e : r ≡ first_fault 0 (length p) (fits F n p)) where
  first : Fault 0 (length p) (fits F n p) r
  first = rw e (found 0 (length p) (fits F n p))

  fault_within : r ≤ length p
  fault_within = omega (arith, first.within)

  both : (i : ℕ) → i < r → (F.entry_test n p i ≡ true) × (F.shape_test n p i ≡ true)
  both i h = (and-eq-true_iff (F.entry_test n p i) (F.shape_test n p i)).0 (first.before i (omega arith) h)

  pub contents_done : r ≡ length p → Ok tt ≡ contents F n p
  unfolding contents
  contents_done end =
      let entries = every_all (length p) (F.entry_test n p) (λ i l. (both i (omega arith)).0) in
      let shape = every_all (length p) (F.shape_test n p) (λ i l. (both i (omega arith)).1) in
      simp (entries, shape)

  -- the second search may begin at the first fault, or anywhere before it
  module _ (from d a : ℕ) (whole : from + d ≡ length p) (early : from ≤ r) (g : a ≡ first_fault from d (F.entry_test n p)) where
    next : Fault from d (F.entry_test n p) a
    next = rw g (found from d (F.entry_test n p))

    pub contents_entry : a < length p → Err Entry ≡ contents F n p
    unfolding contents
    contents_entry h = simp (every_fails (length p) (F.entry_test n p) a h (next.at (omega arith)))

    -- no entry is bad, before the fault or from it on
    all_entries : length p ≤ a → (i : ℕ) → i < length p → F.entry_test n p i ≡ true
    all_entries h i l = elim (dec_lt i r) [ yes k ↦ (both i k).0 | no k ↦ next.before i (omega arith) (omega arith) ]

    misshapen : (t u : Bool) → (t && u) ≡ false → t ≡ true → u ≡ false
    misshapen t u e h = rw h at e

    pub contents_shape : (r ≡ length p → ⊥) → length p ≤ a → Err Shape ≡ contents F n p
    unfolding contents
    contents_shape other h =
        let on : r < length p = omega (arith, fault_within) in
        let fault = misshapen (F.entry_test n p r) (F.shape_test n p r) (first.at (omega arith)) (all_entries h r on) in
        simp (every_all (length p) (F.entry_test n p) (all_entries h), every_fails (length p) (F.shape_test n p) r on fault)
