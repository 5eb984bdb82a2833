-- Laws of what is tested of an entry, and of the loop that asks whether each one fits.
--     entry_zero, entry_large, entry_seen, entry_fits_lem  an entry outside 1..n or marked does not fit, and any other does
--     Fitting n p seen k                                   the pass has come to entry k, and has marked those before it
--     fitting_none, fitting_next, fitting_end              where it begins, an entry that fits, and no entry left
--     unfit_zero, unfit_large, unfit_seen                  the three tests of the code: where one of them stops it, there is the answer
--     fitting                                              the last two lines, for `fits`
-- Assumes nothing.
use Rattle.std.proofs.Common.{◌≡◌, ℕ, ◌+◌, ◌<◌, ◌≤◌, Bool, true, false, List, length, get_or, set, replicate, sym, refl, ◌∙◌, true≢false, arith, length-set, get_or-set_other, get_or-set_same}
use Rattle.std.proofs.lemmas.Bool.{false_from_ne_true}
use native.Mathlib.Decide.{ℕ_discrete}
use Rattle.catalan.specs.Count.{largest_size}
use Rattle.shape.specs.Form.{every, entry_fits}
use Rattle.shape.proofs.Tests.{every_all, every_fails, entry_means}
use Rattle.permutation.proofs.Labels.{clear_at, Marks, marks_none, marks_next}

-- ---- the tests of an entry

module _ (n : ℕ) (p : List ℕ) (k : ℕ) (on : k < length p) where
  pub entry_zero : get_or p k 0 ≡ 0 → entry_fits n p k ≡ false
  entry_zero e = false_from_ne_true (entry_fits n p k) (λ t. omega (arith, ((entry_means n p k on).0 t).0.0))

  pub entry_large : n < get_or p k 0 → entry_fits n p k ≡ false
  entry_large h = false_from_ne_true (entry_fits n p k) (λ t. omega (arith, ((entry_means n p k on).0 t).0.1))

  module _ (M : ℕ → Type 0) (m : Marks p k M) (some : get_or p k 0 ≡ 0 → ⊥) where
    pub entry_seen : M (get_or p k 0) → entry_fits n p k ≡ false
    entry_seen s =
        let (i, l, e) = m.place (get_or p k 0) some s in
        false_from_ne_true (entry_fits n p k) (λ t. ((entry_means n p k on).0 t).1 i l e)

    pub entry_fits_lem : (M (get_or p k 0) → ⊥) → get_or p k 0 ≤ n → entry_fits n p k ≡ true
    entry_fits_lem unseen h = (entry_means n p k on).1 ((omega arith, h), λ i l e. unseen (rw (← e) (m.entry i l)))

-- ---- the pass

abbrev Marked : List Bool → ℕ → Type 0
Marked seen x = get_or seen x false ≡ true

-- so far: all entries before k fit, and they are what is marked
pub record Fitting (n : ℕ) (p : List ℕ) (seen : List Bool) (k : ℕ) : Type 0 where
  pub long : length seen ≡ 36
  pub marks : Marks p k (Marked seen)
  pub fit : (i : ℕ) → i < k → entry_fits n p i ≡ true

pub fitting_none : (n : ℕ) (p : List ℕ) → Fitting n p (replicate 36 false) 0
fitting_none n p =
    record {
      long = refl;
      marks = marks_none p (Marked (replicate 36 false)) (λ x s. absurd (true≢false (sym s ∙ clear_at false 36 x)));
      fit = λ i l. absurd (omega arith);
    }

module _ (n : ℕ) (p : List ℕ) (seen : List Bool) (k : ℕ) (m : Fitting n p seen k) (whole : length p ≡ n) where
  pub fitting_end : n ≤ k → true ≡ every (length p) (entry_fits n p)
  fitting_end h = sym (every_all (length p) (entry_fits n p) (λ i l. m.fit i (omega arith)))

  module _ (on : k < n) where
    here : k < length p
    here = omega arith

    stops : entry_fits n p k ≡ false → false ≡ every (length p) (entry_fits n p)
    stops e = sym (every_fails (length p) (entry_fits n p) k here e)

    pub unfit_zero : get_or p k 0 ≡ 0 → false ≡ every (length p) (entry_fits n p)
    unfit_zero e = stops (entry_zero n p k here e)

    pub unfit_large : n < get_or p k 0 → false ≡ every (length p) (entry_fits n p)
    unfit_large h = stops (entry_large n p k here h)

    module _ (some : get_or p k 0 ≡ 0 → ⊥) where
      pub unfit_seen : get_or seen (get_or p k 0) false ≡ true → false ≡ every (length p) (entry_fits n p)
      unfit_seen s = stops (entry_seen n p k here (Marked seen) m.marks some s)

      module _ (small : n ≤ largest_size) (h : get_or p k 0 ≤ n) where
        now : Marked (set seen (get_or p k 0) true) (get_or p k 0)
        now = get_or-set_same seen (get_or p k 0) true false (omega (arith, m.long))

        still : (y : ℕ) → Marked seen y → Marked (set seen (get_or p k 0) true) y
        still y s = elim (ℕ_discrete y (get_or p k 0)) [ yes e ↦ rw e now | no g ↦ get_or-set_other seen (get_or p k 0) y true false g ∙ s ]

        before : (y : ℕ) → Marked (set seen (get_or p k 0) true) y → (y ≡ get_or p k 0 → ⊥) → Marked seen y
        before y s g = sym (get_or-set_other seen (get_or p k 0) y true false g) ∙ s

        pub fitting_next : get_or seen (get_or p k 0) false ≡ false → Fitting n p (set seen (get_or p k 0) true) (k + 1)
        fitting_next unseen =
            let fits = entry_fits_lem n p k here (Marked seen) m.marks some (λ s. true≢false (sym s ∙ unseen)) h in
            record {
              long = length-set seen (get_or p k 0) true ∙ m.long;
              marks = marks_next p k (get_or p k 0) (Marked seen) (Marked (set seen (get_or p k 0) true)) m.marks refl now still before;
              fit = λ i l. elim (ℕ_discrete i k) [ yes same ↦ rw same fits | no g ↦ m.fit i (omega arith) ];
            }

-- what `fits` is proved with
pub ruleset fitting = (fitting_none, fitting_next, fitting_end, unfit_zero, unfit_large, unfit_seen)
