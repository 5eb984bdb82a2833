-- What the tests find, and that those of each form find exactly what is well formed.
--     le_means, less_means, equal_means      the tests of two numbers
--     and_means, fails_means, every_means    two tests, a test that is to fail, a test at every number
--     every_at, every_all, every_fails       what passes throughout passes at each number, the other way, and a number at which it fails
--     entry_means, triple_means              what is tested of an entry of a permutation
--     patterns_tested, permutations_tested
-- Assumes nothing.
use mathlib.Core.Path.{◌≡◌, refl, sym, ◌∙◌, subst}
use mathlib.Core.Logic.Iff
use mathlib.Core.Logic.{◌↔◌}
use mathlib.Core.Bool.{Bool, true, false, not, ◌&&◌, true≢false, false≢true, not-eq-not, and-eq-true_iff}
use mathlib.Core.List.{List, []}
use Prim.Native.Nat.{ℕ, zero, suc, ◌+◌, ◌*◌, ◌≤◌, ◌<◌, zero-le}
use native.Mathlib.Omega.{arith}
use native.Mathlib.Decide.{dec_lt, ℕ_discrete}
use lib.Dec.{leb, ltb, eqb}
use lib.ListN.{length, get_or, take}
use lib.Seq.{take_all, take-length, length-take-le, get_or-take}
use borrow.Author.Tests.{leb-true, le-leb, ltb-true, lt-ltb, eqb-true, eq-eqb}
use Rattle.shape.specs.Form.{count, every, place_fits, balance_fits, entry_fits, triple_fits}
use Rattle.shape.specs.Form.{Feasible, patterns, permutations, Passes, Tested}
use Rattle.shape.proofs.Counts.{count_split, zeros_and_ones, absent_means}
use Rattle.shape.proofs.Patterns.{feasible_length}

-- ---- tests

pub le_means : (m n : ℕ) → (leb m n ≡ true) ↔ (m ≤ n)
le_means m n = (leb-true m n, le-leb m n)

pub less_means : (m n : ℕ) → (ltb m n ≡ true) ↔ (m < n)
less_means m n = (ltb-true m n, lt-ltb m n)

pub equal_means : (m n : ℕ) → (eqb m n ≡ true) ↔ (m ≡ n)
equal_means m n = (eqb-true m n, eq-eqb m n)

pub and_means : {s t : Bool} {P Q : Type 0} → (s ≡ true) ↔ P → (t ≡ true) ↔ Q → ((s && t) ≡ true) ↔ (P × Q)
and_means {s} {t} m n = Iff.trans (and-eq-true_iff s t) (Iff.and m n)

pub fails_means : {t : Bool} {P : Type 0} → (t ≡ true) ↔ P → (not t ≡ true) ↔ (P → ⊥)
fails_means {t = true} m = (λ e. absurd (false≢true e), λ g. absurd (g (m.0 refl)))
fails_means {t = false} m = (λ e k. false≢true (m.1 k), λ g. refl)

pub every_at : (n : ℕ) (f : ℕ → Bool) → every n f ≡ true → (i : ℕ) → i < n → f i ≡ true
unfolding every
every_at zero f h i l = absurd (omega arith)
every_at (suc n) f h i l =
    let both = (and-eq-true_iff (every n f) (f n)).0 h in
    elim (ℕ_discrete i n) [ yes e ↦ rw e both.1 | no g ↦ every_at n f both.0 i (omega arith) ]

pub every_all : (n : ℕ) (f : ℕ → Bool) → ((i : ℕ) → i < n → f i ≡ true) → every n f ≡ true
unfolding every
every_all zero f h = refl
every_all (suc n) f h = (and-eq-true_iff (every n f) (f n)).1 (every_all n f (λ i l. h i (omega arith)), h n (omega arith))

pub every_fails : (n : ℕ) (f : ℕ → Bool) (i : ℕ) → i < n → f i ≡ false → every n f ≡ false
every_fails n f i l e = (not-eq-not {b = false}).0 (λ h. true≢false (sym (every_at n f h i l) ∙ e))

pub every_means : (n : ℕ) {f : ℕ → Bool} {P : ℕ → Type 0} → ((i : ℕ) → i < n → (f i ≡ true) ↔ P i) → (every n f ≡ true) ↔ ((i : ℕ) → i < n → P i)
every_means n {f} m = (λ h i l. (m i l).0 (every_at n f h i l), λ h. every_all n f (λ i l. (m i l).1 (h i l)))

-- ---- patterns

-- what holds of nothing, and up to each place, holds of every prefix
each_prefix : (P : List ℕ → Type 0) (p : List ℕ) → P [] → ((i : ℕ) → i < length p → P (take (suc i) p)) → (i : ℕ) → P (take i p)
each_prefix P p none up zero = none
each_prefix P p none up (suc i) =
    elim (dec_lt i (length p)) [
      | yes l ↦ up i l
      | no g ↦ subst P (take_all i p (omega arith) ∙ sym (take_all (suc i) p (omega arith))) (each_prefix P p none up i)
    ]

-- no more zeros than ones, and no more ones than n
abbrev Balanced : ℕ → List ℕ → Type 0
Balanced n p = (count 0 p ≤ count 1 p) × (count 1 p ≤ n)

places_mean : (n : ℕ) (p : List ℕ) → (every (length p) (place_fits n p) ≡ true) ↔ ((i : ℕ) → i < length p → get_or p i 0 ≤ 1)
places_mean n p = every_means (length p) (λ i l. le_means (get_or p i 0) 1)

balance_means : (n : ℕ) (p : List ℕ) → (every (length p) (balance_fits n p) ≡ true) ↔ ((i : ℕ) → i < length p → Balanced n (take (suc i) p))
balance_means n p =
    every_means (length p) (λ i l. and_means (le_means (count 0 (take (suc i) p)) (count 1 (take (suc i) p))) (le_means (count 1 (take (suc i) p)) n))

passes_feasible : (n : ℕ) (p : List ℕ) → Passes patterns n p → Feasible n p
passes_feasible n p h =
    let places = (places_mean n p).0 h.entries in
    let nothing : Balanced n [] = unfold count in (zero-le, zero-le) in
    let prefix = each_prefix (Balanced n) p nothing ((balance_means n p).0 h.shape) in
    let whole : Balanced n p = subst (Balanced n) (take-length p) (prefix (length p)) in
    let both : count 0 p + count 1 p ≡ 2 * n = zeros_and_ones p places ∙ h.long in
    record { places = places; ones = omega arith; zeros = omega arith; prefix = λ i. (prefix i).0 }

feasible_passes : (n : ℕ) (p : List ℕ) → Feasible n p → Passes patterns n p
feasible_passes n p g =
    record {
      long = feasible_length n p g;
      entries = (places_mean n p).1 g.places;
      shape = (balance_means n p).1 (λ i l. (g.prefix (suc i), omega (arith, count_split 1 (suc i) p, g.ones)));
    }

pub patterns_tested : Tested patterns
patterns_tested n p = (passes_feasible n p, feasible_passes n p)

-- ---- permutations

-- entry k is none of those before it
unseen_means : (p : List ℕ) (k : ℕ) → k < length p
    → (eqb (count (get_or p k 0) (take k p)) 0 ≡ true) ↔ ((i : ℕ) → i < k → get_or p i 0 ≡ get_or p k 0 → ⊥)
unseen_means p k l =
    let x = get_or p k 0 in
    let long : length (take k p) ≡ k = length-take-le k p (omega arith) in
    Iff.trans (equal_means (count x (take k p)) 0) (Iff.trans (absent_means x (take k p)) (
      λ h i m e. h i (omega arith) (get_or-take k p i 0 m ∙ e),
      λ h i m e. h i (omega arith) (sym (get_or-take k p i 0 (omega arith)) ∙ e),
    ))

pub entry_means : (n : ℕ) (p : List ℕ) (k : ℕ) → k < length p → (entry_fits n p k ≡ true)
    ↔ (((1 ≤ get_or p k 0) × (get_or p k 0 ≤ n)) × ((i : ℕ) → i < k → get_or p i 0 ≡ get_or p k 0 → ⊥))
entry_means n p k l = and_means (and_means (le_means 1 (get_or p k 0)) (le_means (get_or p k 0) n)) (unseen_means p k l)

pub triple_means : (n : ℕ) (p : List ℕ) (k : ℕ) → (triple_fits n p k ≡ true)
    ↔ ((j : ℕ) → j < k → (i : ℕ) → i < j → (get_or p k 0 < get_or p i 0) × (get_or p i 0 < get_or p j 0) → ⊥)
triple_means n p k =
    every_means k (λ j m. every_means j (λ i o.
    fails_means (and_means (less_means (get_or p k 0) (get_or p i 0)) (less_means (get_or p i 0) (get_or p j 0)))))

pub permutations_tested : Tested permutations
permutations_tested n p = (
  λ h. let fits = (every_means (length p) (entry_means n p)).0 h.entries in
      let avoids = (every_means (length p) (λ k l. triple_means n p k)).0 h.shape in
      record {
        entries = h.long;
        least = λ i l. (fits i l).0.0;
        most = λ i l. (fits i l).0.1;
        distinct = λ i j l m. (fits j m).1 i (omega arith);
        avoids = λ i j k l m o low high. avoids k o j m i l (low, high);
      },
  λ f. record {
    long = f.entries;
    entries = (every_means (length p) (entry_means n p)).1 (λ k l. ((f.least k l, f.most k l), λ i m. f.distinct i k m l));
    shape = (every_means (length p) (λ k l. triple_means n p k)).1 (λ k o j m i l (low, high). f.avoids i j k l m o low high);
  },
)
