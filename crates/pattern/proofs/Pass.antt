-- Laws of the pass that counts the faults of a pattern, and what its answer says of the contents. n is the size, p what the slice holds.
--     Balanced p j ones        the first j places are zeros and `ones` ones, and up to none of them are there more zeros than ones
--     Counted n p faults ones k     the pass has come to pair k of the places, and has counted the faults and the ones before it
--     counted_none, counted_next    where it begins, and a pair more
--     place_fits_lem, places_fit, pair_fits, faults_fit, first_fits, ones_fit  its numbers fit their width
--     counted_wrong, counted_right          at its end: there are faults, or none
--     counting                              these, for `feasible`
--     feasible_done, above_entry, infeasible_shape      what the pass, and the search for a place above 1, find is what is asked of the contents
-- Assumes nothing.
use mathlib.Core.Logic.{◌↔◌}
use mathlib.Core.Path.{◌≡◌, refl, sym, ◌∙◌}
use mathlib.Core.Bool.{Bool, true, false, false≢true, not-eq-not}
use mathlib.Core.List.{List}
use Prim.Native.Nat.{ℕ, ◌+◌, ◌-◌, ◌*◌, ◌/◌, ◌≤◌, ◌<◌}
use native.Mathlib.Nat.{sub-zero}
use native.Mathlib.Omega.{arith}
use native.Mathlib.Decide.{dec_lt}
use lib.Bits.{bit_or, and_le_l, and_le_r, or_add_and, or_lt}
use lib.Dec.{leb, eqb}
use lib.ListN.{length, get_or, take}
use lib.Seq.{take-length, take_all}
use mir.Val.{Fits, bool_byte}
use mir.Syntax.{w8, w64}
use borrow.Author.Tests.{lt-leb, leb-false, eqb-true, eq-eqb}
use Rattle.catalan.specs.Count.{largest_size}
use Rattle.shape.specs.Form.{count, every, place_fits, balance_fits, Feasible, patterns}
use Rattle.shape.specs.Check.{contents}
use Rattle.shape.specs.Faults.{first_fault}
use Rattle.shape.specs.declared.Refusal.TheVariants.{Entry, Shape}
use Rattle.std.specs.Prelude.{Ok, Err}
use Rattle.shape.proofs.Counts.{count_next, place_counts}
use Rattle.shape.proofs.Tests.{every_all, every_fails, patterns_tested}
use Rattle.shape.proofs.Searches.{Fault, found}

-- ---- place by place

pub record Balanced (p : List ℕ) (j ones : ℕ) : Type 0 where
  pub places : (i : ℕ) → i < j → get_or p i 0 ≤ 1
  pub prefix : (i : ℕ) → i ≤ j → count 0 (take i p) ≤ count 1 (take i p)
  pub counted : ones ≡ count 1 (take j p)
  pub rest : count 0 (take j p) + ones ≡ j

balanced_none : (p : List ℕ) → Balanced p 0 0
balanced_none p =
    record {
      places = λ i l. absurd (omega arith);
      prefix = λ i l. let start : i ≡ 0 = omega arith in rw start (unfold count in omega arith);
      counted = unfold count in refl;
      rest = unfold count in refl;
    }

module _ (p : List ℕ) (j ones : ℕ) (m : Balanced p j ones) (on : j < length p) (place : get_or p j 0 ≤ 1) where
  ones_next : ones + get_or p j 0 ≡ count 1 (take (j + 1) p)
  ones_next = omega (arith, m.counted, count_next 1 p j on, (place_counts (get_or p j 0) place).0)

  zeros_next : count 0 (take (j + 1) p) + (ones + get_or p j 0) ≡ j + 1
  zeros_next = omega (arith, m.rest, count_next 0 p j on, (place_counts (get_or p j 0) place).1)

  balanced_next : j + 1 ≤ 2 * (ones + get_or p j 0) → Balanced p (j + 1) (ones + get_or p j 0)
  balanced_next h =
      record {
        places = λ i l. elim (dec_lt i j) [ yes k ↦ m.places i k | no k ↦ let here : i ≡ j = omega arith in rw here place ];
        prefix = λ i l. elim (dec_lt i (j + 1)) [
          | yes k ↦ m.prefix i (omega arith)
          | no k ↦ let here : i ≡ j + 1 = omega arith in rw here (omega (arith, ones_next, zeros_next))
        ];
        counted = ones_next;
        rest = zeros_next;
      }

-- ---- the pass, pair by pair

bit_most : (b : Bool) → bool_byte b ≤ 1
bit_most true = omega arith
bit_most false = omega arith

bit_none : (b : Bool) → bool_byte b ≡ 0 → b ≡ false
bit_none true h = absurd (omega arith)
bit_none false h = refl

pub record Counted (n : ℕ) (p : List ℕ) (faults ones k : ℕ) : Type 0 where
  pub within : k ≤ n
  pub faults_few : faults ≤ 256 * k
  pub ones_few : ones ≤ 510 * k
  pub right : faults ≡ 0 → Balanced p (2 * k) ones
  pub wrong : Feasible n p → faults ≡ 0

pub counted_none : (n : ℕ) (p : List ℕ) → Counted n p 0 0 0
counted_none n p =
    record {
      within = omega arith;
      faults_few = omega arith;
      ones_few = omega arith;
      right = λ e. balanced_none p;
      wrong = λ f. refl;
    }

module _ (p : List ℕ) (byte : (i : ℕ) → Fits w8 (get_or p i 0)) where
  pub place_fits_lem : (i : ℕ) → Fits w64 (get_or p i 0)
  place_fits_lem i = omega (arith, byte i)

  pub places_fit : (i j : ℕ) → Fits w64 (get_or p i 0 + get_or p j 0)
  places_fit i j = omega (arith, byte i, byte j)

  pair_few : (i j : ℕ) (b : Bool) → bit_or (get_or p i 0) (get_or p j 0) / 2 + bool_byte b ≤ 256
  pair_few i j b = omega (arith, or_add_and (get_or p i 0) (get_or p j 0), byte i, byte j, bit_most b)

  pub pair_fits : (i j : ℕ) (b : Bool) → Fits w64 (bit_or (get_or p i 0) (get_or p j 0) / 2 + bool_byte b)
  pair_fits i j b = omega (arith, pair_few i j b)

  module _ (n faults ones k : ℕ) (m : Counted n p faults ones k) (small : n ≤ largest_size) where
    pub faults_fit : (i j : ℕ) (b : Bool) → Fits w64 (faults + (bit_or (get_or p i 0) (get_or p j 0) / 2 + bool_byte b))
    faults_fit i j b = omega (arith, pair_few i j b, m.within, m.faults_few)

    pub first_fits : (i : ℕ) → Fits w64 (ones + get_or p i 0)
    first_fits i = omega (arith, m.within, m.ones_few, byte i)

    pub ones_fit : (i j : ℕ) → Fits w64 (ones + (get_or p i 0 + get_or p j 0))
    ones_fit i j = omega (arith, m.within, m.ones_few, byte i, byte j)

  module _ (n faults ones k : ℕ) (m : Counted n p faults ones k) (long : length p ≡ 2 * n) (on : k < n) where
    abbrev first : ℕ
    first = get_or p (2 * k) 0

    abbrev second : ℕ
    second = get_or p (2 * k + 1) 0

    -- what the pair adds to the faults
    abbrev wrong_here : ℕ
    wrong_here = bit_or first second / 2 + bool_byte (leb (ones + first) k)

    -- where that is nothing, the two are places, and the ones up to the first of them are more than half
    module _ (e : wrong_here ≡ 0) where
      low : (first ≤ 1) × (second ≤ 1)
      low =
          let sum = or_add_and first second in
          (omega (arith, and_le_r first second), omega (arith, and_le_l first second))

      enough : k < ones + first
      enough = leb-false (ones + first) k (bit_none (leb (ones + first) k) (omega arith))

      pair_more : Balanced p (2 * k) ones → Balanced p (2 * (k + 1)) (ones + (first + second))
      pair_more b =
          let one = balanced_next p (2 * k) ones b (omega arith) low.0 (omega (arith, enough)) in
          let two = balanced_next p (2 * k + 1) (ones + first) one (omega arith) low.1 (omega (arith, enough)) in
          let place : 2 * k + 1 + 1 ≡ 2 * (k + 1) = omega arith in
          let sum : ones + first + second ≡ ones + (first + second) = omega arith in
          rw (place, sum) at two

    -- and that it is, in a pattern
    none_wrong : Feasible n p → wrong_here ≡ 0
    none_wrong f =
        let b = m.right (m.wrong f) in
        let place : first ≤ 1 = f.places (2 * k) (omega arith) in
        let next : second ≤ 1 = f.places (2 * k + 1) (omega arith) in
        let ones_here = ones_next p (2 * k) ones b (omega arith) place in
        let zeros_here = zeros_next p (2 * k) ones b (omega arith) place in
        let more : k < ones + first = omega (arith, f.prefix (2 * k + 1)) in
        rw (lt-leb (ones + first) k more) (omega (arith, or_lt 1 first second (omega arith) (omega arith)))

    pub counted_next : Counted n p (faults + wrong_here) (ones + (first + second)) (k + 1)
    counted_next =
        record {
          within = omega arith;
          faults_few = omega (arith, m.faults_few, pair_few (2 * k) (2 * k + 1) (leb (ones + first) k));
          ones_few = omega (arith, m.ones_few, byte (2 * k), byte (2 * k + 1));
          right = λ e. pair_more (omega arith) (m.right (omega arith));
          wrong = λ f. omega (arith, m.wrong f, none_wrong f);
        }

-- ---- its end

module _ (n : ℕ) (p : List ℕ) (faults ones k : ℕ) (m : Counted n p faults ones k) (long : length p ≡ 2 * n) (off : n ≤ k) where
  pub counted_wrong : 0 < faults → (false ≡ true) ↔ Feasible n p
  counted_wrong h = (λ e. absurd (false≢true e), λ f. absurd (omega (arith, m.wrong f)))

  module _ (h : faults ≤ 0) where
    all : Balanced p (length p) ones
    all = let here : 2 * k ≡ length p = omega (arith, m.within) in rw here at (m.right (omega arith))

    each_prefix : (i : ℕ) → count 0 (take i p) ≤ count 1 (take i p)
    each_prefix i =
        elim (dec_lt i (length p)) [
          | yes l ↦ all.prefix i (omega arith)
          | no l ↦ rw (take_all i p (omega arith)) (rw (take-length p) at (all.prefix (length p) (omega arith)))
        ]

    pub counted_right : (eqb ones n ≡ true) ↔ Feasible n p
    counted_right =
        let ones_all : ones ≡ count 1 p = rw (take-length p) at all.counted in
        let zeros_all : count 0 p + ones ≡ length p = rw (take-length p) at all.rest in (
          λ t. let e = eqb-true ones n t in
              record { places = all.places; ones = omega arith; zeros = omega arith; prefix = each_prefix },
          λ f. eq-eqb ones n (ones_all ∙ f.ones),
        )

-- what `feasible` is proved with
pub ruleset counting = (
  counted_none,
  counted_next,
  counted_wrong,
  counted_right,
  place_fits_lem,
  places_fit,
  pair_fits,
  faults_fit,
  first_fits,
  ones_fit,
)

-- ---- the contents

module _ (n : ℕ) (p : List ℕ) (long : length p ≡ 2 * n) (r : Bool) (e : (r ≡ true) ↔ Feasible n p) where
  pub feasible_done : r ≡ true → Ok tt ≡ contents patterns n p
  unfolding contents
  feasible_done h = let passes = (patterns_tested n p).1 (e.0 h) in simp (passes.entries, passes.shape)

  module _ (a : ℕ) (d : a ≡ first_fault 0 (length p - 0) (place_fits n p)) where
    search_found : Fault 0 (length p) (place_fits n p) a
    search_found = rw (d, sub-zero (length p)) (found 0 (length p) (place_fits n p))

    pub above_entry : a < length p → Err Entry ≡ contents patterns n p
    unfolding contents
    above_entry h = simp (every_fails (length p) (place_fits n p) a h (search_found.at (omega arith)))

    module _ (other : r ≡ false) (h : length p ≤ a) where
      entries_pass : every (length p) (place_fits n p) ≡ true
      entries_pass = every_all (length p) (place_fits n p) (λ i l. search_found.before i (omega arith) (omega arith))

      otherwise_feasible : every (length p) (balance_fits n p) ≡ true → r ≡ true
      otherwise_feasible shape = e.1 ((patterns_tested n p).0 (record { long = long; entries = entries_pass; shape = shape }))

      pub infeasible_shape : Err Shape ≡ contents patterns n p
      unfolding contents
      infeasible_shape =
          let misshapen = (not-eq-not {b = false}).0 (λ shape. false≢true (sym other ∙ otherwise_feasible shape)) in
          simp (entries_pass, misshapen)
