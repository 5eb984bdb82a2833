-- What the tests of a run's numbers and of its state find, each law in the words in which the code meets it.
--     range_none, range_large, range_turned, range_past, range_fits      the tests of a start, in their order
--     range_told, range_some, range_small, range_ordered, range_within   what their answer tells
--     range_doubled, range_room, range_below                             and what follows: 2n places fit, and the first number is one of the size
--     Summed, summed_none, summed_next, summed_all       places from one on, added up; the sum is 0 exactly where all of them are
--     place_fits_lem, sum_fits             and fits its width
--     number_other, number_same            places are the pattern with a number exactly where they are a pattern and have it
--     range_done                           no refusal was found
--     belong_range, belong_end, belong_behind, belong_found              its tests, in their order
--     tests                                the laws that the code meets, for `search`
-- Assumes nothing.
use mathlib.Core.Path.{◌≡◌, refl, sym, ap, ◌∙◌}
use mathlib.Core.Logic.Iff
use mathlib.Core.Logic.{◌↔◌}
use mathlib.Core.Bool.{Bool, true, false}
use mathlib.Core.List.{List}
use Prim.Native.Nat.{ℕ, ◌+◌, ◌-◌, ◌*◌, ◌≤◌, ◌<◌}
use native.Mathlib.Nat.{sub-zero}
use native.Mathlib.Decide.{dec_lt}
use native.Mathlib.Omega.{arith}
use lib.Dec.{eqb}
use lib.ListN.{length, get_or, take, drop, replicate, get_or-eq_default}
use borrow.Author.Rules.{rules}
use mir.Syntax.{w8, w64}
use mir.Val.{Fits}
use Rattle.catalan.specs.Count.{C, largest_size}
use Rattle.catalan.specs.Table.{table_at}
use Rattle.catalan.proofs.Tables.{table_within}
use Rattle.shape.specs.Form.{Feasible, patterns}
use Rattle.shape.specs.Number.{local_number, local_pattern}
use Rattle.shape.specs.Numbering.{local}
use Rattle.shape.specs.Reply.{outcome_reply, numbered_reply, Outcome, Numbered}
use Rattle.shape.specs.Check.{sized, Sized, checked}
use Rattle.shape.specs.Calls.{number_reply}
use Rattle.shape.specs.declared.Refusal.{Refusal}
use Rattle.shape.specs.declared.Refusal.TheVariants.{Size, Range}
use Rattle.std.specs.Prelude.{Ok, Err}
use Rattle.std.specs.Result.{is_err}
use Rattle.std.proofs.lemmas.Bool.{true≢false}
use Rattle.shape.proofs.Tests.{equal_means, patterns_tested}
use Rattle.shape.proofs.Replies.{refusal_least, told_value, told_refused}
use Rattle.shape.proofs.LocalNumbers.{local_lawful}
use Rattle.shape.proofs.Checks.{sized_means, checked_done, done_formed}
use Rattle.run.specs.State.{state_places, places_at, same, belong}
use Rattle.run.specs.Calls.{start_check}
use Rattle.run.proofs.Places.{test_fails, same_means, same_other, range_means, zeros_from, places_at_next, places_at_end, padded_means}
use Rattle.run.proofs.States.{start_done, belong_means}

-- two tests that pass alike
alike : (t u : Bool) → (t ≡ true) ↔ (u ≡ true) → t ≡ u
alike true u m = sym (m.0 refl)
alike false true m = m.1 refl
alike false false m = refl

-- ---- the numbers of a run

refused_other : (f : Refusal) → ◌≡◌ {A = Outcome} (Err f) (Ok tt) → ⊥
refused_other f e = omega (arith, ap (λ (o : Outcome). (outcome_reply o).refusal) e, refusal_least f)

module _ (n first end : ℕ) where
  pub range_none : n ≡ 0 → Err Size ≡ start_check n first end
  unfolding start_check
  range_none none = rw (test_fails (sized_means n) (λ s. omega arith))

  pub range_large : largest_size < n → Err Size ≡ start_check n first end
  unfolding start_check
  range_large large = rw (test_fails (sized_means n) (λ s. omega arith))

  module _ (some : n ≡ 0 → ⊥) (small : n ≤ largest_size) where
    fits : sized n ≡ true
    fits = (sized_means n).1 (omega arith, small)

    outside : ((first ≤ end) × (end ≤ C n) → ⊥) → Err Range ≡ start_check n first end
    unfolding start_check
    outside h = rw (fits, test_fails (range_means n first end) h)

    pub range_turned : end < first → Err Range ≡ start_check n first end
    range_turned turned = outside (λ r. omega arith)

    -- v is what the table of the Catalan numbers says of the size
    module _ (v : ℕ) (t : v ≡ table_at n) where
      limit : v ≡ C n
      limit = t ∙ table_within n (omega arith)

      pub range_past : v < end → Err Range ≡ start_check n first end
      range_past past = outside (λ r. omega (arith, limit))

      pub range_fits : first ≤ end → end ≤ v → Ok tt ≡ start_check n first end
      unfolding start_check
      range_fits ordered within = rw (fits, (range_means n first end).1 (ordered, omega (arith, limit)))

  -- r is what they were found to answer
  module _ (r : Outcome) (e : r ≡ start_check n first end) where
    pub range_told : (o : Outcome) → r ≡ o → start_check n first end ≡ o
    range_told o h = sym e ∙ h

    module _ (h : r ≡ Ok tt) where
      told : Sized n × (first ≤ end) × (end ≤ C n)
      told = (start_done n first end).0 (range_told (Ok tt) h)

      pub range_some : 1 ≤ n
      range_some = told.0.0

      pub range_small : n ≤ largest_size
      range_small = told.0.1

      pub range_ordered : first ≤ end
      range_ordered = told.1

      pub range_within : end ≤ C n
      range_within = told.2

      pub range_doubled : Fits w64 (2 * n)
      range_doubled = record { fits = omega (arith, told.0.1) }

      -- the state's places are enough
      pub range_room : (p : List ℕ) → length p ≡ state_places → 2 * n ≤ length p
      range_room p long = omega (arith, told.0.1)

      pub range_below : (first ≡ end → ⊥) → first < C n
      range_below other = omega (arith, told.1, told.2)

-- ---- places that are 0

-- the places from i on and before j are added up
pub record Summed (p : List ℕ) (i sum j : ℕ) : Type 0 where
  pub low : i ≤ j
  pub high : j ≤ length p
  pub few : sum ≤ 255 * j
  pub right : sum ≡ 0 → (k : ℕ) → i ≤ k → k < j → get_or p k 0 ≡ 0
  pub wrong : ((k : ℕ) → i ≤ k → get_or p k 0 ≡ 0) → sum ≡ 0

pub summed_none : (p : List ℕ) (i : ℕ) → i ≤ length p → Summed p i 0 i
summed_none p i on =
    record { low = omega arith; high = on; few = omega arith; right = λ e k low high. absurd (omega arith); wrong = λ z. refl }

module _ (p : List ℕ) (byte : (k : ℕ) → Fits w8 (get_or p k 0)) where
  pub place_fits_lem : (k : ℕ) → Fits w64 (get_or p k 0)
  place_fits_lem k = omega (arith, byte k)

  module _ (i sum j : ℕ) (m : Summed p i sum j) where
    pub sum_fits : length p ≡ state_places → Fits w64 (sum + get_or p j 0)
    sum_fits long = omega (arith, byte j, m.few, m.high)

    pub summed_next : j < length p → Summed p i (sum + get_or p j 0) (j + 1)
    summed_next on =
        record {
          low = omega (arith, m.low);
          high = omega arith;
          few = omega (arith, m.few, byte j);
          right = λ e k low high.
              elim (dec_lt k j) [
                | yes l ↦ m.right (omega arith) k low l
                | no l ↦ let here : k ≡ j = omega arith in rw here (omega arith)
              ];
          wrong = λ z. omega (arith, m.wrong z, z j m.low);
        }

pub summed_all : (p : List ℕ) (i sum j : ℕ) → Summed p i sum j → length p ≤ j → (eqb sum 0 ≡ true) ↔ (drop i p ≡ replicate (length p - i) 0)
summed_all p i sum j m off =
    Iff.trans (equal_means sum 0) (Iff.trans (
      λ e k low. elim (dec_lt k (length p)) [
        | yes l ↦ m.right e k low (omega arith)
        | no l ↦ get_or-eq_default p 0 (omega arith)
      ],
      m.wrong,
    ) (Iff.symm (zeros_from p i)))

-- ---- the pattern with a number

-- r is what the code was told of the number of the places
module _ (n k : ℕ) (s : Sized n) (below : k < C n) (p : List ℕ) (r : Numbered) (e : numbered_reply r ≡ number_reply (local n) p) where
  pub number_other : (f : Refusal) → r ≡ Err f → false ≡ same p (local_pattern n k)
  unfolding number_reply
  number_other f h =
      let refused = told_refused (checked patterns n p) (local_number p) f (ap numbered_reply (sym h) ∙ e) in
      let formed : p ≡ local_pattern n k → Feasible n p = λ g. rw g ((local_lawful n).shape_formed k below) in
      sym (same_other p (local_pattern n k) (λ g. refused_other f (sym refused ∙ (checked_done patterns patterns_tested n p).1 (s, formed g))))

  pub number_same : (v : ℕ) → r ≡ Ok v → eqb v k ≡ same p (local_pattern n k)
  unfolding number_reply
  number_same v h =
      let (done, found) = told_value (checked patterns n p) (local_number p) v (ap numbered_reply (sym h) ∙ e) in
      alike (eqb v k) (same p (local_pattern n k)) (Iff.trans (equal_means v k) (Iff.trans (
        λ q. sym ((local_lawful n).shape_number p (done_formed patterns patterns_tested n p done)) ∙ ap (local_pattern n) (sym found ∙ q),
        λ q. found ∙ ap local_number q ∙ (local_lawful n).number_shape k below,
      ) (Iff.symm (same_means p (local_pattern n k)))))

-- ---- the parts of a state

pub range_done : (o : Outcome) → false ≡ is_err o → o ≡ Ok tt
range_done (Ok _) h = refl
range_done (Err f) h = absurd (true≢false (sym h))

module _ (n k end : ℕ) (p : List ℕ) where
  module _ (o : Outcome) (e : o ≡ start_check n k end) where
    pub belong_range : (f : Refusal) → o ≡ Err f → false ≡ belong n k end p
    belong_range f h = sym (test_fails (belong_means n k end p) (λ (s, l, m, _). refused_other f (sym h ∙ e ∙ (start_done n k end).1 (s, l, m))))

    module _ (h : o ≡ Ok tt) (long : length p ≡ state_places) where
      ranges : Sized n × (k ≤ end) × (end ≤ C n)
      ranges = (start_done n k end).0 (range_told n k end o e (Ok tt) h)

      -- a test that finds exactly whether the places are those of the state
      tested : (t : Bool) → (t ≡ true) ↔ (p ≡ places_at n k end) → t ≡ belong n k end p
      tested t m =
          let places : (p ≡ places_at n k end) ↔ (belong n k end p ≡ true) =
          Iff.trans (λ q. (ranges.0, ranges.1, ranges.2, q), λ (_, _, _, q). q) (Iff.symm (belong_means n k end p)) in
          alike t (belong n k end p) (Iff.trans m places)

      -- v is whether the places from there on were found to be 0
      pub belong_end : k ≡ end → (v : Bool) → (v ≡ true) ↔ (drop 0 p ≡ replicate (length p - 0) 0) → v ≡ belong n k end p
      belong_end last v g =
          let none : replicate (length p - 0) 0 ≡ places_at n k end = rw (sub-zero, long) (sym (places_at_end n k end (omega arith))) in
          tested v (Iff.trans g (λ q. q ∙ none, λ q. q ∙ sym none))

      module _ (other : k ≡ end → ⊥) (v : Bool) (g : (v ≡ true) ↔ (drop (2 * n) p ≡ replicate (length p - 2 * n) 0)) where
        zeros : (v ≡ true) ↔ (drop (2 * n) p ≡ replicate (state_places - 2 * n) 0)
        zeros = rw (← long) g

        parts : (p ≡ places_at n k end) ↔ ((take (2 * n) p ≡ local_pattern n k) × (drop (2 * n) p ≡ replicate (state_places - 2 * n) 0))
        parts = rw (places_at_next n k end (omega (arith, ranges.1))) (padded_means n k (range_below n k end o e h other) p)

        pub belong_behind : v ≡ false → v ≡ belong n k end p
        belong_behind h = h ∙ sym (test_fails (belong_means n k end p) (λ (_, _, _, q). true≢false (sym (zeros.1 (parts.0 q).1) ∙ h)))

        -- b is whether the places before were found to be the pattern
        pub belong_found : v ≡ true → (b : Bool) → b ≡ same (take (2 * n) p) (local_pattern n k) → b ≡ belong n k end p
        belong_found h b t =
            tested b (rw t (Iff.trans (same_means (take (2 * n) p) (local_pattern n k)) (
              λ q. parts.1 (q, zeros.0 h),
              λ q. (parts.0 q).0,
            )))

pub ruleset tests = (
  rules,
  range_none,
  range_large,
  range_turned,
  range_past,
  range_fits,
  range_told,
  range_some,
  range_small,
  range_ordered,
  range_within,
  range_doubled,
  range_room,
  range_below,
  number_other,
  number_same,
  belong_range,
  belong_end,
  belong_behind,
  belong_found,
)

pub ruleset summed = (summed_none, summed_next, summed_all, place_fits_lem, sum_fits)
