-- What stands in a record, part by part, as the code finds it: r is what the slice holds.
--     unit_none, unit_one, unit_two, unit_three, unit_some      what the last place counts in its byte, by the size's rest when divided by 4
--     size_found, mark_found, fill_found       the size and the mark in the first byte, the fill in the last
--     layout_empty, layout_none, layout_large, layout_mark, layout_length, layout_fill      each test of the layout, where it is the first to fail
--     layout_passes                            where none fails
-- Assumes nothing.
use mathlib.Core.Path.{◌≡◌, sym, ap, ◌∙◌}
use mathlib.Core.Logic.Iff
use mathlib.Core.Logic.{◌↔◌}
use mathlib.Core.Bool.{Bool, true, false, not-eq-not}
use mathlib.Core.List.{List, [], ◌++◌, append-nil}
use Prim.Native.Nat.{ℕ, suc, ◌+◌, ◌-◌, ◌*◌, ◌/◌, ◌%◌, ◌^◌, ◌≤◌, ◌<◌}
use native.Mathlib.Nat.{mod-eq_of_lt}
use native.Mathlib.Omega.{arith}
use mir.Val.{Fits}
use mir.Syntax.{w8}
use lib.Dec.{ltb, eqb}
use lib.ListN.{length, get_or, take, drop, drop_of_length-le}
use lib.Pow.{pow_pos}
use lib.Seq.{take_at, take-append-le, drop-append-le, drop-drop}
use borrow.Author.Tests.{le-ltb, lt-ltb, eq-eqb, ne_eqb}
use Rattle.catalan.specs.Count.{largest_size}
use Rattle.shape.specs.Form.{every}
use Rattle.shape.specs.Check.{sized, Sized, record_length}
use Rattle.shape.specs.declared.Refusal.TheVariants.{Size, Record}
use Rattle.std.specs.Prelude.{Ok, Err}
use Rattle.shape.proofs.Lists.{all_at, all_of}
use Rattle.shape.proofs.Tests.{equal_means, every_means}
use Rattle.shape.proofs.Checks.{sized_means}
use Rattle.record.specs.Bits.{bits, value, bits_of}
use Rattle.record.specs.Record.{fill, size_in, mark_in, fill_in}
use Rattle.record.specs.Calls.{layout_check}
use Rattle.record.proofs.Bits.{all_zeros, length_bits, bits_front, bits_back, bits_of_from, value_low, value_none, value_zeros}

-- ---- the fill, by the size's rest when divided by 4

module _ (n : ℕ) where
  unit_of : (f : ℕ) → fill n ≡ f → 2 ^ f ≡ 2 ^ fill n
  unit_of f e = ap (λ (k : ℕ). 2 ^ k) (sym e)

  pub unit_none : n % 4 ≡ 0 → 1 ≡ 2 ^ fill n
  unit_none e = unit_of 0 (unfold fill in omega arith)

  module _ (not_None : n % 4 ≡ 0 → ⊥) where
    pub unit_one : n % 4 ≡ 1 → 64 ≡ 2 ^ fill n
    unit_one e = unit_of 6 (unfold fill in omega arith)

    module _ (not_one : n % 4 ≡ 1 → ⊥) where
      pub unit_two : n % 4 ≡ 2 → 16 ≡ 2 ^ fill n
      unit_two e = unit_of 4 (unfold fill in omega arith)

      pub unit_three : (n % 4 ≡ 2 → ⊥) → 4 ≡ 2 ^ fill n
      unit_three not-two = unit_of 2 (unfold fill in omega arith)

pub unit_some : (n unit : ℕ) → unit ≡ 2 ^ fill n → 0 < unit
unit_some n unit e = rw e (pow_pos (fill n))

-- ---- the parts

module _ (r : List ℕ) (some : 0 < length r) where
  first_bits : bits_of r ≡ bits 8 (get_or r 0 0) ++ bits_of (drop 1 r)
  first_bits = bits_of_from 0 r some

  pub size_found : get_or r 0 0 < 256 → size_in r ≡ get_or r 0 0 / 4
  unfolding size_in
  size_found byte =
      let x = get_or r 0 0 in
      let six : take 6 (bits_of r) ≡ bits 6 (x / 4) =
      ap (take 6) first_bits ∙ take-append-le 6 (bits 8 x) (bits_of (drop 1 r)) (omega (arith, length_bits 8 x)) ∙ bits_front 6 2 x in
      ap value six ∙ value_low 6 (x / 4) ∙ mod-eq_of_lt (omega arith)

  pub mark_found : mark_in r ≡ get_or r 0 0 % 4
  unfolding mark_in
  mark_found =
      let x = get_or r 0 0 in
      let rest = bits_of (drop 1 r) in
      let two : take 2 (drop 6 (bits_of r)) ≡ bits 2 x =
      ap (λ (l : List ℕ). take 2 (drop 6 l)) first_bits ∙ ap (take 2) (drop-append-le 6 (bits 8 x) rest (omega (arith, length_bits 8 x)))
      ∙ ap (λ (l : List ℕ). take 2 (l ++ rest)) (bits_back 6 2 x) ∙ take_at (bits 2 x) rest 2 (length_bits 2 x) in
      ap value two ∙ value_low 2 x

fill_small : (n : ℕ) → fill n ≤ 6
fill_small n = unfold fill in omega arith

fill_whole : (n : ℕ) → 8 + 2 * n ≡ 8 * ((n + 3) / 4) + (8 - fill n)
fill_whole n = unfold fill in omega arith

no_more : (l : List ℕ) → l ++ bits_of [] ≡ l
unfolding bits_of
no_more l = append-nil l

pub fill_found : (r : List ℕ) → length r ≡ record_length (size_in r) → fill_in r ≡ bits (fill (size_in r)) (get_or r (length r - 1) 0)
unfolding fill_in
fill_found r long =
    let n = size_in r in
    let k = (n + 3) / 4 in
    let f = fill n in
    let x = get_or r k 0 in
    let last : k ≡ length r - 1 = omega arith in
    let all : 8 ≡ 8 - f + f = omega (arith, fill_small n) in
    let end : bits 8 x ++ bits_of (drop (suc k) r) ≡ bits 8 x =
    ap (λ (l : List ℕ). bits 8 x ++ bits_of l) (drop_of_length-le r {i = suc k} (omega arith)) ∙ no_more (bits 8 x) in
    ap (λ (m : ℕ). drop m (bits_of r)) (fill_whole n) ∙ sym (drop-drop (8 - f) (8 * k) (bits_of r))
    ∙ ap (drop (8 - f)) (bits_of_from k r (omega arith) ∙ end ∙ ap (λ (m : ℕ). bits m x) all) ∙ bits_back (8 - f) f x
    ∙ ap (λ (m : ℕ). bits f (get_or r m 0)) last

-- zeros throughout
abbrev zeros : List ℕ → Bool
zeros l = every (length l) (λ i. eqb (get_or l i 0) 0)

zeros_mean : (k x : ℕ) → (zeros (bits k x) ≡ true) ↔ (x % 2 ^ k ≡ 0)
zeros_mean k x =
    let l = bits k x in
    Iff.trans (every_means (length l) (λ i h. equal_means (get_or l i 0) 0)) (
      λ h. sym (value_low k x) ∙ ap value (all_zeros l (all_of (λ b. b ≡ 0) l h)) ∙ value_zeros (length l),
      λ h. all_at (λ b. b ≡ 0) l (value_none l (value_low k x ∙ h)),
    )

-- ---- the tests

module _ (r : List ℕ) where
  pub layout_empty : length r ≡ 0 → Err Record ≡ layout_check r
  unfolding layout_check
  layout_empty e = simp (le-ltb 0 (length r) (omega arith))

  module _ (some : length r ≡ 0 → ⊥) (byte : (i : ℕ) → Fits w8 (get_or r i 0)) where
    there : ltb 0 (length r) ≡ true
    there = lt-ltb 0 (length r) (omega arith)

    size : size_in r ≡ get_or r 0 0 / 4
    size = size_found r (omega arith) (omega (arith, byte 0))

    unsized : (Sized (get_or r 0 0 / 4) → ⊥) → Err Size ≡ layout_check r
    unfolding layout_check
    unsized bad =
        let fails : sized (get_or r 0 0 / 4) ≡ false = (not-eq-not {b = false}).0 (λ t. bad ((sized_means (get_or r 0 0 / 4)).0 t)) in
        rw (there, size, fails)

    pub layout_none : get_or r 0 0 / 4 ≡ 0 → Err Size ≡ layout_check r
    layout_none none = unsized (λ (low, high). omega arith)

    pub layout_large : largest_size < get_or r 0 0 / 4 → Err Size ≡ layout_check r
    layout_large large = unsized (λ (low, high). omega arith)

    module _ (not_None : get_or r 0 0 / 4 ≡ 0 → ⊥) (small : get_or r 0 0 / 4 ≤ largest_size) where
      fits : sized (get_or r 0 0 / 4) ≡ true
      fits = (sized_means (get_or r 0 0 / 4)).1 (omega arith, small)

      pub layout_mark : (get_or r 0 0 % 4 ≡ 0 → ⊥) → Err Record ≡ layout_check r
      unfolding layout_check
      layout_mark other = rw (there, size, fits, mark_found r (omega arith), ne_eqb (get_or r 0 0 % 4) 0 other)

      module _ (mark : get_or r 0 0 % 4 ≡ 0) where
        marked : eqb (get_or r 0 0 % 4) 0 ≡ true
        marked = eq-eqb (get_or r 0 0 % 4) 0 mark

        pub layout_length : (length r ≡ record_length (get_or r 0 0 / 4) → ⊥) → Err Record ≡ layout_check r
        unfolding layout_check
        layout_length other =
            rw (there, size, fits, mark_found r (omega arith), marked, ne_eqb (length r) (record_length (get_or r 0 0 / 4)) other)

        module _ (long : length r ≡ record_length (get_or r 0 0 / 4)) (unit : ℕ) (e : unit ≡ 2 ^ fill (get_or r 0 0 / 4)) where
          filled : (zeros (fill_in r) ≡ true) ↔ (get_or r (length r - 1) 0 % unit ≡ 0)
          filled =
              let found = fill_found r (long ∙ ap record_length (sym size)) ∙ ap (λ (n : ℕ). bits (fill n) (get_or r (length r - 1) 0)) size in
              rw (found, e) (zeros_mean (fill (get_or r 0 0 / 4)) (get_or r (length r - 1) 0))

          pub layout_fill : (get_or r (length r - 1) 0 % unit ≡ 0 → ⊥) → Err Record ≡ layout_check r
          unfolding layout_check
          layout_fill other =
              let fails : zeros (fill_in r) ≡ false = (not-eq-not {b = false}).0 (λ t. other (filled.0 t)) in
              rw (there, size, fits, mark_found r (omega arith), marked, eq-eqb (length r) (record_length (get_or r 0 0 / 4)) long, fails)

          pub layout_passes : get_or r (length r - 1) 0 % unit ≡ 0 → Ok tt ≡ layout_check r
          unfolding layout_check
          layout_passes none =
              rw (there, size, fits, mark_found r (omega arith), marked, eq-eqb (length r) (record_length (get_or r 0 0 / 4)) long, filled.1 none)

pub ruleset units = (unit_none, unit_one, unit_two, unit_three)

pub ruleset found = (layout_empty, layout_none, layout_large, layout_mark, layout_length, layout_fill, layout_passes, unit_some)
