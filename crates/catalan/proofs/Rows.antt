-- Laws of the rows of ways, and of the loops that turn one row into another in place.
--     row_length, row_long     a row has 36 entries
--     row_at, row_fits         entry a is the ways with a ones left; for b ≤ 35 zeros it fits 64 bits
--     row_first, row_past      entry 0 is 1, and past b the entries are 0
--     rows_step                an entry of the next row is the one of this row and the next row's entry before it
--     grow_..                  upward from the row of z to the row of z + 1: entry a gains the entry before it
--     shrink_..                downward from the row of z to the row of z - 1: entry a loses the entry before it
--     row_start                the row of no zeros is 1 and then zeros
--     fill_end_lem             a row that has grown as far as it should is the row that was asked for
--     growing, shrinking       what the proofs of `grow` and `shrink` use
-- Of a loop: _begin is what holds at its start, _turn what one turn makes, _end what it leaves; _fits and _holds, that a turn's sum or
-- difference does not wrap.
-- Assumes nothing.
use mathlib.Core.Path.{◌≡◌, refl, sym, ap, ◌∙◌}
use mathlib.Core.List.{List}
use Prim.Native.Nat.{ℕ, zero, suc, ◌+◌, ◌-◌, ◌≤◌, ◌<◌, ◌^◌}
use native.Mathlib.Nat.{suc-sub-suc, sub-zero}
use native.Mathlib.Omega.{arith}
use lib.ListN.{length, get_or, set, replicate, length-set, length-replicate, get_or-replicate}
use mir.Syntax.{w64}
use mir.Val.{Fits}
use Rattle.catalan.specs.Count.{binom, binom_before, ways, words}
use Rattle.catalan.specs.Table.{tabulate, row_of}
use Rattle.catalan.proofs.Counting.{ways_words, ways_none, ways_step, ways_fit}
use Rattle.catalan.proofs.Tables.{length_tabulate, tabulate_at}
use Rattle.catalan.proofs.Seams.{seam, seam_below, seam_at, seam_up, seam_down, seam_first, seam_whole}

pub row_length : (b : ℕ) → length (row_of b) ≡ 36
row_length b = unfold row_of in length_tabulate 36 (λ a. ways a b)

pub row_long : (b : ℕ) (row : List ℕ) → row ≡ row_of b → length row ≡ 36
row_long b row e = ap length e ∙ row_length b

pub row_at : (b a : ℕ) → a < 36 → get_or (row_of b) a 0 ≡ ways a b
row_at b a h = unfold row_of in tabulate_at 36 (λ a. ways a b) a h

pub row_fits : (b a : ℕ) → b ≤ 35 → a < 36 → get_or (row_of b) a 0 < 2 ^ 64
row_fits b a h l = rw (row_at b a l) (ways_fit a b h)

pub row_first : (b : ℕ) → get_or (row_of b) 0 0 ≡ 1
row_first b = row_at b 0 (omega arith) ∙ ways_words 0 b (suc b) (omega arith) ∙ unfold words in refl

pub row_past : (b a : ℕ) → b < a → a < 36 → get_or (row_of b) a 0 ≡ 0
row_past b a h l = row_at b a l ∙ ways_none a b h

pub rows_step : (b c a : ℕ) → b + 1 ≡ c → 0 < a → a ≤ c → c ≤ 35 → get_or (row_of b) a 0 + get_or (row_of c) (a - 1) 0 ≡ get_or (row_of c) a 0
rows_step b c zero next low on small = absurd (omega arith)
rows_step b c (suc a) next low on small =
    let top : c ≡ suc b = omega arith in
    rw (top, suc-sub-suc, sub-zero, row_at b (suc a) (omega arith), row_at (suc b) a (omega arith), row_at (suc b) (suc a) (omega arith))
    (sym (ways_step a b (omega arith)))

-- ---- a row and the next, with a seam

module _ (b c : ℕ) where
  same : length (row_of c) ≡ length (row_of b)
  same = rw (row_length c, row_length b)

  seam_low : seam 1 (row_of c) (row_of b) ≡ row_of b
  seam_low = seam_first (row_of c) (row_of b) (omega (arith, row_length c)) same (row_first c ∙ sym (row_first b))

  seam_high : (a : ℕ) → b < a → c < a → seam a (row_of c) (row_of b) ≡ row_of c
  seam_high a h k = seam_whole a (row_of c) (row_of b) same (λ i l m. both i l (omega (arith, row_length c)))
    where
      both : (i : ℕ) → a ≤ i → i < 36 → get_or (row_of c) i 0 ≡ get_or (row_of b) i 0
      both i l m = row_past c i (omega arith) m ∙ sym (row_past b i (omega arith) m)

-- ---- upward

pub grow_begin : (z : ℕ) (row : List ℕ) → row ≡ row_of z → row ≡ seam 1 (row_of (z + 1)) (row_of z)
grow_begin z row e = e ∙ sym (seam_low z (z + 1))

pub grow_end : (z a : ℕ) (row : List ℕ) → row ≡ seam a (row_of (z + 1)) (row_of z) → z + 1 < a → row ≡ row_of (z + 1)
grow_end z a row e h = e ∙ seam_high z (z + 1) a (omega arith) h

module _ (z a : ℕ) (row : List ℕ) (e : row ≡ seam a (row_of (z + 1)) (row_of z)) (low : 1 ≤ a) (on : a ≤ z + 1) (small : z < 35) where
  grown : get_or row a 0 + get_or row (a - 1) 0 ≡ get_or (row_of (z + 1)) a 0
  grown =
      let within : a < length (row_of (z + 1)) = omega (arith, row_length (z + 1)) in
      let mine = seam_at a (row_of (z + 1)) (row_of z) (same z (z + 1)) within in
      let before = seam_below a (row_of (z + 1)) (row_of z) (a - 1) (omega arith) (omega arith) in
      rw (e, mine, before) (rows_step z (z + 1) a refl low on (omega arith))

  pub grow_fits : Fits w64 (get_or row a 0 + get_or row (a - 1) 0)
  grow_fits = record { fits = rw grown (row_fits (z + 1) a (omega arith) (omega arith)) }

  pub grow_turn : set row a (get_or row a 0 + get_or row (a - 1) 0) ≡ seam (a + 1) (row_of (z + 1)) (row_of z)
  grow_turn = rw (grown, e) (seam_up a (row_of (z + 1)) (row_of z) (same z (z + 1)) (omega (arith, row_length (z + 1))))

-- ---- downward

pub shrink_begin : (z : ℕ) (row : List ℕ) → row ≡ row_of z → row ≡ seam (z + 1) (row_of z) (row_of (z - 1))
shrink_begin z row e = e ∙ sym (seam_high (z - 1) z (z + 1) (omega arith) (omega arith))

pub shrink_end : (z a : ℕ) (row : List ℕ) → row ≡ seam a (row_of z) (row_of (z - 1)) → a ≡ 1 → row ≡ row_of (z - 1)
shrink_end z a row e h = e ∙ rw h (seam_low (z - 1) z)

-- a is one above the entry that is written
module _ (z a : ℕ) (row : List ℕ) (e : row ≡ seam a (row_of z) (row_of (z - 1))) (low : 1 < a) (on : a ≤ z + 1) (small : z ≤ 35) where
  parts : get_or (row_of (z - 1)) (a - 1) 0 + get_or row (a - 1 - 1) 0 ≡ get_or row (a - 1) 0
  parts =
      let within : a ≤ length (row_of z) = omega (arith, row_length z) in
      let mine = seam_below a (row_of z) (row_of (z - 1)) (a - 1) within (omega arith) in
      let before = seam_below a (row_of z) (row_of (z - 1)) (a - 1 - 1) within (omega arith) in
      rw (e, mine, before) (rows_step (z - 1) z (a - 1) (omega arith) (omega arith) (omega arith) small)

  pub shrink_holds : get_or row (a - 1 - 1) 0 ≤ get_or row (a - 1) 0
  shrink_holds = omega (arith, parts)

  pub shrink_turn : set row (a - 1) (get_or row (a - 1) 0 - get_or row (a - 1 - 1) 0) ≡ seam (a - 1) (row_of z) (row_of (z - 1))
  shrink_turn =
      let left : get_or row (a - 1) 0 - get_or row (a - 1 - 1) 0 ≡ get_or (row_of (z - 1)) (a - 1) 0 = omega (arith, parts) in
      let back : a ≡ a - 1 + 1 = omega arith in
      let same_row = e ∙ ap (λ (k : ℕ). seam k (row_of z) (row_of (z - 1))) back in
      rw (left, same_row) (seam_down (a - 1) (row_of z) (row_of (z - 1)) (same (z - 1) z) (omega (arith, row_length z)))

-- ---- the first row

pub row_start : set (replicate 36 0) 0 1 ≡ row_of 0
unfolding row_of tabulate ways binom binom_before
row_start = refl

-- ---- from row to row

pub fill_end_lem : (z b : ℕ) (row : List ℕ) → row ≡ row_of b → b ≤ z → z ≤ b → row ≡ row_of z
fill_end_lem z b row e h k = let there : b ≡ z = omega arith in e ∙ ap row_of there

-- ---- what the proofs of `grow` and `shrink` use

pub ruleset growing = (length-set, row_long, grow_begin, grow_fits, grow_turn, grow_end)

pub ruleset shrinking = (length-set, row_long, shrink_begin, shrink_holds, shrink_turn, shrink_end)
