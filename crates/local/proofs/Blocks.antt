-- What the loops over a pattern's places find.
--     block_.., pairs_.., seconds_..      the loops of block_start, pairs_start and put_pairs: _turn is what one turn makes, _stop, _end and
--                            _last what a loop answers or leaves
--     Block, block_found     a block of one digit, as block_start finds it
--     Paired, paired_found   the last places 1, 0, 1, 0, .. of a pattern, as pairs_start finds them
--     zeros_within, pairs_within      that these lie within the places
--     last_found             a last block of ones at the very front: the last pattern
--     rise_found             and elsewhere: the pattern is the lower one of two neighbours that part at the place before the block (Parted)
--     first_found            the zeros before the last pairs begin at the very front: the first pattern
--     fall_found             and elsewhere: it is the upper one of two neighbours
--     block_search, pairs_search, seconds_put, block_ends      what the proofs of those three loops and of `last_block` use
-- Assumes nothing.
use Rattle.std.proofs.Common.{◌≡◌, ℕ, zero, suc, ◌+◌, ◌-◌, ◌*◌, ◌<◌, ◌≤◌, cond, eqb, List, [], ◌∷◌, ◌++◌, length, get_or, take, drop, set, replicate, sym, refl, ap, ◌∙◌, subst, ap₂, inl, inr, append-nil, le_refl, eq-or-lt_of_le, arith, drop_of_length-le, length-set, length-take-le, take_all, drop-cons, eq-eqb, ne_eqb}
use native.Mathlib.Nat.{sub_self}
use native.Mathlib.Decide.{ℕ_discrete}
use lib.Seq.{split_at}
use Rattle.catalan.specs.Count.{C}
use Rattle.shape.specs.Form.{Feasible}
use Rattle.shape.specs.Number.{local_number}
use Rattle.shape.proofs.Patterns.{Word, done, zero_next, one_next, feasible_word, feasible_length}
use Rattle.shape.proofs.Neighbours.{pairs, least, word_same, greatest_only, least_word, least_number, last_number, behind, closes, lower, upper}
use Rattle.local.specs.Places.{block_start, pairs_start, every_second}

-- ---- the loops, turn by turn

block_step : (x : ℕ) (p : List ℕ) (i : ℕ) → 0 < i → block_start x p i ≡ cond (eqb (get_or p (i - 1) 0) x) (block_start x p (i - 1)) i
unfolding block_start
block_step x p zero low = absurd (omega arith)
block_step x p (suc i) low = let back : suc i - 1 ≡ i = omega arith in rw back

module _ (x e i : ℕ) (p : List ℕ) (same : block_start x p e ≡ block_start x p i) where
  pub block_turn : 0 < i → get_or p (i - 1) 0 ≡ x → block_start x p e ≡ block_start x p (i - 1)
  block_turn low h = same ∙ rw (block_step x p i low, eq-eqb (get_or p (i - 1) 0) x h)

  pub block_stop : 0 < i → (get_or p (i - 1) 0 ≡ x → ⊥) → i ≡ block_start x p e
  block_stop low h = sym (same ∙ rw (block_step x p i low, ne_eqb (get_or p (i - 1) 0) x h))

  pub block_end : i ≤ 0 → 0 ≡ block_start x p e
  unfolding block_start
  block_end h = let none : i ≡ 0 = omega arith in sym (same ∙ rw none)

pairs_step : (p : List ℕ) (i : ℕ) → 1 < i → pairs_start p i ≡ cond (eqb (get_or p (i - 2) 0) 1) (pairs_start p (i - 2)) i
unfolding pairs_start
pairs_step p zero low = absurd (omega arith)
pairs_step p (suc zero) low = absurd (omega arith)
pairs_step p (suc (suc i)) low = let back : suc (suc i) - 2 ≡ i = omega arith in rw back

pairs_short : (p : List ℕ) (i : ℕ) → i ≤ 1 → pairs_start p i ≡ i
unfolding pairs_start
pairs_short p zero h = refl
pairs_short p (suc zero) h = refl
pairs_short p (suc (suc i)) h = absurd (omega arith)

module _ (e i : ℕ) (p : List ℕ) (same : pairs_start p e ≡ pairs_start p i) where
  pub pairs_turn : 1 < i → get_or p (i - 2) 0 ≡ 1 → pairs_start p e ≡ pairs_start p (i - 2)
  pairs_turn low h = same ∙ rw (pairs_step p i low, eq-eqb (get_or p (i - 2) 0) 1 h)

  pub pairs_stop : 1 < i → (get_or p (i - 2) 0 ≡ 1 → ⊥) → i ≡ pairs_start p e
  pairs_stop low h = sym (same ∙ rw (pairs_step p i low, ne_eqb (get_or p (i - 2) 0) 1 h))

  pub pairs_end : i ≤ 1 → i ≡ pairs_start p e
  pairs_end h = sym (same ∙ pairs_short p i h)

-- p with x at place i and at every second place after it
abbrev pub seconds : ℕ → ℕ → List ℕ → List ℕ
seconds x i p = take i p ++ every_second x (drop i p)

second_put : (x : ℕ) (p : List ℕ) (i : ℕ) → i < length p → seconds x (suc (suc i)) (set p i x) ≡ seconds x i p
unfolding every_second
second_put x [] i h = absurd (omega arith)
second_put x (y ∷ []) zero h = refl
second_put x (y ∷ z ∷ p) zero h = refl
second_put x (y ∷ p) (suc i) h = ap {B = List ℕ} (λ w. y ∷ w) (second_put x p i (omega arith))

module _ (x i : ℕ) (p w : List ℕ) (same : seconds x i p ≡ w) where
  pub seconds_turn : i < length p → seconds x (i + 2) (set p i x) ≡ w
  seconds_turn on = let two : i + 2 ≡ suc (suc i) = omega arith in rw two (second_put x p i on ∙ same)

  seconds_past : length p ≤ i → p ≡ w
  unfolding every_second
  seconds_past past = sym (rw (take_all i p past, drop_of_length-le p past, append-nil)) ∙ same

module _ (x i n : ℕ) (p w : List ℕ) (same : seconds x i p ≡ w) (long : length p ≡ n) where
  pub seconds_end : n ≤ i → p ≡ w
  seconds_end past = seconds_past x i p w same (omega arith)

  pub seconds_last : i < n → n - i ≤ 2 → set p i x ≡ w
  seconds_last on few = seconds_past x (i + 2) (set p i x) w (seconds_turn x i p w same (omega arith)) (simp length-set (omega arith))

-- ---- what the loops find

-- from s to i stands x alone, and not before s
pub record Block (x : ℕ) (p : List ℕ) (i s : ℕ) : Type 0 where
  pub within : s ≤ i
  pub filled : drop s p ≡ replicate (i - s) x ++ drop i p
  pub stops : 0 < s → get_or p (s - 1) 0 ≡ x → ⊥

one_more : (k x : ℕ) (w : List ℕ) → replicate k x ++ x ∷ w ≡ replicate (suc k) x ++ w
one_more zero x w = refl
one_more (suc k) x w = ap {B = List ℕ} (λ v. x ∷ v) (one_more k x w)

block_grown : (x : ℕ) (p : List ℕ) (i s : ℕ) → i < length p → get_or p i 0 ≡ x → Block x p i s → Block x p (suc i) s
block_grown x p i s on e b =
    let longer : suc i - s ≡ suc (i - s) = omega (arith, b.within) in
    record {
      within = omega (arith, b.within);
      filled = b.filled ∙ rw (longer, drop-cons p i 0 on, e) (one_more (i - s) x (drop (suc i) p));
      stops = b.stops;
    }

block_empty : (x : ℕ) (p : List ℕ) (i : ℕ) → (0 < i → get_or p (i - 1) 0 ≡ x → ⊥) → Block x p i i
block_empty x p i h = record { within = le_refl i; filled = rw sub_self; stops = h }

pub block_found : (x : ℕ) (p : List ℕ) (i : ℕ) → i ≤ length p → Block x p i (block_start x p i)
unfolding block_start
block_found x p zero h = block_empty x p 0 (λ l. absurd (omega arith))
block_found x p (suc i) h =
    elim (ℕ_discrete (get_or p i 0) x) [
      | yes e ↦ rw (eq-eqb (get_or p i 0) x e) (block_grown x p i (block_start x p i) (omega arith) e (block_found x p i (omega arith)))
      | no g ↦ rw (ne_eqb (get_or p i 0) x g) (block_empty x p (suc i) (λ l. let back : suc i - 1 ≡ i = omega arith in rw back g))
    ]

-- from t to i stand m pairs, and no pair before t
pub record Paired (p : List ℕ) (i t m : ℕ) : Type 0 where
  pub long : i ≡ t + 2 * m
  pub filled : drop t p ≡ pairs m ++ drop i p
  pub stops : 0 < t → (1 < t) × (get_or p (t - 2) 0 ≡ 1 → ⊥)

one_pair_more : (m : ℕ) (w : List ℕ) → pairs m ++ 1 ∷ 0 ∷ w ≡ pairs (suc m) ++ w
one_pair_more zero w = refl
one_pair_more (suc m) w = ap {B = List ℕ} (λ v. 1 ∷ 0 ∷ v) (one_pair_more m w)

module _ (p : List ℕ) where
  pairs_grown : (i t m : ℕ) → drop i p ≡ 1 ∷ 0 ∷ drop (suc (suc i)) p → Paired p i t m → Paired p (suc (suc i)) t (suc m)
  pairs_grown i t m here f =
      record {
        long = omega (arith, f.long);
        filled = f.filled ∙ rw here (one_pair_more m (drop (suc (suc i)) p));
        stops = f.stops;
      }

  pairs_empty : (i : ℕ) → (get_or p i 0 ≡ 1 → ⊥) → Paired p (suc (suc i)) (suc (suc i)) 0
  pairs_empty i g =
      let back : suc (suc i) - 2 ≡ i = omega arith in
      record { long = omega arith; filled = refl; stops = λ l. (omega arith, rw back g) }

-- the first place opens something
opened : {p : List ℕ} {n b : ℕ} → Word 0 n p → 0 < length p → Word 0 b (drop 1 p) → ⊥
opened done on s = omega arith
opened (one_next r) on s = omega (arith, (word_same r s).0)

module _ (p : List ℕ) {n : ℕ} (r : Word 0 n p) where
  -- a place after which nothing is open is a 0
  closed : (i : ℕ) {b : ℕ} → i < length p → Word 0 b (drop (suc i) p) → drop i p ≡ 0 ∷ drop (suc i) p
  closed i on s =
      let (c, d, w) = behind (take i p) (subst (Word 0 n) (split_at p i 0 on) r) in
      drop-cons p i 0 on ∙ ap (λ (x : ℕ). x ∷ drop (suc i) p) (closes w s)

  pub paired_found : (i : ℕ) {b : ℕ} → i ≤ length p → Word 0 b (drop i p) → (m : ℕ) × Paired p i (pairs_start p i) m
  unfolding pairs_start
  paired_found zero h s = (0, record { long = refl; filled = refl; stops = λ l. absurd (omega arith) })
  paired_found (suc zero) h s = absurd (opened r h s)
  paired_found (suc (suc i)) {b} h s =
      elim (ℕ_discrete (get_or p i 0) 1) [
        | yes e ↦
            let here : drop i p ≡ 1 ∷ 0 ∷ drop (suc (suc i)) p = rw (drop-cons p i 0 (omega arith), e, closed (suc i) h s) in
            let (m, f) = paired_found i {b = suc b} (omega arith) (rw here (one_next (zero_next s))) in
            rw (eq-eqb (get_or p i 0) 1 e) (suc m, pairs_grown p i (pairs_start p i) m here f)
        | no g ↦ rw (ne_eqb (get_or p i 0) 1 g) (0, pairs_empty p i g)
      ]

-- ---- where a step is made

-- ones and then zeros behind a 0: as many zeros as ones at least
block_excess : (k z : ℕ) {c b : ℕ} → Word c b (0 ∷ (replicate k 1 ++ replicate z 0)) → (e : ℕ) × (z ≡ e + k)
block_excess k z (zero_next {e} r) = let (x, y) = greatest_only k z r in (e, omega arith)

-- zeros and then pairs behind a 1: a 0 at least
pairs_excess : (k m : ℕ) {c b : ℕ} → Word c b (1 ∷ least k m) → 0 < k
pairs_excess k m (one_next r) = omega (arith, (word_same (least_word k m) r).0)

-- p is cut at the place before s, where x stands
record Cut (p : List ℕ) (s x : ℕ) (v : List ℕ) : Type 0 where
  pub front : List ℕ
  pub starts : suc (length front) ≡ s
  pub parts : p ≡ front ++ x ∷ v
  pub here : get_or p (s - 1) 0 ≡ x
  pub word : (e : ℕ) × (a : ℕ) × Word e a (x ∷ v)

-- there two neighbours part: behind a front, p goes on as the lower or as the upper one does
pub record Parted (side : List ℕ → ℕ → ℕ → List ℕ) (p : List ℕ) (s : ℕ) : Type 0 where
  pub front : List ℕ
  pub excess : ℕ
  pub others : ℕ
  pub starts : suc (length front) ≡ s
  pub parts : p ≡ side front excess others
  pub rest : length p ≡ s + (excess + 2 * suc others)

module _ (n : ℕ) (p : List ℕ) (g : Feasible n p) where
  nothing_past : drop (2 * n) p ≡ []
  nothing_past = drop_of_length-le p {i = 2 * n} (omega (arith, feasible_length n p g))

  -- before a block of zeros stands a 1, and before one of ones a 0
  cut : (x i s : ℕ) (v : List ℕ) → x ≤ 1 → i ≤ length p → Block x p i s → (s ≡ 0 → ⊥) → drop s p ≡ v → Cut p s (1 - x) v
  cut x i s v small within b inside e =
      record {
        front = take (s - 1) p;
        starts = omega (arith, length-take-le (s - 1) p (omega arith));
        parts = parts;
        here = here;
        word = behind (take (s - 1) p) (subst (Word 0 n) parts (feasible_word g));
      }
    where
      on : s - 1 < length p
      on = omega (arith, b.within)

      here : get_or p (s - 1) 0 ≡ 1 - x
      here = let other = b.stops (omega arith) in omega (arith, g.places (s - 1) on)

      parts : p ≡ take (s - 1) p ++ (1 - x) ∷ v
      parts = let back : suc (s - 1) ≡ s = omega arith in split_at p (s - 1) 0 on ∙ rw (back, here, e)

  -- the last block of ones
  module _ (end : ℕ) (he : end ≡ block_start 0 p (2 * n)) where
    zeros : Block 0 p (2 * n) end
    zeros = rw he (block_found 0 p (2 * n) (omega (arith, feasible_length n p g)))

    pub zeros_within : end ≤ length p
    zeros_within = omega (arith, feasible_length n p g, zeros.within)

    module _ (start : ℕ) (hs : start ≡ block_start 1 p end) where
      ones : Block 1 p end start
      ones = rw hs (block_found 1 p end zeros_within)

      ones_then_zeros : drop start p ≡ replicate (end - start) 1 ++ replicate (2 * n - end) 0
      ones_then_zeros = ones.filled ∙ ap (λ (w : List ℕ). replicate (end - start) 1 ++ w) (zeros.filled ∙ rw (nothing_past, append-nil))

      pub last_found : start ≡ 0 → suc (local_number p) ≡ C n
      last_found none =
          let all : p ≡ replicate (end - start) 1 ++ replicate (2 * n - end) 0 = ap (λ (i : ℕ). drop i p) (sym none) ∙ ones_then_zeros in
          rw all (last_number n (end - start) (2 * n - end) (subst (Word 0 n) all (feasible_word g)))

      pub rise_found : (start ≡ 0 → ⊥) → (m : Parted lower p start) × (end ≡ start + suc m.others)
      rise_found inside =
          let k = end - start in
          let z = 2 * n - end in
          let u = c.front in
          let (e, h) = block_excess k z c.word.2 in
          let one : k ≡ suc (k - 1) = omega (arith, some) in
          let rest : z ≡ e + suc (k - 1) = omega arith in (
            record {
              front = u;
              excess = e;
              others = k - 1;
              starts = c.starts;
              parts = c.parts ∙ ap₂ (λ (k z : ℕ). u ++ 0 ∷ (replicate k 1 ++ replicate z 0)) one rest;
              rest = omega (arith, some, zeros.within, feasible_length n p g);
            },
            omega (arith, some),
          )
        where
          c : Cut p start 0 (replicate (end - start) 1 ++ replicate (2 * n - end) 0)
          c = cut 1 end start _ (omega arith) zeros_within ones inside ones_then_zeros

          -- without ones the 0 here would be one of the zeros
          some : start < end
          some = elim (eq-or-lt_of_le ones.within) [ inl e ↦ absurd (zeros.stops (omega arith) (rw (← e) c.here)) | inr l ↦ l ]

  -- the last pairs, and the zeros before them
  module _ (end : ℕ) (he : end ≡ pairs_start p (2 * n)) where
    last_pairs : (m : ℕ) × Paired p (2 * n) end m
    last_pairs = rw he (paired_found p (feasible_word g) (2 * n) {b = 0} (omega (arith, feasible_length n p g)) (rw nothing_past done))

    pub pairs_within : end ≤ length p
    pairs_within = omega (arith, feasible_length n p g, last_pairs.1.long)

    module _ (start : ℕ) (hs : start ≡ block_start 0 p end) where
      zeros_before : Block 0 p end start
      zeros_before = rw hs (block_found 0 p end pairs_within)

      zeros_then_pairs : drop start p ≡ least (end - start) last_pairs.0
      zeros_then_pairs =
          zeros_before.filled ∙ ap (λ (w : List ℕ). replicate (end - start) 0 ++ w) (last_pairs.1.filled ∙ rw (nothing_past, append-nil))

      pub first_found : start ≡ 0 → local_number p ≡ 0
      first_found none =
          let all : p ≡ least (end - start) last_pairs.0 = ap (λ (i : ℕ). drop i p) (sym none) ∙ zeros_then_pairs in
          ap local_number all ∙ least_number (end - start) last_pairs.0

      pub fall_found : (start ≡ 0 → ⊥) → (m : Parted upper p start) × (end ≡ start + suc (suc m.excess))
      fall_found inside =
          let k = end - start in
          let a = last_pairs.0 in
          let u = c.front in
          let two : k ≡ suc (suc (k - 2)) = omega (arith, some) in (
            record {
              front = u;
              excess = k - 2;
              others = a;
              starts = c.starts;
              parts = c.parts ∙ ap (λ (k : ℕ). u ++ 1 ∷ least k a) two;
              rest = omega (arith, some, last_pairs.1.long, feasible_length n p g);
            },
            omega (arith, some),
          )
        where
          c : Cut p start 1 (least (end - start) last_pairs.0)
          c = cut 0 end start _ (omega arith) pairs_within zeros_before inside zeros_then_pairs

          -- with a single 0 the 1 here would begin one pair more
          some : start + 1 < end
          some =
              elim (eq-or-lt_of_le (pairs_excess (end - start) last_pairs.0 c.word.2)) [
                | inl e ↦ let there : end - 2 ≡ start - 1 = omega arith in absurd ((last_pairs.1.stops (omega arith)).1 (rw there c.here))
                | inr l ↦ omega arith
              ]

-- ---- what the proofs of `block_start`, `pairs_start`, `put_pairs` and `last_block` use

pub ruleset block_search = (block_turn, block_stop, block_end)

pub ruleset pairs_search = (pairs_turn, pairs_stop, pairs_end)

pub ruleset seconds_put = (length-set, seconds_turn, seconds_end, seconds_last)

pub ruleset block_ends = (feasible_length, zeros_within)
