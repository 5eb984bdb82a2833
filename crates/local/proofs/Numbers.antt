-- Laws of the loops that work out a pattern's number and the pattern with a number.
--     Passed n p i k a b          place i of p and those after it have the number k, a ones and b zeros; 1 ≤ b, and neither a nor b is above n
--     passed_last                 so it is at the last place of a pattern, which is a 0
--     passed_zero, passed_one     and at the place before, which is a 0 or a 1
--     passed_all                  from the first place on, the number is the pattern's
--     row_grown                   with a 0 more, the row is again that of one 0 fewer
--     ones_left                   the entry that a 1 asks for is within the row
--     number_fits                 what it makes of the number fits 64 bits
--     Placing q p i r a b         the places of p before i, and those worked out from r for a ones and b zeros, are q; i is before the last a + b
--     placing_none                so it is before a place is written
--     placing_zero, placing_one   and after one place more, a 0 where r is among the ways to finish after it, and otherwise a 1
--     placing_all                 with no ones left, the rest is zeros
--     zeros_left                  while a 1 is left, so is a 0
--     ways_whole                  a number below C(n) is below the ways to finish the whole pattern
--     placed_pattern              what is worked out from the first place on is the pattern with the number
--     numbering, shaping, placing      what the proofs of `number`, `shape` and `put_numbered` use
-- Assumes nothing.
use Rattle.std.proofs.Common.{◌≡◌, ℕ, zero, suc, ◌+◌, ◌-◌, ◌*◌, ◌<◌, ◌≤◌, List, [], ◌∷◌, ◌++◌, length, get_or, take, drop, set, replicate, sym, refl, ap, ◌∙◌, append-nil, le_refl, zero-add, add-one, arith, length-set, drop_of_length-le, w64, Fits}
use native.Mathlib.Nat.{sub-zero}
use native.Mathlib.Decide.{dec_le}
use borrow.Rule.Slice.PartMut.{mid_of, put_mid}
use lib.ListN.{length-replicate}
use Rattle.catalan.specs.Count.{C, ways, largest_size}
use Rattle.catalan.specs.Table.{row_of}
use Rattle.catalan.proofs.Counting.{words_one, ways_words, ways_none, ways_step, ways_positive, C_ways, C_fits}
use Rattle.catalan.proofs.Rows.{row_at, row_start, row_long}
use Rattle.shape.specs.Form.{count, Feasible}
use Rattle.shape.specs.Number.{local_number, local_places, local_pattern}
use Rattle.shape.proofs.Writing.{written_next, from_before}
use Rattle.shape.proofs.Counts.{count_split}
use Rattle.shape.proofs.Patterns.{Word, done, zero_next, one_next, word_length, feasible_word, feasible_length}
use Rattle.shape.proofs.LocalNumbers.{next_zero, next_one, local_lawful}
use Rattle.local.specs.Places.{end_numbered}
use Rattle.local.proofs.Places.{filled_lem}

-- ---- the number of places

pub record Passed (n : ℕ) (p : List ℕ) (i k a b : ℕ) : Type 0 where
  pub on : i < length p
  pub number : k ≡ local_number (drop i p)
  pub ones : a ≡ count 1 (drop i p)
  pub zeros : b ≡ count 0 (drop i p)
  pub least : 1 ≤ b
  pub ones_most : a ≤ n
  pub zeros_most : b ≤ n

word_last : {e a : ℕ} {w : List ℕ} → Word e a w → (i : ℕ) → length w ≡ suc i → drop i w ≡ 0 ∷ []
word_last done i h = absurd (omega arith)
word_last (zero_next {w = []} r) zero h = refl
word_last (zero_next {w = x ∷ w} r) zero h = absurd (omega arith)
word_last (zero_next r) (suc i) h = word_last r i (omega arith)
word_last (one_next r) zero h = absurd (omega (arith, word_length r))
word_last (one_next r) (suc i) h = word_last r i (omega arith)

pub passed_last : (n : ℕ) (p : List ℕ) → Feasible n p → 1 ≤ n → Passed n p (2 * n - 1) 0 0 1
passed_last n p g h =
    let long = feasible_length n p g in
    let e = word_last (feasible_word g) (2 * n - 1) (omega arith) in
    record {
      on = omega arith;
      number = rw e (unfold local_number in refl);
      ones = rw e (unfold count in refl);
      zeros = rw e (unfold count in refl);
      least = le_refl 1;
      ones_most = omega arith;
      zeros_most = h;
    }

number_last : (i : ℕ) (p : List ℕ) → local_number (drop i p) ≤ local_number p
unfolding local_number
number_last zero p = le_refl (local_number p)
number_last (suc i) [] = le_refl 0
number_last (suc i) (zero ∷ p) = number_last i p
number_last (suc i) (suc x ∷ p) = omega (arith, number_last i p)

pub row_grown : (b : ℕ) (row : List ℕ) → row ≡ row_of (b - 1 + 1) → 1 ≤ b → row ≡ row_of (b + 1 - 1)
row_grown b row r h = let same : b - 1 + 1 ≡ b + 1 - 1 = omega arith in r ∙ ap row_of same

pub passed_all : (n : ℕ) (p : List ℕ) (i k a b : ℕ) → Passed n p i k a b → i ≤ 0 → k ≡ local_number p
passed_all n p i k a b m h = let none : i ≡ 0 = omega arith in m.number ∙ rw none

module _ (n : ℕ) (p : List ℕ) (g : Feasible n p) (small : n ≤ largest_size) (i k a b : ℕ) (m : Passed n p i k a b) (low : 0 < i) where
  from : drop (i - 1) p ≡ get_or p (i - 1) 0 ∷ drop i p
  from = from_before p i low (omega (arith, m.on))

  module _ (z : get_or p (i - 1) 0 ≡ 0) where
    here_zero : drop (i - 1) p ≡ 0 ∷ drop i p
    here_zero = from ∙ rw z

    zero_more : b + 1 ≡ count 0 (drop (i - 1) p)
    zero_more = rw here_zero (unfold count in omega (arith, m.zeros))

    pub passed_zero : Passed n p (i - 1) k a (b + 1)
    passed_zero =
        record {
          on = omega (arith, m.on);
          number = m.number ∙ rw here_zero (unfold local_number in refl);
          ones = m.ones ∙ rw here_zero (unfold count in refl);
          zeros = zero_more;
          least = omega arith;
          ones_most = m.ones_most;
          zeros_most = omega (arith, zero_more, count_split 0 (i - 1) p, g.zeros);
        }

  module _ (o : get_or p (i - 1) 0 ≡ 0 → ⊥) where
    here_one : drop (i - 1) p ≡ 1 ∷ drop i p
    here_one =
        let one : get_or p (i - 1) 0 ≡ 1 = omega (arith, g.places (i - 1) (omega (arith, m.on))) in
        from ∙ rw one

    one_more : a + 1 ≡ count 1 (drop (i - 1) p)
    one_more = rw here_one (unfold count in omega (arith, m.ones))

    most : a + 1 ≤ n
    most = omega (arith, one_more, count_split 1 (i - 1) p, g.ones)

    pub ones_left : a + 1 < 36
    ones_left = omega (arith, most)

    module _ (row : List ℕ) (r : row ≡ row_of (b - 1)) where
      raised : k + get_or row (a + 1) 0 ≡ local_number (drop (i - 1) p)
      raised = rw (r, row_at (b - 1) (a + 1) ones_left, here_one, m.number, m.ones, m.zeros, add-one) (unfold local_number in omega arith)

      pub passed_one : Passed n p (i - 1) (k + get_or row (a + 1) 0) (a + 1) b
      passed_one =
          record {
            on = omega (arith, m.on);
            number = raised;
            ones = one_more;
            zeros = m.zeros ∙ rw here_one (unfold count in refl);
            least = m.least;
            ones_most = most;
            zeros_most = m.zeros_most;
          }

      pub number_fits : Fits w64 (k + get_or row (a + 1) 0)
      number_fits =
          let below = (local_lawful n).number_below p g in
          record {
            fits = omega (arith, raised, number_last (i - 1) p, below, C_fits n (omega arith));
          }

-- ---- places from a number

pub record Placing (q p : List ℕ) (i r a b : ℕ) : Type 0 where
  pub left : i + (a + b) ≡ length p
  pub ones : a ≤ b
  pub zeros : b ≤ largest_size
  pub below : r < ways a b
  pub places : take i p ++ local_places (a + b) a b r ≡ q

pub placing_none : (p : List ℕ) (r a b : ℕ) → a + b ≤ length p → a ≤ b → b ≤ largest_size → r < ways a b
    → Placing (end_numbered a b r p) p (length p - a - b) r a b
unfolding end_numbered
placing_none p r a b last ones zeros below =
    let start : length p - (a + b) ≡ length p - a - b = omega arith in
    record { left = omega arith; ones = ones; zeros = zeros; below = below; places = rw start }

pub ways_whole : (n k : ℕ) → k < C n → k < ways n n
ways_whole n k h = rw (← C_ways n) h

pub placed_pattern : (n k : ℕ) (p q : List ℕ) → length p ≡ 2 * n → q ≡ end_numbered n n k p → q ≡ local_pattern n k
unfolding end_numbered local_pattern
placed_pattern n k p q long e =
    let twice : n + n ≡ 2 * n = omega arith in
    let none : length p - (n + n) ≡ 0 = omega arith in
    e ∙ rw (none, twice)

zeros_places : (i b : ℕ) → local_places i 0 b 0 ≡ replicate i 0
zeros_places zero b = unfold local_places in refl
zeros_places (suc i) b = next_zero i 0 b 0 (ways_positive 0 (b - 1) (omega arith)) ∙ ap {B = List ℕ} (λ v. 0 ∷ v) (zeros_places i (b - 1))

module _ (q p : List ℕ) (end r a b : ℕ) (long : end ≡ length p) (m : Placing q p (end - a - b) r a b) where
  -- w is what the last places hold once zeros are written over them
  pub placing_all : (w : List ℕ) → a ≤ 0 → w ≡ replicate (length (mid_of (end - b) (length p - (end - b)) p)) 0
      → put_mid (end - b) (length p - (end - b)) p w ≡ q
  placing_all w h hw =
      let none : a ≡ 0 = omega arith in
      let first : r ≡ 0 = omega (arith, rw none at m.below, ways_words 0 b (b + 1) (omega arith), words_one (b + 1)) in
      let rest : length p - (end - b) ≡ b = omega (arith, m.left) in
      let past : drop (length p) p ≡ [] = drop_of_length-le p {i = length p} (omega arith) in
      filled_lem (end - b) (length p) 0 p w (omega arith) (omega arith) hw
      ∙ rw (past, rest, append-nil {A = ℕ}, sym (zeros_places b b)) (rw (none, first, zero-add, sub-zero) at m.places)

  module _ (row : List ℕ) (w : row ≡ row_of (b - 1)) (some : 0 < a) where
    entry : get_or row a 0 ≡ ways a (b - 1)
    entry = rw w (row_at (b - 1) a (omega (arith, m.ones, m.zeros)))

    placed : (x j : ℕ) (v : List ℕ) → suc j ≡ a + b → local_places (suc j) a b r ≡ x ∷ v
        → take (end - a - b + 1) (set p (end - a - b) x) ++ v ≡ q
    placed x j v s e = written_next p (end - a - b) x v (omega (arith, m.left)) ∙ rw (sym e, s) m.places

    pub zeros_left : 1 ≤ b
    zeros_left = omega (arith, m.ones)

    module _ (h : r < get_or row a 0) where
      enough : a ≤ b - 1
      enough = elim (dec_le a (b - 1)) [ yes l ↦ l | no g ↦ absurd (omega (arith, entry, ways_none a (b - 1) (omega arith))) ]

      pub placing_zero : Placing q (set p (end - a - b) 0) (end - a - (b - 1)) r a (b - 1)
      placing_zero =
          let next : end - a - (b - 1) ≡ end - a - b + 1 = omega (arith, m.left, zeros_left) in
          record {
            left = omega (arith, m.left, zeros_left, length-set p (end - a - b) 0);
            ones = enough;
            zeros = omega (arith, m.zeros);
            below = omega (arith, entry);
            places = rw next (placed 0 (a + (b - 1)) _ (omega (arith, zeros_left)) (next_zero (a + (b - 1)) a b r (omega (arith, entry))));
          }

    pub placing_one : get_or row a 0 ≤ r
        → Placing q (set p (end - a - b) 1) (end - (a - 1) - b) (r - get_or row a 0) (a - 1) b
    placing_one h =
        let whole : suc (a - 1) ≡ a = omega arith in
        let fewer : suc (b - 1) ≡ b = omega (arith, zeros_left) in
        let step : ways a b ≡ ways a (b - 1) + ways (a - 1) b = rw (whole, fewer) at (ways_step (a - 1) (b - 1) (omega (arith, m.ones))) in
        let next : end - (a - 1) - b ≡ end - a - b + 1 = omega (arith, m.left, zeros_left) in
        record {
          left = omega (arith, m.left, length-set p (end - a - b) 1);
          ones = omega (arith, m.ones);
          zeros = m.zeros;
          below = omega (arith, m.below, step, entry);
          places = rw next (placed 1 (a - 1 + b) _ (omega arith) (rw whole at (next_one (a - 1 + b) (a - 1) b r (get_or row a 0) (rw (whole, entry)) h)));
        }

-- ---- what the proofs of `number`, `shape` and `put_numbered` use

pub ruleset numbering = (length-set, length-replicate, row_start, row_long, passed_last, passed_zero, passed_one, passed_all, row_grown, ones_left, number_fits)

pub ruleset shaping = (row_long, ways_whole, placed_pattern)

pub ruleset placing = (length-set, row_long, placing_none, placing_zero, placing_one, placing_all, zeros_left)
