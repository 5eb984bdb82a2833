-- Numbers in the local order: the number is the position.
--     number_one, number_zero      what a 1 and a 0 in front add to a number
--     word_number_below       a word's number is below the number of words
--     next_zero, next_one     the next place worked out from a number
--     places_numbered         the places worked out from a number are a word with that number
--     number_places           a word is what is worked out from its number
--     number_rises            the number follows dictionary order
--     local_lawful            all of it for the patterns of one size
-- Assumes nothing.
use mathlib.Core.Path.{◌≡◌, refl, sym, ap, ◌∙◌, subst, subst₂}
use mathlib.Core.List.{List, [], ◌∷◌}
use Prim.Native.Nat.{ℕ, zero, suc, ◌+◌, ◌-◌, ◌*◌, ◌≤◌, ◌<◌}
use native.Mathlib.Omega.{arith}
use native.Mathlib.Decide.{dec_lt}
use borrow.Author.Tests.{lt-ltb, le-ltb}
use Rattle.catalan.specs.Count.{C, ways, words}
use Rattle.catalan.proofs.Counting.{ways_words, C_words, words_one, words_none, words_step, words_rise}
use Rattle.shape.specs.Form.{count}
use Rattle.shape.specs.Order.{Dictionary, differ, agree}
use Rattle.shape.specs.Number.{local_number, local_places, local_pattern}
use Rattle.shape.specs.Numbering.{Lawful, local}
use Rattle.shape.proofs.Orders.{positioned, local_pattern_lem, pattern_local}
use Rattle.shape.proofs.Patterns.{Word, done, zero_next, one_next, word_ones, word_zeros, word_length, feasible_word, word_feasible}

-- what a 1 adds: the words that have a 0 in its place
pub number_one : {e a : ℕ} {w : List ℕ} → Word (suc e) a w → local_number (1 ∷ w) ≡ words e (suc a) + local_number w
unfolding local_number
number_one {e} {a} {w} r =
    let ones = word_ones r in
    let zeros = word_zeros r in
    ap (λ (z : ℕ). z + local_number w) (ways_words (suc (count 1 w)) (count 0 w - 1) e (omega arith) ∙ ap (λ (z : ℕ). words e (suc z)) ones)

pub number_zero : (w : List ℕ) → local_number (0 ∷ w) ≡ local_number w
unfolding local_number
number_zero w = refl

pub word_number_below : {e a : ℕ} {w : List ℕ} → Word e a w → local_number w < words (suc e) a
word_number_below done = unfold local_number words in omega arith
word_number_below (zero_next {e} {a} {w} r) = omega (arith, number_zero w, word_number_below r, words_rise (suc e) a)
word_number_below (one_next {e} {a} {w} r) = omega (arith, number_one r, word_number_below r, words_step e a)

-- ---- places from a number

pub next_zero : (i a b k : ℕ) → k < ways a (b - 1) → local_places (suc i) a b k ≡ 0 ∷ local_places i a (b - 1) k
unfolding local_places
next_zero i a b k h = rw (lt-ltb k (ways a (b - 1)) h)

pub next_one : (i a b k v : ℕ) → ways (suc a) (b - 1) ≡ v → v ≤ k → local_places (suc i) (suc a) b k ≡ 1 ∷ local_places i a b (k - v)
unfolding local_places
next_one i a b k v q h =
    let fewer : suc a - 1 ≡ a = omega arith in
    rw (q, le-ltb k v h, fewer)

-- w is a word with the number k
abbrev pub HasNumber : ℕ → ℕ → ℕ → List ℕ → Type 0
HasNumber e a k w = Word e a w × (local_number w ≡ k)

-- the places worked out from k, with a ones and e + a zeros left, are such a word
abbrev pub Placed : ℕ → Type 0
Placed i = (e a b k : ℕ) → e + a ≡ b → a + b ≡ i → k < words (suc e) a → HasNumber e a k (local_places i a b k)

module _ (i : ℕ) (rest : Placed i) where
  placed_zero : (e a b k : ℕ) → e + a ≡ b → a + b ≡ suc i → ways a (b - 1) ≡ words e a → k < words e a → HasNumber e a k (local_places (suc i) a b k)
  placed_zero zero zero b k hb hi q h = absurd (omega arith)
  placed_zero zero (suc a) b k hb hi q h = absurd (omega (arith, words_none a))
  placed_zero (suc e) a b k hb hi q h =
      let r = rest e a (b - 1) k (omega arith) (omega arith) h in
      subst (HasNumber (suc e) a k) (sym (next_zero i a b k (omega arith))) (zero_next r.0, number_zero _ ∙ r.1)

  placed_one : (e a b k : ℕ) → e + a ≡ b → a + b ≡ suc i → ways a (b - 1) ≡ words e a → words e a ≤ k → k < words (suc e) a
      → HasNumber e a k (local_places (suc i) a b k)
  placed_one e zero b k hb hi q h l = absurd (omega (arith, words_one e, words_one (suc e)))
  placed_one e (suc a) b k hb hi q h l =
      let r = rest (suc e) a b (k - words e (suc a)) (omega arith) (omega arith) (omega (arith, words_step e a)) in
      subst (HasNumber e (suc a) k) (sym (next_one i a b k (words e (suc a)) q h)) (one_next r.0, number_one r.0 ∙ omega (arith, r.1))

placed_none : Placed 0
unfolding local_places local_number
placed_none e a b k hb hi hk =
    let none : 0 ≡ a = omega arith in
    let even : 0 ≡ e = omega arith in
    let first : 0 ≡ k = omega (arith, ap (words (suc e)) (sym none), words_one (suc e)) in
    (subst₂ (λ (e a : ℕ). Word e a []) even none done, first)

pub places_numbered : (i : ℕ) → Placed i
places_numbered zero e a b k hb hi hk = placed_none e a b k hb hi hk
places_numbered (suc i) e a b k hb hi hk = decide (dec_lt k (words e a)) (places_numbered i)
  where
    q : ways a (b - 1) ≡ words e a
    q = ways_words a (b - 1) e (omega arith)

    decide : Dec (k < words e a) → Placed i → HasNumber e a k (local_places (suc i) a b k)
    decide (yes h) rest = placed_zero i rest e a b k hb hi q h
    decide (no h) rest = placed_one i rest e a b k hb hi q (omega arith) hk

pub number_places : {e a : ℕ} {w : List ℕ} → Word e a w → (i b : ℕ) → e + a ≡ b → a + b ≡ i → local_places i a b (local_number w) ≡ w
number_places done zero b hb hi = unfold local_places in refl
number_places done (suc i) b hb hi = absurd (omega arith)
number_places (zero_next r) zero b hb hi = absurd (omega arith)
number_places (zero_next {e} {a} {w} r) (suc i) b hb hi =
    let q = ways_words a (b - 1) (suc e) (omega arith) in
    rw number_zero
    (next_zero i a b (local_number w) (omega (arith, word_number_below r))
    ∙ ap {B = List ℕ} (λ v. 0 ∷ v) (number_places r i (b - 1) (omega arith) (omega arith)))
number_places (one_next r) zero b hb hi = absurd (omega arith)
number_places (one_next {e} {a} {w} r) (suc i) b hb hi =
    let left : local_number (1 ∷ w) - words e (suc a) ≡ local_number w = omega (arith, number_one r) in
    next_one i a b (local_number (1 ∷ w)) (words e (suc a)) (ways_words (suc a) (b - 1) e (omega arith)) (omega (arith, number_one r))
    ∙ ap {B = List ℕ} (λ (k : ℕ). 1 ∷ local_places i a b k) left
    ∙ ap {B = List ℕ} (λ v. 1 ∷ v) (number_places r i b (omega arith) (omega arith))

-- ---- order

pub number_rises : {e a : ℕ} {v w : List ℕ} → Word e a v → Word e a w → Dictionary v w → local_number v < local_number w
number_rises done done d = elim d [ ]
number_rises (zero_next r) (zero_next s) (differ h) = absurd (omega arith)
number_rises (zero_next {w = v} r) (zero_next {w = w} s) (agree d) = omega (arith, number_zero v, number_zero w, number_rises r s d)
number_rises (zero_next {w = v} r) (one_next s) (differ h) = omega (arith, number_zero v, number_one s, word_number_below r)
number_rises (one_next r) (zero_next s) (differ h) = absurd (omega arith)
number_rises (one_next r) (one_next s) (differ h) = absurd (omega arith)
number_rises (one_next r) (one_next s) (agree d) = omega (arith, number_one r, number_one s, number_rises r s d)

-- ---- the patterns of one size

pub local_lawful : (n : ℕ) → Lawful (local n)
local_lawful n =
    record {
      number_below = λ p g. rw C_words (word_number_below (feasible_word g));
      shape_formed = λ k h. word_feasible (placed k h).0;
      number_shape = λ k h. (placed k h).1;
      shape_number = λ p g. unfold local_pattern in number_places (feasible_word g) (2 * n) n (omega arith) (omega arith);
      ordered = λ s t e. (local_pattern_lem s t e, pattern_local s t e);
      position = λ p q g h.
          let v = feasible_word g in
          let w = feasible_word h in
          positioned local_number p q (number_rises v w) (number_rises w v) (word_length v ∙ sym (word_length w));
    }
  where
    placed : (k : ℕ) → k < C n → HasNumber 0 n k (local_pattern n k)
    placed k h = unfold local_pattern in places_numbered (2 * n) 0 n n k (omega arith) (omega arith) (rw C_words at h)
