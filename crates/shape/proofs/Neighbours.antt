-- Two patterns next to each other in the local order: 001, section 3.
--     greatest, least         of the words after an excess of e with a ones, the last and the first in order; pairs: 1, 0, 1, 0, ..
--     greatest_word, least_word, pairs_word           they are such words
--     greatest_number, least_number, pairs_number     their numbers: one less than there are words, and 0
--     word_same, greatest_only, closes                a list is a word in one way only, and what follows from that
--     last_number             ones and then zeros alone are the last pattern
--     behind                  what stands behind a prefix is a word
--     swapped, swapped_number      another word in its place makes a word again, and the prefix adds the same to the numbers of both
--     lower, upper            two patterns that part behind a prefix, the one with a 0 and the greatest word, the other with a 1 and the least
--     Neighbours              one pattern follows the other, with its change
--     neighbours, neighbours_back      the law: if the lower one is feasible, or the upper one, then they are neighbours
--     next_is, previous_is    so a step on leads from the one to the other, and a step back returns
-- Assumes nothing.
use mathlib.Core.Path.{◌≡◌, refl, sym, ap, ◌∙◌, subst₂}
use mathlib.Core.List.{List, [], ◌∷◌, ◌++◌}
use Prim.Native.Nat.{ℕ, zero, suc, ◌+◌, ◌-◌, ◌*◌}
use native.Mathlib.Nat.{add-zero}
use native.Mathlib.Numerals.{add-one}
use native.Mathlib.Omega.{arith}
use lib.ListN.{length, replicate}
use Rattle.catalan.specs.Count.{C, words}
use Rattle.catalan.proofs.Counting.{C_words, words_one, words_none, words_step}
use Rattle.shape.specs.Form.{Feasible}
use Rattle.shape.specs.Number.{local_number, local_pattern, first_difference, change}
use Rattle.shape.specs.Numbering.{local, next, previous}
use Rattle.shape.proofs.Patterns.{Word, done, zero_next, one_next, word_ones, word_zeros, feasible_word, word_feasible}
use Rattle.shape.proofs.LocalNumbers.{number_one, number_zero, local_lawful}
use Rattle.shape.proofs.Changes.{difference_here, difference_later}

-- ---- the greatest word and the least

abbrev pub pairs : ℕ → List ℕ
pairs zero = []
pairs (suc a) = 1 ∷ 0 ∷ pairs a

-- all ones come first
abbrev pub greatest : ℕ → ℕ → List ℕ
greatest e a = replicate a 1 ++ replicate (e + a) 0

-- a 1 comes only where no 0 can
abbrev pub least : ℕ → ℕ → List ℕ
least e a = replicate e 0 ++ pairs a

zeros_word : (e : ℕ) → Word e 0 (replicate e 0)
zeros_word zero = done
zeros_word (suc e) = zero_next (zeros_word e)

pub greatest_word : (e a : ℕ) → Word e a (greatest e a)
greatest_word e zero = rw add-zero (zeros_word e)
greatest_word e (suc a) = let one_more : e + suc a ≡ suc e + a = omega arith in rw one_more (one_next (greatest_word (suc e) a))

pub pairs_word : (a : ℕ) → Word 0 a (pairs a)
pairs_word zero = done
pairs_word (suc a) = one_next (zero_next (pairs_word a))

pub least_word : (e a : ℕ) → Word e a (least e a)
least_word zero a = pairs_word a
least_word (suc e) a = zero_next (least_word e a)

-- a list is a word in one way only
pub word_same : {c b e a : ℕ} {w : List ℕ} → Word c b w → Word e a w → (c ≡ e) × (b ≡ a)
word_same r s = (omega (arith, word_ones r, word_ones s, word_zeros r, word_zeros s), sym (word_ones r) ∙ word_ones s)

-- ones and then zeros can be a word in that way only
pub greatest_only : (k z : ℕ) {e a : ℕ} → Word e a (replicate k 1 ++ replicate z 0) → (k ≡ a) × (z ≡ e + a)
greatest_only zero z r = let (x, y) = word_same (zeros_word z) r in (y, omega arith)
greatest_only (suc k) z (one_next r) = let (x, y) = greatest_only k z r in (ap suc x, omega arith)

zeros_number : (e : ℕ) → local_number (replicate e 0) ≡ 0
zeros_number zero = unfold local_number in refl
zeros_number (suc e) = number_zero (replicate e 0) ∙ zeros_number e

pub greatest_number : (e a : ℕ) → suc (local_number (greatest e a)) ≡ words (suc e) a
greatest_number e zero = rw add-zero (omega (arith, zeros_number e, words_one (suc e)))
greatest_number e (suc a) =
    let one_more : e + suc a ≡ suc e + a = omega arith in
    rw (one_more, number_one (greatest_word (suc e) a)) (omega (arith, greatest_number (suc e) a, words_step e a))

pub pairs_number : (a : ℕ) → local_number (pairs a) ≡ 0
pairs_number zero = unfold local_number in refl
pairs_number (suc a) = omega (arith, number_one (zero_next (pairs_word a)), number_zero (pairs a), words_none a, pairs_number a)

pub least_number : (e a : ℕ) → local_number (least e a) ≡ 0
least_number zero a = pairs_number a
least_number (suc e) a = number_zero (least e a) ∙ least_number e a

-- the last pattern, and the first
pub last_number : (n k z : ℕ) → Word 0 n (replicate k 1 ++ replicate z 0) → suc (local_number (replicate k 1 ++ replicate z 0)) ≡ C n
last_number n k z r =
    let (x, y) = greatest_only k z r in
    let all : z ≡ 0 + n = omega arith in
    rw (x, all, greatest_number 0 n) (sym (C_words n))

-- ---- behind a prefix

-- what stands behind a prefix is a word, with the excess that the prefix leaves
pub behind : (u : List ℕ) {v : List ℕ} {e a : ℕ} → Word e a (u ++ v) → (c : ℕ) × (b : ℕ) × Word c b v
behind [] {v} {e} {a} r = (e, a, r)
behind (x ∷ u) (zero_next r) = behind u r
behind (x ∷ u) (one_next r) = behind u r

-- a place after which nothing is open is a 0
pub closes : {x : ℕ} {w : List ℕ} {e a b : ℕ} → Word e a (x ∷ w) → Word 0 b w → x ≡ 0
closes (zero_next r) s = refl
closes (one_next r) s = absurd (omega (arith, (word_same r s).0))

module _ {c b : ℕ} {v v' : List ℕ} (r : Word c b v) (r' : Word c b v') where
  -- another word in the place of one behind a prefix makes a word again
  pub swapped : (u : List ℕ) {e a : ℕ} → Word e a (u ++ v) → Word e a (u ++ v')
  swapped [] s = let (x, y) = word_same r s in subst₂ (λ (e a : ℕ). Word e a v') x y r'
  swapped (x ∷ u) (zero_next s) = zero_next (swapped u s)
  swapped (x ∷ u) (one_next s) = one_next (swapped u s)

  -- and the prefix adds the same to the numbers of both
  pub swapped_number : (u : List ℕ) {e a : ℕ} → Word e a (u ++ v) → local_number (u ++ v) + local_number v' ≡ local_number (u ++ v') + local_number v
  swapped_number [] s = omega arith
  swapped_number (x ∷ u) (zero_next s) = omega (arith, number_zero (u ++ v), number_zero (u ++ v'), swapped_number u s)
  swapped_number (x ∷ u) (one_next s) = omega (arith, number_one s, number_one (swapped u s), swapped_number u s)

difference_behind : (u v v' : List ℕ) → first_difference (u ++ 0 ∷ v) (u ++ 1 ∷ v') ≡ suc (length u)
difference_behind [] v v' = difference_here 0 1 v v' (omega arith)
difference_behind (x ∷ u) v v' = difference_later x (u ++ 0 ∷ v) (u ++ 1 ∷ v') ∙ ap suc (difference_behind u v v')

-- ---- two neighbours

-- q is the pattern after p, and c is its change
pub record Neighbours (n : ℕ) (p q : List ℕ) (c : ℕ) : Type 0 where
  pub formed : Feasible n p
  pub formed' : Feasible n q
  pub higher : local_number q ≡ suc (local_number p)
  pub changed : change n (suc (local_number p)) ≡ c

module _ (u : List ℕ) (e a : ℕ) where
  abbrev pub lower : List ℕ
  lower = u ++ 0 ∷ greatest e (suc a)

  abbrev pub upper : List ℕ
  upper = u ++ 1 ∷ least (suc (suc e)) a

  zero_then : Word (suc e) (suc a) (0 ∷ greatest e (suc a))
  zero_then = zero_next (greatest_word e (suc a))

  one_then : Word (suc e) (suc a) (1 ∷ least (suc (suc e)) a)
  one_then = one_next (least_word (suc (suc e)) a)

  one_higher : {n : ℕ} → Word 0 n lower → local_number upper ≡ suc (local_number lower)
  one_higher r =
      let low = number_zero (greatest e (suc a)) in
      let high = number_one (least_word (suc (suc e)) a) in
      omega (arith, low, high, greatest_number e (suc a), least_number (suc (suc e)) a, swapped_number zero_then one_then u r)

  -- the first place that differs, counted from 1, is the one after u
  change_behind : (n : ℕ) → Feasible n lower → Feasible n upper → local_number upper ≡ suc (local_number lower)
      → change n (suc (local_number lower)) ≡ 2 * n - suc (length u) + 1
  unfolding change
  change_behind n g g' h =
      let p = (local_lawful n).shape_number lower g in
      let q = ap (local_pattern n) (sym h) ∙ (local_lawful n).shape_number upper g' in
      rw (p, q, difference_behind u (greatest e (suc a)) (least (suc (suc e)) a))

  pub neighbours : (n : ℕ) → Feasible n lower → Neighbours n lower upper (2 * n - suc (length u) + 1)
  neighbours n g =
      let r = feasible_word g in
      let g' = word_feasible (swapped zero_then one_then u r) in
      record { formed = g; formed' = g'; higher = one_higher r; changed = change_behind n g g' (one_higher r) }

  pub neighbours_back : (n : ℕ) → Feasible n upper → Neighbours n lower upper (2 * n - suc (length u) + 1)
  neighbours_back n g = neighbours n (word_feasible (swapped one_then zero_then u (feasible_word g)))

module _ {n : ℕ} {p q : List ℕ} {c : ℕ} (h : Neighbours n p q c) where
  pub next_is : next (local n) p ≡ q
  unfolding next
  next_is = rw (add-one, ← h.higher) ((local_lawful n).shape_number q h.formed')

  pub previous_is : previous (local n) q ≡ p
  unfolding previous
  previous_is = let back : local_number q - 1 ≡ local_number p = omega (arith, h.higher) in rw back ((local_lawful n).shape_number p h.formed)
