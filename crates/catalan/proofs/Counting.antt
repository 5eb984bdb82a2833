-- Laws of what the bench counts, for every size.
--     words_one, words_none, words_step      no node: one word; nodes but no tree: none; else a 0 or a 1 comes first
--     words_rise, words_positive             one tree more, no fewer words; a tree or more, a word at least
--     C_rule               (k+2)·C(k+1) = (4k+2)·C(k): no remainder is lost
--     ways_words           the ways to finish are the words for the trees still to come
--     ways_none            more ones than zeros: no way
--     ways_step            a 0 or a 1 comes next: ways a b = ways a (b-1) + ways (a-1) b
--     ways_positive        there is a way while ones are no more than zeros
--     ways_rises_ones, ways_rises_zeros, ways_at_most, ways_fit     monotone, at most C(b), and within 64 bits
--     size_limit, C_fits   C(36) fits 64 bits and C(37) does not; up to C(36) they all fit
--     C_half               up to C(35) they are below 2^63
--     C_ways, C_words      C(n) = ways n n, the words for one tree of n nodes
--     words_join           the words for m + k trees are those for m and then those for k: a convolution
--     segner               C(n+1) = the sum of C(j)·C(n-j) for j ≤ n
--     prefixes_words       the prefixes are one less than the words of 0 to a+1 nodes
--     prefixes_total       C(1) + .. + C(n+1), the prefixes of the patterns of size n, the empty one included
--     total_fits           which fits 64 bits up to the largest size
-- Assumes nothing.
use mathlib.Core.Path.{◌≡◌, refl, sym, ap, ◌∙◌, subst}
use Prim.Native.Nat.{ℕ, zero, suc, ◌+◌, ◌-◌, ◌*◌, ◌/◌, ◌≤◌, ◌<◌, ◌^◌}
use native.Mathlib.Nat.{mul-le-mul_right, eq-or-lt_of_le, suc-add, add-suc, zero-add, eq_of_mul-eq-mul_left}
use native.Mathlib.Nat.{le_of_mul-le-mul_left, sub-eq-zero_of_le, mul-div_cancel_left, le_trans, lt_of_le_of_lt}
use native.Mathlib.Omega.{arith}
use native.Mathlib.Decide.{dec_le}
use mathlib.Core.Logic.{inl, inr}
use lib.Dec.{lit<, lit≤}
use Rattle.catalan.specs.Count.{C, largest_size, binom, binom_before, ways, words, prefixes, sum}
use Rattle.catalan.proofs.Sums.{sum_last, sum_rises, sum_front, sum_plus, sum_cong, conv, conv_sum, conv_plus, conv_none}
use Rattle.catalan.proofs.Binomials.{binom_next, binom_absorb, binom_pascal, binom_mirror}

pub words_one : (m : ℕ) → words m 0 ≡ 1
unfolding words
words_one m = refl

pub words_step : (m a : ℕ) → words (suc m) (suc a) ≡ words m (suc a) + words (suc (suc m)) a
unfolding words
words_step m a = refl

pub words_none : (a : ℕ) → words 0 (suc a) ≡ 0
unfolding words
words_none a = refl

pub words_rise : (m a : ℕ) → words m a ≤ words (suc m) a
words_rise m zero = omega (arith, words_one m, words_one (suc m))
words_rise m (suc a) = omega (arith, words_step m a)

pub words_positive : (a m : ℕ) → 0 < words (suc m) a
words_positive zero m = omega (arith, words_one (suc m))
words_positive (suc a) m = omega (arith, words_step m a, words_positive a (suc m))

-- the words of one tree or more are a difference of two neighbours in Pascal's triangle
words_binom : (a m n : ℕ) → a + a + m ≡ n → words (suc m) a + binom_before n a ≡ binom n a
unfolding binom_before
words_binom zero m n e = unfold words binom in refl
words_binom (suc a) zero n e =
    let k = a + suc a in
    let top : suc k ≡ n = omega arith in
    let low : a + a + 1 ≡ k = omega arith in
    subst (λ (n : ℕ). words 1 (suc a) + binom n a ≡ binom n (suc a)) top
    (rw (words_step, binom_pascal k a, binom_pascal k (suc a))
    (omega (arith, words_none a, words_binom a 1 k low, binom_mirror a (suc a))))
words_binom (suc a) (suc m) n e =
    let k = suc a + suc a + m in
    let top : suc k ≡ n = omega arith in
    let low : a + a + suc (suc m) ≡ k = omega arith in
    subst (λ (n : ℕ). words (suc (suc m)) (suc a) + binom n a ≡ binom n (suc a)) top
    (rw (words_step, binom_pascal k a, binom_pascal k (suc a))
    (omega (arith, words_binom a (suc (suc m)) k low, words_binom (suc a) m k refl)))

pub ways_none : (a b : ℕ) → b < a → ways a b ≡ 0
unfolding ways binom_before
ways_none zero b h = absurd (omega arith)
ways_none (suc a) b h =
    let n = suc a + b in
    let fewer : (b + 1) * binom n a ≤ (a + 1) * binom n a = mul-le-mul_right (binom n a) (omega arith) in
    sub-eq-zero_of_le (le_of_mul-le-mul_left {k = a + 1} (omega (arith, binom_next n a)) (omega arith))

-- a ones and b zeros left leave b + 1 - a trees to come, the one whose last 0 is dropped among them
pub ways_words : (a b m : ℕ) → a + m ≡ suc b → ways a b ≡ words m a
ways_words a b (suc m) e = unfold ways in omega (arith, words_binom a m (a + b) (omega arith))
ways_words (suc a) b zero e = ways_none (suc a) b (omega arith) ∙ sym (words_none a)
ways_words zero b zero e = absurd (omega arith)

ways_no_ones : (b : ℕ) → ways 0 b ≡ 1
ways_no_ones b = ways_words 0 b (suc b) (omega arith) ∙ words_one (suc b)

pub ways_step : (a b : ℕ) → a ≤ b → ways (suc a) (suc b) ≡ ways (suc a) b + ways a (suc b)
ways_step a b h =
    let m = b - a in
    rw (ways_words (suc a) (suc b) (suc m) (omega arith), ways_words (suc a) b m (omega arith), ways_words a (suc b) (suc (suc m)) (omega arith))
    (words_step m a)

pub ways_positive : (a b : ℕ) → a ≤ b → 0 < ways a b
ways_positive zero b h = omega (arith, ways_no_ones b)
ways_positive (suc a) zero h = absurd (omega arith)
ways_positive (suc a) (suc b) h = rw (ways_step a b (omega arith)) (omega (arith, ways_positive a (suc b) (omega arith)))

pub ways_rises_ones : (a b : ℕ) → a < b → ways a b ≤ ways (suc a) b
ways_rises_ones a zero h = absurd (omega arith)
ways_rises_ones a (suc b) h = omega (arith, ways_step a b (omega arith))

pub ways_rises_zeros : (a b : ℕ) → a ≤ b → ways a b ≤ ways a (suc b)
ways_rises_zeros zero b h = omega (arith, ways_no_ones b, ways_no_ones (suc b))
ways_rises_zeros (suc a) b h = omega (arith, ways_step a b (omega arith))

-- ---- the Catalan numbers

-- (n+1) · words 1 n = binom(2n, n), and its neighbour
words_middle : (n : ℕ) → (n + 1) * words 1 n ≡ binom (n + n) n
unfolding binom_before
words_middle zero = unfold words binom in refl
words_middle (suc n) =
    let m = suc n + suc n in
    omega (arith, binom_next m n, ap (λ (z : ℕ). (n + 2) * z) (words_binom (suc n) 0 m (omega arith)))

-- binom(2n+1, n) = (2n+1) · words 1 n
words_beside : (n : ℕ) → binom (suc (n + n)) n ≡ (n + n + 1) * words 1 n
words_beside n =
    let mirror = rw add-suc at (binom_mirror n (suc n)) in
    eq_of_mul-eq-mul_left (n + 1) (omega arith) _ _
    (omega (arith, binom_absorb (n + n) n, ap (λ (z : ℕ). (n + 1) * z) mirror, ap (λ (z : ℕ). (n + n + 1) * z) (words_middle n)))

words_rule : (n : ℕ) → (n + 2) * words 1 (suc n) ≡ (4 * n + 2) * words 1 n
words_rule n =
    let outer = rw (suc-add n (suc n), add-suc n n) at (words_middle (suc n)) in
    eq_of_mul-eq-mul_left (n + 1) (omega arith) _ _
    (omega (arith, binom_absorb (suc (n + n)) n, ap (λ (z : ℕ). (n + 1) * z) outer, ap (λ (z : ℕ). (n + n + 2) * z) (words_beside n)))

pub C_words : (n : ℕ) → C n ≡ words 1 n
unfolding C
C_words zero = unfold words in refl
C_words (suc n) =
    ap (λ (z : ℕ). (4 * n + 2) * z / (n + 2)) (C_words n)
    ∙ ap (λ (z : ℕ). z / (n + 2)) (sym (words_rule n))
    ∙ mul-div_cancel_left (words 1 (suc n)) (omega arith)

pub C_rule : (k : ℕ) → (k + 2) * C (suc k) ≡ (4 * k + 2) * C k
C_rule k = rw (C_words (suc k), C_words k) (words_rule k)

pub C_ways : (n : ℕ) → C n ≡ ways n n
C_ways n = C_words n ∙ sym (ways_words n n 1 (omega arith))

pub C_positive : (n : ℕ) → 0 < C n
C_positive n = rw C_ways (ways_positive n n (omega arith))

pub C_rises : (n m : ℕ) → n ≤ m → C n ≤ C m
C_rises n zero h = let none : n ≡ 0 = omega arith in rw none (omega arith)
C_rises n (suc m) h = elim (eq-or-lt_of_le h) [ inl e ↦ rw e (omega arith) | inr l ↦ le_trans (C_rises n m (omega arith)) next ]
  where
    next : C m ≤ C (suc m)
    next = rw (C_ways m, C_ways (suc m)) (le_trans (ways_rises_zeros m m (omega arith)) (ways_rises_ones m (suc m) (omega arith)))

pub ways_at_most : (a b : ℕ) → a ≤ b → ways a b ≤ C b
ways_at_most a b h = rw C_ways (climb (b - a) a (omega arith))
  where
    climb : (d a : ℕ) → a + d ≡ b → ways a b ≤ ways b b
    climb zero a e = let same : a ≡ b = omega arith in rw same (omega arith)
    climb (suc d) a e = le_trans (ways_rises_ones a b (omega arith)) (climb d (suc a) (omega arith))

pub size_limit : (C (largest_size + 1) < 2 ^ 64) × (2 ^ 64 ≤ C (largest_size + 2))
unfolding C
size_limit = (lit< tt, lit≤ tt)

pub C_fits : (n : ℕ) → n ≤ largest_size + 1 → C n < 2 ^ 64
C_fits n h = omega (arith, size_limit.0, C_rises n (largest_size + 1) h)

-- up to the largest size they even fit 64 bits with a sign
pub C_half : (n : ℕ) → n ≤ largest_size → C n < 2 ^ 63
C_half n h = omega (arith, most, C_rises n largest_size h)
  where
    most : C largest_size < 2 ^ 63
    most = unfold C in lit< tt

-- every count that is used fits 64 bits, though the binomials need not (`binom_passes_width`)
pub ways_fit : (a b : ℕ) → b ≤ largest_size → ways a b < 2 ^ 64
ways_fit a b h = elim (dec_le a b) [ yes l ↦ fits l | no g ↦ rw (ways_none a b (omega arith)) (lit< tt) ]
  where
    fits : a ≤ b → ways a b < 2 ^ 64
    fits l = omega (arith, ways_at_most a b l, C_fits b (omega arith))

-- ---- words side by side

-- the only word for no tree is the empty one
conv_no_tree : (k a : ℕ) → conv (words 0) (words k) a ≡ words k a
unfolding conv words
conv_no_tree k zero = omega arith
conv_no_tree k (suc a) = omega (arith, conv_none (λ j. words 0 (suc j)) (words k) a (λ j. refl))

pub words_join : (a m k : ℕ) → words (m + k) a ≡ conv (words m) (words k) a
words_join zero m k = unfold words conv in refl
words_join (suc a) zero k = rw zero-add (sym (conv_no_tree k (suc a)))
words_join (suc a) (suc m) k =
    let one_more = rw (suc-add (suc m) k, suc-add m k) at (words_join a (suc (suc m)) k) in
    rw (suc-add m k, words_step)
    (omega (arith, one_more, words_join (suc a) m k, conv_first (suc m), conv_step, conv_first m))
  where
    conv_first : (m : ℕ) → conv (words m) (words k) (suc a) ≡ words k (suc a) + conv (λ j. words m (suc j)) (words k) a
    conv_first m = unfold conv in omega (arith, ap (λ (z : ℕ). z * words k (suc a)) (words_one m))

    conv_step : conv (λ j. words (suc m) (suc j)) (words k) a ≡ conv (λ j. words m (suc j)) (words k) a + conv (words (suc (suc m))) (words k) a
    conv_step = unfold words in conv_plus (λ j. words m (suc j)) (words (suc (suc m))) (words k) a

pub segner : (n : ℕ) → C (suc n) ≡ sum (suc n) (λ j. C j * C (n - j))
segner n =
    (C_words (suc n) ∙ words_step 0 n ∙ omega (arith, words_none n))
    ∙ words_join n 1 1
    ∙ conv_sum (words 1) (words 1) n
    ∙ sum_cong (suc n) _ _ (λ j l. rw (C_words j, C_words (n - j)))

-- ---- prefixes

pub prefixes_step : (m a : ℕ) → prefixes (suc m) (suc a) ≡ suc (prefixes m (suc a) + prefixes (suc (suc m)) a)
unfolding prefixes
prefixes_step m a = refl

prefixes_no_tree : (a : ℕ) → prefixes 0 a ≡ 0
unfolding prefixes
prefixes_no_tree zero = refl
prefixes_no_tree (suc a) = refl

words_one_node : (m : ℕ) → words m 1 ≡ m
words_one_node zero = words_none 0
words_one_node (suc m) = rw words_step (omega (arith, words_one_node m, words_one (suc (suc m))))

pub prefixes_words : (a m : ℕ) → suc (prefixes m a) ≡ sum (suc (suc a)) (words m)
prefixes_words zero m = unfold prefixes sum in omega (arith, words_one m, words_one_node m)
prefixes_words (suc a) zero =
    rw sum_last (omega (arith, words_none (suc a), prefixes_words a 0, prefixes_no_tree a, prefixes_no_tree (suc a)))
prefixes_words (suc a) (suc m) =
    let k = suc (suc a) in
    rw (sum_front, prefixes_step, terms k)
    (omega (arith, prefixes_words (suc a) m, prefixes_words a (suc (suc m)), sum_front k (words m), words_one m, words_one (suc m)))
  where
    terms : (k : ℕ) → sum k (λ j. words (suc m) (suc j)) ≡ sum k (λ j. words m (suc j)) + sum k (words (suc (suc m)))
    terms k = unfold words in sum_plus k (λ j. words m (suc j)) (words (suc (suc m)))

-- point 3's total is this less the empty prefix
pub prefixes_total : (n : ℕ) → prefixes 1 n ≡ sum (suc n) (λ k. C (suc k))
prefixes_total n =
    let same : sum (suc n) (λ k. words 1 (suc k)) ≡ sum (suc n) (λ k. C (suc k)) = sum_cong (suc n) _ _ (λ j l. sym (C_words (suc j))) in
    omega (arith, prefixes_words n 1, sum_front (suc n) (words 1), words_one 1)

-- the figure of a whole size fits 64 bits, up to the largest size
pub total_fits : (n : ℕ) → n ≤ largest_size → sum (suc n) (λ k. C (suc k)) < 2 ^ 64
total_fits n h = lt_of_le_of_lt (sum_rises (λ k. C (suc k)) (omega arith)) largest
  where
    largest : sum (largest_size + 1) (λ k. C (suc k)) < 2 ^ 64
    largest = unfold C sum in lit< tt
