-- What the bench counts.
--     C k             the Catalan number
--     largest_size    the most nodes that a shape on the bench has
--     binom n k       the binomial coefficient
--     ways a b        the ways to finish a pattern with a ones and b zeros left to place
--     words m a       the words that write m trees, a nodes in all, one tree after the other
--     prefixes m a    the prefixes of those words, the empty one included, the last 0 of each word dropped
--     sum n f         f 0 + .. + f (n - 1)
-- Assumes nothing.
use Rattle.std.specs.Prelude.{ℕ, zero, suc, ◌+◌, ◌-◌, ◌*◌, ◌/◌}

-- 01, What the bench holds: each number from the one before. The division leaves no remainder (`C_rule`).
unfoldable pub C : ℕ → ℕ
C zero = 1
C (suc k) = (4 * k + 2) * C k / (k + 2)

-- 01, What the bench holds. The figure of a whole size n adds up C(1) to C(n+1), and C(37) passes 64 bits (`size_limit`).
abbrev pub largest_size : ℕ
largest_size = 35

-- Pascal's rule.
unfoldable pub binom : ℕ → ℕ → ℕ
binom n zero = 1
binom zero (suc k) = 0
binom (suc n) (suc k) = binom n k + binom n (suc k)

-- binom(n, k-1), and 0 where there is no k-1.
unfoldable pub binom_before : ℕ → ℕ → ℕ
binom_before n zero = 0
binom_before n (suc k) = binom n k

-- 01, Two orders; 001, lemma 1: of all the ways to place a ones and b zeros, those that keep to a pattern's rule. More ones than zeros
-- leave none (`ways_none`).
unfoldable pub ways : ℕ → ℕ → ℕ
ways a b = binom (a + b) a - binom_before (a + b) a

-- The first tree is empty, and its 0 leaves one tree fewer; or it is a node, and its 1 leaves its left and its right part in its place.
unfoldable pub words : ℕ → ℕ → ℕ
words m zero = 1
words zero (suc a) = 0
words (suc m) (suc a) = words m (suc a) + words (suc (suc m)) a

-- The empty prefix, and those that go on with a 0 or with a 1.
unfoldable pub prefixes : ℕ → ℕ → ℕ
prefixes m zero = m
prefixes zero (suc a) = 0
prefixes (suc m) (suc a) = suc (prefixes m (suc a) + prefixes (suc (suc m)) a)

unfoldable pub sum : ℕ → (ℕ → ℕ) → ℕ
sum zero f = 0
sum (suc n) f = sum n f + f n
