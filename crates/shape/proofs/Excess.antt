-- What the excess of ones over zeros in the prefixes of a pattern says: the depth is the largest, and the head ends where it is 0 again.
--     excess p i                       by how many the ones outnumber the zeros in the first i places of p
--     depth_most, depth_reached        no prefix has a larger excess than the depth, and some prefix has that one
--     excess_first, excess_next        the excess of no place, and of one place more
--     head_prefix                      the head is the pattern's first part
--     head_within, head_least          it is no longer than the pattern, and of a node a 1 and a 0 at least
--     head_open, head_closed           within the head the excess is above 0, and at its end it is 0
-- Assumes nothing.
use mathlib.Core.Path.{◌≡◌, refl, ap}
use mathlib.Core.Logic.{inl, inr}
use mathlib.Core.List.{List, [], ◌∷◌}
use Prim.Native.Nat.{ℕ, zero, suc, ◌+◌, ◌-◌, ◌*◌, ◌≤◌, ◌<◌}
use native.Mathlib.Nat.{eq-or-lt_of_le}
use native.Mathlib.Decide.{dec_le}
use native.Mathlib.Omega.{arith}
use lib.ListN.{length, get_or, take, length-append}
use lib.Seq.{take-append-le, take-append_seam}
use Rattle.shape.specs.Tree.{Tree, empty, node, size, pattern, head}
use Rattle.shape.specs.Form.{count, Feasible}
use Rattle.shape.specs.Number.{largest, depth}
use Rattle.shape.proofs.Counts.{count_append, count_next, place_counts}
use Rattle.shape.proofs.Patterns.{pattern_formed, head_part_lem}

unfoldable pub excess : List ℕ → ℕ → ℕ
excess p i = count 1 (take i p) - count 0 (take i p)

-- ---- the depth

largest_most : (n : ℕ) (f : ℕ → ℕ) (j : ℕ) → j < n → f j ≤ largest n f
unfolding largest
largest_most zero f j h = absurd (omega arith)
largest_most (suc n) f j h =
    elim (eq-or-lt_of_le h) [
      | inl e ↦ let last : j ≡ n = omega arith in rw last (omega arith)
      | inr l ↦ omega (arith, largest_most n f j (omega arith))
    ]

largest_reached : (n : ℕ) (f : ℕ → ℕ) → (j : ℕ) × (j ≤ n) × (f j ≡ largest (suc n) f)
unfolding largest
largest_reached zero f = (0, omega arith, omega arith)
largest_reached (suc n) f =
    let (j, l, e) = largest_reached n f in
    elim (dec_le (f j) (f (suc n))) [
      | yes h ↦ (suc n, omega arith, omega arith)
      | no h ↦ (j, omega arith, omega arith)
    ]

pub depth_most : (p : List ℕ) (i : ℕ) → i ≤ length p → excess p i ≤ depth p
unfolding depth excess
depth_most p i h = largest_most (suc (length p)) (excess p) i (omega arith)

pub depth_reached : (p : List ℕ) → (i : ℕ) × (i ≤ length p) × (excess p i ≡ depth p)
unfolding depth excess
depth_reached p = largest_reached (length p) (excess p)

-- ---- one place more

pub excess_first : (p : List ℕ) → excess p 0 ≡ 0
unfolding excess count
excess_first p = refl

-- a 1 takes the excess up by one and a 0 down by one; in a feasible pattern there is one to take away
pub excess_next : {n : ℕ} {p : List ℕ} → Feasible n p → (i : ℕ) → i < length p → excess p (i + 1) + 1 ≡ excess p i + 2 * get_or p i 0
unfolding excess
excess_next {n} {p} g i on =
    omega (arith, place_counts (get_or p i 0) (g.places i on), count_next 0 p i on, count_next 1 p i on, g.prefix i, g.prefix (i + 1))

-- ---- the head

pub head_prefix : (t : Tree) → take (length (head t)) (pattern t) ≡ head t
head_prefix empty = unfold head pattern in refl
head_prefix (node l r) = rw head_part_lem (take-append_seam (head (node l r)) (pattern r))

pub head_within : (t : Tree) → length (head t) ≤ length (pattern t)
head_within empty = unfold head pattern in omega arith
head_within (node l r) = rw (head_part_lem, length-append) (omega arith)

pub head_least : (t : Tree) → 1 ≤ size t → 2 ≤ length (head t)
head_least empty h = absurd (unfold size in omega arith)
head_least (node l r) h = unfold head in omega (arith, length-append (pattern l) (0 ∷ []))

pub head_closed : (t : Tree) → excess (pattern t) (length (head t)) ≡ 0
unfolding excess head count
head_closed empty = unfold pattern in refl
head_closed (node l r) =
    let even = pattern_formed l in
    rw head_prefix (omega (arith, count_append 1 (pattern l) (0 ∷ []), count_append 0 (pattern l) (0 ∷ []), even.ones, even.zeros))

pub head_open : (t : Tree) (i : ℕ) → 1 ≤ i → i < length (head t) → 1 ≤ excess (pattern t) i
unfolding excess head count pattern
head_open empty i low h = absurd (omega arith)
head_open (node l r) zero low h = absurd (omega arith)
head_open (node l r) (suc i) low h =
    let inner : i ≤ length (pattern l) = omega (arith, length-append (pattern l) (0 ∷ [])) in
    let same = take-append-le i (pattern l) (0 ∷ pattern r) inner in
    omega (arith, ap (count 1) same, ap (count 0) same, (pattern_formed l).prefix i)
