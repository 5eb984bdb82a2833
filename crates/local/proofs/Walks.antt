-- Laws of what reads a pattern from its first place on: `depth`, `head_length`, `before`, `first_above`.
--     place_fits_lem     a place fits 64 bits
--     place_open, place_turn      what a place does to the excess of ones over zeros
--     Climbed            the excess and the largest excess so far
--     first_on, second_on         where the next two places stand
--     depth_.., climbed_next      the walk by two places; top_open and pair_open, that its differences do not wrap
--     Inside             the excess so far, and that the head goes on as long as it is above 0
--     head_..            the walk to the head's last place
--     before_..          the patterns are the same so far, and the first difference (_found) decides
--     FirstAbove, above_found      the first place above a number, as a search from some place on finds it
--     climbing, heading, ordering      what the proofs of `depth`, `head_length` and `before` use
-- Of a loop: _begin is what holds at its start, _turn or _next what one turn makes, _end what it leaves.
-- Assumes nothing.
use Rattle.std.proofs.Common.{◌≡◌, Option, Some, None, ℕ, zero, suc, ◌+◌, ◌-◌, ◌*◌, ◌<◌, ◌≤◌, max, Bool, true, false, ltb, leb, List, length, get_or, take, drop, refl, sym, ap, ◌∙◌, subst, inl, inr, le_of_eq, le_of_lt, eq-or-lt_of_le, add-zero, add-one, arith, take_all, take-suc, get_or-take, get_or-drop, length-drop, length-take-le, w64, Fits, le-ltb, lt-ltb}
use Rattle.std.specs.Option.{MatchOption}
use native.Mathlib.Decide.{dec_lt}
use Rattle.shape.specs.Tree.{head, pattern}
use Rattle.shape.specs.Form.{Feasible, pattern_tree}
use Rattle.shape.specs.Number.{local_number, largest, depth}
use Rattle.shape.specs.Faults.{first_fault}
use Rattle.shape.proofs.Patterns.{feasible_length, pattern_of}
use Rattle.shape.proofs.Searches.{search_on, search_hit, search_end}
use borrow.Author.Tests.{le-leb, lt-leb}
use Rattle.shape.proofs.Orders.{dictionary_at}
use Rattle.shape.proofs.LocalNumbers.{local_lawful}
use Rattle.shape.proofs.Excess.{excess, excess_first, excess_next, head_within, head_least, head_closed, head_open}

-- ---- one place more

module _ (n : ℕ) (p : List ℕ) (g : Feasible n p) (i : ℕ) (on : i < length p) where
  pub place_fits_lem : Fits w64 (get_or p i 0)
  place_fits_lem = record { fits = omega (arith, g.places i on) }

  module _ (e : ℕ) (at : e ≡ excess p i) where
    pub place_open : 1 ≤ e + 2 * get_or p i 0
    place_open = omega (arith, excess_next g i on)

    pub place_turn : e + 2 * get_or p i 0 - 1 ≡ excess p (i + 1)
    place_turn = omega (arith, excess_next g i on)

-- ---- the largest excess

largest_next : (f : ℕ → ℕ) (i : ℕ) → largest (suc (i + 1)) f ≡ max (largest (suc i) f) (f (i + 1))
unfolding largest
largest_next f i = ap (λ (j : ℕ). max (largest j f) (f (i + 1))) (add-one i)

-- so far: e is the excess of the first k pairs of places, and m the largest of all prefixes up to there
pub record Climbed (n : ℕ) (p : List ℕ) (m e k : ℕ) : Type 0 where
  pub long : length p ≡ 2 * n
  pub within : k ≤ n
  pub few : e ≤ 2 * k
  pub at : e ≡ excess p (2 * k)
  pub most : m ≡ largest (suc (2 * k)) (excess p)

pub depth_begin : (n : ℕ) (p : List ℕ) → Feasible n p → Climbed n p 0 0 0
depth_begin n p g =
    record {
      long = feasible_length n p g;
      within = omega arith;
      few = omega arith;
      at = sym (excess_first p);
      most = unfold largest in omega (arith, excess_first p);
    }

-- where the next two places stand
module _ (n : ℕ) (p : List ℕ) (g : Feasible n p) (k : ℕ) (on : k < n) where
  pub first_on : 2 * k < length p
  first_on = omega (arith, feasible_length n p g)

  pub second_on : 2 * k + 1 < length p
  second_on = omega (arith, feasible_length n p g)

-- x and y are those places
module _ (n : ℕ) (p : List ℕ) (m e k x y : ℕ) (g : Feasible n p) (c : Climbed n p m e k) (on : k < n)
    (first : x ≡ get_or p (2 * k) 0) (second : y ≡ get_or p (2 * k + 1) 0) where
  one_more : excess p (2 * k + 1) + 1 ≡ e + 2 * x
  one_more = omega (arith, c.at, excess_next g (2 * k) (first_on n p g k on))

  pair : 2 * k + 1 + 1 ≡ 2 * (k + 1)
  pair = omega arith

  two_more : excess p (2 * (k + 1)) + 2 ≡ e + 2 * (x + y)
  two_more = omega (arith, one_more, rw pair at (excess_next g (2 * k + 1) (second_on n p g k on)))

  pub top_open : 1 ≤ e + 2 * x + y
  top_open = omega (arith, one_more)

  pub pair_open : 2 ≤ e + 2 * (x + y)
  pair_open = omega (arith, two_more)

  -- the larger of the excess at the first of the two and at the second
  abbrev top : ℕ
  top = e + 2 * x + y - 1

  largest_more : largest (suc (2 * (k + 1))) (excess p) ≡ max m top
  largest_more =
      let far = rw pair at (largest_next (excess p) (2 * k + 1)) in
      let near = largest_next (excess p) (2 * k) in
      omega (arith, far, near, add-one (2 * k), c.most, one_more, two_more, g.places (2 * k + 1) (second_on n p g k on))

  pub climbed_next : (m' : ℕ) → m' ≡ max m top → Climbed n p m' (e + 2 * (x + y) - 2) (k + 1)
  climbed_next m' h =
      record {
        long = c.long;
        within = omega arith;
        few = omega (arith, c.few, g.places (2 * k) (first_on n p g k on), g.places (2 * k + 1) (second_on n p g k on));
        at = omega (arith, two_more);
        most = h ∙ sym largest_more;
      }

pub depth_end : (n : ℕ) (p : List ℕ) → Feasible n p → (k m e : ℕ) → Climbed n p m e k → n ≤ k → m ≡ depth p
unfolding depth excess
depth_end n p g k m e c h =
    let end : 2 * k ≡ length p = omega (arith, feasible_length n p g, c.within) in
    c.most ∙ ap (λ (j : ℕ). largest (suc j) (excess p)) end

-- ---- the head

module _ (n : ℕ) (p : List ℕ) (g : Feasible n p) where
  whole : pattern (pattern_tree p) ≡ p
  whole = (pattern_of n p g).0

  closed : excess p (length (head (pattern_tree p))) ≡ 0
  closed = subst (λ (q : List ℕ). excess q (length (head (pattern_tree p))) ≡ 0) whole (head_closed (pattern_tree p))

  open_within : (i : ℕ) → 1 ≤ i → i < length (head (pattern_tree p)) → 1 ≤ excess p i
  open_within i low h = subst (λ (q : List ℕ). 1 ≤ excess q i) whole (head_open (pattern_tree p) i low h)

  pub head_fits : length (head (pattern_tree p)) ≤ length p
  head_fits = omega (arith, head_within (pattern_tree p), ap length whole)

-- so far: o is the excess of the first i places, the head's last closes it, and what stands before it does not
pub record Inside (n : ℕ) (p : List ℕ) (o i : ℕ) : Type 0 where
  pub fits : length (head (pattern_tree p)) ≤ length p
  pub few : o ≤ i
  pub at : o ≡ excess p i
  pub goes_on : 1 ≤ o → i < length (head (pattern_tree p))
  pub ends : o ≤ 0 → i ≡ length (head (pattern_tree p))

module _ (n : ℕ) (p : List ℕ) (g : Feasible n p) (i o : ℕ) (low : 1 ≤ i) (few : o ≤ i) (at : o ≡ excess p i)
    (within : i ≤ length (head (pattern_tree p))) where
  inside : Inside n p o i
  inside =
      elim (eq-or-lt_of_le within) [
        | inl e ↦
            record {
              fits = head_fits n p g;
              few = few;
              at = at;
              goes_on = λ h. absurd (omega (arith, ap (excess p) e, closed n p g));
              ends = λ h. e;
            }
        | inr l ↦
            record {
              fits = head_fits n p g;
              few = few;
              at = at;
              goes_on = λ h. l;
              ends = λ h. absurd (omega (arith, open_within n p g i low l));
            }
      ]

pub head_begin : (n : ℕ) (p : List ℕ) → Feasible n p → 1 ≤ n → Inside n p 1 1
head_begin n p g large =
    let some : 0 < length p = omega (arith, feasible_length n p g) in
    let first : 1 ≡ excess p 1 = omega (arith, excess_first p, excess_next g 0 some, g.places 0 some) in
    inside n p g 1 1 (omega arith) (omega arith) first (omega (arith, head_least (pattern_tree p) (rw (pattern_of n p g).1 large)))

-- x is the next place
module _ (n : ℕ) (p : List ℕ) (o i x : ℕ) (g : Feasible n p) (c : Inside n p o i) (more : 0 < o) (place : x ≡ get_or p i 0) where
  on : i < length p
  on = omega (arith, c.goes_on (omega arith), c.fits)

  pub head_open_next : 1 ≤ o + 2 * x
  head_open_next = omega (arith, c.at, excess_next g i on)

  pub head_turn : Inside n p (o + 2 * x - 1) (i + 1)
  head_turn =
      inside n p g (i + 1) (o + 2 * x - 1) (omega arith) (omega (arith, c.few, g.places i on)) (omega (arith, c.at, excess_next g i on))
      (omega (arith, c.goes_on (omega arith)))

-- ---- the first difference

first_less : (n : ℕ) (p q : List ℕ) → Feasible n p → Feasible n q → (i : ℕ) → take i p ≡ take i q → i < 2 * n → get_or p i 0 < get_or q i 0
    → local_number p < local_number q
first_less n p q g h i same on l =
    ((local_lawful n).position p q g h).0
    (dictionary_at p q i same (omega (arith, feasible_length n p g)) (omega (arith, feasible_length n q h)) l)

module _ (n : ℕ) (p q : List ℕ) (g : Feasible n p) (h : Feasible n q) (i : ℕ) (same : take i p ≡ take i q) where
  pub before_found : i < 2 * n → (get_or p i 0 ≡ get_or q i 0 → ⊥) → ltb (get_or p i 0) (get_or q i 0) ≡ ltb (local_number p) (local_number q)
  before_found on other =
      elim (dec_lt (get_or p i 0) (get_or q i 0)) [
        | yes l ↦ lt-ltb _ _ l ∙ sym (lt-ltb _ _ (first_less n p q g h i same on l))
        | no k ↦ le-ltb _ _ (omega arith) ∙ sym (le-ltb _ _ (le_of_lt (first_less n q p h g i (sym same) on (omega arith))))
      ]

  pub before_turn : i < 2 * n → get_or p i 0 ≡ get_or q i 0 → take (i + 1) p ≡ take (i + 1) q
  before_turn on place =
      let here : i < length p = omega (arith, feasible_length n p g) in
      let there : i < length q = omega (arith, feasible_length n q h) in
      rw (add-one, take-suc p i 0, take-suc q i 0, same, place)

  pub before_end : 2 * n ≤ i → false ≡ ltb (local_number p) (local_number q)
  before_end end =
      let all : p ≡ q = cc (take_all i p (omega (arith, feasible_length n p g)), take_all i q (omega (arith, feasible_length n q h))) in
      sym (le-ltb _ _ (le_of_eq (ap local_number (sym all))))

-- ---- the first place above

-- where d places pass, the search goes on behind them
passed : (f : ℕ → Bool) (n s d : ℕ) → s + d ≤ n → ((k : ℕ) → k < d → f (s + k) ≡ true) → first_fault s (n - s) f ≡ first_fault (s + d) (n - (s + d)) f
passed f n s zero h all = rw add-zero
passed f n s (suc d) h all =
    let next : s + d + 1 ≡ s + suc d = omega arith in
    passed f n s d (omega arith) (λ k l. all k (omega arith)) ∙ rw next at (search_on f _ n (s + d) refl (omega arith) (all d (omega arith)))

-- r is the first place of v that is above m, if there is one
abbrev pub FirstAbove : ℕ → List ℕ → Option ℕ → Type 0
FirstAbove m v r =
    MatchOption r ((k : ℕ) → k < length v → get_or v k 0 ≤ m) (λ i. (i < length v) × (m < get_or v i 0) × ((k : ℕ) → k < i → get_or v k 0 ≤ m))

module _ (p : List ℕ) (m from : ℕ) (within : from ≤ length p) where
  abbrev behind : List ℕ
  behind = take (length p - from) (drop from p)

  long : length behind ≡ length p - from
  long = length-take-le (length p - from) (drop from p) (omega (arith, length-drop from p))

  read : (k : ℕ) → k < length p - from → get_or behind k 0 ≡ get_or p (from + k) 0
  read k h = get_or-take (length p - from) (drop from p) k 0 h ∙ get_or-drop from p k 0

  abbrev test : ℕ → Bool
  test k = leb (get_or p k 0) m

  low : (d : ℕ) → d ≤ length p - from → ((k : ℕ) → k < d → get_or behind k 0 ≤ m)
      → first_fault from (length p - from) test ≡ first_fault (from + d) (length p - (from + d)) test
  low d h all = passed test (length p) from d (omega arith) (λ k l. le-leb _ _ (omega (arith, read k (omega arith), all k l)))

  pub above_found : (k : ℕ) (r : Option ℕ) → FirstAbove m behind r → MatchOption r (k ≡ length p) (λ i. k ≡ from + i)
      → k ≡ first_fault from (length p - from) test
  above_found k None all none =
      let end : from + (length p - from) ≡ k = omega (arith, none) in
      rw end at (search_end test _ (length p) (from + (length p - from)) (low (length p - from) (omega arith) (λ j h. all j (omega (arith, long)))) (omega arith))
  above_found k (Some i) (on, above, all) here =
      here ∙ search_hit test _ (length p) (from + i) (low i (omega (arith, long)) all) (omega (arith, long))
      (lt-leb _ _ (omega (arith, read i (omega (arith, long)), above)))

-- ---- what the proofs of `depth`, `head_length` and `before` use

pub ruleset climbing = (depth_begin, top_open, pair_open, climbed_next, depth_end)

pub ruleset heading = (head_begin, head_open_next, head_turn)

pub ruleset ordering = (feasible_length, before_found, before_turn, before_end)
