-- The depth of each part of a pattern that begins at its first place, and what a step makes of these depths.
--     depths_figure                   a worked example
--     length_depths, depths_at        how many depths there are, and each by itself
--     depth_last                      the last is the depth of all
--     depth_none, depth_front         the depth of no place, and of the first places, by the largest excess (largest_same)
--     depth_more                      the depth of one place more
--     excess_small, depths_small      no excess and no depth is above the size
--     Climbing                        the depths up to a place are written, and the excess there is known
--     climb_..                        the loop of depths: _begin is what holds at its start, _turn what one turn makes, _end what it leaves;
--                                     `climb` is what it asks on the way, for `search`
--     filled_more                     the loop of deepen: one depth more
--     pairs_low, least_low            behind the changed place no more ones than zeros have come
--     upper_climbs, upper_rests       so the upper one of two neighbours climbs by one at the changed place and behind it no further
--                                     (behind_counts)
--     upper_deepest                   which makes that place, or one before it, the deepest from there on
--     upper_depths                    the law: the depths of the upper one of two neighbours, from the lower one's
-- Assumes nothing.
use mathlib.Core.Path.{◌≡◌, refl, sym, ap, ap₂, ◌∙◌}
use mathlib.Core.List.{List, [], ◌∷◌, ◌++◌, append_assoc}
use Prim.Native.Nat.{ℕ, zero, suc, ◌+◌, ◌-◌, ◌*◌, ◌≤◌, ◌<◌, max}
use native.Mathlib.Nat.{zero-add}
use native.Mathlib.Numerals.{add-one}
use native.Mathlib.Omega.{arith}
use native.Mathlib.Decide.{dec_lt}
use lib.ListN.{length, get_or, take, set, replicate, length-append, length-set, length-map, length-replicate, get_or-replicate}
use lib.ListN.{get_or-append, get_or-map}
use lib.Seq.{take-take, take-length, take_all, take-suc, take-suc-set, take-append-le, take-append_seam, take-append-add, length-take-le}
use lib.Seq.{get_or-take, get_or-append-add, ext_get_or}
use mir.Syntax.{w8}
use mir.Val.{Fits}
use Rattle.std.proofs.lemmas.List.{replicate_more}
use Rattle.catalan.specs.Count.{largest_size}
use Rattle.shape.specs.Form.{count, Feasible}
use Rattle.shape.specs.Number.{largest, depth}
use Rattle.shape.specs.Numbering.{numbers_from}
use Rattle.shape.proofs.Counts.{count_append, count_split}
use Rattle.shape.proofs.Patterns.{feasible_length}
use Rattle.shape.proofs.Listing.{length_numbers, numbers_at}
use Rattle.shape.proofs.Excess.{excess, excess_first, depth_reached}
use Rattle.shape.proofs.Neighbours.{pairs, greatest, least, lower, upper, neighbours}
use Rattle.local.proofs.Walks.{place_open, place_turn}
use Rattle.walk.specs.Depths.{depths_of}
use Rattle.walk.proofs.Labels.{front_counts}

depths_figure : depths_of (1 ∷ 0 ∷ 1 ∷ 1 ∷ 0 ∷ 0 ∷ []) ≡ 0 ∷ 1 ∷ 1 ∷ 1 ∷ 2 ∷ 2 ∷ 2 ∷ []
unfolding depths_of depth largest numbers_from count
depths_figure = refl

pub length_depths : (p : List ℕ) → length (depths_of p) ≡ suc (length p)
unfolding depths_of
length_depths p = length-map (numbers_from 0 (suc (length p))) (λ i. depth (take i p)) ∙ length_numbers 0 (suc (length p))

depth_none : depth [] ≡ 0
unfolding depth largest count
depth_none = refl

pub depths_at : (p : List ℕ) (i : ℕ) → i ≤ length p → get_or (depths_of p) i 0 ≡ depth (take i p)
unfolding depths_of
depths_at p i h =
    ap (get_or (depths_of p) i) (sym depth_none)
    ∙ get_or-map (λ (i : ℕ). depth (take i p)) (numbers_from 0 (suc (length p))) i 0
    ∙ ap (λ (i : ℕ). depth (take i p)) (numbers_at 0 (suc (length p)) i (omega arith) ∙ zero-add i)

pub depth_last : (p : List ℕ) → get_or (depths_of p) (length p) 0 ≡ depth p
depth_last p = depths_at p (length p) (omega arith) ∙ ap depth (take-length p)

-- ---- one place more

largest_same : (n : ℕ) (f g : ℕ → ℕ) → ((i : ℕ) → i < n → f i ≡ g i) → largest n f ≡ largest n g
unfolding largest
largest_same zero f g h = refl
largest_same (suc n) f g h = ap₂ max (largest_same n f g (λ i l. h i (omega arith))) (h n (omega arith))

-- the places behind the first i do not count
depth_front : (p : List ℕ) (i : ℕ) → i ≤ length p → depth (take i p) ≡ largest (suc i) (excess p)
unfolding depth excess
depth_front p i h =
    ap (λ (k : ℕ). largest (suc k) (excess (take i p))) (length-take-le i p h)
    ∙ largest_same (suc i) (excess (take i p)) (excess p)
    (λ j l. ap (λ (q : List ℕ). count 1 q - count 0 q) (take-take j i p (omega arith)))

depth_more : (p : List ℕ) (i : ℕ) → i < length p → depth (take (i + 1) p) ≡ max (depth (take i p)) (excess p (i + 1))
unfolding largest
depth_more p i h =
    depth_front p (i + 1) (omega arith) ∙ rw (add-one i) (ap (λ (k : ℕ). max k (excess p (suc i))) (sym (depth_front p i (omega arith))))

-- ---- no depth is above the size

excess_small : (n : ℕ) (p : List ℕ) → Feasible n p → (i : ℕ) → excess p i ≤ n
unfolding excess
excess_small n p g i = omega (arith, count_split 1 i p, g.ones)

pub depths_small : (n : ℕ) (p : List ℕ) → Feasible n p → (i : ℕ) → i ≤ length p → get_or (depths_of p) i 0 ≤ n
unfolding excess
depths_small n p g i h =
    let (j, l, e) = depth_reached (take i p) in
    omega (arith, depths_at p i h, e, count_split 1 j (take i p), count_split 1 i p, g.ones)

-- ---- the loop of depths

-- so far: e is the excess of the first i places, and d has the depths up to there
pub record Climbing (n : ℕ) (p d : List ℕ) (e i : ℕ) : Type 0 where
  pub long : length d ≡ 2 * n + 1
  pub within : i ≤ 2 * n
  pub at : e ≡ excess p i
  pub written : take (i + 1) d ≡ take (i + 1) (depths_of p)

pub climb_begin : (n : ℕ) (p d : List ℕ) → length d ≡ 2 * n + 1 → Climbing n p (set d 0 0) 0 0
climb_begin n p d long =
    record {
      long = length-set d 0 0 ∙ long;
      within = omega arith;
      at = sym (excess_first p);
      written =
          take-suc-set d 0 0 (omega arith)
          ∙ ap (λ (x : ℕ). x ∷ []) (sym (depths_at p 0 (omega arith) ∙ depth_none))
          ∙ sym (take-suc (depths_of p) 0 0 (omega (arith, length_depths p)));
    }

module _ (n : ℕ) (p d : List ℕ) (e i : ℕ) (g : Feasible n p) (c : Climbing n p d e i) where
  pub climb_end : 2 * n ≤ i → d ≡ depths_of p
  climb_end past =
      sym (take_all (i + 1) d (omega (arith, c.long)))
      ∙ c.written
      ∙ take_all (i + 1) (depths_of p) (omega (arith, length_depths p, feasible_length n p g))

  module _ (on : i < 2 * n) where
    pub place_on : i < length p
    place_on = omega (arith, feasible_length n p g)

    pub climb_doubled : Fits w8 (2 * get_or p i 0)
    climb_doubled = omega (arith, g.places i place_on)

    pub climb_raised : n ≤ largest_size → Fits w8 (e + 2 * get_or p i 0)
    climb_raised small = omega (arith, g.places i place_on, c.at, excess_small n p g i)

    pub climb_open : 1 ≤ e + 2 * get_or p i 0
    climb_open = place_open n p g i place_on e c.at

    here : get_or d i 0 ≡ depth (take i p)
    here =
        sym (get_or-take (i + 1) d i 0 (omega arith))
        ∙ ap (λ (w : List ℕ). get_or w i 0) c.written
        ∙ get_or-take (i + 1) (depths_of p) i 0 (omega arith)
        ∙ depths_at p i (omega (arith, place_on))

    pub climb_turn : (x : ℕ) → x ≡ max (get_or d i 0) (e + 2 * get_or p i 0 - 1) → Climbing n p (set d (i + 1) x) (e + 2 * get_or p i 0 - 1) (i + 1)
    climb_turn x h =
        let next = place_turn n p g i place_on e c.at in
        let new : x ≡ get_or (depths_of p) (i + 1) 0 =
        h ∙ ap₂ max here next ∙ sym (depth_more p i place_on) ∙ sym (depths_at p (i + 1) (omega (arith, place_on))) in
        record {
          long = length-set d (i + 1) x ∙ c.long;
          within = omega arith;
          at = next;
          written =
              rw (add-one (i + 1), take-suc-set d (i + 1) x (omega (arith, c.long)), c.written, new)
              (sym (take-suc (depths_of p) (i + 1) 0 (omega (arith, length_depths p, place_on))));
        }

-- a depth more, where the depths from b on are the one number x
pub filled_more : (front : List ℕ) (b x : ℕ) (written : List ℕ) (i : ℕ) → written ≡ front ++ replicate (i - b) x → b ≤ i
    → written ++ x ∷ [] ≡ front ++ replicate (i + 1 - b) x
filled_more front b x written i h on =
    let more : i - b + 1 ≡ i + 1 - b = omega arith in
    rw (h, append_assoc front (replicate (i - b) x) (x ∷ []), replicate_more (i - b) x, more) refl

-- what a turn asks
pub ruleset climb = (climb_begin, place_on, climb_doubled, climb_raised, climb_open, climb_turn, climb_end)

-- ---- two neighbours

-- pairs rise by one at most, and behind a 0 not at all
pairs_low : (a k : ℕ) → count 1 (take k (pairs a)) ≤ suc (count 0 (take k (pairs a)))
unfolding count
pairs_low zero zero = omega arith
pairs_low zero (suc k) = omega arith
pairs_low (suc a) zero = omega arith
pairs_low (suc a) (suc zero) = omega arith
pairs_low (suc a) (suc (suc k)) = omega (arith, pairs_low a k)

least_low : (e a k : ℕ) → count 1 (take k (least (suc e) a)) ≤ count 0 (take k (least (suc e) a))
unfolding count
least_low e a zero = omega arith
least_low zero a (suc k) = pairs_low a k
least_low (suc e) a (suc k) = omega (arith, least_low e a k)

module _ (n : ℕ) (u : List ℕ) (e a : ℕ) (g : Feasible n (lower u e a)) where
  abbrev old : List ℕ
  old = lower u e a

  abbrev new : List ℕ
  new = upper u e a

  formed : Feasible n new
  formed = (neighbours u e a n g).formed'

  behind_counts : (x k : ℕ) → count x (take (length u + suc k) new) ≡ count x u + count x (1 ∷ take k (least (suc (suc e)) a))
  behind_counts x k = ap (count x) (take-append-add u _ (suc k)) ∙ count_append x u _

  -- at the changed place the excess is that of u and one more, and behind it no larger
  upper_climbs : excess new (length u + 1) ≡ suc (suc e)
  unfolding excess count
  upper_climbs = omega (arith, behind_counts 1 0, behind_counts 0 0, front_counts n u e a g)

  upper_rests : (k : ℕ) → excess new (length u + suc k) ≤ suc (suc e)
  unfolding excess count
  upper_rests k = omega (arith, behind_counts 1 k, behind_counts 0 k, front_counts n u e a g, least_low (suc e) a k)

  upper_deepest : (k : ℕ) → length u + suc k ≤ length new → depth (take (length u + suc k) new) ≡ max (depth u) (suc (suc e))
  upper_deepest zero h =
      depth_more new (length u) (omega arith) ∙ ap₂ max (ap depth (take-append_seam u _)) upper_climbs
  upper_deepest (suc k) h =
      let next : length u + suc (suc k) ≡ length u + suc k + 1 = omega arith in
      let before = upper_deepest k (omega arith) in
      rw next (depth_more new (length u + suc k) (omega arith) ∙ omega (arith, before, rw next at (upper_rests (suc k))))

  pub upper_depths : (s : ℕ) → suc (length u) ≡ s
      → depths_of new ≡ take s (depths_of old) ++ replicate (length (depths_of old) - s) (max (get_or (depths_of old) (s - 1) 0) (suc (suc e)))
  upper_depths s starts =
      let most = max (get_or (depths_of old) (s - 1) 0) (suc (suc e)) in
      let kept = take s (depths_of old) in
      let rest = length (depths_of old) - s in
      let shown = length_depths new in
      let given = length_depths old in
      let many = feasible_length n new formed in
      let long = feasible_length n old g in
      let inside : s ≤ length old = omega (arith, length-append u (0 ∷ greatest e (suc a))) in
      let front : length kept ≡ s = length-take-le s (depths_of old) (omega arith) in
      let whole = length-append kept (replicate rest most) ∙ ap₂ ◌+◌ front (length-replicate rest most) in
      let before : (v : List ℕ) (i : ℕ) → i < s → depth (take i (u ++ v)) ≡ depth (take i u) =
      λ v i l. ap depth (take-append-le i u v (omega arith)) in
      let last : s - 1 ≡ length u = omega arith in
      let top : most ≡ max (depth u) (suc (suc e)) =
      ap (λ (k : ℕ). max k (suc (suc e))) (rw last (depths_at old (length u) (omega arith) ∙ ap depth (take-append_seam u _))) in
      ext_get_or 0 (depths_of new) (kept ++ replicate rest most) (omega arith)
      (λ i on.
      elim (dec_lt i s) [
        | yes l ↦
            depths_at new i (omega arith)
            ∙ before _ i l
            ∙ sym
            (get_or-append kept (replicate rest most) 0 i (omega arith)
            ∙ get_or-take s (depths_of old) i 0 l
            ∙ depths_at old i (omega arith)
            ∙ before _ i l)
        | no l ↦
            let here : i ≡ length u + suc (i - s) = omega arith in
            let there : i ≡ length kept + (i - s) = omega arith in
            depths_at new i (omega arith)
            ∙ ap (λ (j : ℕ). depth (take j new)) here
            ∙ upper_deepest (i - s) (omega arith)
            ∙ sym
            (ap (λ (j : ℕ). get_or (kept ++ replicate rest most) j 0) there
            ∙ get_or-append-add kept (replicate rest most) (i - s) 0
            ∙ get_or-replicate rest (i - s) most 0 (omega arith)
            ∙ top)
      ])
