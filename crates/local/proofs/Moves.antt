-- One step on and one step back, as `next` and `previous` make them.
--     rise_written, fall_written      what is written over the lower one of two neighbours makes the upper one, and back
--     Room, next_room, next_half, previous_room      what a step works on lies within the places
--     next_answers, next_leaves, previous_answers, previous_leaves      a step answers its change and leaves the neighbour
--     next_none_answers, next_none_leaves, previous_none_answers, previous_none_leaves      at the end of the order the change is 0, and
--                                     the pattern stays as it is
--     next_found, next_none_found, previous_found, previous_none_found      the same, as an answer that may be none
--     first_change, later_change      what the step back finds gives the change of any pattern
--     next_step, block_move, previous_step, changing      what the proofs of `next`, `move_block`, `previous` and `change` use
-- Assumes nothing.
use Rattle.std.proofs.Common.{◌≡◌, Option, Some, None, ℕ, zero, suc, ◌+◌, ◌-◌, ◌*◌, ◌/◌, ◌<◌, ◌≤◌, List, [], ◌∷◌, ◌++◌, length, take, drop, set, replicate, sym, refl, ap, ◌∙◌, subst, subst₂, append_assoc, arith, length-append, length-set, drop_at}
use borrow.Rule.Slice.PartMut.{mid_of, put_mid}
use lib.ListN.{length-replicate, replicate-append-replicate}
use lib.Seq.{set_at, append_snoc, take-append_seam, take-append-add, drop-append-add}
use Rattle.shape.specs.Form.{Feasible}
use Rattle.shape.specs.Number.{local_number, change}
use Rattle.shape.proofs.Patterns.{feasible_length}
use Rattle.shape.proofs.Neighbours.{pairs, greatest, least, lower, upper, Neighbours, neighbours, neighbours_back}
use Rattle.local.specs.Places.{block_start, pairs_start, every_second, next_change, next_pattern, previous_change, previous_pattern, nonzero}
use Rattle.local.proofs.Blocks.{pairs_within, seconds, Parted, last_found, rise_found, first_found, fall_found}
use Rattle.local.proofs.Places.{filled_lem}
use Rattle.local.proofs.Chains.{next_none, next_neighbour, previous_none, previous_neighbour}

-- ---- what the steps write

-- p with x from place s on, k times
abbrev pub filled_in : ℕ → ℕ → ℕ → List ℕ → List ℕ
filled_in x s k p = take s p ++ (replicate k x ++ drop (s + k) p)

-- behind w, k times x
put_behind : (w v : List ℕ) (s x k : ℕ) → length w ≡ s → filled_in x s k (w ++ v) ≡ w ++ (replicate k x ++ drop k v)
put_behind w v s x k h = rw (← h, take-append_seam w v, drop-append-add w v k)

-- behind w and k places, x at every second place
seconds_behind : (w v : List ℕ) (s x k : ℕ) → length w ≡ s → seconds x (s + k) (w ++ v) ≡ w ++ seconds x k v
seconds_behind w v s x k h = rw (← h, take-append-add w v k, drop-append-add w v k) (append_assoc w (take k v) (every_second x (drop k v)))

pairs_put : (a : ℕ) → every_second 1 (replicate (2 * a) 0) ≡ pairs a
unfolding every_second
pairs_put zero = refl
pairs_put (suc a) = let two : 2 * suc a ≡ suc (suc (2 * a)) = omega arith in rw two (ap {B = List ℕ} (λ w. 1 ∷ 0 ∷ w) (pairs_put a))

pairs_cleared : (a : ℕ) → every_second 0 (pairs a) ≡ replicate (2 * a) 0
unfolding every_second
pairs_cleared zero = refl
pairs_cleared (suc a) = let two : 2 * suc a ≡ suc (suc (2 * a)) = omega arith in rw two (ap {B = List ℕ} (λ w. 0 ∷ 0 ∷ w) (pairs_cleared a))

drop_front : (k x : ℕ) (v : List ℕ) → drop k (replicate k x ++ v) ≡ v
drop_front k x v = drop_at (replicate k x) v k (length-replicate k x)

seconds_front : (k x y : ℕ) (v : List ℕ) → seconds x k (replicate k y ++ v) ≡ replicate k y ++ every_second x v
seconds_front zero x y v = refl
seconds_front (suc k) x y v = ap {B = List ℕ} (λ w. y ∷ w) (seconds_front k x y v)

-- as many zeros in two ways
zeros_as : (i j k l : ℕ) → i + j ≡ k + l → ◌≡◌ {A = List ℕ} (replicate i 0 ++ replicate j 0) (replicate k 0 ++ replicate l 0)
zeros_as i j k l h = replicate-append-replicate i j 0 ∙ ap (λ (m : ℕ). replicate m 0) h ∙ sym (replicate-append-replicate k l 0)

-- the greatest word, its ones cleared and then a 1 put at every second of the last places, is the least, and back
greatest_least : (e a : ℕ) → seconds 1 (suc (suc e)) (replicate (suc a) 0 ++ drop (suc a) (greatest e (suc a))) ≡ least (suc (suc e)) a
greatest_least e a =
    let k = suc (suc e) in
    ap (λ (v : List ℕ). seconds 1 k (replicate (suc a) 0 ++ v)) (drop_front (suc a) 1 (replicate (e + suc a) 0))
    ∙ ap (seconds 1 k) (zeros_as (suc a) (e + suc a) k (2 * a) (omega arith))
    ∙ seconds_front k 1 0 (replicate (2 * a) 0)
    ∙ ap (λ (v : List ℕ). replicate k 0 ++ v) (pairs_put a)

least_greatest : (e a : ℕ) → replicate (suc a) 1 ++ drop (suc a) (seconds 0 (suc (suc e)) (least (suc (suc e)) a)) ≡ greatest e (suc a)
least_greatest e a =
    let k = suc (suc e) in
    ap (λ (v : List ℕ). replicate (suc a) 1 ++ drop (suc a) v)
    (seconds_front k 0 0 (pairs a)
    ∙ ap (λ (v : List ℕ). replicate k 0 ++ v) (pairs_cleared a)
    ∙ zeros_as k (2 * a) (suc a) (e + suc a) (omega arith))
    ∙ ap (λ (v : List ℕ). replicate (suc a) 1 ++ v) (drop_front (suc a) 0 (replicate (e + suc a) 0))

module _ (u : List ℕ) (e a s : ℕ) (h : suc (length u) ≡ s) where
  module _ (x : ℕ) where
    long : length (u ++ x ∷ []) ≡ s
    long = length-append u (x ∷ []) ∙ omega arith

    changed : (y : ℕ) (v : List ℕ) → set (u ++ y ∷ v) (s - 1) x ≡ (u ++ x ∷ []) ++ v
    changed y v = set_at u y v x (s - 1) (omega arith) ∙ sym (append_snoc u x v)

  pub rise_written : seconds 1 (s + suc (suc e)) (filled_in 0 s (suc a) (set (lower u e a) (s - 1) 1)) ≡ upper u e a
  rise_written =
      let w = u ++ 1 ∷ [] in
      let v = greatest e (suc a) in
      ap (λ (p : List ℕ). seconds 1 (s + suc (suc e)) (filled_in 0 s (suc a) p)) (changed 1 0 v)
      ∙ ap (seconds 1 (s + suc (suc e))) (put_behind w v s 0 (suc a) (long 1))
      ∙ seconds_behind w (replicate (suc a) 0 ++ drop (suc a) v) s 1 (suc (suc e)) (long 1)
      ∙ ap (λ (v : List ℕ). w ++ v) (greatest_least e a)
      ∙ append_snoc u 1 (least (suc (suc e)) a)

  pub fall_written : filled_in 1 s (suc a) (seconds 0 (s + suc (suc e)) (set (upper u e a) (s - 1) 0)) ≡ lower u e a
  fall_written =
      let w = u ++ 0 ∷ [] in
      let v = least (suc (suc e)) a in
      ap (λ (p : List ℕ). filled_in 1 s (suc a) (seconds 0 (s + suc (suc e)) p)) (changed 0 1 v)
      ∙ ap (filled_in 1 s (suc a)) (seconds_behind w v s 0 (suc (suc e)) (long 0))
      ∙ put_behind w (seconds 0 (suc (suc e)) v) s 1 (suc a) (long 0)
      ∙ ap (λ (v : List ℕ). w ++ v) (least_greatest e a)
      ∙ append_snoc u 0 (greatest e (suc a))

-- ---- what a step works on

-- from `start` on up to `end`, and that is not nothing
pub record Room (n : ℕ) (p : List ℕ) (end start : ℕ) : Type 0 where
  pub long : length p ≡ 2 * n
  pub within : end ≤ 2 * n
  pub inside : 0 < start
  pub some : start < end

-- a change that is not 0, as an answer
nonzero_lem : (k c : ℕ) → k ≡ c → 0 < k → Some k ≡ nonzero c
nonzero_lem zero c h low = absurd (omega arith)
nonzero_lem (suc k) c h low = ap nonzero h

-- ---- one step on

module _ (n : ℕ) (p : List ℕ) (s : ℕ) (g : Feasible n p) (m : Parted lower p s) where
  risen : Neighbours n p (upper m.front m.excess m.others) (2 * n - s + 1)
  risen =
      subst₂ (λ (q : List ℕ) (s : ℕ). Neighbours n q (upper m.front m.excess m.others) (2 * n - s + 1)) (sym m.parts) m.starts
      (neighbours m.front m.excess m.others n (subst (Feasible n) m.parts g))

  rise_leaves : (end : ℕ) (q r : List ℕ) → end ≡ s + suc m.others
      → q ≡ take s (set p (s - 1) 1) ++ (replicate (end - s) 0 ++ drop end (set p (s - 1) 1))
      → r ≡ seconds 1 (2 * n - 2 * (end - s - 1)) q → r ≡ next_pattern n p
  rise_leaves end q r h hq hr =
      let from : 2 * n - 2 * (end - s - 1) ≡ s + suc (suc m.excess) = omega (arith, m, feasible_length n p g) in
      let block : end - s ≡ suc m.others = omega arith in
      rw (hr, hq, from, block, h)
      (ap (λ (p : List ℕ). seconds 1 (s + suc (suc m.excess)) (filled_in 0 s (suc m.others) (set p (s - 1) 1))) m.parts
      ∙ rise_written m.front m.excess m.others s m.starts)
      ∙ sym (next_neighbour risen).1

module _ (n : ℕ) (p : List ℕ) (end start : ℕ) (g : Feasible n p) (he : end ≡ block_start 0 p (2 * n)) (hs : start ≡ block_start 1 p end) where
  pub next_none_answers : start ≡ 0 → 0 ≡ next_change n p
  next_none_answers none = sym (next_none n p (omega (arith, last_found n p g end he start hs none))).0

  pub next_none_found : start ≡ 0 → None ≡ nonzero (next_change n p)
  next_none_found none = ap nonzero (next_none_answers none)

  pub next_none_leaves : start ≡ 0 → p ≡ next_pattern n p
  next_none_leaves none = sym (next_none n p (omega (arith, last_found n p g end he start hs none))).1

  module _ (inside : start ≡ 0 → ⊥) where
    pub next_room : Room n p end start
    next_room =
        let (m, h) = rise_found n p g end he start hs inside in
        let long = feasible_length n p g in
        record { long = long; within = omega (arith, m.rest); inside = omega arith; some = omega arith }

    pub next_half : 2 * (end - start - 1) ≤ 2 * n
    next_half = let (m, h) = rise_found n p g end he start hs inside in omega (arith, m.rest, feasible_length n p g)

    pub next_answers : 2 * n - start + 1 ≡ next_change n p
    next_answers = let (m, h) = rise_found n p g end he start hs inside in sym (next_neighbour (risen n p start g m)).0

    pub next_found : (k : ℕ) → k ≡ next_change n p → Some k ≡ nonzero (next_change n p)
    next_found k h = nonzero_lem k (next_change n p) h (omega (arith, next_answers))

    -- w is what the block holds once zeros are written over it
    pub next_leaves : (w r : List ℕ) → w ≡ replicate (length (mid_of start (end - start) (set p (start - 1) 1))) 0
        → r ≡ seconds 1 (2 * n - 2 * (end - start - 1)) (put_mid start (end - start) (set p (start - 1) 1) w) → r ≡ next_pattern n p
    next_leaves w r hw hr =
        let (m, h) = rise_found n p g end he start hs inside in
        let room = next_room in
        let within : end ≤ length (set p (start - 1) 1) = simp length-set (omega (arith, room)) in
        rise_leaves n p start g m end _ r h (filled_lem start end 0 (set p (start - 1) 1) w (omega (arith, room)) within hw) hr

-- ---- one step back

module _ (n : ℕ) (p : List ℕ) (s : ℕ) (g : Feasible n p) (m : Parted upper p s) where
  fallen : Neighbours n (lower m.front m.excess m.others) p (2 * n - s + 1)
  fallen =
      subst₂ (λ (q : List ℕ) (s : ℕ). Neighbours n (lower m.front m.excess m.others) q (2 * n - s + 1)) (sym m.parts) m.starts
      (neighbours_back m.front m.excess m.others n (subst (Feasible n) m.parts g))

  fall_leaves : (end : ℕ) (q r : List ℕ) → end ≡ s + suc (suc m.excess) → q ≡ seconds 0 end (set p (s - 1) 0)
      → r ≡ take s q ++ (replicate (s + (2 * n - end) / 2 + 1 - s) 1 ++ drop (s + (2 * n - end) / 2 + 1) q) → r ≡ previous_pattern n p
  fall_leaves end q r h hq hr =
      let to : s + (2 * n - end) / 2 + 1 ≡ s + suc m.others = omega (arith, m, feasible_length n p g) in
      let block : s + suc m.others - s ≡ suc m.others = omega arith in
      rw (hr, hq, to, block, h)
      (ap (λ (p : List ℕ). filled_in 1 s (suc m.others) (seconds 0 (s + suc (suc m.excess)) (set p (s - 1) 0))) m.parts
      ∙ fall_written m.front m.excess m.others s m.starts)
      ∙ sym (previous_neighbour fallen).1

module _ (n : ℕ) (p : List ℕ) (end start : ℕ) (g : Feasible n p) (he : end ≡ pairs_start p (2 * n)) (hs : start ≡ block_start 0 p end) where
  pub previous_none_answers : start ≡ 0 → 0 ≡ previous_change n p
  previous_none_answers none = sym (previous_none n p (omega (arith, first_found n p g end he start hs none))).0

  pub previous_none_found : start ≡ 0 → None ≡ nonzero (previous_change n p)
  previous_none_found none = ap nonzero (previous_none_answers none)

  pub previous_none_leaves : start ≡ 0 → p ≡ previous_pattern n p
  previous_none_leaves none = sym (previous_none n p (omega (arith, first_found n p g end he start hs none))).1

  pub first_change : start ≡ 0 → 2 * n ≡ change n (local_number p)
  unfolding change
  first_change none = rw (first_found n p g end he start hs none)

  module _ (inside : start ≡ 0 → ⊥) where
    pub previous_room : Room n p end start
    previous_room =
        let (m, h) = fall_found n p g end he start hs inside in
        let long = feasible_length n p g in
        record { long = long; within = omega (arith, m.rest); inside = omega arith; some = omega arith }

    pub previous_answers : 2 * n - start + 1 ≡ previous_change n p
    previous_answers = let (m, h) = fall_found n p g end he start hs inside in sym (previous_neighbour (fallen n p start g m)).0

    pub previous_found : Some (2 * n - start + 1) ≡ nonzero (previous_change n p)
    previous_found = nonzero_lem (2 * n - start + 1) (previous_change n p) previous_answers (omega arith)

    pub later_change : 2 * n - start + 1 ≡ change n (local_number p)
    later_change =
        let (m, h) = fall_found n p g end he start hs inside in
        let below = fallen n p start g m in
        sym (ap (change n) below.higher ∙ below.changed)

    previous_block : start + (2 * n - end) / 2 + 1 ≤ 2 * n
    previous_block = let (m, h) = fall_found n p g end he start hs inside in omega (arith, m.rest, feasible_length n p g)

    -- w is what the places behind the changed one hold once ones are written over them
    pub previous_leaves : (q w : List ℕ) → length q ≡ length p → q ≡ seconds 0 end (set p (start - 1) 0)
        → w ≡ replicate (length (mid_of start (start + (2 * n - end) / 2 + 1 - start) q)) 1
        → put_mid start (start + (2 * n - end) / 2 + 1 - start) q w ≡ previous_pattern n p
    previous_leaves q w long hq hw =
        let (m, h) = fall_found n p g end he start hs inside in
        let within : start + (2 * n - end) / 2 + 1 ≤ length q = omega (arith, previous_block, previous_room) in
        fall_leaves n p start g m end q _ h hq (filled_lem start (start + (2 * n - end) / 2 + 1) 1 q w (omega arith) within hw)

-- ---- what the proofs of the steps use

pub ruleset next_step = (next_none_found, next_none_leaves, next_found)

pub ruleset block_move = (length-set, next_room, next_half, next_answers, next_leaves)

pub ruleset previous_step = (feasible_length, pairs_within, length-set, previous_room, previous_none_found, previous_none_leaves, previous_found, previous_leaves)

pub ruleset changing = (feasible_length, pairs_within, previous_room, first_change, later_change)
