-- `natural::steps::step` meets its contract, whichever way it goes. The measure is the slice's length: a part is shorter than the whole. What is
-- known where the slice is not empty (`rooted`), where the right part has no step to make (`right`), and where neither part has one (`both`),
-- is said once. The steps are written out, since none are generated where a function with a const parameter calls itself with a slice that it
-- lends.
-- Assumes nothing.
use Prim.Native.Nat.{ℕ, ◌<◌}
use native.Mathlib.Omega.{arith}
use lib.ListN.{length}
use mir.Syntax.{w8}
use mir.Val.{Fits}
use borrow.Author.Rules.{rules}
use borrow.Fn.Kinds.{In}
use borrow.Fn.PlainCycle.{Measures, is, falls, and}
use Rattle.natural.specs.Parts.{has_step}
use Rattle.natural.proofs.Parts.{Rooted, cut, root, right_part}
use Rattle.natural.proofs.Nodes.{put_left, put_right}
use Rattle.natural.proofs.Ends.{way, way_on, way_back}
use Rattle.natural.proofs.Moves.{steps, RightStays, BothStay}
use Rattle.natural.proofs.Moves.{empty_moves, right_moves, right_stays, left_still, left_moves, left_stays}
use Rattle.natural.proofs.Moves.{next_last, next_root_moves, previous_first, previous_root_moves}
use Rattle.natural.proofs.steps.step.Reads as reads
use Rattle.natural.proofs.steps.step.Kinds as kinds
use Rattle.natural.proofs.steps.+step.Lts-step as lts
use Rattle.natural.proofs.steps.+step.{statement}
use Rattle.natural.proofs.steps.+step.Tie.{Asked-step-1, Learnt-step-1, Asked-step-2, Learnt-step-2, close}

module _ (N : ℕ) (F : Fits w8 N) where
  abbrev μ-step : Measures 2 (kinds.ps N F) ℕ
  μ-step κs a = length a.1.0.now

  abbrev step_at : ℕ → In 2 (kinds.ps N F)
  step_at t = and 2 (kinds.ps N F) (is 2 (kinds.ps N F) μ-step t) (reads.Pre N F)

  abbrev step_below : ℕ → In 2 (kinds.ps N F)
  step_below t = and 2 (kinds.ps N F) (falls 2 (kinds.ps N F) ◌<◌ μ-step t) (reads.Pre N F)

  abbrev claims : ℕ → lts.Claims N F
  claims t = (step_below t, reads.Post N F, Asked-step-1 N F, Learnt-step-1 N F, Asked-step-2 N F, Learnt-step-2 N F)

module _ (N : ℕ) (F : Fits w8 N) (t : ℕ) where
  rooted : (c : lts.Else-entries-eq0 N F (claims N F t) (step_at N F t) (reads.Post N F))
      → (let given = c.before.before.args in Rooted given.base given.entries.now)
  rooted c = record { part = c.before.before.requires.1.1; some = c.if-entries-eq0.false }

  right : (c : lts.Else-step N F (claims N F t) (step_at N F t) (reads.Post N F))
      → (let asked = c.before.before.before in
      let given = asked.before.before.before.before.before.args in
      let b = given.base in
      let p = given.entries.now in
      Rooted b p × RightStays (has_step (way N)) b p (put_right (cut b p) p asked.step.new.entries))
  right c =
      let asked = c.before.before.before in
      let h = rooted asked.before.before.before in
      (h, right_stays (steps (way N)) h asked.step.ensures c.if-step.false)

  both : (c : lts.Else-step-2 N F (claims N F t) (step_at N F t) (reads.Post N F))
      → (let asked = c.before.before.before in
      let asked_right = asked.before.before.before.before.before in
      let given = asked_right.before.before.before.before.before.args in
      let b = given.base in
      let p = given.entries.now in
      let q = put_right (cut b p) p asked_right.step.new.entries in
      Rooted b p × BothStay (has_step (way N)) b p (put_left (cut b p) q asked.step-2.new.entries))
  both c =
      let asked = c.before.before.before in
      let (h, m) = right asked.before.before in
      (h, left_stays (steps (way N)) h m asked.step-2.ensures c.if-step-2.false)

pub +step_spec : {M : Type 1} → statement M
+step_spec =
    close μ-step λ N F t.
    lts.spec N F
    (claims N F t)
    (step_at N F t)
    (reads.Post N F)
    -- returns-then-entries-eq0
    (λ c. empty_moves (steps (way N)) _ c.before.before.requires.1.1 c.if-entries-eq0.true)
    -- bounds-entries-0
    (λ c. search rules)
    -- overflow_sub-right
    (λ c. omega (arith, root (rooted N F t c.before)))
    -- overflow_cast-right
    (λ c. omega (arith, root (rooted N F t c.before)))
    -- offset_bounds-entries-right
    (λ c. omega (arith, root (rooted N F t c.before)))
    -- slice_bounds-step-count
    (λ c. omega (arith, root (rooted N F t c.before)))
    -- slice_bounds-step-start
    (λ c. omega (arith, root (rooted N F t c.before)))
    -- slice_bounds-step-end
    (λ c. search rules)
    -- step-requires
    (λ c κs. let h = rooted N F t c.before.before in (omega (arith, root h), (search rules, right_part h)))
    -- shape_of-entries-then-step
    (λ c. search rules)
    -- returns-then-step
    (λ c.
    let asked = c.before.before.before in
    right_moves (steps (way N)) (rooted N F t asked.before.before.before) asked.step.ensures c.if-step.true)
    -- slice_bounds-step-count-2
    (λ c. omega (arith, root (right N F t c).0))
    -- slice_bounds-step-start-2
    (λ c. omega (arith, root (right N F t c).0))
    -- slice_bounds-step-end-2
    (λ c. omega (arith, root (right N F t c).0))
    -- step-requires-2
    (λ c κs. let (h, m) = right N F t c.before in (omega (arith, root h), (search rules, left_still (steps (way N)) h m)))
    -- offset_bounds-entries-right-then-step-2
    (λ c. omega (arith, root (right N F t c.before.before.before.before.before).0))
    -- slice_bounds-put_end-count
    (λ c. omega (arith, root (right N F t c.before.before.before.before.before).0))
    -- slice_bounds-put_end-start
    (λ c. omega (arith, root (right N F t c.before.before.before.before.before).0))
    -- slice_bounds-put_end-end
    (λ c. search rules)
    -- put_end-requires
    (λ c κs. (search rules, omega (arith, root (right N F t c.before.before.before.before.before.before).0)))
    -- shape_of-entries-then-step-2
    (λ c. search rules)
    -- returns-then-step-2
    (λ c.
    let put = c.before.before in
    let stepped = put.before.before in
    let back = stepped.before.before in
    let (h, m) = right N F t back.before.before.before in
    left_moves (steps (way N)) h m back.before.step-2.ensures stepped.if-step-2.true put.put_end.ensures)
    -- shape_of-entries-then-right-entries
    (λ c. search rules)
    -- returns-then-right-entries
    (λ c.
    let on = c.before in
    let (h, m) = both N F t on.before in
    let e = way_on N on.if-this-ne0.true in
    rw e (next_last h (rw e at m) c.if-right-entries.true))
    -- overflow_add-root
    (λ c. omega (arith, root (both N F t c.before.before).0))
    -- put_parts-requires
    (λ c κs. let x = root (both N F t c.before.before.before).0 in search rules)
    -- shape_of-entries-then-this-ne0
    (λ c. search rules)
    -- returns-then-this-ne0
    (λ c.
    let put = c.before.before in
    let more = put.before.before in
    let on = more.before in
    let (h, m) = both N F t on.before in
    let e = way_on N on.if-this-ne0.true in
    rw e (next_root_moves h (rw e at m) more.if-right-entries.false (rw e at put.put_parts.ensures)))
    -- shape_of-entries-then-right-eq1
    (λ c. search rules)
    -- returns-then-right-eq1
    (λ c.
    let back = c.before in
    let (h, m) = both N F t back.before in
    let e = way_back N back.if-this-ne0.false in
    rw e (previous_first h (rw e at m) c.if-right-eq1.true))
    -- overflow_sub-root
    (λ c. omega (arith, root (both N F t c.before.before).0))
    -- put_parts-requires-2
    (λ c κs. let x = root (both N F t c.before.before.before).0 in search rules)
    -- shape_of-entries
    (λ c. search rules)
    -- returns
    (λ c.
    let put = c.before.before in
    let more = put.before.before in
    let back = more.before in
    let (h, m) = both N F t back.before in
    let e = way_back N back.if-this-ne0.false in
    rw e (previous_root_moves h (rw e at m) more.if-right-eq1.false (rw e at put.put_parts-2.ensures)))
