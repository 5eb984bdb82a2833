-- The tests of a sheet that is handed in, each law in the words in which the code meets it: r is what a callee answered.
--     began_.., over_..      whether the run has begun, and whether it is over
--     goes_..                whether it can go on, from what a step of it answers
--     kept_..                whether the parts of a sheet belong together
--     check_..               what is asked before a piece is handed out
--     tests                  these laws, for `search`
-- Assumes nothing.
use mathlib.Core.Path.{◌≡◌, sym, ap, ◌∙◌}
use mathlib.Core.Bool.{Bool, true, false, not}
use Prim.Native.Nat.{ℕ, ◌≤◌, ◌<◌}
use lib.Dec.{leb, eqb}
use borrow.Author.Rules.{rules}
use borrow.Author.Tests.{not-true, not-false, eq-eqb, ne_eqb, le-leb, lt-leb}
use Rattle.shape.specs.declared.Refusal.{Refusal}
use Rattle.shape.specs.declared.Refusal.TheVariants.{Length, State}
use Rattle.std.specs.Prelude.{Ok, Err}
use Rattle.run.specs.declared.Run.{Run}
use Rattle.run.specs.declared.Progress.{Progress}
use Rattle.run.specs.declared.Progress.TheVariants.{Handed, Done as AtEnd, Refused as NotHanded}
use Rattle.run.specs.Calls.{progress_reply, step_reply, progress}
use Rattle.run.proofs.Replies.{progress_exact}
use Rattle.lines.specs.declared.Sheet.{Sheet}
use Rattle.lines.specs.Calls.{walks, began, over, keeps, fill_check}

-- ---- the numbers

module _ (b : Bool) (m n : ℕ) where
  pub began_opened : b ≡ true → leb m n ≡ began b m n
  began_opened e = rw e

  pub began_closed : b ≡ false → eqb m n ≡ began b m n
  began_closed e = rw e

  pub over_ended : b ≡ true → eqb m n ≡ over b m n
  over_ended e = rw e

  pub over_going : b ≡ false → true ≡ over b m n
  over_going e = rw e

-- ---- the run

module _ (s : Run) (r : Progress) (said : progress_reply r ≡ step_reply s) where
  walked : walks r ≡ walks (progress s)
  unfolding step_reply
  walked = ap walks ((progress_exact r (progress s)).0 said)

  pub goes_handed : r ≡ Handed → true ≡ walks (progress s)
  goes_handed e = ap walks (sym e) ∙ walked

  pub goes_done : r ≡ AtEnd → true ≡ walks (progress s)
  goes_done e = ap walks (sym e) ∙ walked

  pub goes_refused : (f : Refusal) → r ≡ NotHanded f → false ≡ walks (progress s)
  goes_refused f e = ap walks (sym e) ∙ walked

-- ---- the sheet

module _ (s : Sheet) where
  pub kept_told : (s.refusal ≡ 0 → ⊥) → leb s.refusal 11 ≡ keeps s
  unfolding keeps
  kept_told told = rw (ne_eqb s.refusal 0 told)

  module _ (told : s.refusal ≡ 0) (g : Bool) (goes : g ≡ walks (progress s.run)) where
    pub kept_stuck : not g ≡ true → false ≡ keeps s
    unfolding keeps
    kept_stuck h = rw (eq-eqb s.refusal 0 told, ← goes, not-true g h)

    module _ (h : not g ≡ false) (b : Bool) (begun : b ≡ began s.opened s.first s.run.next) where
      pub kept_early : not b ≡ true → false ≡ keeps s
      unfolding keeps
      kept_early j = rw (eq-eqb s.refusal 0 told, ← goes, not-false g h, ← begun, not-true b j)

      pub kept_on : not b ≡ false → (r : Bool) → r ≡ over s.ended s.run.next s.run.end → r ≡ keeps s
      unfolding keeps
      kept_on j r e = rw (eq-eqb s.refusal 0 told, ← goes, not-false g h, ← begun, not-false b j) e

module _ (s : Sheet) (room : ℕ) where
  pub check_short : room < 256 → Err Length ≡ fill_check s room
  unfolding fill_check
  check_short h = rw (lt-leb 256 room h)

  module _ (long : 256 ≤ room) (b : Bool) (kept : b ≡ keeps s) where
    pub check_broken : not b ≡ true → Err State ≡ fill_check s room
    unfolding fill_check
    check_broken h = rw (le-leb 256 room long, ← kept, not-true b h)

    pub check_passed : not b ≡ false → Ok tt ≡ fill_check s room
    unfolding fill_check
    check_passed h = rw (le-leb 256 room long, ← kept, not-false b h)

pub ruleset tests = (
  rules,
  began_opened,
  began_closed,
  over_ended,
  over_going,
  goes_handed,
  goes_done,
  goes_refused,
  kept_told,
  kept_stuck,
  kept_early,
  kept_on,
  check_short,
  check_broken,
  check_passed,
)
