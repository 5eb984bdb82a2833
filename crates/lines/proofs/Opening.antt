-- What an input is refused for, exactly: 01, Refusal numbers. The input is tried for 11 first, then for 1, then for 8.
--     open_input, open_size, open_range     refusals 11, 1 and 8
--     open_done                             where there is none
-- Assumes nothing.
use mathlib.Core.Path.{◌≡◌}
use mathlib.Core.Bool.{Bool, true}
use mathlib.Core.Logic.Iff
use mathlib.Core.Logic.{◌↔◌}
use mathlib.Core.List.{List}
use Prim.Native.Nat.{ℕ, ◌≤◌}
use native.Mathlib.Omega.{arith}
use Rattle.catalan.specs.Count.{C}
use Rattle.shape.specs.Check.{unless, sized, Sized}
use Rattle.shape.specs.declared.Refusal.TheVariants.{Size, Range, Input}
use Rattle.shape.specs.Reply.{Outcome}
use Rattle.std.specs.Prelude.{Ok, Err}
use Rattle.shape.proofs.Checks.{refuses_unless, passed, failed}
use Rattle.run.specs.State.{in_range}
use Rattle.run.specs.Calls.{start_check}
use Rattle.run.proofs.States.{start_size, start_range, start_done}
use Rattle.text.specs.Input.{reads, asked_size, asked_first, asked_end}
use Rattle.lines.specs.Sheet.{open_check}

module _ (input : List ℕ) where
  -- the run that the numbers ask for
  abbrev started : Outcome
  started = start_check (asked_size input) (asked_first input) (asked_end input)

  abbrev ranged : Bool
  ranged = in_range (asked_size input) (asked_first input) (asked_end input)

  pub open_input : (open_check input ≡ Err Input) ↔ (reads input ≡ true → ⊥)
  unfolding open_check start_check
  open_input =
      failed (reads input) Input _ Iff.rfl
      (refuses_unless (λ i. i ≡ 11 → ⊥) (sized (asked_size input)) Size (unless ranged Range (Ok tt)) (λ e. omega arith)
      (refuses_unless (λ i. i ≡ 11 → ⊥) ranged Range (Ok tt) (λ e. omega arith) tt))

  pub open_size : (open_check input ≡ Err Size) ↔ ((reads input ≡ true) × (Sized (asked_size input) → ⊥))
  unfolding open_check
  open_size = passed (reads input) Input started (Err Size) Iff.rfl (λ e. omega arith) (λ r. start_size _ _ _)

  pub open_range : (open_check input ≡ Err Range)
      ↔ ((reads input ≡ true) × (Sized (asked_size input) × ((asked_first input ≤ asked_end input) × (asked_end input ≤ C (asked_size input)) → ⊥)))
  unfolding open_check
  open_range = passed (reads input) Input started (Err Range) Iff.rfl (λ e. omega arith) (λ r. start_range _ _ _)

  pub open_done : (open_check input ≡ Ok tt)
      ↔ ((reads input ≡ true) × (Sized (asked_size input) × (asked_first input ≤ asked_end input) × (asked_end input ≤ C (asked_size input))))
  unfolding open_check
  open_done = passed (reads input) Input started (Ok tt) Iff.rfl tt (λ r. start_done _ _ _)
