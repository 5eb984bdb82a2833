-- A step on and the step back answer the same change.
--     change_of_successor, change_of_predecessor
-- What the calls on patterns one after another do besides, they have from any numbering (`shape`, Returns).
-- Assumes nothing.
use mathlib.Core.Path.{◌≡◌, ap}
use mathlib.Core.List.{List}
use Prim.Native.Nat.{ℕ, ◌+◌}
use native.Mathlib.Omega.{arith}
use Rattle.shape.specs.Number.{local_number, change}
use Rattle.shape.specs.Numbering.{local, previous}
use Rattle.shape.specs.Check.{successor_check, predecessor_check, reply}
use Rattle.shape.specs.Calls.{successor_end, predecessor_end}
use Rattle.std.specs.Prelude.{Ok}
use Rattle.shape.proofs.Tests.{patterns_tested}
use Rattle.shape.proofs.LocalNumbers.{local_lawful}
use Rattle.shape.proofs.Steps.{number_next, number_previous}
use Rattle.shape.proofs.Checks.{successor_done, predecessor_done}
use Rattle.shape.proofs.Returns.{next_back, previous_on}
use Rattle.pattern.specs.Calls.{successor_change, predecessor_change}

module _ (n : ℕ) (p : List ℕ) where
  pub change_of_successor : successor_check (local n) p ≡ Ok tt → predecessor_change n (successor_end (local n) p) ≡ successor_change n p
  unfolding predecessor_change successor_change successor_end
  change_of_successor e =
      let (sized, formed, below) = (successor_done (local n) patterns_tested p).0 e in
      rw (e, next_back (local n) (local_lawful n) patterns_tested p e)
      (ap (λ (k : ℕ). reply (Ok tt) (change n k)) (number_next (local n) (local_lawful n) p formed below))

  pub change_of_predecessor : predecessor_check (local n) p ≡ Ok tt → successor_change n (predecessor_end (local n) p) ≡ predecessor_change n p
  unfolding successor_change predecessor_change predecessor_end
  change_of_predecessor e =
      let (sized, formed, some) = (predecessor_done (local n) patterns_tested p).0 e in
      let back : local_number (previous (local n) p) + 1 ≡ local_number p = omega (arith, number_previous (local n) (local_lawful n) p formed) in
      rw (e, previous_on (local n) (local_lawful n) patterns_tested p e) (ap (λ (k : ℕ). reply (Ok tt) (change n k)) back)
