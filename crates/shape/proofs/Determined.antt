-- The contracts of `Refusal::number` and `room` determine their answers and ask nothing.
-- Assumes nothing.
use mathlib.Core.Logic.Iff
use Prim.Native.Nat.{ℕ}
use Rattle.shape.specs.Reply.{refusal_number, Outcome}
use Rattle.shape.specs.Check.{length_of, room_of}
use Rattle.shape.specs.Determined.{Determined, determined}
use Rattle.shape.proofs.Refusal.number.Reads as number
use Rattle.shape.proofs.room.Reads as room

pub number_determined : Determined ℕ number.Pre number.Post (λ κ r s. r) (λ κ a. refusal_number a.0)
number_determined = determined (λ κ a. tt) (λ κ a r s. Iff.rfl)

pub room_determined : Determined Outcome room.Pre room.Post (λ κ r s. r) (λ κ (form, (n, (m, _))). room_of (length_of form) n m)
room_determined = determined (λ κ a. tt) (λ κ a r s. Iff.rfl)
