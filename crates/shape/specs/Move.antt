-- A move along a numbering by a signed distance: 02, T-01. N is the numbering, d the distance, a whole number, and p the list that the slice
-- holds. What the call says and leaves is defined for every d, those that 64 bits do not hold among them.
--     target                   the number that is so much higher or lower: below 0 or past the last number, too
--     reaches, moved           whether a shape has that number, and the shape
--     end_past                 which end of the list a move in that direction can pass
--     move_check               refusals 1 to 4, then 6 for a target past the last number, then 7 for one below 0
--     move_reply, move_end     what the call says, and what it leaves
-- Assumes nothing.
use Rattle.std.specs.Prelude.{Bool, ◌&&◌, List, ℕ, ℤ, pos, negsuc, nat_abs, ◌+ℤ◌, Ok}
use Rattle.std.specs.Int.Signed.{lt_z, non_neg}
use Rattle.shape.specs.Numbering.{Numbering, total}
use Rattle.shape.specs.Reply.{Reply, outcome_reply, Outcome}
use Rattle.shape.specs.Check.{unless, and_then, checked, unless_refused}
use Rattle.shape.specs.declared.Refusal.{Refusal}
use Rattle.shape.specs.declared.Refusal.TheVariants.{Last, First}

unfoldable pub target : Numbering → ℤ → List ℕ → ℤ
target N d p = pos (N.number p) +ℤ d

unfoldable pub reaches : Numbering → ℤ → List ℕ → Bool
reaches N d p = non_neg (target N d p) && lt_z (target N d p) (pos (total N))

-- A target that is reached is not below 0, so it is its own absolute value.
unfoldable pub moved : Numbering → ℤ → List ℕ → List ℕ
moved N d p = N.shape (nat_abs (target N d p))

abbrev pub end_past : ℤ → Refusal
end_past (pos m) = Last
end_past (negsuc m) = First

unfoldable pub move_check : Numbering → ℤ → List ℕ → Outcome
move_check N d p =
    and_then (checked N.form N.nodes p)
    (unless (lt_z (target N d p) (pos (total N))) Last (unless (non_neg (target N d p)) First (Ok tt)))

unfoldable pub move_reply : Numbering → ℤ → List ℕ → Reply
move_reply N d p = outcome_reply (move_check N d p)

unfoldable pub move_end : Numbering → ℤ → List ℕ → List ℕ
move_end N d p = unless_refused (move_check N d p) (moved N d p) p
