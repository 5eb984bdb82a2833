-- What an answer says to its user: the refusal's number, 0 where there is none, and a value, 0 where there is nothing to say.
--     refusal_number           1 to 11, the numbers by which users know the refusals: 01, Refusal numbers
--     Reply, refused           the two numbers, and those of a refusal
--     Outcome, Numbered        what calls answer that say no more than that it was done, and those that say a number
--     outcome_reply, numbered_reply    each answer as a reply
-- Assumes nothing.
use Rattle.std.specs.Prelude.{ℕ, Result, Ok, Err}
use Rattle.shape.specs.declared.Refusal.{Refusal}
use Rattle.shape.specs.declared.Refusal.TheVariants.{Size, Length, Entry, Shape, Number, Last, First, Range, State, Record, Input}

abbrev pub refusal_number : Refusal → ℕ
refusal_number Size = 1
refusal_number Length = 2
refusal_number Entry = 3
refusal_number Shape = 4
refusal_number Number = 5
refusal_number Last = 6
refusal_number First = 7
refusal_number Range = 8
refusal_number State = 9
refusal_number Record = 10
refusal_number Input = 11

pub record Reply : Type 0 where
  pub refusal : ℕ
  pub value : ℕ

-- Its number, and nothing besides.
abbrev pub refused : Refusal → Reply
refused f = record { refusal = refusal_number f; value = 0 }

abbrev pub Outcome : Type 0
Outcome = Result (Unit {0}) Refusal

abbrev pub Numbered : Type 0
Numbered = Result ℕ Refusal

abbrev pub outcome_reply : Outcome → Reply
outcome_reply (Ok _) = record { refusal = 0; value = 0 }
outcome_reply (Err f) = refused f

abbrev pub numbered_reply : Numbered → Reply
numbered_reply (Ok k) = record { refusal = 0; value = k }
numbered_reply (Err f) = refused f
