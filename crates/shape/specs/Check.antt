-- Which refusal a call gives: 01, Refusal numbers. Tests stand in the order of the refusals' numbers, so the lowest that applies is given.
--     unless t f next       refused for f where the test t fails, and otherwise what comes next
--     and_then              the first refusal of two checks
--     sized n, Sized n      the test of a size, and what it tests
--     record_length         how many bytes a packed record has
--     length_of             how long what a caller names is to be
--     room_of, room_for     what is asked of a list that is written, by its length
--     contents              and of what a list holds
--     checked F n p         a list that is lent to be read as a shape of size n, written in the form F: refusals 1 to 4
--     number_check, successor_check, predecessor_check   refusals 1 to 7 of the calls over a numbering
--     numbered, reply       what a call answers after a check, and what that says
--     unless_refused        what it leaves in a lent list, or hands back
-- Assumes nothing.
use Rattle.std.specs.Prelude.{Bool, true, false, ◌&&◌, List, ℕ, ◌+◌, ◌/◌, ◌≤◌, leb, ltb, eqb, length, Ok, Err}
use Rattle.catalan.specs.Count.{largest_size}
use Rattle.shape.specs.Form.{Form, patterns, permutations, every}
use Rattle.shape.specs.Numbering.{Numbering, total}
use Rattle.shape.specs.Reply.{Reply, numbered_reply, Outcome, Numbered}
use Rattle.shape.specs.declared.Form.{Form as Name}
use Rattle.shape.specs.declared.Form.TheVariants.{Pattern, Permutation, Record}
use Rattle.shape.specs.declared.Refusal.{Refusal}
use Rattle.shape.specs.declared.Refusal.TheVariants.{Size, Length, Entry, Shape, Number, Last, First}

abbrev pub unless : Bool → Refusal → Outcome → Outcome
unless true f next = next
unless false f next = Err f

abbrev pub and_then : Outcome → Outcome → Outcome
and_then (Ok _) next = next
and_then (Err f) next = Err f

-- 1: size 0 or above 35.
abbrev pub sized : ℕ → Bool
sized n = leb 1 n && leb n largest_size

abbrev pub Sized : ℕ → Type 0
Sized n = (1 ≤ n) × (n ≤ largest_size)

-- 01, Packed record: 1 + ceil(n/4) bytes.
abbrev pub record_length : ℕ → ℕ
record_length n = 1 + (n + 3) / 4

-- 2: 2n places, n entries, or the record's length.
abbrev pub length_of : Name → ℕ → ℕ
length_of Pattern n = patterns.length_of n
length_of Permutation n = permutations.length_of n
length_of Record n = record_length n

-- 1 and 2, of a list of m entries that is to be as long as `long` says.
unfoldable pub room_of : (ℕ → ℕ) → ℕ → ℕ → Outcome
room_of long n m = unless (sized n) Size (unless (eqb m (long n)) Length (Ok tt))

-- All that is asked of a list that is only written.
abbrev pub room_for : Form → ℕ → List ℕ → Outcome
room_for F n p = room_of F.length_of n (length p)

-- 3 and 4.
unfoldable pub contents : Form → ℕ → List ℕ → Outcome
contents F n p = unless (every (length p) (F.entry_test n p)) Entry (unless (every (length p) (F.shape_test n p)) Shape (Ok tt))

unfoldable pub checked : Form → ℕ → List ℕ → Outcome
checked F n p = and_then (room_for F n p) (contents F n p)

-- 5: number C(n) or above.
unfoldable pub number_check : Numbering → ℕ → List ℕ → Outcome
number_check N k p = and_then (room_for N.form N.nodes p) (unless (ltb k (total N)) Number (Ok tt))

-- 6: successor of the last.
unfoldable pub successor_check : Numbering → List ℕ → Outcome
successor_check N p = and_then (checked N.form N.nodes p) (unless (ltb (N.number p + 1) (total N)) Last (Ok tt))

-- 7: predecessor of the first.
unfoldable pub predecessor_check : Numbering → List ℕ → Outcome
predecessor_check N p = and_then (checked N.form N.nodes p) (unless (ltb 0 (N.number p)) First (Ok tt))

abbrev pub numbered : Outcome → ℕ → Numbered
numbered (Ok _) k = Ok k
numbered (Err f) k = Err f

abbrev pub reply : Outcome → ℕ → Reply
reply r k = numbered_reply (numbered r k)

abbrev pub unless_refused : {A : Type 0} → Outcome → A → A → A
unless_refused (Ok _) new old = new
unless_refused (Err f) new old = old
