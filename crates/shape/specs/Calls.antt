-- What a call answers, and what it leaves in a lent slice, for every size n, every list p that the slice holds and every number k. A refusal
-- says its number and nothing else, and the slice stays as it was lent. N is the numbering, F and G are forms.
--     check_reply                              of a list that is only read
--     number_reply                             its number
--     shape_reply, shape_end                   the shape with a number
--     successor_reply, successor_end           one step on
--     predecessor_reply, predecessor_end       one step back
--     conversion_check                         of p, written in the form F, that is to be written otherwise in the place of q, `long n` entries
--     conversion_reply, conversion_end         p, written in the form F, written in the form G, in the place of q
-- Assumes nothing.
use Rattle.std.specs.Prelude.{List, ℕ, length}
use Rattle.shape.specs.Form.{Form}
use Rattle.shape.specs.Numbering.{Numbering, next, previous}
use Rattle.shape.specs.Reply.{Reply, outcome_reply, Outcome}
use Rattle.shape.specs.Check.{and_then, room_of, checked, number_check, successor_check, predecessor_check, reply, unless_refused}

-- 01, Refusal numbers, 1 to 4.
unfoldable pub check_reply : Form → ℕ → List ℕ → Reply
check_reply F n p = outcome_reply (checked F n p)

-- 01, Two orders.
unfoldable pub number_reply : Numbering → List ℕ → Reply
number_reply N p = reply (checked N.form N.nodes p) (N.number p)

unfoldable pub shape_reply : Numbering → ℕ → List ℕ → Reply
shape_reply N k p = outcome_reply (number_check N k p)

unfoldable pub shape_end : Numbering → ℕ → List ℕ → List ℕ
shape_end N k p = unless_refused (number_check N k p) (N.shape k) p

-- 01, Change, run, figure: where a step answers only that it was done.
unfoldable pub successor_reply : Numbering → List ℕ → Reply
successor_reply N p = outcome_reply (successor_check N p)

unfoldable pub successor_end : Numbering → List ℕ → List ℕ
successor_end N p = unless_refused (successor_check N p) (next N p) p

unfoldable pub predecessor_reply : Numbering → List ℕ → Reply
predecessor_reply N p = outcome_reply (predecessor_check N p)

unfoldable pub predecessor_end : Numbering → List ℕ → List ℕ
predecessor_end N p = unless_refused (predecessor_check N p) (previous N p) p

-- 01, Refusal numbers: the lowest that applies. What q holds is no reason to refuse; its length is, and that comes before what p holds.
unfoldable pub conversion_check : Form → (ℕ → ℕ) → ℕ → List ℕ → List ℕ → Outcome
conversion_check F long n p q = and_then (room_of long n (length q)) (checked F n p)

unfoldable pub conversion_reply : Form → Form → ℕ → List ℕ → List ℕ → Reply
conversion_reply F G n p q = outcome_reply (conversion_check F G.length_of n p q)

unfoldable pub conversion_end : Form → Form → ℕ → List ℕ → List ℕ → List ℕ
conversion_end F G n p q = unless_refused (conversion_check F G.length_of n p q) (G.write (F.read p)) q
