-- What the calls on patterns answer besides what a call over any numbering does, for every size n and every list p that the slice holds.
--     successor_change, predecessor_change     the change of a step, on and back
--     depth_reply                              the depth
--     head_part                                what the head holds; it starts where the slice starts
--     later_check, later_part, later_of        what the later of two holds, and which of the two slices it is a part of
-- Assumes nothing.
use Rattle.std.specs.Prelude.{cond, List, [], ℕ, ◌+◌, ltb}
use Rattle.shape.specs.Tree.{head}
use Rattle.shape.specs.Form.{pattern_tree, patterns}
use Rattle.shape.specs.Number.{local_number, change, depth}
use Rattle.shape.specs.Numbering.{local}
use Rattle.shape.specs.Reply.{Reply, Outcome}
use Rattle.shape.specs.Check.{and_then, checked, successor_check, predecessor_check, reply, unless_refused}

-- 01, Change, run, figure: a successor answers the change of the new pattern, a predecessor that of the old one.
unfoldable pub successor_change : ℕ → List ℕ → Reply
successor_change n p = reply (successor_check (local n) p) (change n (local_number p + 1))

unfoldable pub predecessor_change : ℕ → List ℕ → Reply
predecessor_change n p = reply (predecessor_check (local n) p) (change n (local_number p))

-- 01, Depth, head, later.
unfoldable pub depth_reply : ℕ → List ℕ → Reply
depth_reply n p = reply (checked patterns n p) (depth p)

unfoldable pub head_part : ℕ → List ℕ → List ℕ
head_part n p = unless_refused (checked patterns n p) (head (pattern_tree p)) []

-- Either one refused is enough. Which refusal it was is not told, so it does not matter which of the two is tried first.
unfoldable pub later_check : ℕ → List ℕ → List ℕ → Outcome
later_check n p q = and_then (checked patterns n p) (checked patterns n q)

-- The second of two things, where q is the later; the first where p is, or where they are equal or refused.
unfoldable pub later_of : {A : Type 0} → ℕ → List ℕ → List ℕ → A → A → A
later_of n p q first second = unless_refused (later_check n p q) (cond (ltb (local_number p) (local_number q)) second first) first

unfoldable pub later_part : ℕ → List ℕ → List ℕ → List ℕ
later_part n p q = unless_refused (later_check n p q) (later_of n p q p q) []
