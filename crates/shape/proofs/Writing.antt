-- Laws of a list that is read or written entry by entry, from its first to its last or the other way.
--     written_next       up to an entry that is written stand the entries before it, and then what was written
--     from_before        from the entry before on stand that entry and those from here on
--     written_before     and where it is written, what is written and those from here on
-- Assumes nothing.
use mathlib.Core.Path.{◌≡◌, ◌∙◌}
use mathlib.Core.List.{List, ◌∷◌, ◌++◌}
use Prim.Native.Nat.{ℕ, suc, ◌+◌, ◌-◌, ◌≤◌, ◌<◌}
use native.Mathlib.Numerals.{add-one}
use native.Mathlib.Omega.{arith}
use lib.ListN.{length, get_or, set, take, drop, length-set}
use lib.Seq.{take-suc-set, append_snoc, drop-cons, drop-set-lt, get_or-set_same}

pub written_next : (p : List ℕ) (i x : ℕ) (s : List ℕ) → i < length p → take (i + 1) (set p i x) ++ s ≡ take i p ++ x ∷ s
written_next p i x s h = rw (add-one, take-suc-set p i x h) (append_snoc (take i p) x s)

pub from_before : (p : List ℕ) (i : ℕ) → 0 < i → i ≤ length p → drop (i - 1) p ≡ get_or p (i - 1) 0 ∷ drop i p
from_before p i low on =
    let next : suc (i - 1) ≡ i = omega arith in
    drop-cons p (i - 1) 0 (omega arith) ∙ rw next

pub written_before : (p : List ℕ) (i x : ℕ) → 0 < i → i ≤ length p → drop (i - 1) (set p (i - 1) x) ≡ x ∷ drop i p
written_before p i x low on =
    from_before (set p (i - 1) x) i low (rw length-set on)
    ∙ rw (get_or-set_same p (i - 1) x 0 (omega arith), drop-set-lt i p (i - 1) x (omega arith))
