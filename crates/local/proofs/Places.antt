-- A law of writing places.
--     filled_lem        a list with x written over its entries from s up to e
-- Assumes nothing.
use Rattle.std.proofs.Common.{◌≡◌, ℕ, ◌-◌, ◌≤◌, List, ◌++◌, length, take, drop, replicate}
use borrow.Rule.Slice.PartMut.{mid_of, put_mid, mid_len, Post-is}

-- w is what the part holds afterwards
pub filled_lem : (s e x : ℕ) (p w : List ℕ) → s ≤ e → e ≤ length p → w ≡ replicate (length (mid_of s (e - s) p)) x
    → put_mid s (e - s) p w ≡ take s p ++ (replicate (e - s) x ++ drop e p)
filled_lem s e x p w h l hw = rw (hw, mid_len s e p l, Post-is s e p h)
