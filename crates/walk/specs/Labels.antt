-- What a step along the local order makes of the labels. A block of m + 1 nodes moves, and before the changed place there are k zeros.
--     relabelled k m x     the new label of a node that is not of the block, where x is its old one
--     rising b k           the k labels after b
-- Assumes nothing.
use Rattle.std.specs.Prelude.{cond, List, [], ◌∷◌, ℕ, zero, suc, ◌+◌, ◌-◌, leb, ltb}

-- Up to k the labels stay. The node labelled k + 1 has its 0 at the changed place: the block's first node takes this label, and the node gets
-- the next one. The labels from there up to k + m + 2 were the block's own. All above them fall by m, since the block's other nodes go behind.
unfoldable pub relabelled : ℕ → ℕ → ℕ → ℕ
relabelled k m x = cond (leb x k) x (cond (ltb x (k + m + 2)) (k + 2) (x - m))

unfoldable pub rising : ℕ → ℕ → List ℕ
rising b zero = []
rising b (suc k) = suc b ∷ rising (suc b) k
