-- Numbers of shapes, from 0, shapes from numbers, change and depth.
--     local_number p            the number of pattern p in the local order
--     local_pattern n k         the pattern of size n with that number, place by place (local_places)
--     natural_number t          the number of tree t in the natural order
--     fewer_left m l            how many trees of m + 1 nodes have fewer than l on the left
--     natural_tree n k          the tree of n nodes with that number (numbered_tree), its left part's size first (left_nodes)
--     change n k                the change of the pattern numbered k, by the first difference of two lists (first_difference)
--     depth p                   the depth of the shape with pattern p, the largest of some numbers (largest)
-- Assumes nothing.
use Rattle.std.specs.Prelude.{cond, List, [], ◌∷◌, ℕ, zero, suc, ◌+◌, ◌-◌, ◌*◌, ◌/◌, ◌%◌, max, leb, ltb, eqb, length, take}
use Rattle.catalan.specs.Count.{C, ways, sum}
use Rattle.shape.specs.Tree.{Tree, empty, node, size}
use Rattle.shape.specs.Form.{count}

-- 01, Two orders; 001, equation (1), less the 1 that it starts from: for each 1 of the pattern, the ways to finish had a 0 stood in its place.
-- (Of a list that is no pattern it says nothing that anyone uses: a place above 1 counts here as a 1.)
unfoldable pub local_number : List ℕ → ℕ
local_number [] = 0
local_number (zero ∷ p) = local_number p
local_number (suc x ∷ p) = ways (suc (count 1 p)) (count 0 p - 1) + local_number p

-- 01, Two orders; 001, section 5: with a ones and b zeros left for i places, a 0 stands next if the number is among the ways to finish after it.
unfoldable pub local_places : ℕ → ℕ → ℕ → ℕ → List ℕ
local_places zero a b k = []
local_places (suc i) a b k =
    cond (ltb k (ways a (b - 1))) (0 ∷ local_places i a (b - 1) k) (1 ∷ local_places i (a - 1) b (k - ways a (b - 1)))

unfoldable pub local_pattern : ℕ → ℕ → List ℕ
local_pattern n k = local_places (2 * n) n n k

-- 01, Two orders: for each smaller left size j, every left part with every right part.
unfoldable pub fewer_left : ℕ → ℕ → ℕ
fewer_left m l = sum l (λ j. C j * C (m - j))

-- 01, Two orders: the trees with a smaller left part come first; then the left's number counts in steps of as many trees as there are
-- right parts, and the right's number counts singly.
unfoldable pub natural_number : Tree → ℕ
natural_number empty = 0
natural_number (node l r) = fewer_left (size l + size r) (size l) + natural_number l * C (size r) + natural_number r

-- The most nodes, i at most, that shape k of m + 1 nodes can have on the left.
unfoldable pub left_nodes : ℕ → ℕ → ℕ → ℕ
left_nodes zero m k = 0
left_nodes (suc i) m k = cond (leb (fewer_left m (suc i)) k) (suc i) (left_nodes i m k)

-- The natural number taken apart again. The first argument bounds the depth.
unfoldable pub numbered_tree : ℕ → ℕ → ℕ → Tree
numbered_tree zero n k = empty
numbered_tree (suc d) zero k = empty
numbered_tree (suc d) (suc m) k =
    let l = left_nodes m m k in
    let rest = k - fewer_left m l in
    node (numbered_tree d l (rest / C (m - l))) (numbered_tree d (m - l) (rest % C (m - l)))

unfoldable pub natural_tree : ℕ → ℕ → Tree
natural_tree n k = numbered_tree n n k

-- The first place, from 1, at which two lists differ.
unfoldable pub first_difference : List ℕ → List ℕ → ℕ
first_difference [] q = 1
first_difference (x ∷ p) [] = 1
first_difference (x ∷ p) (y ∷ q) = cond (eqb x y) (suc (first_difference p q)) 1

-- 01, Change, run, figure: how many places, from the first that is new to the last, differ or may differ from the pattern before; all of
-- them for the first pattern.
unfoldable pub change : ℕ → ℕ → ℕ
change n zero = 2 * n
change n (suc k) = 2 * n - first_difference (local_pattern n k) (local_pattern n (suc k)) + 1

-- The largest of f 0 .. f (n - 1), 0 for none.
unfoldable pub largest : ℕ → (ℕ → ℕ) → ℕ
largest zero f = 0
largest (suc n) f = max (largest n f) (f n)

-- 01, Depth, head, later: by how many the ones outnumber the zeros, where they do so most.
unfoldable pub depth : List ℕ → ℕ
depth p = largest (suc (length p)) (λ i. count 1 (take i p) - count 0 (take i p))
