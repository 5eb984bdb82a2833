-- Which lists are patterns and tree permutations, by their places, and the tree that each of them is of.
--     count x p                how many entries of p are x
--     below x p                how many entries of p are less than x
--     Feasible n p             p is a feasible pattern of size n
--     TreePermutation n p      p is a tree permutation of size n
--     place_fits, balance_fits  the same of a pattern, test by test and place by place
--     entry_fits, triple_fits  the same of a permutation
--     every n f                the test f passes for 0 .. n - 1
--     pattern_tree p           the tree with pattern p, by the trees that its last places complete (forest, joined)
--     permutation_tree p       the tree with permutation p, cut at its first entry (cut_tree)
--                              (of a list that is not well formed these two say nothing)
--     Form                     a form: how long a list is, what is tested of it, what is well formed, and the tree there and back;
--                              `patterns` and `permutations` are the two
--     Faithful F               the form F is one to one with trees
--     Tested F                 the tests of the form F find exactly what is well formed
-- Assumes nothing.
use Rattle.std.specs.Prelude.{◌≡◌, ◌↔◌, Bool, true, cond, not, ◌&&◌, List, [], ◌∷◌, ℕ, zero, suc, ◌*◌, ◌≤◌, ◌<◌, eqb, leb, ltb, length, get_or, take, drop}
use Rattle.shape.specs.Tree.{Tree, empty, node, size, pattern, permutation}

unfoldable pub count : ℕ → List ℕ → ℕ
count x [] = 0
count x (y ∷ p) = cond (eqb y x) (suc (count x p)) (count x p)

unfoldable pub below : ℕ → List ℕ → ℕ
below x [] = 0
below x (y ∷ p) = cond (ltb y x) (suc (below x p)) (below x p)

-- 01, Two forms; 001, section 2: zeros and ones, n of each, and at no point more zeros than ones so far.
pub record Feasible (n : ℕ) (p : List ℕ) : Type 0 where
  pub places : (i : ℕ) → i < length p → get_or p i 0 ≤ 1
  pub ones : count 1 p ≡ n
  pub zeros : count 0 p ≡ n
  pub prefix : (i : ℕ) → count 0 (take i p) ≤ count 1 (take i p)

-- 01, Two forms; 004, section 1: each of 1..n once, and never an entry, later a larger one, and still later one smaller than both.
pub record TreePermutation (n : ℕ) (p : List ℕ) : Type 0 where
  pub entries : length p ≡ n
  pub least : (i : ℕ) → i < length p → 1 ≤ get_or p i 0
  pub most : (i : ℕ) → i < length p → get_or p i 0 ≤ n
  pub distinct : (i j : ℕ) → i < j → j < length p → get_or p i 0 ≡ get_or p j 0 → ⊥
  pub avoids : (i j k : ℕ) → i < j → j < k → k < length p → get_or p k 0 < get_or p i 0 → get_or p i 0 < get_or p j 0 → ⊥

unfoldable pub every : ℕ → (ℕ → Bool) → Bool
every zero f = true
every (suc n) f = every n f && f n

-- 01, Refusal numbers, 3: a place above 1.
abbrev pub place_fits : ℕ → List ℕ → ℕ → Bool
place_fits n p i = leb (get_or p i 0) 1

-- 4: up to this place the zeros do not outnumber the ones, nor are the ones more than n. Where that is so throughout 2n places of 0 and
-- 1, n of them are ones.
abbrev pub balance_fits : ℕ → List ℕ → ℕ → Bool
balance_fits n p i = leb (count 0 (take (suc i) p)) (count 1 (take (suc i) p)) && leb (count 1 (take (suc i) p)) n

-- 3: an entry outside 1..n or seen earlier.
abbrev pub entry_fits : ℕ → List ℕ → ℕ → Bool
entry_fits n p k = leb 1 (get_or p k 0) && leb (get_or p k 0) n && eqb (count (get_or p k 0) (take k p)) 0

-- 4: with k as the last of three, there are no i < j < k with entry k < entry i < entry j.
abbrev pub triple_fits : ℕ → List ℕ → ℕ → Bool
triple_fits n p k = every k (λ j. every j (λ i. not (ltb (get_or p k 0) (get_or p i 0) && ltb (get_or p i 0) (get_or p j 0))))

-- The trees that a pattern's places from some place on complete, read from the last place to the first: a 0 puts an empty tree before
-- the others, and a 1 makes the first two of them the left and the right part of a node.
abbrev pub joined : List Tree → List Tree
joined [] = []
joined (l ∷ []) = []
joined (l ∷ r ∷ ts) = node l r ∷ ts

unfoldable pub forest : List ℕ → List Tree
forest [] = empty ∷ []
forest (zero ∷ p) = empty ∷ forest p
forest (suc x ∷ p) = joined (forest p)

unfoldable pub pattern_tree : List ℕ → Tree
pattern_tree p = get_or (forest p) 0 empty

-- The first entry is the root's label; the smaller ones after it are the left part, the larger ones the right part. The first argument
-- bounds how deep the tree is taken apart.
unfoldable pub cut_tree : ℕ → List ℕ → Tree
cut_tree zero p = empty
cut_tree (suc d) [] = empty
cut_tree (suc d) (x ∷ p) = node (cut_tree d (take (below x p) p)) (cut_tree d (drop (below x p) p))

unfoldable pub permutation_tree : List ℕ → Tree
permutation_tree p = cut_tree (length p) p

pub record Form : Type 1 where
  -- how long a list of size n is
  pub length_of : ℕ → ℕ
  -- what is tested of each entry, and of the entries up to it
  pub entry_test : ℕ → List ℕ → ℕ → Bool
  pub shape_test : ℕ → List ℕ → ℕ → Bool
  pub WellFormed : ℕ → List ℕ → Type 0
  pub write : Tree → List ℕ
  pub read : List ℕ → Tree

abbrev pub patterns : Form
patterns =
    record {
      length_of = λ n. 2 * n;
      entry_test = place_fits;
      shape_test = balance_fits;
      WellFormed = Feasible;
      write = pattern;
      read = pattern_tree;
    }

abbrev pub permutations : Form
permutations =
    record {
      length_of = λ n. n;
      entry_test = entry_fits;
      shape_test = triple_fits;
      WellFormed = TreePermutation;
      write = permutation;
      read = permutation_tree;
    }

-- The well formed lists of size n are the trees of n nodes, written down, and each tree is read back.
pub record Faithful (F : Form) : Type 0 where
  pub write_formed : (t : Tree) → F.WellFormed (size t) (F.write t)
  pub read_write : (t : Tree) → F.read (F.write t) ≡ t
  pub write_read : (n : ℕ) (p : List ℕ) → F.WellFormed n p → F.write (F.read p) ≡ p
  pub read_size : (n : ℕ) (p : List ℕ) → F.WellFormed n p → size (F.read p) ≡ n

-- A list is well formed exactly when it is as long as its size asks and passes both tests at every entry.
pub record Passes (F : Form) (n : ℕ) (p : List ℕ) : Type 0 where
  pub long : length p ≡ F.length_of n
  pub entries : every (length p) (F.entry_test n p) ≡ true
  pub shape : every (length p) (F.shape_test n p) ≡ true

abbrev pub Tested : Form → Type 0
Tested F = (n : ℕ) (p : List ℕ) → Passes F n p ↔ F.WellFormed n p
