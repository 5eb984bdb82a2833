-- What the two orders have in common: each numbers the shapes of one size, written in one form.
--     Numbering              the form, the size, the order of trees, number and shape
--     local n, natural n     the patterns in the local order, the tree permutations in the natural order
--     total, WellFormed      how many shapes there are, and which lists are one
--     Lawful                 number and shape are inverse below the total, and the number is the position
--     next, previous         one step along a numbering
--     numbers_from           so many numbers, from one on
--     list_of, trees_of      the whole list of shapes in order, as lists and as trees
--     EachOnce               the list has each tree of the size exactly once, in order
-- Assumes nothing.
use Rattle.std.specs.Prelude.{◌≡◌, ◌↔◌, ℕ, zero, suc, ◌+◌, ◌-◌, ◌<◌, length}
use mathlib.Core.List.{List, [], ◌∷◌, map, Memᴰ}
use Rattle.catalan.specs.Count.{C}
use Rattle.shape.specs.Tree.{Tree, size, permutation}
use Rattle.shape.specs.Every.{Pairs}
use Rattle.shape.specs.Form.{Form, patterns, permutations, permutation_tree}
use Rattle.shape.specs.Order.{Local, Natural, Dictionary}
use Rattle.shape.specs.Number.{local_number, local_pattern, natural_number, natural_tree}

pub record Numbering : Type 1 where
  pub form : Form
  pub nodes : ℕ
  pub Before : Tree → Tree → Type 0
  pub number : List ℕ → ℕ
  pub shape : ℕ → List ℕ

abbrev pub local : ℕ → Numbering
local n = record { form = patterns; nodes = n; Before = Local; number = local_number; shape = local_pattern n }

abbrev pub natural : ℕ → Numbering
natural n =
    record {
      form = permutations;
      nodes = n;
      Before = Natural;
      number = λ p. natural_number (permutation_tree p);
      shape = λ k. permutation (natural_tree n k);
    }

abbrev pub total : Numbering → ℕ
total N = C N.nodes

abbrev pub WellFormed : Numbering → List ℕ → Type 0
WellFormed N p = N.form.WellFormed N.nodes p

pub record Lawful (N : Numbering) : Type 0 where
  pub number_below : (p : List ℕ) → WellFormed N p → N.number p < total N
  pub shape_formed : (k : ℕ) → k < total N → WellFormed N (N.shape k)
  pub number_shape : (k : ℕ) → k < total N → N.number (N.shape k) ≡ k
  pub shape_number : (p : List ℕ) → WellFormed N p → N.shape (N.number p) ≡ p
  -- 01, Two orders: on lists of one size the order of the trees is dictionary order
  pub ordered : (s t : Tree) → size s ≡ size t → N.Before s t ↔ Dictionary (N.form.write s) (N.form.write t)
  pub position : (p q : List ℕ) → WellFormed N p → WellFormed N q → Dictionary p q ↔ (N.number p < N.number q)

unfoldable pub next : Numbering → List ℕ → List ℕ
next N p = N.shape (N.number p + 1)

unfoldable pub previous : Numbering → List ℕ → List ℕ
previous N p = N.shape (N.number p - 1)

-- n numbers, from k on
unfoldable pub numbers_from : ℕ → ℕ → List ℕ
numbers_from k zero = []
numbers_from k (suc n) = k ∷ numbers_from (suc k) n

unfoldable pub list_of : Numbering → List (List ℕ)
list_of N = map N.shape (numbers_from 0 (total N))

unfoldable pub trees_of : Numbering → List Tree
trees_of N = map N.form.read (list_of N)

-- The trees of the size are all there, none twice, each before the next.
pub record EachOnce (N : Numbering) : Type 0 where
  pub as_many : length (trees_of N) ≡ total N
  pub each : (t : Tree) → (size t ≡ N.nodes) ↔ Memᴰ t (trees_of N)
  pub once : Pairs (λ s t. s ≡ t → ⊥) (trees_of N)
  pub in_order : Pairs N.Before (trees_of N)
