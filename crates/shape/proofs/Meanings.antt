-- The theorems about the meanings, for every size, as a reader of the scope would say them. Each is a law of the other files at one of
-- the two forms and orders; that both orders are total, and the changes of a whole size, stand in `Orders` and `Changes`.
--     pattern_written, permutation_written     a list is well formed exactly when some tree of that size is written so
--     pattern_one, permutation_one             no two trees are written alike
--     local_dictionary, natural_dictionary     the order of trees is dictionary order of the form
--     local_position, natural_position         shape k stands before t exactly when k is below t's number
--     local_list, natural_list                 the numbers 0 to C(n)-1 give each tree of n nodes exactly once, in order
-- Assumes nothing.
use mathlib.Core.Path.{◌≡◌, subst₂}
use mathlib.Core.Logic.{◌↔◌}
use mathlib.Core.List.{List}
use Prim.Native.Nat.{ℕ, ◌<◌}
use Rattle.catalan.specs.Count.{C}
use Rattle.shape.specs.Tree.{Tree, size, pattern, permutation}
use Rattle.shape.specs.Form.{Feasible, TreePermutation, pattern_tree, patterns, permutations, Faithful}
use Rattle.shape.specs.Order.{Local, Natural, Dictionary}
use Rattle.shape.specs.Number.{local_number, local_pattern, natural_number, natural_tree}
use Rattle.shape.specs.Numbering.{Numbering, Lawful, EachOnce, local, natural}
use Rattle.shape.proofs.Forms.{written, write_injective}
use Rattle.shape.proofs.Patterns.{patterns_faithful}
use Rattle.shape.proofs.Permutations.{permutation_read, permutations_faithful}
use Rattle.shape.proofs.LocalNumbers.{local_lawful}
use Rattle.shape.proofs.NaturalNumbers.{natural_lawful}
use Rattle.shape.proofs.Listing.{position_tree, length_trees, trees_listed, trees_differ, trees_rise}

-- ---- forms

pub pattern_written : (n : ℕ) (p : List ℕ) → Feasible n p ↔ ((t : Tree) × (size t ≡ n) × (pattern t ≡ p))
pattern_written = written patterns patterns_faithful

pub permutation_written : (n : ℕ) (p : List ℕ) → TreePermutation n p ↔ ((t : Tree) × (size t ≡ n) × (permutation t ≡ p))
permutation_written = written permutations permutations_faithful

pub pattern_one : (s t : Tree) → pattern s ≡ pattern t → s ≡ t
pattern_one = write_injective patterns patterns_faithful

pub permutation_one : (s t : Tree) → permutation s ≡ permutation t → s ≡ t
permutation_one = write_injective permutations permutations_faithful

-- ---- orders

pub local_dictionary : (s t : Tree) → size s ≡ size t → Local s t ↔ Dictionary (pattern s) (pattern t)
local_dictionary s t = (local_lawful (size s)).ordered s t

pub natural_dictionary : (s t : Tree) → size s ≡ size t → Natural s t ↔ Dictionary (permutation s) (permutation t)
natural_dictionary s t = (natural_lawful (size s)).ordered s t

-- ---- positions

pub local_position : (n k : ℕ) (t : Tree) → k < C n → size t ≡ n → Local (pattern_tree (local_pattern n k)) t ↔ (k < local_number (pattern t))
local_position n = position_tree (local n) patterns_faithful (local_lawful n)

pub natural_position : (n k : ℕ) (t : Tree) → k < C n → size t ≡ n → Natural (natural_tree n k) t ↔ (k < natural_number t)
natural_position n k t h e =
    subst₂ (λ (s u : Tree). Natural s t ↔ (k < natural_number u)) (permutation_read (natural_tree n k)) (permutation_read t)
    (position_tree (natural n) permutations_faithful (natural_lawful n) k t h e)

-- ---- the list

each_once : (N : Numbering) → Faithful N.form → Lawful N → EachOnce N
each_once N f l = record { as_many = length_trees N f l; each = trees_listed N f l; once = trees_differ N f l; in_order = trees_rise N f l }

pub local_list : (n : ℕ) → EachOnce (local n)
local_list n = each_once (local n) patterns_faithful (local_lawful n)

pub natural_list : (n : ℕ) → EachOnce (natural n)
natural_list n = each_once (natural n) permutations_faithful (natural_lawful n)
