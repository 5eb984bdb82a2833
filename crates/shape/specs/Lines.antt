-- The lines that trainees check by hand: 01, Hand-checked lines, 1 to 12.
--     Line, lines     the table
--     Holds           what a line says: there is such a tree
-- Assumes nothing.
use Rattle.std.specs.Prelude.{◌≡◌, List, [], ◌∷◌, ℕ}
use Rattle.shape.specs.Tree.{Tree, size, pattern, permutation}
use Rattle.shape.specs.Number.{local_number, natural_number, change}

pub record Line : Type 0 where
  pub nodes : ℕ
  pub places : List ℕ
  pub entries : List ℕ
  pub local_no : ℕ
  pub natural_no : ℕ
  pub change_no : ℕ

line : ℕ → List ℕ → List ℕ → ℕ → ℕ → ℕ → Line
line n p q j k c = record { nodes = n; places = p; entries = q; local_no = j; natural_no = k; change_no = c }

unfoldable pub lines : List Line
unfolding line
lines =
    line 1 (1 ∷ 0 ∷ []) (1 ∷ []) 0 0 2
    ∷ line 2 (1 ∷ 0 ∷ 1 ∷ 0 ∷ []) (1 ∷ 2 ∷ []) 0 0 4
    ∷ line 2 (1 ∷ 1 ∷ 0 ∷ 0 ∷ []) (2 ∷ 1 ∷ []) 1 1 3
    ∷ line 3 (1 ∷ 0 ∷ 1 ∷ 0 ∷ 1 ∷ 0 ∷ []) (1 ∷ 2 ∷ 3 ∷ []) 0 0 6
    ∷ line 3 (1 ∷ 0 ∷ 1 ∷ 1 ∷ 0 ∷ 0 ∷ []) (1 ∷ 3 ∷ 2 ∷ []) 1 1 3
    ∷ line 3 (1 ∷ 1 ∷ 0 ∷ 0 ∷ 1 ∷ 0 ∷ []) (2 ∷ 1 ∷ 3 ∷ []) 2 2 5
    ∷ line 3 (1 ∷ 1 ∷ 0 ∷ 1 ∷ 0 ∷ 0 ∷ []) (3 ∷ 1 ∷ 2 ∷ []) 3 3 3
    ∷ line 3 (1 ∷ 1 ∷ 1 ∷ 0 ∷ 0 ∷ 0 ∷ []) (3 ∷ 2 ∷ 1 ∷ []) 4 4 4
    ∷ line 4 (1 ∷ 1 ∷ 0 ∷ 1 ∷ 0 ∷ 1 ∷ 0 ∷ 0 ∷ []) (4 ∷ 1 ∷ 2 ∷ 3 ∷ []) 8 9 3
    ∷ line 4 (1 ∷ 1 ∷ 1 ∷ 0 ∷ 0 ∷ 0 ∷ 1 ∷ 0 ∷ []) (3 ∷ 2 ∷ 1 ∷ 4 ∷ []) 10 8 6
    ∷ line 4 (1 ∷ 1 ∷ 1 ∷ 1 ∷ 0 ∷ 0 ∷ 0 ∷ 0 ∷ []) (4 ∷ 3 ∷ 2 ∷ 1 ∷ []) 13 13 5
    ∷ line 4 (1 ∷ 0 ∷ 1 ∷ 0 ∷ 1 ∷ 0 ∷ 1 ∷ 0 ∷ []) (1 ∷ 2 ∷ 3 ∷ 4 ∷ []) 0 0 8
    ∷ []

pub record Holds (l : Line) : Type 0 where
  pub tree : Tree
  pub has_nodes : size tree ≡ l.nodes
  pub has_places : pattern tree ≡ l.places
  pub has_entries : permutation tree ≡ l.entries
  pub has_local : local_number (pattern tree) ≡ l.local_no
  pub has_natural : natural_number tree ≡ l.natural_no
  pub has_change : change (size tree) (local_number (pattern tree)) ≡ l.change_no
