-- The orders.
--     Local          the order in which patterns are numbered: 01, Two orders; 001, definition 2
--     Natural        the order in which permutations are numbered: 01, Two orders; 004, section 1; 001, definition 1
--     Dictionary     dictionary order of lists of one length
--     TotalOrder     of any two things one stands before the other, or they are the same (Comparison)
-- Assumes nothing.
use Rattle.std.specs.Prelude.{◌≡◌, List, ◌∷◌, ℕ, ◌<◌}
use Rattle.shape.specs.Tree.{Tree, empty, node, size}

pub data Local : Tree → Tree → Type 0 where
  -- (1) the empty tree stands before every other
  empty_first : {l r : Tree} → Local empty (node l r)
  -- (2) of two nodes, the one whose left part stands first
  left_first : {l r l' r' : Tree} → Local l l' → Local (node l r) (node l' r')
  -- (3) of two nodes with the same left part, the one whose right part stands first
  right_first : {l r r' : Tree} → Local r r' → Local (node l r) (node l r')

pub data Natural : Tree → Tree → Type 0 where
  -- (1) the tree with fewer nodes stands first
  smaller_first : {s t : Tree} → size s < size t → Natural s t
  -- (2) of two trees of one size, the one whose left part stands first
  left_first : {l r l' r' : Tree} → size (node l r) ≡ size (node l' r') → Natural l l' → Natural (node l r) (node l' r')
  -- (3) of two trees of one size with the same left part, the one whose right part stands first
  right_first : {l r r' : Tree} → size (node l r) ≡ size (node l r') → Natural r r' → Natural (node l r) (node l r')

-- The smaller number at the first place where the lists differ. Of lists of one length none ends before that place.
pub data Dictionary : List ℕ → List ℕ → Type 0 where
  differ : {x y : ℕ} {p q : List ℕ} → x < y → Dictionary (x ∷ p) (y ∷ q)
  agree : {x : ℕ} {p q : List ℕ} → Dictionary p q → Dictionary (x ∷ p) (x ∷ q)

-- x stands before y, is y, or stands after it
pub data Comparison {A : Type 0} (Before : A → A → Type 0) (x y : A) : Type 0 where
  before : Before x y → Comparison Before x y
  same : x ≡ y → Comparison Before x y
  after : Before y x → Comparison Before x y

pub record TotalOrder {A : Type 0} (Before : A → A → Type 0) : Type 0 where
  pub irreflexive : (x : A) → Before x x → ⊥
  pub transitive : (x y z : A) → Before x y → Before y z → Before x z
  pub compare : (x y : A) → Comparison Before x y
