-- What holds of every faithful form.
--     written           a list is well formed of size n exactly when some tree of n nodes is written so
--     write_injective   no two trees are written alike
-- Assumes nothing.
use mathlib.Core.Path.{◌≡◌, sym, ap, ◌∙◌, subst₂}
use mathlib.Core.Logic.{◌↔◌}
use mathlib.Core.List.{List}
use Prim.Native.Nat.{ℕ}
use Rattle.shape.specs.Tree.{Tree, size}
use Rattle.shape.specs.Form.{Form, Faithful}

module _ (F : Form) (faithful : Faithful F) where
  pub written : (n : ℕ) (p : List ℕ) → F.WellFormed n p ↔ ((t : Tree) × (size t ≡ n) × (F.write t ≡ p))
  written n p = (
    λ g. (F.read p, faithful.read_size n p g, faithful.write_read n p g),
    λ (t, e, w). subst₂ F.WellFormed e w (faithful.write_formed t),
  )

  pub write_injective : (s t : Tree) → F.write s ≡ F.write t → s ≡ t
  write_injective s t e = sym (faithful.read_write s) ∙ ap F.read e ∙ faithful.read_write t
