-- When a contract determines what a call does. Q is what a function's generated contract asks, of the lifetimes and the arguments; P is what
-- it says, of these, of the answer, and of what the parameters hold at exit. What a caller sees is a part of the last two.
--     AsksNothing Q            it asks nothing
--     Exact P see f            it says that what is seen is what the definition f gives: that much, and nothing that f does not meet
--     Fixes P see              two calls that meet it are seen alike
--     Determined X Q P see f   all three, where a caller sees an X; `determined` makes it of the first two
--     exact_both               of two things that are seen
-- Assumes nothing.
use Rattle.std.specs.Prelude.{◌≡◌, ◌↔◌}
use Rattle.std.proofs.Common.{sym, ap, ◌∙◌}

abbrev pub AsksNothing : {K : Type 0} {A : K → Type 0} → ((κ : K) → A κ → Type 0) → Type 0
AsksNothing {K} {A} Q = (κ : K) (a : A κ) → Q κ a

module _ {K : Type 0} {A R S : K → Type 0} {X : Type 0} where
  abbrev pub Exact : ((κ : K) → A κ → R κ → S κ → Type 0) → ((κ : K) → R κ → S κ → X) → ((κ : K) → A κ → X) → Type 0
  Exact P see f = (κ : K) (a : A κ) (r : R κ) (s : S κ) → P κ a r s ↔ (see κ r s ≡ f κ a)

  abbrev pub Fixes : ((κ : K) → A κ → R κ → S κ → Type 0) → ((κ : K) → R κ → S κ → X) → Type 0
  Fixes P see = (κ : K) (a : A κ) (r r' : R κ) (s s' : S κ) → P κ a r s → P κ a r' s' → see κ r s ≡ see κ r' s'

module _ {K : Type 0} {A R S : K → Type 0} (X : Type 0) where
  pub record Determined (Q : (κ : K) → A κ → Type 0) (P : (κ : K) → A κ → R κ → S κ → Type 0)
      (see : (κ : K) → R κ → S κ → X) (f : (κ : K) → A κ → X) : Type 0 where
    pub asks_nothing : AsksNothing Q
    pub exact : Exact P see f
    pub fixes : Fixes P see

module _ {K : Type 0} {A R S : K → Type 0} {X : Type 0} {Q : (κ : K) → A κ → Type 0} {P : (κ : K) → A κ → R κ → S κ → Type 0} where
  pub determined : {see : (κ : K) → R κ → S κ → X} {f : (κ : K) → A κ → X} → AsksNothing Q → Exact P see f → Determined X Q P see f
  determined n e =
      record { asks_nothing = n; exact = e; fixes = λ κ a r r' s s' p p'. (e κ a r s).0 p ∙ sym ((e κ a r' s').0 p') }

pub exact_both : {X Y P Q : Type 0} {x x' : X} {y y' : Y} → P ↔ (x ≡ x') → Q ↔ (y ≡ y') → (P × Q) ↔ ◌≡◌ {A = X × Y} (x, y) (x', y')
exact_both {X} {Y} g h = (
  λ (p, q) i. (g.0 p i, h.0 q i),
  λ e. (g.1 (ap (λ (z : X × Y). z.0) e), h.1 (ap (λ (z : X × Y). z.1) e)),
)
