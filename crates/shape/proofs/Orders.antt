-- The orders are total orders, and dictionary order of each form is its order of trees.
--     dictionary_irreflexive, dictionary_transitive, dictionary_asymmetric, dictionary_compare
--                                             dictionary order is a total order of the lists of one length
--     dictionary_at                           the first difference decides
--     positioned                              a number that follows dictionary order is the position in it
--     local_total, natural_total              both orders of trees are total
--     local_pattern_lem, pattern_local        the local order is dictionary order of patterns of one size
--     natural_size                            what stands first in the natural order is not larger
--     natural_permutation, permutation_natural     the natural order is dictionary order of permutations of one size
-- Assumes nothing.
use mathlib.Core.Path.{◌≡◌, refl, sym, ap, ap₂, ◌∙◌, subst, subst₂}
use mathlib.Core.Logic.{◌↔◌}
use mathlib.Core.List.{List, [], ◌∷◌, ◌++◌}
use Prim.Native.Nat.{ℕ, zero, suc, ◌+◌, ◌≤◌, ◌<◌}
use native.Mathlib.Nat.{lt_trans, lt-suc_self, lt_of_lt_of_le, lt_of_le_of_lt, le_of_eq}
use native.Mathlib.Omega.{arith}
use lib.ListN.{length, get_or, take, drop}
use lib.Seq.{split_at}
use Rattle.shape.specs.Tree.{Tree, empty, node, size, pattern, permutation, permutation_from}
use Rattle.shape.specs.Order.{Local, Natural, Dictionary, differ, agree, Comparison, before, same, after, TotalOrder}
use Rattle.shape.proofs.Patterns.{length_pattern, pattern_node}

compare_numbers : (m n : ℕ) → Comparison ◌<◌ m n
compare_numbers zero zero = same refl
compare_numbers zero (suc n) = before (omega arith)
compare_numbers (suc m) zero = after (omega arith)
compare_numbers (suc m) (suc n) = up (compare_numbers m n)
  where
    up : Comparison ◌<◌ m n → Comparison ◌<◌ (suc m) (suc n)
    up (before h) = before (omega arith)
    up (same e) = same (ap suc e)
    up (after h) = after (omega arith)

only_before : {A : Type 0} {Before : A → A → Type 0} {x y : A} → Comparison Before x y → (x ≡ y → ⊥) → (Before y x → ⊥) → Before x y
only_before (before h) f g = h
only_before (same e) f g = absurd (f e)
only_before (after h) f g = absurd (g h)

-- what is made of two parts is compared by the first part, and by the second where the first parts are the same
by_parts : {A B C : Type 0} {R : A → A → Type 0} {S : B → B → Type 0} {Q : C → C → Type 0} (f : A → B → C) (a a' : A) (b b' : B)
    → (R a a' → Q (f a b) (f a' b')) → (R a' a → Q (f a' b') (f a b))
    → (a ≡ a' → S b b' → Q (f a b) (f a b')) → (a ≡ a' → S b' b → Q (f a b') (f a b))
    → Comparison R a a' → Comparison S b b' → Comparison Q (f a b) (f a' b')
by_parts f a a' b b' up down up' down' (before h) c = before (up h)
by_parts {Q} f a a' b b' up down up' down' (same e) (before h) = subst (λ x. Comparison Q (f a b) (f x b')) e (before (up' e h))
by_parts f a a' b b' up down up' down' (same e) (same d) = same (ap₂ f e d)
by_parts {Q} f a a' b b' up down up' down' (same e) (after h) = subst (λ x. Comparison Q (f a b) (f x b')) e (after (down' e h))
by_parts f a a' b b' up down up' down' (after h) c = after (down h)

-- ---- dictionary order

dictionary_differs : {p q : List ℕ} → Dictionary p q → p ≡ q → ⊥
dictionary_differs (differ {x = x} {y = y} h) e = let same : x ≡ y = cc in absurd (omega arith)
dictionary_differs (agree {p = p} {q = q} d) e = let rest : p ≡ q = cc in dictionary_differs d rest

pub dictionary_irreflexive : {p : List ℕ} → Dictionary p p → ⊥
dictionary_irreflexive d = dictionary_differs d refl

pub dictionary_transitive : {p q r : List ℕ} → Dictionary p q → Dictionary q r → Dictionary p r
dictionary_transitive (differ h) (differ k) = differ (lt_trans h k)
dictionary_transitive (differ h) (agree d) = differ h
dictionary_transitive (agree d) (differ h) = differ h
dictionary_transitive (agree d) (agree c) = agree (dictionary_transitive d c)

pub dictionary_asymmetric : {p q : List ℕ} → Dictionary p q → Dictionary q p → ⊥
dictionary_asymmetric d c = dictionary_irreflexive (dictionary_transitive d c)

pub dictionary_compare : (p q : List ℕ) → length p ≡ length q → Comparison Dictionary p q
dictionary_compare [] [] h = same refl
dictionary_compare [] (y ∷ q) h = absurd (omega arith)
dictionary_compare (x ∷ p) [] h = absurd (omega arith)
dictionary_compare (x ∷ p) (y ∷ q) h =
    by_parts ◌∷◌ x y p q differ differ (λ e. agree) (λ e. agree) (compare_numbers x y) (dictionary_compare p q (omega arith))

-- after a common beginning, and whatever follows
common : (w : List ℕ) {p q : List ℕ} → Dictionary p q → Dictionary (w ++ p) (w ++ q)
common [] d = d
common (x ∷ w) d = agree (common w d)

followed : {p q : List ℕ} (u v : List ℕ) → Dictionary p q → Dictionary (p ++ u) (q ++ v)
followed u v (differ h) = differ h
followed u v (agree d) = agree (followed u v d)

-- what two lists of one length have in common at their end does not decide
unfollowed : (p q w : List ℕ) → length p ≡ length q → Dictionary (p ++ w) (q ++ w) → Dictionary p q
unfollowed [] [] w h d = absurd (dictionary_irreflexive d)
unfollowed [] (y ∷ q) w h d = absurd (omega arith)
unfollowed (x ∷ p) [] w h d = absurd (omega arith)
unfollowed (x ∷ p) (y ∷ q) w h (differ k) = differ k
unfollowed (x ∷ p) (y ∷ q) w h (agree d) = agree (unfollowed p q w (omega arith) d)

-- the lists are the same up to place i, and there p has the smaller number
pub dictionary_at : (p q : List ℕ) (i : ℕ) → take i p ≡ take i q → i < length p → i < length q → get_or p i 0 < get_or q i 0 → Dictionary p q
dictionary_at p q i e on on' h =
    let split = ap (λ (w : List ℕ). w ++ get_or q i 0 ∷ drop (suc i) q) e ∙ sym (split_at q i 0 on') in
    subst₂ Dictionary (sym (split_at p i 0 on)) split (common (take i p) (differ h))

-- a number that follows dictionary order is the position in it
pub positioned : (number : List ℕ → ℕ) (p q : List ℕ) → (Dictionary p q → number p < number q) → (Dictionary q p → number q < number p)
    → length p ≡ length q → Dictionary p q ↔ (number p < number q)
positioned number p q up down e =
    (up, λ h. only_before (dictionary_compare p q e) (λ s. absurd (let k = ap number s in omega arith)) (λ d. let k = down d in omega arith))

-- an order of trees that any two stand in, and that dictionary order of a form keeps, is what dictionary order says
reflected : {Before : Tree → Tree → Type 0} (compare : (s t : Tree) → Comparison Before s t) (write : Tree → List ℕ)
    → ((s t : Tree) → size s ≡ size t → Before s t → Dictionary (write s) (write t))
    → (s t : Tree) → size s ≡ size t → Dictionary (write s) (write t) → Before s t
reflected compare write kept s t e d =
    only_before (compare s t)
    (λ q. dictionary_irreflexive (subst (λ (x : Tree). Dictionary (write x) (write t)) q d))
    (λ c. dictionary_asymmetric d (kept t s (sym e) c))

-- ---- the local order

local_differs : {s t : Tree} → Local s t → s ≡ t → ⊥
local_differs Local.empty_first e = cc
local_differs (Local.left_first {l = l} {l' = l'} d) e = let left : l ≡ l' = cc in local_differs d left
local_differs (Local.right_first {r = r} {r' = r'} d) e = let right : r ≡ r' = cc in local_differs d right

local_irreflexive : {t : Tree} → Local t t → ⊥
local_irreflexive d = local_differs d refl

local_transitive : {s t u : Tree} → Local s t → Local t u → Local s u
local_transitive Local.empty_first (Local.left_first d) = Local.empty_first
local_transitive Local.empty_first (Local.right_first d) = Local.empty_first
local_transitive (Local.left_first c) (Local.left_first d) = Local.left_first (local_transitive c d)
local_transitive (Local.left_first c) (Local.right_first d) = Local.left_first c
local_transitive (Local.right_first c) (Local.left_first d) = Local.left_first d
local_transitive (Local.right_first c) (Local.right_first d) = Local.right_first (local_transitive c d)

local_compare : (s t : Tree) → Comparison Local s t
local_compare empty empty = same refl
local_compare empty (node l r) = before Local.empty_first
local_compare (node l r) empty = after Local.empty_first
local_compare (node l r) (node l' r') =
    by_parts node l l' r r' Local.left_first Local.left_first (λ e. Local.right_first) (λ e. Local.right_first)
    (local_compare l l')
    (local_compare r r')

pub local_total : TotalOrder Local
local_total = record { irreflexive = λ t. local_irreflexive; transitive = λ s t u. local_transitive; compare = local_compare }

-- the patterns of two trees of any sizes, each with its dropped 0 and whatever follows
laid_before : {s t : Tree} → Local s t → (u v : List ℕ) → Dictionary (pattern s ++ 0 ∷ u) (pattern t ++ 0 ∷ v)
unfolding pattern
laid_before Local.empty_first u v = differ (lt-suc_self 0)
laid_before (Local.left_first {l} {r} {l'} {r'} d) u v =
    subst₂ Dictionary (sym (pattern_node l r (0 ∷ u))) (sym (pattern_node l' r' (0 ∷ v)))
    (agree (laid_before d (pattern r ++ 0 ∷ u) (pattern r' ++ 0 ∷ v)))
laid_before (Local.right_first {l} {r} {r'} d) u v =
    subst₂ Dictionary (sym (pattern_node l r (0 ∷ u))) (sym (pattern_node l r' (0 ∷ v))) (agree (common (pattern l) (agree (laid_before d u v))))

pub local_pattern_lem : (s t : Tree) → size s ≡ size t → Local s t → Dictionary (pattern s) (pattern t)
local_pattern_lem s t e d =
    unfollowed (pattern s) (pattern t) (0 ∷ []) (omega (arith, length_pattern s, length_pattern t)) (laid_before d [] [])

pub pattern_local : (s t : Tree) → size s ≡ size t → Dictionary (pattern s) (pattern t) → Local s t
pattern_local = reflected local_compare pattern local_pattern_lem

-- ---- the natural order

pub natural_size : {s t : Tree} → Natural s t → size s ≤ size t
natural_size (Natural.smaller_first h) = omega arith
natural_size (Natural.left_first e d) = omega arith
natural_size (Natural.right_first e d) = omega arith

natural_differs : {s t : Tree} → Natural s t → s ≡ t → ⊥
natural_differs (Natural.smaller_first {s = s} {t = t} h) e = let alike = ap size e in absurd (omega arith)
natural_differs (Natural.left_first {l = l} {l' = l'} _ d) e = let left : l ≡ l' = cc in natural_differs d left
natural_differs (Natural.right_first {r = r} {r' = r'} _ d) e = let right : r ≡ r' = cc in natural_differs d right

natural_irreflexive : {t : Tree} → Natural t t → ⊥
natural_irreflexive d = natural_differs d refl

natural_transitive : {s t u : Tree} → Natural s t → Natural t u → Natural s u
natural_transitive (Natural.smaller_first h) d = Natural.smaller_first (lt_of_lt_of_le h (natural_size d))
natural_transitive (Natural.left_first e c) (Natural.smaller_first h) = Natural.smaller_first (lt_of_le_of_lt (le_of_eq e) h)
natural_transitive (Natural.left_first e c) (Natural.left_first f d) = Natural.left_first (e ∙ f) (natural_transitive c d)
natural_transitive (Natural.left_first e c) (Natural.right_first f d) = Natural.left_first (e ∙ f) c
natural_transitive (Natural.right_first e c) (Natural.smaller_first h) = Natural.smaller_first (lt_of_le_of_lt (le_of_eq e) h)
natural_transitive (Natural.right_first e c) (Natural.left_first f d) = Natural.left_first (e ∙ f) d
natural_transitive (Natural.right_first e c) (Natural.right_first f d) = Natural.right_first (e ∙ f) (natural_transitive c d)

empty_smaller : (l r : Tree) → size empty < size (node l r)
unfolding size
empty_smaller l r = omega arith

natural_compare : (s t : Tree) → Comparison Natural s t
natural_compare empty empty = same refl
natural_compare empty (node l r) = before (Natural.smaller_first (empty_smaller l r))
natural_compare (node l r) empty = after (Natural.smaller_first (empty_smaller l r))
natural_compare (node l r) (node l' r') =
    decide (compare_numbers (size (node l r)) (size (node l' r'))) (natural_compare l l') (natural_compare r r')
  where
    sizes : size (node l r) ≡ size (node l' r') → l ≡ l' → size (node l r) ≡ size (node l r')
    sizes e q = e ∙ ap (λ (x : Tree). size (node x r')) (sym q)

    decide : Comparison ◌<◌ (size (node l r)) (size (node l' r')) → Comparison Natural l l' → Comparison Natural r r'
        → Comparison Natural (node l r) (node l' r')
    decide (before h) b c = before (Natural.smaller_first h)
    decide (same e) b c =
        by_parts node l l' r r' (Natural.left_first e) (Natural.left_first (sym e))
        (λ q. Natural.right_first (sizes e q)) (λ q. Natural.right_first (sym (sizes e q))) b c
    decide (after h) b c = after (Natural.smaller_first h)

pub natural_total : TotalOrder Natural
natural_total = record { irreflexive = λ t. natural_irreflexive; transitive = λ s t u. natural_transitive; compare = natural_compare }

-- the labels may begin after any number
natural_from : {s t : Tree} → size s ≡ size t → Natural s t → (base : ℕ) → Dictionary (permutation_from base s) (permutation_from base t)
unfolding permutation_from
natural_from e (Natural.smaller_first h) base = absurd (omega arith)
natural_from e (Natural.left_first {l} {r} {l'} {r'} f d) base = decide (compare_numbers (size l) (size l')) (λ q. natural_from q d base)
  where
    decide : Comparison ◌<◌ (size l) (size l') → (size l ≡ size l' → Dictionary (permutation_from base l) (permutation_from base l'))
        → Dictionary (permutation_from base (node l r)) (permutation_from base (node l' r'))
    decide (before h) g = let lower : suc (base + size l) < suc (base + size l') = omega arith in differ lower
    decide (same q) g =
        let after : ℕ → List ℕ = λ x. suc (base + x) ∷ (permutation_from base l' ++ permutation_from (suc (base + x)) r') in
        subst (λ (x : ℕ). Dictionary (permutation_from base (node l r)) (after x)) q (agree (followed _ _ (g q)))
    decide (after h) g = absurd (omega (arith, natural_size d))
natural_from e (Natural.right_first {l} {r} {r'} f d) base =
    let parts : size r ≡ size r' = unfold size in omega arith in
    agree (common (permutation_from base l) (natural_from parts d (suc (base + size l))))

pub natural_permutation : (s t : Tree) → size s ≡ size t → Natural s t → Dictionary (permutation s) (permutation t)
unfolding permutation
natural_permutation s t e d = natural_from e d 0

pub permutation_natural : (s t : Tree) → size s ≡ size t → Dictionary (permutation s) (permutation t) → Natural s t
permutation_natural = reflected natural_compare permutation natural_permutation
