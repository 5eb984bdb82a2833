-- The prefixes of all patterns of one size, as a list: `prefixes` of catalan counts them.
--     begins a m             the prefixes of the words for m trees with a nodes, the empty one included
--     length_begins          there are `prefixes m a` of them
--     begins_differ          no two are the same
--     pattern_begins         for one tree of n nodes they are exactly the beginnings of the patterns of size n
-- Assumes nothing.
use mathlib.Core.Path.{◌≡◌, refl, ap, ◌∙◌, subst, subst⁻¹}
use mathlib.Core.Logic.{◌↔◌, inl, inr}
use mathlib.Core.List.{List, [], ◌∷◌, ◌++◌, map}
use mathlib.Core.List.Memᴰ
use mathlib.Core.List.{Memᴰ}
use Prim.Native.Nat.{ℕ, zero, suc, ◌+◌}
use native.Mathlib.Omega.{arith}
use lib.ListN.{length, get_or, take, drop, length-append}
use Rattle.catalan.specs.Count.{prefixes}
use Rattle.catalan.proofs.Counting.{words_positive}
use Rattle.shape.specs.Form.{Feasible}
use Rattle.shape.specs.Number.{local_places}
use Rattle.shape.specs.Every.{All, Pairs}
use Rattle.shape.proofs.Lists.{all_each, all_append, all_cross, all_mapped, pairs_append, pairs_map, length-map}
use Rattle.shape.proofs.Patterns.{Word, done, zero_next, one_next, feasible_word, word_feasible}
use Rattle.shape.proofs.LocalNumbers.{places_numbered}

abbrev put : ℕ → List ℕ → List ℕ
put x w = x ∷ w

unfoldable pub begins : ℕ → ℕ → List (List ℕ)
begins zero zero = []
begins zero (suc m) = [] ∷ map (put 0) (begins zero m)
begins (suc a) zero = []
begins (suc a) (suc m) = [] ∷ (map (put 0) (begins (suc a) m) ++ map (put 1) (begins a (suc (suc m))))

pub length_begins : (a m : ℕ) → length (begins a m) ≡ prefixes m a
unfolding begins prefixes
length_begins zero zero = refl
length_begins zero (suc m) = ap suc (length-map (put 0) (begins zero m) ∙ length_begins zero m)
length_begins (suc a) zero = refl
length_begins (suc a) (suc m) =
    rw (length-append, length-map (put 0), length-map (put 1), length_begins (suc a) m, length_begins a (suc (suc m)))

-- ---- exactly the beginnings of words

begins_hold : {e a : ℕ} {w : List ℕ} → Word e a w → (i : ℕ) → Memᴰ (take i w) (begins a (suc e))
unfolding begins
begins_hold done zero = Memᴰ.head refl
begins_hold done (suc i) = Memᴰ.head refl
begins_hold (zero_next {a = zero} r) zero = Memᴰ.head refl
begins_hold (zero_next {a = zero} r) (suc i) = Memᴰ.tail (Memᴰ.map (put 0) (begins_hold r i))
begins_hold (zero_next {a = suc a} r) zero = Memᴰ.head refl
begins_hold (zero_next {e = e} {a = suc a} r) (suc i) =
    Memᴰ.tail (Memᴰ.append_left (map (put 1) (begins a (suc (suc (suc e))))) (Memᴰ.map (put 0) (begins_hold r i)))
begins_hold (one_next r) zero = Memᴰ.head refl
begins_hold (one_next {e = e} {a = a} r) (suc i) =
    Memᴰ.tail (Memᴰ.append_right (map (put 0) (begins (suc a) e)) (Memᴰ.map (put 1) (begins_hold r i)))

-- q is the beginning of a word for m trees with a nodes
abbrev Begun : ℕ → ℕ → List ℕ → Type 0
Begun zero a q = ⊥
Begun (suc e) a q = (w : List ℕ) × (i : ℕ) × Word e a w × (take i w ≡ q)

-- there is a word, so the empty list is the beginning of one
begun_empty : (e a : ℕ) → Begun (suc e) a []
begun_empty e a =
    let found = places_numbered (a + (e + a)) e a (e + a) 0 refl refl (words_positive a e) in
    (local_places (a + (e + a)) a (e + a) 0, 0, found.0, refl)

begun_zero : (m a : ℕ) (q : List ℕ) → Begun m a q → Begun (suc m) a (0 ∷ q)
begun_zero zero a q b = absurd b
begun_zero (suc e) a q b = (0 ∷ b.0, suc b.1, zero_next b.2, ap (put 0) b.3)

begun_one : (e a : ℕ) (q : List ℕ) → Begun (suc (suc e)) a q → Begun (suc e) (suc a) (1 ∷ q)
begun_one e a q b = (1 ∷ b.0, suc b.1, one_next b.2, ap (put 1) b.3)

-- what holds of each list of ws with x put before it holds of each of the lists so made
put_each : (P : List ℕ → Type 0) (x : ℕ) (ws : List (List ℕ)) → ((q : List ℕ) → Memᴰ q ws → P (x ∷ q))
    → (q : List ℕ) → Memᴰ q (map (put x) ws) → P q
put_each P x ws f q h = let (q', m, e) = Memᴰ.of_map (put x) ws h in subst P e (f q' m)

begins_only : (a m : ℕ) (q : List ℕ) → Memᴰ q (begins a m) → Begun m a q
unfolding begins
begins_only zero zero q h = Memᴰ.not-nil h
begins_only zero (suc m) q h =
    let zeros = put_each (Begun (suc m) zero) 0 (begins zero m) (λ p k. begun_zero m zero p (begins_only zero m p k)) in
    elim (Memᴰ.cases_cons h) [
      | inl e ↦ subst⁻¹ (Begun (suc m) zero) e (begun_empty m zero)
      | inr k ↦ zeros q k
    ]
begins_only (suc a) zero q h = Memᴰ.not-nil h
begins_only (suc a) (suc m) q h =
    let zeros = put_each (Begun (suc m) (suc a)) 0 (begins (suc a) m) (λ p k. begun_zero m (suc a) p (begins_only (suc a) m p k)) in
    let ones = put_each (Begun (suc m) (suc a)) 1 (begins a (suc (suc m))) (λ p k. begun_one m a p (begins_only a (suc (suc m)) p k)) in
    elim (Memᴰ.cases_cons h) [
      | inl e ↦ subst⁻¹ (Begun (suc m) (suc a)) e (begun_empty m (suc a))
      | inr k ↦ elim (Memᴰ.append_cases (map (put 0) (begins (suc a) m)) k) [ inl z ↦ zeros q z | inr o ↦ ones q o ]
    ]

-- ---- each once

abbrev Differ : List ℕ → List ℕ → Type 0
Differ p q = p ≡ q → ⊥

nothing_differs : (x : ℕ) (ws : List (List ℕ)) → All (Differ []) (map (put x) ws)
nothing_differs x ws = all_mapped (put x) (Differ []) (λ w e. let lengths = ap length e in omega arith) ws

put_differ : (x : ℕ) (ws : List (List ℕ)) → Pairs Differ ws → Pairs Differ (map (put x) ws)
put_differ x ws h = pairs_map (put x) Differ (λ p q u v d e. d (ap (drop 1) e)) ws (all_each {P = λ q. Unit} ws (λ q m. tt)) h

-- lists that begin with 0 differ from lists that begin with 1
abbrev Starts : ℕ → List ℕ → Type 0
Starts x p = get_or p 0 2 ≡ x

starts_differ : (p q : List ℕ) → Starts 0 p → Starts 1 q → Differ p q
starts_differ p q z o e = let same = ap (λ (w : List ℕ). get_or w 0 2) e in omega arith

parts_differ : (us vs : List (List ℕ)) → Pairs Differ us → Pairs Differ vs → Pairs Differ ([] ∷ (map (put 0) us ++ map (put 1) vs))
parts_differ us vs g h =
    let zeros = map (put 0) us in
    let ones = map (put 1) vs in
    let apart = all_cross starts_differ zeros ones (all_mapped (put 0) (Starts 0) (λ w. refl) us) (all_mapped (put 1) (Starts 1) (λ w. refl) vs) in
    let nothing = all_append (Differ []) zeros ones (nothing_differs 0 us) (nothing_differs 1 vs) in
    (nothing, pairs_append Differ zeros ones (put_differ 0 us g) (put_differ 1 vs h) apart)

pub begins_differ : (a m : ℕ) → Pairs Differ (begins a m)
unfolding begins
begins_differ zero zero = tt
begins_differ zero (suc m) = (nothing_differs 0 (begins zero m), put_differ 0 (begins zero m) (begins_differ zero m))
begins_differ (suc a) zero = tt
begins_differ (suc a) (suc m) = parts_differ (begins (suc a) m) (begins a (suc (suc m))) (begins_differ (suc a) m) (begins_differ a (suc (suc m)))

-- ---- the patterns of one size

pub pattern_begins : (n : ℕ) (q : List ℕ) → Memᴰ q (begins n 1) ↔ ((p : List ℕ) × (i : ℕ) × Feasible n p × (take i p ≡ q))
pattern_begins n q = (
  λ h. let (w, i, r, t) = begins_only n 1 q h in (w, i, word_feasible r, t),
  λ (p, i, g, t). subst (λ (x : List ℕ). Memᴰ x (begins n 1)) t (begins_hold (feasible_word g) i),
)
