-- Laws of what holds of every entry of a list, of every two and of every three (All, Pairs, Triples).
--     all_map, all_both                              what follows for each entry, from one fact or from two, follows for all
--     pairs_all, pairs_weaken                        what follows for any two entries, or from every two, follows for every two in order
--     all_member, all_each                           what holds of all holds of each member, and the other way
--     length-map, get_d_map                          a mapped list, place by place
--     all_mapped, pairs_map                          all and every two of a mapped list
--     all_cross                                      what follows for an entry of each of two lists follows for all of both
--     all_append, all_left, all_right                all entries of u ++ v are those of u and those of v
--     pairs_append, pairs_left, pairs_right          the same for every two; pairs_append is told of those with one in u and one in v
--     triples_append, triples_left, triples_right    the same for every three; triples_append is told of those with one or two in u
--     all_at, pairs_at, triples_at                   of a list of numbers: so it is at positions i, i < j, i < j < k
--     all_of, pairs_of, triples_of                   and what is so at all such positions is so of the list
--     zeros_at                                       zeros, place by place
-- Assumes nothing.
use mathlib.Core.Path.{◌≡◌, refl, ap, subst⁻¹}
use mathlib.Core.List.{List, [], ◌∷◌, ◌++◌, map, Memᴰ}
use Prim.Native.Nat.{ℕ, zero, suc, ◌<◌}
use native.Mathlib.Omega.{arith}
use lib.ListN.{length, get_or, replicate}
use Rattle.shape.specs.Every.{All, Pairs, Triples}

module _ {A : Type 0} where
  -- ---- consequences

  pub all_map : {P Q : A → Type 0} → ((x : A) → P x → Q x) → (l : List A) → All P l → All Q l
  all_map f [] h = tt
  all_map f (x ∷ l) h = (f x h.0, all_map f l h.1)

  pub all_both : {P Q R : A → Type 0} → ((x : A) → P x → Q x → R x) → (l : List A) → All P l → All Q l → All R l
  all_both f [] g h = tt
  all_both f (x ∷ l) g h = (f x g.0 h.0, all_both f l g.1 h.1)

  pub pairs_all : {P : A → Type 0} {R : A → A → Type 0} → ((x y : A) → P x → P y → R x y) → (l : List A) → All P l → Pairs R l
  pairs_all f [] h = tt
  pairs_all f (x ∷ l) h = (all_map (λ y. f x y h.0) l h.1, pairs_all f l h.1)

  pub all_cross : {P Q : A → Type 0} {R : A → A → Type 0} → ((x y : A) → P x → Q y → R x y)
      → (u v : List A) → All P u → All Q v → All (λ x. All (R x) v) u
  all_cross f u v g h = all_map (λ x p. all_map (λ y. f x y p) v h) u g

  pub all_member : (P : A → Type 0) (l : List A) → All P l → {x : A} → Memᴰ x l → P x
  all_member P [] h m = elim m [ ]
  all_member P (y ∷ l) h (Memᴰ.head e) = subst⁻¹ P e h.0
  all_member P (y ∷ l) h (Memᴰ.tail m) = all_member P l h.1 m

  pub all_each : {P : A → Type 0} (l : List A) → ((x : A) → Memᴰ x l → P x) → All P l
  all_each [] h = tt
  all_each (x ∷ l) h = (h x (Memᴰ.head refl), all_each l (λ y m. h y (Memᴰ.tail m)))

  pub pairs_weaken : {R S : A → A → Type 0} → ((x y : A) → R x y → S x y) → (l : List A) → Pairs R l → Pairs S l
  pairs_weaken f [] h = tt
  pairs_weaken f (x ∷ l) h = (all_map (f x) l h.0, pairs_weaken f l h.1)

module _ {A B : Type 0} (f : A → B) where
  pub pairs_map : (R : B → B → Type 0) {P : A → Type 0} {Q : A → A → Type 0} → ((x y : A) → P x → P y → Q x y → R (f x) (f y))
      → (l : List A) → All P l → Pairs Q l → Pairs R (map f l)
  pairs_map R g [] h q = tt
  pairs_map R {P} {Q} g (x ∷ l) h q = (mapped l h.1 q.0, pairs_map R g l h.1 q.1)
    where
      mapped : (l : List A) → All P l → All (Q x) l → All (R (f x)) (map f l)
      mapped [] k c = tt
      mapped (y ∷ l) k c = (g x y h.0 k.0 c.0, mapped l k.1 c.1)

  pub all_mapped : (P : B → Type 0) → ((x : A) → P (f x)) → (l : List A) → All P (map f l)
  all_mapped P g [] = tt
  all_mapped P g (x ∷ l) = (g x, all_mapped P g l)

  pub length-map : (l : List A) → length (map f l) ≡ length l
  length-map [] = refl
  length-map (x ∷ l) = ap suc (length-map l)

  pub get_d_map : (l : List A) (i : ℕ) (d : A) (e : B) → i < length l → get_or (map f l) i e ≡ f (get_or l i d)
  get_d_map [] i d e h = absurd (omega arith)
  get_d_map (x ∷ l) zero d e h = refl
  get_d_map (x ∷ l) (suc i) d e h = get_d_map l i d e (omega arith)

-- ---- one list after another

module _ {A : Type 0} (P : A → Type 0) where
  pub all_append : (u v : List A) → All P u → All P v → All P (u ++ v)
  all_append [] v g h = h
  all_append (x ∷ u) v g h = (g.0, all_append u v g.1 h)

  pub all_left : (u v : List A) → All P (u ++ v) → All P u
  all_left [] v h = tt
  all_left (x ∷ u) v h = (h.0, all_left u v h.1)

  pub all_right : (u v : List A) → All P (u ++ v) → All P v
  all_right [] v h = h
  all_right (x ∷ u) v h = all_right u v h.1

module _ {A : Type 0} (R : A → A → Type 0) where
  pub pairs_append : (u v : List A) → Pairs R u → Pairs R v → All (λ x. All (R x) v) u → Pairs R (u ++ v)
  pairs_append [] v g h c = h
  pairs_append (x ∷ u) v g h c = (all_append (R x) u v g.0 c.0, pairs_append u v g.1 h c.1)

  pub pairs_left : (u v : List A) → Pairs R (u ++ v) → Pairs R u
  pairs_left [] v h = tt
  pairs_left (x ∷ u) v h = (all_left (R x) u v h.0, pairs_left u v h.1)

  pub pairs_right : (u v : List A) → Pairs R (u ++ v) → Pairs R v
  pairs_right [] v h = h
  pairs_right (x ∷ u) v h = pairs_right u v h.1

module _ {A : Type 0} (T : A → A → A → Type 0) where
  pub triples_append : (u v : List A) → Triples T u → Triples T v
      → Pairs (λ x y. All (T x y) v) u → All (λ x. Pairs (T x) v) u → Triples T (u ++ v)
  triples_append [] v g h two one = h
  triples_append (x ∷ u) v g h two one = (pairs_append (T x) u v g.0 one.0 two.0, triples_append u v g.1 h two.1 one.1)

  pub triples_left : (u v : List A) → Triples T (u ++ v) → Triples T u
  triples_left [] v h = tt
  triples_left (x ∷ u) v h = (pairs_left (T x) u v h.0, triples_left u v h.1)

  pub triples_right : (u v : List A) → Triples T (u ++ v) → Triples T v
  triples_right [] v h = h
  triples_right (x ∷ u) v h = triples_right u v h.1

-- ---- by positions

module _ (P : ℕ → Type 0) where
  pub all_at : (p : List ℕ) → All P p → (i : ℕ) → i < length p → P (get_or p i 0)
  all_at [] h i l = absurd (omega arith)
  all_at (x ∷ p) h zero l = h.0
  all_at (x ∷ p) h (suc i) l = all_at p h.1 i (omega arith)

  pub all_of : (p : List ℕ) → ((i : ℕ) → i < length p → P (get_or p i 0)) → All P p
  all_of [] h = tt
  all_of (x ∷ p) h = (h 0 (omega arith), all_of p (λ i l. h (suc i) (omega arith)))

module _ (R : ℕ → ℕ → Type 0) where
  pub pairs_at : (p : List ℕ) → Pairs R p
      → (i j : ℕ) → i < j → j < length p → R (get_or p i 0) (get_or p j 0)
  pairs_at [] h i j k l = absurd (omega arith)
  pairs_at (x ∷ p) h i zero k l = absurd (omega arith)
  pairs_at (x ∷ p) h zero (suc j) k l = all_at (R x) p h.0 j (omega arith)
  pairs_at (x ∷ p) h (suc i) (suc j) k l = pairs_at p h.1 i j (omega arith) (omega arith)

  pub pairs_of : (p : List ℕ)
      → ((i j : ℕ) → i < j → j < length p → R (get_or p i 0) (get_or p j 0)) → Pairs R p
  pairs_of [] h = tt
  pairs_of (x ∷ p) h = (
    all_of (R x) p (λ j l. h 0 (suc j) (omega arith) (omega arith)),
    pairs_of p (λ i j k l. h (suc i) (suc j) (omega arith) (omega arith)),
  )

module _ (T : ℕ → ℕ → ℕ → Type 0) where
  pub triples_at : (p : List ℕ) → Triples T p
      → (i j k : ℕ) → i < j → j < k → k < length p → T (get_or p i 0) (get_or p j 0) (get_or p k 0)
  triples_at [] h i j k a b l = absurd (omega arith)
  triples_at (x ∷ p) h i zero k a b l = absurd (omega arith)
  triples_at (x ∷ p) h i (suc j) zero a b l = absurd (omega arith)
  triples_at (x ∷ p) h zero (suc j) (suc k) a b l = pairs_at (T x) p h.0 j k (omega arith) (omega arith)
  triples_at (x ∷ p) h (suc i) (suc j) (suc k) a b l = triples_at p h.1 i j k (omega arith) (omega arith) (omega arith)

  pub triples_of : (p : List ℕ)
      → ((i j k : ℕ) → i < j → j < k → k < length p → T (get_or p i 0) (get_or p j 0) (get_or p k 0)) → Triples T p
  triples_of [] h = tt
  triples_of (x ∷ p) h = (
    pairs_of (T x) p (λ j k b l. h 0 (suc j) (suc k) (omega arith) (omega arith) (omega arith)),
    triples_of p (λ i j k a b l. h (suc i) (suc j) (suc k) (omega arith) (omega arith) (omega arith)),
  )

-- ---- zeros

pub zeros_at : (m i : ℕ) → ◌≡◌ {A = ℕ} (get_or (replicate m 0) i 0) 0
zeros_at zero i = refl
zeros_at (suc m) zero = refl
zeros_at (suc m) (suc i) = zeros_at m i
