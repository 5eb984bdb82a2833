-- Laws of labels: which are marked as seen, and how those are linked.
--     clear_at                           a list of one value holds it everywhere: nothing is marked in it
--     Marks p k M                        the labels that M marks are the entries before k; what it says of 0 is left open
--     marks_none, marks_next             no entry is before k, and the next entry is marked too
--     walk_start, walk_on, walk_less     the walk along the links: where it begins, one link on, and that a link leads nearer to the entry
--     only_zero, links_none              no label has a link but 0, from which the first one leads
--     entry_above                        an entry that is not seen and not below `closed` is above it
--     relink                             an entry is put between the label below it and the next
--     linked_next, links_next            then the entry is marked too, and the links are those from the label below it on
-- Assumes nothing.
use Rattle.std.proofs.Common.{◌≡◌, ℕ, zero, suc, ◌+◌, ◌-◌, ◌<◌, ◌≤◌, List, length, get_or, set, replicate, sym, refl, ◌∙◌, arith, length-set, get_or-set_other, get_or-set_same}
use native.Mathlib.Decide.{ℕ_discrete}
use Rattle.catalan.specs.Count.{largest_size}
use Rattle.permutation.specs.Links.{Linked, Links, LinkedBelow}

-- ---- marks

pub clear_at : {A : Type 0} (x : A) (n i : ℕ) → get_or (replicate n x) i x ≡ x
clear_at x zero i = refl
clear_at x (suc n) zero = refl
clear_at x (suc n) (suc i) = clear_at x n i

pub record Marks (p : List ℕ) (k : ℕ) (M : ℕ → Type 0) : Type 0 where
  pub entry : (i : ℕ) → i < k → M (get_or p i 0)
  pub place : (x : ℕ) → (x ≡ 0 → ⊥) → M x → (i : ℕ) × (i < k) × (get_or p i 0 ≡ x)

pub marks_none : (p : List ℕ) (M : ℕ → Type 0) → ((x : ℕ) → M x → x ≡ 0) → Marks p 0 M
marks_none p M none = record { entry = λ i l. absurd (omega arith); place = λ x o s. absurd (o (none x s)) }

-- N marks what M marks, and the label x of entry k
pub marks_next : (p : List ℕ) (k x : ℕ) (M N : ℕ → Type 0) → Marks p k M → get_or p k 0 ≡ x
    → N x → ((y : ℕ) → M y → N y) → ((y : ℕ) → N y → (y ≡ x → ⊥) → M y) → Marks p (k + 1) N
marks_next p k x M N m e now still before =
    record {
      entry = λ i l. elim (ℕ_discrete i k) [ yes d ↦ rw (d, e) now | no g ↦ still (get_or p i 0) (m.entry i (omega arith)) ];
      place = λ y o s. elim (ℕ_discrete y x) [
        | yes d ↦ (k, omega arith, e ∙ sym d)
        | no g ↦ let (i, l, d) = m.place y o (before y s g) in (i, omega arith, d)
      ];
    }

-- ---- the walk along the links

module _ (above : List ℕ) (closed entry : ℕ) (l : Links above closed) where
  pub walk_start : closed < entry → LinkedBelow above closed entry closed
  walk_start h = record { from = omega arith; under = h; linked = l.first }

  module _ (a : ℕ) (m : LinkedBelow above closed entry a) where
    pub walk_less : get_or above a 0 < entry → entry - get_or above a 0 < entry - a
    walk_less h = omega (arith, l.upward a m.from m.linked)

    pub walk_on : entry ≤ largest_size → get_or above a 0 < entry → LinkedBelow above closed entry (get_or above a 0)
    walk_on small h =
        let up = l.upward a m.from m.linked in
        record { from = omega arith; under = h; linked = l.further a m.from m.linked (omega arith) }

-- ---- links, as they are made

abbrev pub no_links : List ℕ
no_links = set (replicate 36 0) 0 36

pub only_zero : (a : ℕ) → Linked no_links a → a ≡ 0
only_zero zero s = refl
only_zero (suc a) s = absurd (s (clear_at 0 35 a))

pub links_none : Links no_links 0
links_none =
    record {
      long = refl;
      first = λ z. omega arith;
      upward = λ a h s. rw (only_zero a s) (omega arith);
      further = λ a h s k. absurd (omega (arith, rw (only_zero a s) at k));
      nearest = λ a b h s t k. absurd (omega (arith, only_zero b t));
    }

pub entry_above : (above : List ℕ) (closed x : ℕ) → Links above closed → get_or above x 0 ≡ 0 → closed ≤ x → closed < x
entry_above above closed x l unseen h =
    elim (ℕ_discrete closed x) [ yes e ↦ absurd (l.first (rw e unseen)) | no g ↦ omega arith ]

-- the entry x is put above the label b
abbrev pub relink : List ℕ → ℕ → ℕ → List ℕ
relink above b x = set (set above x (get_or above b 0)) b x

-- what the link z of the label y is then
data Relinked (above : List ℕ) (b x y z : ℕ) : Type 0 where
  below : y ≡ b → z ≡ x → Relinked above b x y z
  entry : y ≡ x → z ≡ get_or above b 0 → Relinked above b x y z
  other : (y ≡ b → ⊥) → (y ≡ x → ⊥) → z ≡ get_or above y 0 → Relinked above b x y z

relinked : (above : List ℕ) (b x y : ℕ) → b < x → x < length above → Relinked above b x y (get_or (relink above b x) y 0)
relinked above b x y under small =
    let first = set above x (get_or above b 0) in
    let long = length-set above x (get_or above b 0) in
    elim (ℕ_discrete y b) [
      | yes e ↦ below e (rw e (get_or-set_same first b x 0 (omega arith)))
      | no g ↦ let kept = get_or-set_other first b y x 0 g in
          elim (ℕ_discrete y x) [
            | yes e ↦ entry e (kept ∙ rw e (get_or-set_same above x (get_or above b 0) 0 small))
            | no f ↦ other g f (kept ∙ get_or-set_other above x y (get_or above b 0) 0 f)
          ]
    ]

module _ (above : List ℕ) (closed x b : ℕ) (l : Links above closed) (some : x ≡ 0 → ⊥) (small : x ≤ largest_size)
    (m : LinkedBelow above closed x b) where
  link_of : (y : ℕ) → Relinked above b x y (get_or (relink above b x) y 0)
  link_of y = relinked above b x y m.under (omega (arith, l.long))

  now : Linked (relink above b x) x
  now z =
      elim (link_of x) [
        | below e v ↦ some (omega arith)
        | entry e v ↦ m.linked (omega arith)
        | other g f v ↦ f refl
      ]

  still : (y : ℕ) → Linked above y → Linked (relink above b x) y
  still y h z =
      elim (link_of y) [
        | below e v ↦ some (omega arith)
        | entry e v ↦ m.linked (omega arith)
        | other g f v ↦ h (omega arith)
      ]

  before : (y : ℕ) → Linked (relink above b x) y → (y ≡ x → ⊥) → Linked above y
  before y h f z =
      elim (link_of y) [
        | below e v ↦ m.linked (rw (← e) z)
        | entry e v ↦ f e
        | other g f v ↦ h (v ∙ z)
      ]

  pub linked_next : (p : List ℕ) (k : ℕ) → Marks p k (Linked above) → get_or p k 0 ≡ x → Marks p (k + 1) (Linked (relink above b x))
  linked_next p k marks e = marks_next p k x (Linked above) (Linked (relink above b x)) marks e now still before

  module _ (unseen : get_or above x 0 ≡ 0) (last : x ≤ get_or above b 0) where
    -- the link of b led past the entry, since it led to a label seen or to 36
    past : x < get_or above b 0
    past =
        elim (ℕ_discrete (get_or above b 0) x) [
          | yes e ↦ absurd (l.further b m.from m.linked (omega arith) (rw e unseen))
          | no g ↦ omega arith
        ]

    -- and no label between b and where it led has been seen
    beyond : (y : ℕ) → Linked (relink above b x) y → (y ≡ x → ⊥) → b < y → get_or above b 0 ≤ y
    beyond y s f = l.nearest b y m.from m.linked (before y s f)

    upward : (a : ℕ) → b ≤ a → Linked (relink above b x) a → a < get_or (relink above b x) a 0
    upward a h s =
        elim (link_of a) [
          | below e v ↦ omega (arith, m.under)
          | entry e v ↦ omega (arith, past)
          | other g f v ↦ omega (arith, l.upward a (omega (arith, m.from)) (before a s f))
        ]

    further : (a : ℕ) → b ≤ a → Linked (relink above b x) a → get_or (relink above b x) a 0 < 36
        → Linked (relink above b x) (get_or (relink above b x) a 0)
    further a h s k =
        elim (link_of a) [
          | below e v ↦ rw v now
          | entry e v ↦ rw v (still _ (l.further b m.from m.linked (omega arith)))
          | other g f v ↦ rw v (still _ (l.further a (omega (arith, m.from)) (before a s f) (omega arith)))
        ]

    nearest : (a y : ℕ) → b ≤ a → Linked (relink above b x) a → Linked (relink above b x) y → a < y → get_or (relink above b x) a 0 ≤ y
    nearest a y h s t k =
        elim (link_of a) [
          | below e v ↦ elim (ℕ_discrete y x) [ yes d ↦ omega arith | no d ↦ omega (arith, past, beyond y t d (omega arith)) ]
          | entry e v ↦ omega (arith, beyond y t (λ d. omega arith) (omega (arith, m.under)))
          | other g f v ↦ elim (ℕ_discrete y x) [
            | yes d ↦ omega (arith, past, beyond a s f (omega arith))
            | no d ↦ omega (arith, l.nearest a y (omega (arith, m.from)) (before a s f) (before y t d) k)
          ]
        ]

    pub links_next : Links (relink above b x) b
    links_next =
        record {
          long = length-set (set above x (get_or above b 0)) b x ∙ length-set above x (get_or above b 0) ∙ l.long;
          first = still b m.linked;
          upward = upward;
          further = further;
          nearest = nearest;
        }

-- what `last_below` is proved with
pub ruleset walking = (walk_start, walk_on, walk_less)
