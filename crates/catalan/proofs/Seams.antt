-- A list that is written over another one, entry by entry: on one side of the seam it is done, on the other as it was.
--     seam a s t      the list whose entries below a are those of s, and the others those of t
--     seam_below      an entry below the seam
--     seam_at         the entry at the seam
--     seam_up         the entry of s written at the seam moves it up
--     seam_down       the entry of t written below the seam moves it down
--     seam_first      a seam at 1 between lists that begin alike is none
--     seam_whole      a seam above which the lists agree is none
-- Assumes nothing.
use mathlib.Core.Path.{◌≡◌, sym, ap, ◌∙◌}
use mathlib.Core.List.{List, [], ◌∷◌, ◌++◌}
use Prim.Native.Nat.{ℕ, suc, ◌+◌, ◌≤◌, ◌<◌}
use native.Mathlib.Omega.{arith}
use native.Mathlib.Numerals.{add-one}
use lib.ListN.{length, get_or, set, take, drop, length-drop, take-append-drop, get_or-append}
use lib.Seq.{length-take-le, drop-cons, take-suc, append_snoc, set_at, get_or_at, get_or-take, get_or-drop, ext_get_or}

unfoldable pub seam : ℕ → List ℕ → List ℕ → List ℕ
seam a s t = take a s ++ drop a t

pub seam_below : (a : ℕ) (s t : List ℕ) (i : ℕ) → a ≤ length s → i < a → get_or (seam a s t) i 0 ≡ get_or s i 0
unfolding seam
seam_below a s t i on h = get_or-append (take a s) (drop a t) 0 i (rw (length-take-le a s on) h) ∙ get_or-take a s i 0 h

pub seam_first : (s t : List ℕ) → 0 < length s → length s ≡ length t → get_or s 0 0 ≡ get_or t 0 0 → seam 1 s t ≡ t
unfolding seam
seam_first [] t l same h = absurd (omega arith)
seam_first (x ∷ s) [] l same h = absurd (omega arith)
seam_first (x ∷ s) (y ∷ t) l same h = ap (λ (z : ℕ). z ∷ t) h

pub seam_whole : (a : ℕ) (s t : List ℕ) → length s ≡ length t → ((i : ℕ) → a ≤ i → i < length s → get_or s i 0 ≡ get_or t i 0)
    → seam a s t ≡ s
unfolding seam
seam_whole a s t same h = rw (ext_get_or 0 (drop a t) (drop a s) (simp length-drop (omega arith)) agree) (take-append-drop a s)
  where
    agree : (i : ℕ) → i < length (drop a t) → get_or (drop a t) i 0 ≡ get_or (drop a s) i 0
    agree i l = rw (get_or-drop, get_or-drop) (sym (h (a + i) (omega arith) (omega (arith, simp length-drop at l))))

module _ (a : ℕ) (s t : List ℕ) (same : length s ≡ length t) (on : a < length s) where
  front : length (take a s) ≡ a
  front = length-take-le a s (omega arith)

  from : drop a t ≡ get_or t a 0 ∷ drop (suc a) t
  from = drop-cons t a 0 (omega arith)

  upto : take (suc a) s ++ drop (suc a) t ≡ take a s ++ get_or s a 0 ∷ drop (suc a) t
  upto = rw (take-suc s a 0) (append_snoc (take a s) (get_or s a 0) (drop (suc a) t))

  pub seam_at : get_or (seam a s t) a 0 ≡ get_or t a 0
  unfolding seam
  seam_at = rw from (get_or_at (take a s) (get_or t a 0) (drop (suc a) t) 0 a front)

  pub seam_up : set (seam a s t) a (get_or s a 0) ≡ seam (a + 1) s t
  unfolding seam
  seam_up = rw (add-one, from, upto) (set_at (take a s) (get_or t a 0) (drop (suc a) t) (get_or s a 0) a front)

  pub seam_down : set (seam (a + 1) s t) a (get_or t a 0) ≡ seam a s t
  unfolding seam
  seam_down = rw (add-one, upto, from) (set_at (take a s) (get_or s a 0) (drop (suc a) t) (get_or t a 0) a front)
