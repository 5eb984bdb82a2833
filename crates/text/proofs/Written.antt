-- Laws of texts put into a buffer.
--     written_length          the buffer is as long as it was
--     written_none            with no text in it, it is as it was
--     written_stores          stores one after the other are a text
--     written_then            a text behind a text is both as one
--     written_again           a text put over another that is no longer is as if the other had not been put
--     written_start, written_next, written_end     a text is put byte by byte, and a last byte behind it
--     written_copied          it is copied into its place, and the same byte put behind it
--     Rest                    a text is put piece by piece: with the rest put from r on, the same comes out as at the start
--     rest_start, rest_next, rest_count, rest_end      so it is at the start, and behind each piece; the last piece is all of the rest
--     rest_over               so it is, too, where something was put behind a piece that is no longer than the rest
-- Assumes nothing.
use mathlib.Core.Path.{◌≡◌, refl, sym, ap, ap₂, ◌∙◌}
use mathlib.Core.List.{List, [], ◌∷◌, ◌++◌, append_assoc, append-nil}
use Prim.Native.Nat.{ℕ, ◌+◌, ◌-◌, ◌≤◌, ◌<◌}
use native.Mathlib.Nat.{add-zero}
use native.Mathlib.Numerals.{add-one}
use native.Mathlib.Omega.{arith}
use lib.ListN.{length, get_or, set, take, drop, length-append, length-drop, take-append-drop}
use lib.Seq.{take_all, take-length, take-suc, length-take-le, take_at, drop-append-add, drop-drop, sets, sets-eq}
use borrow.Rule.Slice.PartMut.{put_mid}
use Rattle.std.proofs.lemmas.Slice.{put_mid-paste}
use Rattle.std.proofs.lemmas.List.Edits.{paste_all}
use Rattle.text.specs.Text.{written}

pub written_length : (d : List ℕ) (at : ℕ) (text : List ℕ) → at + length text ≤ length d → length (written d at text) ≡ length d
written_length d at text room =
    let end = at + length text in
    let both = length-append (take at d) (text ++ drop end d) in
    omega (arith, both, length-append text (drop end d), length-take-le at d (omega arith), length-drop end d)

pub written_none : (d : List ℕ) (at : ℕ) → written d at [] ≡ d
written_none d at = ap (λ (k : ℕ). take at d ++ drop k d) (add-zero at) ∙ take-append-drop at d

pub written_stores : (d : List ℕ) (at : ℕ) (text : List ℕ) → at + length text ≤ length d → sets d at text ≡ written d at text
written_stores d at text room = sets-eq text d at room ∙ append_assoc (take at d) text (drop (at + length text) d)

module _ (d : List ℕ) (at : ℕ) (a b : List ℕ) (room : at + length a ≤ length d) where
  front_length : length (take at d ++ a) ≡ at + length a
  front_length = omega (arith, length-append (take at d) a, length-take-le at d (omega arith))

  behind_same : (k : ℕ) → drop (at + length a + k) (written d at a) ≡ drop (at + length a + k) d
  behind_same k =
      let front = take at d ++ a in
      let n = at + length a in
      ap (drop (n + k)) (sym (append_assoc (take at d) a (drop n d))) ∙ ap (λ (m : ℕ). drop (m + k) (front ++ drop n d)) (sym front_length)
      ∙ drop-append-add front (drop n d) k ∙ drop-drop k n d

  pub written_then : written (written d at a) (at + length a) b ≡ written d at (a ++ b)
  written_then =
      let front = take at d ++ a in
      let n = at + length a in
      let all : n + length b ≡ at + length (a ++ b) = omega (arith, length-append a b) in
      let before = ap (take n) (sym (append_assoc (take at d) a (drop n d))) ∙ take_at front (drop n d) n front_length in
      ap₂ {C = List ℕ} (λ f r. f ++ (b ++ r)) before (behind_same (length b) ∙ ap (λ (k : ℕ). drop k d) all)
      ∙ append_assoc (take at d) a (b ++ drop (at + length (a ++ b)) d)
      ∙ ap (λ (l : List ℕ). take at d ++ l) (sym (append_assoc a b (drop (at + length (a ++ b)) d)))

  pub written_again : length a ≤ length b → written (written d at a) at b ≡ written d at b
  written_again over =
      let end : at + length b ≡ at + length a + (length b - length a) = omega arith in
      let before = take_at (take at d) (a ++ drop (at + length a) d) at (length-take-le at d (omega arith)) in
      ap₂ {C = List ℕ} (λ f r. f ++ (b ++ r)) before (rw end (behind_same (length b - length a)))

-- ---- byte by byte: the first i are put

pub written_start : (d : List ℕ) (at : ℕ) (text : List ℕ) → d ≡ written d at (take 0 text)
written_start d at text = sym (written_none d at)

module _ (d : List ℕ) (at : ℕ) (text : List ℕ) (i : ℕ) (out : List ℕ) (put : out ≡ written d at (take i text)) where
  behind : i ≤ length text → (x : ℕ) → at + i < length d → set out (at + i) x ≡ written d at (take i text ++ (x ∷ []))
  behind within x room =
      let front = take i text in
      let before = written d at front in
      let long : at + i ≡ at + length front = ap (λ (k : ℕ). at + k) (sym (length-take-le i text within)) in
      let same = written_length d at front (omega arith) in
      ap₂ {C = List ℕ} (λ l k. set l k x) put long ∙ written_stores before (at + length front) (x ∷ []) (omega arith)
      ∙ written_then d at front (x ∷ []) (omega arith)

  pub written_next : (x : ℕ) → at + length text < length d → i < length text → x ≡ get_or text i 0
      → set out (at + i) x ≡ written d at (take (i + 1) text)
  written_next x room on e = behind (omega arith) x (omega arith) ∙ rw (e, add-one i, take-suc text i 0 on)

pub written_end : (d : List ℕ) (at : ℕ) (text : List ℕ) (i : ℕ) (out : List ℕ) → out ≡ written d at (take i text) → length text ≤ i
    → at + length text < length d → (end : ℕ) → set out (at + length text) end ≡ written d at (text ++ (end ∷ []))
written_end d at text i out put done room end =
    let whole : take i text ≡ take (length text) text = take_all i text done ∙ sym (take-length text) in
    behind d at text (length text) out (put ∙ ap (written d at) whole) (omega arith) end room ∙ rw (take-length text)

-- a text that is copied into its place, and a last byte behind it
pub written_copied : (d : List ℕ) (at : ℕ) (text new : List ℕ) (room : at + length text < length d) → new ≡ text → (end : ℕ)
    → set (put_mid at (at + length text - at) d new) (at + length text) end ≡ written d at (text ++ (end ∷ []))
written_copied d at text new room same end =
    let n = length text in
    let k : n ≡ at + n - at = omega arith in
    let put = put_mid-paste at (at + n - at) d new text n same k refl ∙ paste_all d at text n refl in
    written_end d at text n _ (put ∙ ap (written d at) (sym (take-length text))) (omega arith) room end

-- ---- piece by piece

pub record Rest (d : List ℕ) (at : ℕ) (whole out : List ℕ) (r : ℕ) (rest : List ℕ) : Type 0 where
  pub room : at + length whole ≤ length d
  pub same : length out ≡ length d
  pub count : r + length rest ≡ at + length whole
  pub text : written out r rest ≡ written d at whole

pub rest_start : (d : List ℕ) (at : ℕ) (whole : List ℕ) → at + length whole ≤ length d → Rest d at whole d at whole
rest_start d at whole room = record { room = room; same = refl; count = refl; text = refl }

module _ (d : List ℕ) (at : ℕ) (whole out : List ℕ) (r : ℕ) (r' : ℕ) (out' : List ℕ) where
  pub rest_over : (a g b : List ℕ) → Rest d at whole out r (a ++ b) → length g ≤ length b → r' ≡ r + length a → out' ≡ written out r (a ++ g)
      → Rest d at whole out' r' b
  rest_over a g b left over counts put =
      let both = length-append a b in
      let long = length-append a g in
      let within : r + length a + length b ≤ length out = omega (arith, left.room, left.same, left.count) in
      let same = written_length out r a (omega arith) in
      let text : written out' r' b ≡ written out r (a ++ b) =
      ap₂ {C = List ℕ} (λ l k. written l k b) (put ∙ sym (written_then out r a g (omega arith))) counts
      ∙ written_again (written out r a) (r + length a) g b (omega arith) over ∙ written_then out r a b (omega arith) in
      record {
        room = left.room;
        same = ap length put ∙ written_length out r (a ++ g) (omega arith) ∙ left.same;
        count = omega (arith, left.count);
        text = text ∙ left.text;
      }

  pub rest_next : (a b : List ℕ) → Rest d at whole out r (a ++ b) → r' ≡ r + length a → out' ≡ written out r a → Rest d at whole out' r' b
  rest_next a b left counts put = rest_over a [] b left (omega arith) counts (put ∙ ap (written out r) (sym (append-nil a)))

  module _ (rest : List ℕ) (left : Rest d at whole out r rest) where
    pub rest_count : r' ≡ r + length rest → r' ≡ at + length whole
    rest_count counts = counts ∙ left.count

    pub rest_end : out' ≡ written out r rest → out' ≡ written d at whole
    rest_end put = put ∙ left.text
