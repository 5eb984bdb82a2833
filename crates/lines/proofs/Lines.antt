-- The lines of a run's shapes.
--     lines_none, lines_last     none; the others and then the last
--     lines_join                 two stretches, one after the other
--     lines_some                 where there is a shape, its line has some bytes
-- Assumes nothing.
use mathlib.Core.Path.{◌≡◌, refl, sym, ap, ◌∙◌}
use mathlib.Core.List.{List, [], ◌∷◌, ◌++◌, flat_map, append_assoc, append-nil}
use Prim.Native.Nat.{ℕ, ◌+◌, ◌-◌, ◌≤◌, ◌<◌}
use native.Mathlib.Omega.{arith}
use lib.ListN.{length, length-append}
use Rattle.shape.specs.Numbering.{numbers_from}
use Rattle.shape.proofs.Listing.{numbers_join}
use Rattle.text.specs.Text.{line, shape_text, shape_line, shape_lines}

flat_map_append : {A B : Type 0} (f : A → List B) (u v : List A) → flat_map f (u ++ v) ≡ flat_map f u ++ flat_map f v
unfolding flat_map
flat_map_append f [] v = refl
flat_map_append f (x ∷ u) v = ap (λ w. f x ++ w) (flat_map_append f u v) ∙ sym (append_assoc (f x) (flat_map f u) (flat_map f v))

module _ (n k end : ℕ) where
  pub lines_none : end ≤ k → shape_lines n k end ≡ []
  unfolding shape_lines numbers_from flat_map
  lines_none h = let none : end - k ≡ 0 = omega arith in rw none

pub lines_join : (n first cut end : ℕ) → first ≤ cut → cut ≤ end → shape_lines n first cut ++ shape_lines n cut end ≡ shape_lines n first end
unfolding shape_lines
lines_join n first cut end low high =
    let there : cut ≡ first + (cut - first) = omega arith in
    let parts : cut - first + (end - cut) ≡ end - first = omega arith in
    sym (flat_map_append (shape_line n) (numbers_from first (cut - first)) (numbers_from cut (end - cut)))
    ∙ ap (flat_map (shape_line n))
    (ap (λ (k : ℕ). numbers_from first (cut - first) ++ numbers_from k (end - cut)) there
    ∙ numbers_join first (cut - first) (end - cut)
    ∙ ap (numbers_from first) parts)

line_some : (n k : ℕ) → 1 ≤ length (shape_line n k)
unfolding shape_line shape_text line
line_some n k = rw length-append (omega arith)

lines_one : (n k : ℕ) → shape_lines n k (k + 1) ≡ shape_line n k
unfolding shape_lines numbers_from flat_map
lines_one n k = let one : k + 1 - k ≡ 1 = omega arith in rw one (append-nil (shape_line n k))

pub lines_last : (n first k : ℕ) → first ≤ k → shape_lines n first (k + 1) ≡ shape_lines n first k ++ shape_line n k
lines_last n first k h =
    sym (lines_join n first k (k + 1) h (omega arith)) ∙ ap (λ l. shape_lines n first k ++ l) (lines_one n k)

pub lines_some : (n k end : ℕ) → k < end → 1 ≤ length (shape_lines n k end)
lines_some n k end on =
    let whole = lines_join n k (k + 1) end (omega arith) (omega arith) in
    omega (arith, line_some n k, ap length (lines_one n k), length-append (shape_lines n k (k + 1)) (shape_lines n (k + 1) end), ap length whole)
