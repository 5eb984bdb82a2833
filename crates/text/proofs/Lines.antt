-- Laws of lines that are put field by field, in the words of the source.
--     Put, Left              a text is put; what of it is still to be put behind the line as it stands
--     Shape                  what is asked of a shape's fields, and of the buffer
--     entries_within, depth_within, change_within      so there is room for the fields behind the pattern
--     shape_put              and its line is put
--     first_within, end_within, run_put      the same for the line that repeats the input
--     figure_within, end_put, no_put         and for the other two
-- Assumes nothing.
use mathlib.Core.Path.{◌≡◌, sym}
use mathlib.Core.List.{List, [], ◌∷◌, ◌++◌, append_assoc}
use Prim.Native.Nat.{ℕ, ◌+◌, ◌*◌, ◌≤◌, ◌<◌}
use native.Mathlib.Omega.{arith}
use mir.Val.{Fits}
use mir.Syntax.{w64}
use lib.ListN.{length, get_or, length-append}
use Rattle.text.specs.Text.{decimal, bits, commas, line, run_word, end_word, no_word, run_line, shape_text, end_line, no_line, line_room, written}
use Rattle.text.specs.Line.{Puts}
use Rattle.text.specs.declared.fields.Line.{Line}
use Rattle.text.proofs.Written.{Rest, rest_start, rest_next, rest_count, rest_end}
use Rattle.text.proofs.Digits.{decimal_fits}
use Rattle.text.proofs.Lengths.{length_bits, commas_most, shape_text_length, number_most, run_length, end_length, no_length}

-- a text is put from the start of a line on, and the line goes on behind it
abbrev pub Put : Line → List ℕ → Line → Type 0
Put l text m = (m.at ≡ l.at + length text) × (m.out.now ≡ written l.out.now l.at text)

abbrev Left : Line → List ℕ → Line → List ℕ → Type 0
Left l whole m rest = Rest l.out.now l.at whole m.out.now m.at rest

module _ (l : Line) (whole : List ℕ) (m n : Line) where
  field_next : (f g : List ℕ) (fields : List (List ℕ)) → Left l whole m (line (f ∷ g ∷ fields)) → Puts m n (f ++ (32 ∷ []))
      → Left l whole n (line (g ∷ fields))
  field_next f g fields left put =
      let parts : line (f ∷ g ∷ fields) ≡ (f ++ (32 ∷ [])) ++ line (g ∷ fields) =
      unfold line in sym (append_assoc f (32 ∷ []) (line (g ∷ fields))) in
      rest_next l.out.now l.at whole m.out.now m.at n.at n.out.now (f ++ (32 ∷ [])) (line (g ∷ fields)) (rw parts at left) put.at_after put.out_after

  field_last : (f : List ℕ) → Left l whole m (line (f ∷ [])) → Puts m n (f ++ (10 ∷ [])) → Put l whole n
  unfolding line
  field_last f left put =
      let last = f ++ (10 ∷ []) in (
        rest_count l.out.now l.at whole m.out.now m.at n.at n.out.now last left put.at_after,
        rest_end l.out.now l.at whole m.out.now m.at n.at n.out.now last left put.out_after,
      )

field_long : (l : Line) (f : List ℕ) (end : ℕ) (m : Line) → Puts l m (f ++ (end ∷ [])) → m.at ≡ l.at + length f + 1
field_long l f end m put = omega (arith, put.at_after, length-append f (end ∷ []))

-- ---- a shape's line

abbrev pub Shape : Line → List ℕ → List ℕ → List ℕ → ℕ → ℕ → Type 0
Shape l s p q a b =
    ((l.at + line_room ≤ length l.out.now) × (length s ≤ 20) × (length p ≤ 70))
    × (((1 ≤ length q) × (length q ≤ 35))
    × (((i : ℕ) → get_or p i 0 ≤ 1) × ((i : ℕ) → get_or q i 0 < 100) × (a < 100) × (b < 100)))

module _ (l l₁ : Line) (s p q : List ℕ) (a b : ℕ) (number : Puts l l₁ (s ++ (32 ∷ []))) (shape : Shape l s p q a b) where
  start : Left l (shape_text s p q a b) l (line (s ∷ bits p ∷ commas q ∷ decimal a ∷ decimal b ∷ []))
  unfolding shape_text
  start =
      let (_, ((some, few), (_, small, deep, late))) = shape in
      let most : length (shape_text s p q a b) ≤ line_room = shape_text_length s p q a b (omega arith) (omega arith) some few small deep late in
      rest_start l.out.now l.at (shape_text s p q a b) (omega arith)

  behind_number : Left l (shape_text s p q a b) l₁ (line (bits p ∷ commas q ∷ decimal a ∷ decimal b ∷ []))
  behind_number = field_next l _ l l₁ s (bits p) (commas q ∷ decimal a ∷ decimal b ∷ []) start number

  module _ (l₂ : Line) (places : Puts l₁ l₂ (bits p ++ (32 ∷ []))) where
    behind_places : Left l (shape_text s p q a b) l₂ (line (commas q ∷ decimal a ∷ decimal b ∷ []))
    behind_places = field_next l _ l₁ l₂ (bits p) (commas q) (decimal a ∷ decimal b ∷ []) behind_number places

    places_end : l₂.at ≤ l.at + 92
    places_end = omega (arith, field_long l s 32 l₁ number, field_long l₁ (bits p) 32 l₂ places, length_bits p)

    pub entries_within : l₂.at + 3 * length q ≤ length l₂.out.now
    entries_within = omega (arith, behind_places.same, places_end)

    module _ (l₃ : Line) (entries : Puts l₂ l₃ (commas q ++ (32 ∷ []))) where
      behind_entries : Left l (shape_text s p q a b) l₃ (line (decimal a ∷ decimal b ∷ []))
      behind_entries = field_next l _ l₂ l₃ (commas q) (decimal a) (decimal b ∷ []) behind_places entries

      entries_end : l₃.at ≤ l.at + 197
      entries_end = omega (arith, places_end, field_long l₂ (commas q) 32 l₃ entries, commas_most q shape.1.0.0 shape.1.1.1)

      pub depth_within : l₃.at + 2 < length l₃.out.now
      depth_within = omega (arith, behind_entries.same, entries_end)

      module _ (l₄ : Line) (depth : Puts l₃ l₄ (decimal a ++ (32 ∷ []))) where
        behind_depth : Left l (shape_text s p q a b) l₄ (line (decimal b ∷ []))
        behind_depth = field_next l _ l₃ l₄ (decimal a) (decimal b) [] behind_entries depth

        pub change_within : l₄.at + 2 < length l₄.out.now
        change_within =
            omega (arith, behind_depth.same, entries_end, field_long l₃ (decimal a) 32 l₄ depth, decimal_fits 1 a shape.1.1.2)

        pub shape_put : (l₅ : Line) → Puts l₄ l₅ (decimal b ++ (10 ∷ [])) → Put l (shape_text s p q a b) l₅
        shape_put l₅ change = field_last l _ l₄ l₅ (decimal b) behind_depth change

-- ---- the lines of numbers, from the start of a buffer on

module _ (l l₁ : Line) (begins : l.at ≡ 0) (room : line_room ≤ length l.out.now) (a : ℕ) (fits_a : Fits w64 a) where
  pub no_put : Puts l l₁ (no_word ++ (32 ∷ [])) → (l₂ : Line) → Puts l₁ l₂ (decimal a ++ (10 ∷ [])) → Put l (no_line a) l₂
  unfolding no_line
  no_put word l₂ refusal =
      let start = rest_start l.out.now l.at (no_line a) (omega (arith, no_length a (omega arith))) in
      let behind_word = field_next l (no_line a) l l₁ no_word (decimal a) [] start word in
      field_last l (no_line a) l₁ l₂ (decimal a) behind_word refusal

  module _ (b : ℕ) (fits_b : Fits w64 b) (l₂ : Line) (second : Puts l₁ l₂ (decimal a ++ (32 ∷ []))) where
    module _ (word : Puts l l₁ (end_word ++ (32 ∷ []))) where
      behind_count : Left l (end_line a b) l₂ (line (decimal b ∷ []))
      unfolding end_line
      behind_count =
          let start = rest_start l.out.now l.at (end_line a b) (omega (arith, end_length a (omega arith) b (omega arith))) in
          let behind_word = field_next l (end_line a b) l l₁ end_word (decimal a) (decimal b ∷ []) start word in
          field_next l (end_line a b) l₁ l₂ (decimal a) (decimal b) [] behind_word second

      pub figure_within : l₂.at + 20 < length l₂.out.now
      figure_within = omega (arith, behind_count.same, word.at_after, field_long l₁ (decimal a) 32 l₂ second, number_most a (omega arith))

      pub end_put : (l₃ : Line) → Puts l₂ l₃ (decimal b ++ (10 ∷ [])) → Put l (end_line a b) l₃
      end_put l₃ figure = field_last l (end_line a b) l₂ l₃ (decimal b) behind_count figure

    module _ (c : ℕ) (fits_c : Fits w64 c) (word : Puts l l₁ (run_word ++ (32 ∷ []))) where
      behind_size : Left l (run_line a b c) l₂ (line (decimal b ∷ decimal c ∷ []))
      unfolding run_line
      behind_size =
          let start = rest_start l.out.now l.at (run_line a b c) (omega (arith, run_length a (omega arith) b (omega arith) c (omega arith))) in
          let behind_word = field_next l (run_line a b c) l l₁ run_word (decimal a) (decimal b ∷ decimal c ∷ []) start word in
          field_next l (run_line a b c) l₁ l₂ (decimal a) (decimal b) (decimal c ∷ []) behind_word second

      pub first_within : l₂.at + 20 < length l₂.out.now
      first_within = omega (arith, behind_size.same, word.at_after, field_long l₁ (decimal a) 32 l₂ second, number_most a (omega arith))

      module _ (l₃ : Line) (third : Puts l₂ l₃ (decimal b ++ (32 ∷ []))) where
        behind_first : Left l (run_line a b c) l₃ (line (decimal c ∷ []))
        behind_first = field_next l (run_line a b c) l₂ l₃ (decimal b) (decimal c) [] behind_size third

        pub end_within : l₃.at + 20 < length l₃.out.now
        end_within =
            omega (
              arith,
              behind_first.same,
              word.at_after,
              field_long l₁ (decimal a) 32 l₂ second,
              number_most a (omega arith),
              field_long l₂ (decimal b) 32 l₃ third,
              number_most b (omega arith),
            )

        pub run_put : (l₄ : Line) → Puts l₃ l₄ (decimal c ++ (10 ∷ [])) → Put l (run_line a b c) l₄
        run_put l₄ end = field_last l (run_line a b c) l₃ l₄ (decimal c) behind_first end
