-- Laws of reading an input: s is a text, or the digits of a number in it.
--     digit_means                  what the test of a digit finds
--     front_.., behind_..          the digits that a text begins with and what stands behind them, by its first byte: _yes where that is one
--     front_all, parts             they are digits; the text is these and those one after the other
--     digits_..                    where they end: how many there are, and the text parted there
--     form_..                      whether digits are in form, by how many they are
--     value_.., digit_low          the number that the digits write: those so far and those still to come write it; a digit is no less than 0
--     number_..                    the answer: none from 64 bits on, and the number at the end
--     field_..                     whether a field reads: each test where it fails, and what is told where all pass
--     read_..                      a line that does not read: each field where it does not, and a text that goes on
--     line_..                      what is then answered, and what for a text that reads
-- What the proofs of the functions use, each a set: splits, forms, numbers, fields, lines.
-- Assumes nothing.
use mathlib.Core.Path.{◌≡◌, refl, sym, ap, ◌∙◌}
use mathlib.Core.Logic.{◌↔◌}
use mathlib.Core.Bool.{Bool, true, false, cond, ◌&&◌, and-false}
use mathlib.Core.List.{List, [], ◌∷◌, ◌++◌}
use Prim.Native.Nat.{ℕ, ◌+◌, ◌-◌, ◌*◌, ◌^◌, ◌≤◌, ◌<◌}
use native.Mathlib.Omega.{arith}
use lib.Dec.{ltb}
use lib.ListN.{length, get_or, take, drop, drop_of_length-le}
use lib.Seq.{take-append_seam, drop-append_seam}
use borrow.Author.Tests.{lt-ltb, le-ltb, eq-eqb, ne_eqb}
use Rattle.std.specs.Char.{is_ascii_digit}
use Rattle.std.specs.List.{prefix_len, take_while}
use Rattle.std.proofs.Common.{Some, None, ap₂, ◌≢◌, length-append, mul_comm}
use Rattle.std.proofs.lemmas.List.{drop_more}
use Rattle.std.proofs.lemmas.List.Folds.{length-prefix_len}
use Rattle.std.proofs.lemmas.Option.{none-some, cond_some}
use Rattle.shape.specs.Every.{All}
use Rattle.shape.proofs.Lists.{all_at}
use Rattle.shape.proofs.Tests.{le_means, and_means}
use Rattle.text.specs.Input.{Digit, digit, front, behind, value, value_from, in_form, fits, number_of, ends_in, field, next, nothing}
use Rattle.text.specs.Input.{reads, asked, asked_size, asked_first, asked_end}

-- ---- the digits that a text begins with

pub digit_means : (b : ℕ) → (digit b ≡ true) ↔ Digit b
digit_means b = and_means (le_means 48 b) (le_means b 57)

pub front_yes : (b : ℕ) (s : List ℕ) → digit b ≡ true → front (b ∷ s) ≡ b ∷ front s
unfolding front
front_yes b s e = ap (λ t. cond t (b ∷ front s) []) e

pub front_no : (b : ℕ) (s : List ℕ) → digit b ≡ false → front (b ∷ s) ≡ []
unfolding front
front_no b s e = ap (λ t. cond t (b ∷ front s) []) e

pub behind_yes : (b : ℕ) (s : List ℕ) → digit b ≡ true → behind (b ∷ s) ≡ behind s
unfolding behind
behind_yes b s e = ap (λ t. cond t (behind s) (b ∷ s)) e

pub behind_no : (b : ℕ) (s : List ℕ) → digit b ≡ false → behind (b ∷ s) ≡ b ∷ s
unfolding behind
behind_no b s e = ap (λ t. cond t (behind s) (b ∷ s)) e

digit_kept : (b : ℕ) (l : List ℕ) → All Digit l → (t : Bool) → digit b ≡ t → All Digit (cond t (b ∷ l) [])
digit_kept b l h true e = ((digit_means b).0 e, h)
digit_kept b l h false e = tt

pub front_all : (s : List ℕ) → All Digit (front s)
unfolding front
front_all [] = tt
front_all (b ∷ s) = digit_kept b (front s) (front_all s) (digit b) refl

digit_parts : (b : ℕ) (u v s : List ℕ) → u ++ v ≡ s → (t : Bool) → cond t (b ∷ u) [] ++ cond t v (b ∷ s) ≡ b ∷ s
digit_parts b u v s e true = ap (λ (l : List ℕ). b ∷ l) e
digit_parts b u v s e false = refl

pub parts : (s : List ℕ) → front s ++ behind s ≡ s
unfolding front behind
parts [] = refl
parts (b ∷ s) = digit_parts b (front s) (behind s) s (parts s) (digit b)

-- ---- where they end

digits_many : (s : List ℕ) → prefix_len is_ascii_digit s ≡ length (front s)
unfolding front
digits_many [] = refl
digits_many (b ∷ s) =
    let all = digits_many s in
    elim (digit b) as (λ t. cond t (1 + prefix_len is_ascii_digit s) 0 ≡ length (cond t (b ∷ front s) [])) [
      | true ↦ omega (arith, all)
      | false ↦ refl
    ]

module _ (s : List ℕ) (n : ℕ) (count : n ≡ length (take_while is_ascii_digit s)) where
  many : n ≡ length (front s)
  many = count ∙ length-prefix_len is_ascii_digit s ∙ digits_many s

  pub digits_taken : take n s ≡ front s
  digits_taken = ap₂ {C = List ℕ} (λ k l. take k l) many (sym (parts s)) ∙ take-append_seam (front s) (behind s)

  pub digits_dropped : drop n s ≡ behind s
  digits_dropped = ap₂ {C = List ℕ} (λ k l. drop k l) many (sym (parts s)) ∙ drop-append_seam (front s) (behind s)

  pub digits_within : n ≤ length s
  digits_within = omega (arith, many, ap length (parts s), length-append (front s) (behind s))

pub ruleset splits = (digits_taken, digits_dropped, digits_within)

-- ---- whether they are in form

pub form_none : (s : List ℕ) → length s < 1 → false ≡ in_form s
unfolding in_form
form_none [] h = refl
form_none (b ∷ s) h = absurd (omega arith)

pub form_one : (s : List ℕ) → 1 ≤ length s → length s < 2 → true ≡ in_form s
unfolding in_form
form_one [] some h = absurd (omega arith)
form_one (b ∷ []) some h = refl
form_one (b ∷ c ∷ s) some h = absurd (omega arith)

pub form_more : (s : List ℕ) → 2 ≤ length s → ltb 48 (get_or s 0 0) ≡ in_form s
unfolding in_form
form_more [] h = absurd (omega arith)
form_more (b ∷ []) h = absurd (omega arith)
form_more (b ∷ c ∷ s) h = refl

pub ruleset forms = (form_none, form_one, form_more)

-- ---- the number that they write

pub value_begin : (s : List ℕ) → value_from 0 (drop 0 s) ≡ value s
unfolding value
value_begin s = refl

value_rises : (v : ℕ) (s : List ℕ) → v ≤ value_from v s
unfolding value_from
value_rises v [] = omega arith
value_rises v (b ∷ s) = omega (arith, value_rises (10 * v + (b - 48)) s)

pub digit_low : (s : List ℕ) (i : ℕ) → All Digit s → i < length s → 48 ≤ get_or s i 0
digit_low s i digits on = (all_at Digit s digits i on).0

module _ (s : List ℕ) (v i : ℕ) (at : value_from v (drop i s) ≡ value s) where
  module _ (on : i < length s) where
    pub value_turn : value_from (v * 10 + (get_or s i 0 - 48)) (drop (i + 1) s) ≡ value s
    unfolding value_from
    value_turn = rw (mul_comm v 10) (sym (ap (value_from v) (drop_more s i 0 on)) ∙ at)

    pub number_over : 2 ^ 64 ≤ v * 10 + (get_or s i 0 - 48) → None ≡ number_of s
    unfolding fits number_of
    number_over h =
        let risen = value_rises (v * 10 + (get_or s i 0 - 48)) (drop (i + 1) s) in
        rw (le-ltb (value s) (2 ^ 64) (omega (arith, value_turn, risen))) refl

  pub number_end : length s ≤ i → v < 2 ^ 64 → Some v ≡ number_of s
  unfolding value_from fits number_of
  number_end end small =
      let whole : v ≡ value s = sym (ap (value_from v) (drop_of_length-le s end)) ∙ at in
      rw (lt-ltb (value s) (2 ^ 64) (omega (arith, whole))) (ap (λ (x : ℕ). Some x) whole)

pub ruleset numbers = (value_begin, value_turn, digit_low, number_over, number_end)

-- ---- a number with a byte behind it

module _ (end : ℕ) (s : List ℕ) where
  pub field_unformed : in_form (front s) ≡ false → field end s ≡ false
  unfolding field
  field_unformed h = rw h refl

  unended : ends_in end (behind s) ≡ false → field end s ≡ false
  unfolding field
  unended h = ap (λ ends. in_form (front s) && (ends && fits (front s))) h ∙ and-false (in_form (front s))

  ends_nowhere : (b : List ℕ) → length b ≡ 0 → ends_in end b ≡ false
  unfolding ends_in
  ends_nowhere [] none = refl
  ends_nowhere (x ∷ b) none = absurd (omega arith)

  pub field_ended : length (behind s) ≡ 0 → field end s ≡ false
  field_ended none = unended (ends_nowhere (behind s) none)

  pub field_other : (b : ℕ) (t : List ℕ) → behind s ≡ b ∷ t → (b ≡ end → ⊥) → field end s ≡ false
  unfolding ends_in
  field_other b t is other = unended (ap (ends_in end) is ∙ ne_eqb b end other)

  fit_decides : (t : Bool) → fits (front s) ≡ t → None ≡ cond t (Some (value (front s))) None → field end s ≡ false
  unfolding field
  fit_decides true e h = absurd (none-some _ h)
  fit_decides false e h =
      ap (λ fit. in_form (front s) && (ends_in end (behind s) && fit)) e
      ∙ ap (λ rest. in_form (front s) && rest) (and-false (ends_in end (behind s))) ∙ and-false (in_form (front s))

  pub field_unfit : None ≡ number_of (front s) → field end s ≡ false
  unfolding number_of
  field_unfit h = fit_decides (fits (front s)) refl h

  pub field_reads : (t : List ℕ) (v : ℕ) → in_form (front s) ≡ true → behind s ≡ end ∷ t → Some v ≡ number_of (front s)
      → (field end s ≡ true) × ((v ≡ value (front s)) × (t ≡ next s))
  unfolding field ends_in number_of
  field_reads t v form ends fit =
      let fits = cond_some _ _ _ (sym fit) in
      (rw (form, ends, eq-eqb end end refl) fits.0, (sym fits.1, ap (drop 1) (sym ends)))

pub ruleset fields = (front_all, field_unformed, field_ended, field_other, field_unfit, field_reads)

-- ---- the line: t, u and r are what stands behind its numbers

module _ (s : List ℕ) where
  unread : reads s ≡ false → None ≡ asked s
  unfolding asked
  unread h = rw h refl

  pub read_size : field 32 s ≡ false → reads s ≡ false
  unfolding reads
  read_size h = rw h refl

  pub line_size : field 32 s ≡ false → None ≡ asked s
  line_size h = unread (read_size h)

  module _ (t : List ℕ) (one : field 32 s ≡ true) (rest : t ≡ next s) where
    pub read_first : field 32 t ≡ false → reads s ≡ false
    unfolding reads
    read_first h = rw (one, ap (field 32) (sym rest) ∙ h) refl

    pub line_first : field 32 t ≡ false → None ≡ asked s
    line_first h = unread (read_first h)

    module _ (u : List ℕ) (two : field 32 t ≡ true) (after : u ≡ next t) where
      third : u ≡ next (next s)
      third = after ∙ ap next rest

      pub read_end_lem : field 10 u ≡ false → reads s ≡ false
      unfolding reads
      read_end_lem h = rw (one, ap (field 32) (sym rest) ∙ two, ap (field 10) (sym third) ∙ h) refl

      pub line_end : field 10 u ≡ false → None ≡ asked s
      line_end h = unread (read_end_lem h)

      module _ (r : List ℕ) (three : field 10 u ≡ true) (last : r ≡ next u) where
        rest_decides : reads s ≡ nothing r
        unfolding reads
        rest_decides =
            rw (one, ap (field 32) (sym rest) ∙ two, ap (field 10) (sym third) ∙ three)
            (ap nothing (sym (last ∙ ap next third)))

        some_left : (r' : List ℕ) → length r' ≢ 0 → nothing r' ≡ false
        unfolding nothing
        some_left [] some = absurd (some refl)
        some_left (x ∷ r') some = refl

        none_left : (r' : List ℕ) → length r' ≡ 0 → nothing r' ≡ true
        unfolding nothing
        none_left [] none = refl
        none_left (x ∷ r') none = absurd (omega arith)

        pub read_more : length r ≢ 0 → reads s ≡ false
        read_more some = rest_decides ∙ some_left r some

        pub line_more : length r ≢ 0 → None ≡ asked s
        line_more some = unread (read_more some)

        pub line_done : (size first end : ℕ) → size ≡ value (front s) → first ≡ value (front t) → end ≡ value (front u)
            → length r ≡ 0 → Some (record { size = size; first = first; end = end }) ≡ asked s
        unfolding asked asked_size asked_first asked_end
        line_done size first end a b c none =
            let first_is = b ∙ ap (λ (l : List ℕ). value (front l)) rest in
            let end_is = c ∙ ap (λ (l : List ℕ). value (front l)) third in
            rw (rest_decides ∙ none_left r none, a, first_is, end_is) refl

pub ruleset lines = (line_size, line_first, line_end, line_more, line_done)
