-- Laws of the loop that puts the lines of a run's shapes, each in the words in which the code meets it. The run is of size n, from `first` to
-- `end`, and its figure was `before`; out₀ is the buffer that was lent. The loop stands at the shape numbered k, with figure f.
--     Holds                     the shape's two forms, its depths, the text of its number and its change are held
--     Put                       the lines of the shapes before k stand in the buffer, `at` bytes, and so many more are to come
--     first_formed, first_width, holds_first      what is held at the start, from what `text::put_number` and `local::change` answer
--     holds_..                  what a line asks of it
--     holds_more, holds_next    there is a step, and what is held after it, from what `walk::next` and `text::count_up` answer
--     put_none                  no line at the start
--     put_full, put_last, put_stopped     no more lines: there is no room, the run is over, or the figure would pass 64 bits
--     put_room, put_next        one line more
-- Assumes nothing.
use mathlib.Core.Path.{◌≡◌, refl, sym, ap, ap₂, ◌∙◌, subst}
use mathlib.Core.List.{List, [], ◌∷◌, ◌++◌, append_assoc}
use Prim.Native.Nat.{ℕ, zero, suc, ◌+◌, ◌-◌, ◌*◌, ◌≤◌, ◌<◌, ◌^◌}
use native.Mathlib.Nat.{sub-zero, zero-add}
use native.Mathlib.Omega.{arith}
use lib.Dec.{lit<}
use lib.ListN.{length, get_or, take, replicate, length-append}
use lib.Seq.{length-take-le, take_at}
use mir.Syntax.{w64}
use mir.Val.{Fits}
use Rattle.std.specs.Prelude.{Option, Some}
use Rattle.catalan.specs.Count.{C, largest_size}
use Rattle.catalan.proofs.Counting.{C_rises}
use Rattle.shape.specs.Tree.{permutation}
use Rattle.shape.specs.Form.{Feasible, pattern_tree}
use Rattle.shape.specs.Number.{local_number, local_pattern, change, depth}
use Rattle.shape.proofs.LocalNumbers.{local_lawful}
use Rattle.shape.proofs.Changes.{change_least}
use Rattle.shape.proofs.Patterns.{feasible_length}
use Rattle.run.specs.declared.Progress.TheVariants.{Handed}
use Rattle.run.specs.Calls.{progress, step_run}
use Rattle.run.specs.Walk.{figure_of}
use Rattle.run.proofs.States.{step_handed}
use Rattle.run.proofs.Runs.{figure_none, figure_next, figure_join}
use Rattle.local.specs.Places.{next_change, next_pattern, nonzero}
use Rattle.local.proofs.Chains.{next_chained, next_change_chained}
use Rattle.walk.specs.Depths.{depths_of}
use Rattle.walk.proofs.Climbs.{length_depths, depth_last}
use Rattle.text.specs.Text.{decimal, shape_text, shape_line, shape_lines, line_room, written}
use Rattle.text.proofs.Digits.{decimal_width}
use Rattle.text.proofs.Lengths.{shape_text_length}
use Rattle.text.proofs.Written.{written_length, written_none, written_then}
use Rattle.lines.specs.Calls.{standing, fitting, listed}
use Rattle.lines.proofs.Lines.{lines_none, lines_last}
use Rattle.lines.proofs.Bounds.{shape_formed, shape_wide, shape_places, shape_some, shape_few, shape_entries, shape_depth, shape_change}
use Rattle.lines.proofs.Pieces.{standing_sound, moved, fitting_full, fitting_stopped, fitting_next}

-- ---- what is held

pub record Holds (n end : ℕ) (places entries depths digits : List ℕ) (width c k : ℕ) : Type 0 where
  pub some : 1 ≤ n
  pub small : n ≤ largest_size
  pub high : end ≤ C n
  pub on : k < end
  pub pattern : places ≡ local_pattern n k
  pub labels : entries ≡ permutation (pattern_tree places)
  pub deep : depths ≡ depths_of places
  pub held : length digits ≡ 21
  pub narrow : width ≤ 20
  pub number : take width digits ≡ decimal k
  pub changes : c ≡ change n k

largest_number : C largest_size < 10 ^ 19
unfolding C
largest_number = lit< tt

number_short : (n k : ℕ) → n ≤ largest_size → k < C n → length (decimal k) ≤ 19
number_short n k small below = decimal_width k (omega (arith, largest_number, C_rises n largest_size small))

-- the byte behind a number's text is no part of it; r is the place behind both
pub first_width : (first r byte : ℕ) → r ≡ 0 + length (decimal first ++ (byte ∷ [])) → 1 ≤ r
first_width first r byte there = omega (arith, length-append (decimal first) (byte ∷ []))

module _ (n end first : ℕ) (places : List ℕ) (on : first < end) (high : end ≤ C n) (pattern : places ≡ local_pattern n first) where
  pub first_formed : Feasible n places
  first_formed = subst (Feasible n) (sym pattern) ((local_lawful n).shape_formed first (omega arith))

  pub holds_first : (entries depths digits : List ℕ) (r c byte : ℕ) → 1 ≤ n → n ≤ largest_size → entries ≡ permutation (pattern_tree places)
      → depths ≡ depths_of places → r ≡ 0 + length (decimal first ++ (byte ∷ [])) → digits ≡ written (replicate 21 0) 0 (decimal first ++ (byte ∷ []))
      → c ≡ change n (local_number places) → Holds n end places entries depths digits (r - 1) c first
  holds_first entries depths digits r c byte some small labels deep there text changes =
      let short = number_short n first small (omega arith) in
      let more = length-append (decimal first) (byte ∷ []) in
      let width : length (decimal first) ≡ r - 1 = omega arith in
      record {
        some = some;
        small = small;
        high = high;
        on = on;
        pattern = pattern;
        labels = labels;
        deep = deep;
        held = ap length text ∙ written_length (replicate 21 0) 0 (decimal first ++ (byte ∷ [])) (omega arith);
        narrow = omega arith;
        number =
            ap (take (r - 1)) (text ∙ append_assoc (decimal first) (byte ∷ []) _) ∙ take_at (decimal first) _ (r - 1) width;
        changes =
            changes
            ∙ ap (λ (l : List ℕ). change n (local_number l)) pattern
            ∙ ap (change n) ((local_lawful n).number_shape first (omega arith));
      }

module _ {n end : ℕ} {places entries depths digits : List ℕ} {width c k : ℕ} (h : Holds n end places entries depths digits width c k) where
  below : k < C n
  below = omega (arith, h.on, h.high)

  pub holds_formed : Feasible n places
  holds_formed = shape_formed n k h.small below places h.pattern

  pub holds_wide : length places ≤ 70
  holds_wide = shape_wide n k h.small below places h.pattern

  pub holds_places : (i : ℕ) → get_or places i 0 ≤ 1
  holds_places = shape_places n k h.small below places h.pattern

  all_places : length places ≡ 2 * n
  all_places = feasible_length n places holds_formed

  -- the last of the depths is the shape's
  pub holds_deepest : 2 * n < length depths
  holds_deepest = omega (arith, ap length h.deep, length_depths places, all_places)

  pub holds_depth : get_or depths (2 * n) 0 ≡ depth places
  holds_depth = ap₂ (λ (d : List ℕ) (i : ℕ). get_or d i 0) h.deep (sym all_places) ∙ depth_last places

  pub holds_shallow : get_or depths (2 * n) 0 < 100
  holds_shallow = rw holds_depth (shape_depth n k h.small below places h.pattern)

  pub holds_some : 1 ≤ length entries
  holds_some = shape_some n k h.small below places h.pattern entries h.labels h.some

  pub holds_few : length entries ≤ 35
  holds_few = shape_few n k h.small below places h.pattern entries h.labels

  pub holds_entries : (i : ℕ) → get_or entries i 0 < 100
  holds_entries = shape_entries n k h.small below places h.pattern entries h.labels

  pub holds_text : length (take width digits) ≤ 20
  holds_text = omega (arith, length-take-le width digits (omega (arith, h.held, h.narrow)), h.narrow)

  pub holds_small : c < 100
  holds_small = rw h.changes (shape_change n k h.small below places h.pattern h.some)

  pub holds_change : c ≤ 18446744073709551615
  holds_change = omega (arith, holds_small)

  pub holds_fits : (f : ℕ) → f ≤ 18446744073709551615 - c → Fits w64 (f + c)
  holds_fits f low = record { fits = omega (arith, holds_small) }

  -- there is room for one digit more
  spare : width ≤ 19
  spare =
      omega
      (arith, number_short n k h.small below, ap length h.number, length-take-le width digits (omega (arith, h.held, h.narrow)))

  -- o is what the step answered
  pub holds_more : (k + 1 ≡ end → ⊥) → (o : Option ℕ) → o ≡ nonzero (next_change n places) → o ≡ Some (change n (k + 1))
  holds_more other o e =
      e
      ∙ ap nonzero (next_change_chained n k places h.pattern (omega (arith, h.on, h.high)))
      ∙ some_change (change n (k + 1)) (change_least n (k + 1) h.some (omega (arith, h.on, h.high)))
    where
      some_change : (c : ℕ) → 1 ≤ c → nonzero c ≡ Some c
      some_change zero l = absurd (omega arith)
      some_change (suc c) l = refl

  pub holds_next : (k + 1 ≡ end → ⊥) → {places' entries' depths' digits' : List ℕ} {width' c' : ℕ}
      → Some c' ≡ nonzero (next_change n places) → places' ≡ next_pattern n places → entries' ≡ permutation (pattern_tree (next_pattern n places))
      → depths' ≡ depths_of (next_pattern n places)
      → ((j : ℕ) → take width digits ≡ decimal j → take width' digits' ≡ decimal (j + 1))
      → length digits' ≡ length digits → width' ≤ width + 1 → Holds n end places' entries' depths' digits' width' c' (k + 1)
  holds_next other {c' = c'} changes pattern labels deep number held narrow =
      record {
        some = h.some;
        small = h.small;
        high = h.high;
        on = omega (arith, h.on);
        pattern = pattern ∙ next_chained n k places h.pattern (omega (arith, h.on, h.high));
        labels = labels ∙ ap (λ (l : List ℕ). permutation (pattern_tree l)) (sym pattern);
        deep = deep ∙ ap depths_of (sym pattern);
        held = held ∙ h.held;
        narrow = omega (arith, spare);
        number = number k h.number;
        changes = let more = holds_more other (Some c') changes in cc;
      }

-- ---- what is put

pub record Put (n first end before : ℕ) (out₀ out : List ℕ) (f k at : ℕ) : Type 0 where
  pub reached : first ≤ k
  pub figure : f ≡ before + figure_of n first k
  pub put : out ≡ written out₀ 0 (shape_lines n first k)
  pub long : length out ≡ length out₀
  pub bytes : at ≡ length (shape_lines n first k)
  pub room : at ≤ length out₀
  pub taken : listed (standing n first end before) (length out₀) ≡ (k - first) + fitting (end - k) (length out₀ - at) (standing n k end f)

pub put_none : (n first end before : ℕ) (out₀ : List ℕ) → Put n first end before out₀ out₀ before first 0
put_none n first end before out₀ =
    let none = lines_none n first first (omega arith) in
    record {
      reached = omega arith;
      figure = omega (arith, figure_none n first first (omega arith));
      put = sym (ap (λ (l : List ℕ). written out₀ 0 l) none ∙ written_none out₀ 0);
      long = refl;
      bytes = sym (ap length none);
      room = omega arith;
      taken = ap (λ (r : ℕ). fitting (end - first) r (standing n first end before)) (sym (sub-zero (length out₀))) ∙ omega arith;
    }

module _ {n first end before : ℕ} {out₀ out : List ℕ} {f k at : ℕ} (p : Put n first end before out₀ out f k at) where
  -- no more lines are put
  stops : fitting (end - k) (length out₀ - at) (standing n k end f) ≡ 0 → k ≡ first + listed (standing n first end before) (length out₀)
  stops none = omega (arith, p.taken, p.reached)

  pub put_full : length out - at < 256 → k ≡ first + listed (standing n first end before) (length out₀)
  put_full h = stops (fitting_full (standing n k end f) (length out₀ - at) (end - k) (omega (arith, p.long)))

  pub put_last : k ≡ end → k ≡ first + listed (standing n first end before) (length out₀)
  put_last e =
      stops
      (fitting_stopped (standing n k end f) (length out₀ - at) (end - k)
      (λ h. let on : k < end = ((step_handed (standing n k end f)).0 h).1 in omega arith))

  pub put_room : 256 ≤ length out - at → at + line_room ≤ length out
  put_room h = omega (arith, p.room, p.long)

  module _ {places entries depths digits : List ℕ} {width c : ℕ} (h : Holds n end places entries depths digits width c k) where
    pub put_stopped : 18446744073709551615 - c < f → k ≡ first + listed (standing n first end before) (length out₀)
    put_stopped over =
        stops
        (fitting_stopped (standing n k end f) (length out₀ - at) (end - k)
        (λ e. let fits : f + change n k < 2 ^ 64 = ((step_handed (standing n k end f)).0 e).2 in omega (arith, h.changes)))

    module _ (low : f ≤ 18446744073709551615 - c) (fits : 256 ≤ length out - at) where
      -- the line that the code puts
      abbrev text : List ℕ
      text = shape_text (take width digits) places entries (get_or depths (2 * n) 0) c

      text_line : text ≡ shape_line n k
      unfolding shape_line
      text_line = rw (h.number, h.labels, holds_depth h, h.changes, h.pattern)

      short : length (shape_line n k) ≤ line_room
      short =
          rw (← text_line)
          (shape_text_length _ places entries _ c (holds_text h) (holds_wide h) (holds_some h) (holds_few h) (holds_entries h)
          (holds_shallow h) (holds_small h))

      handed : progress (standing n k end f) ≡ Handed
      handed =
          (step_handed (standing n k end f)).1
          (standing_sound n k end f (h.some, h.small) (omega (arith, h.on)) h.high, h.on, omega (arith, h.changes, holds_small h))

      raised : f + c ≡ before + figure_of n first (k + 1)
      raised =
          omega (
            arith,
            p.figure,
            h.changes,
            p.reached,
            figure_join n first k (k + 1) p.reached (omega arith),
            figure_next n k (k + 1) (omega arith),
            figure_none n (k + 1) (k + 1) (omega arith),
          )

      more : fitting (end - k) (length out₀ - at) (standing n k end f)
          ≡ suc (fitting (end - (k + 1)) (length out₀ - (at + length (shape_line n k))) (standing n (k + 1) end (f + c)))
      more =
          let left : end - k ≡ suc (end - (k + 1)) = omega (arith, h.on) in
          let room : length out₀ - at - length (shape_line n k) ≡ length out₀ - (at + length (shape_line n k)) = omega arith in
          let there : step_run (standing n k end f) ≡ standing n (k + 1) end (f + c) =
          moved (standing n k end f) handed ∙ ap (λ (i : ℕ). standing n (k + 1) end (f + i)) (sym h.changes) in
          ap (λ (i : ℕ). fitting i (length out₀ - at) (standing n k end f)) left
          ∙ fitting_next (standing n k end f) (length out₀ - at) (end - (k + 1)) (omega (arith, p.long)) handed
          ∙ ap suc (ap₂ (fitting (end - (k + 1))) room there)

      pub put_next : {r : ℕ} {out' : List ℕ} → r ≡ at + length text → out' ≡ written out at text → length out' ≡ length out
          → Put n first end before out₀ out' (f + c) (k + 1) r
      put_next {r} e put same =
          let done = shape_lines n first k in
          let line = lines_last n first k p.reached in
          let whole : length (shape_lines n first (k + 1)) ≡ length done + length (shape_line n k) =
          ap length line ∙ length-append done (shape_line n k) in
          let there : r ≡ at + length (shape_line n k) = e ∙ ap (λ (l : List ℕ). at + length l) text_line in
          record {
            reached = omega (arith, p.reached);
            figure = raised;
            put =
                put
                ∙ ap (λ (l : List ℕ). written out at l) text_line
                ∙ ap₂ (λ (o : List ℕ) (i : ℕ). written o i (shape_line n k)) p.put (p.bytes ∙ sym (zero-add (length done)))
                ∙ written_then out₀ 0 done (shape_line n k) (omega (arith, p.bytes, p.room))
                ∙ ap (λ (l : List ℕ). written out₀ 0 l) (sym line);
            long = same ∙ p.long;
            bytes = omega (arith, there, p.bytes, whole);
            room = omega (arith, there, short, p.long, p.room);
            taken =
                omega (
                  arith,
                  p.taken,
                  p.reached,
                  more,
                  ap (λ (i : ℕ). fitting (end - (k + 1)) (length out₀ - i) (standing n (k + 1) end (f + c))) there,
                );
          }

pub ruleset walking = (
  first_formed,
  first_width,
  holds_first,
  holds_formed,
  holds_change,
  holds_fits,
  holds_wide,
  holds_places,
  holds_some,
  holds_few,
  holds_entries,
  holds_small,
  holds_text,
  put_none,
  put_full,
  put_room,
  put_stopped,
)
