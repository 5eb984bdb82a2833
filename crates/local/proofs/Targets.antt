-- Laws of the loop that goes from the last place to the first until the places that it has passed have a word of their own at the target.
--     Sought n p z i t a b            place i of p and those after it are a word with a ones and b zeros, and t is its number and z, of 64 bits and
--                                     wrapping; z is what the distance d adds
--     sought_none                     so it is before a place has been passed
--     sought_zero, sought_one         and at the place before, which is a 0 or a 1
--     row_next, ones_within, next_within, words_rise      there is a row for one 0 more, what is read of the row is there, and what a 1 adds is not below 0
--     target_past, target_left        at the first place, no word at the target: there is no such shape, and the pattern stays
--     target_reached, target_put      a word at the target: with it in the place of these places, the pattern is the shape asked for
--     ones_fewer, zeros_few, word_there      what `put_numbered` asks for
--     same_bits                       a distance that is handed on is the same in its bits
--     moving                          what the proof of `move_by` uses
-- Assumes nothing.
use Rattle.std.proofs.Common.{◌≡◌, ℕ, suc, ◌+◌, ◌-◌, ◌*◌, ◌%◌, ◌^◌, ◌<◌, ◌≤◌, true, false, List, [], ◌∷◌, ◌++◌, length, get_or, take, drop, ℤ, pos, negsuc, ◌+ℤ◌, nat_abs, sym, refl, ap, ◌∙◌, subst, add-one, arith, take-append-drop, drop_of_length-le, to_z-of_z, w64, SFits, to_z, of_z, le-ltb, lt-ltb}
use native.Mathlib.Decide.{dec_lt}
use lib.IntN.{pos-ne-negsuc}
use lib.ListN.{length-set, length-replicate}
use mir.Facts.{Fits-of_z}
use Rattle.catalan.specs.Count.{C, ways, words, largest_size}
use Rattle.catalan.specs.Table.{row_of}
use Rattle.catalan.proofs.Counting.{C_ways, C_half, words_step, ways_words, ways_at_most}
use Rattle.catalan.proofs.Rows.{row_at, row_start, row_long}
use Rattle.shape.specs.Form.{count, Feasible}
use Rattle.shape.specs.Number.{local_number, local_places}
use Rattle.shape.specs.Numbering.{local}
use Rattle.shape.specs.Move.{target, reaches, moved}
use Rattle.shape.proofs.Writing.{from_before}
use Rattle.shape.proofs.Counts.{count_split}
use Rattle.shape.proofs.Patterns.{Word, done, zero_next, one_next, word_zeros, feasible_word, word_feasible, feasible_length}
use Rattle.shape.proofs.LocalNumbers.{HasNumber, number_one, number_zero, word_number_below, places_numbered, local_lawful}
use Rattle.shape.proofs.Neighbours.{behind, word_same, swapped, swapped_number}
use Rattle.distance.proofs.Sums.{sum_on, sum_reached}
use Rattle.distance.proofs.Reaching.{sum_stops}
use Rattle.local.specs.Places.{end_numbered, moved_pattern}

pub record Sought (n : ℕ) (p : List ℕ) (z i t a b : ℕ) : Type 0 where
  pub left : i + (a + b) ≡ length p
  pub excess : ℕ
  pub word : Word excess a (drop i p)
  pub zeros : excess + a ≡ b
  pub most : b ≤ n
  pub sum : t ≡ (local_number (drop i p) + z) % 2 ^ 64

-- t is what was found to be added
pub sought_none : (n : ℕ) (p : List ℕ) (d : ℤ) (t : ℕ) → SFits w64 d → Feasible n p → t ≡ of_z w64 (to_z w64 (of_z w64 d))
    → Sought n p (of_z w64 d) (2 * n) t 0 0
unfolding local_number
sought_none n p d t f g e =
    let long = feasible_length n p g in
    let past : drop (2 * n) p ≡ [] = drop_of_length-le p {i = 2 * n} (omega arith) in
    let same : t ≡ of_z w64 d = e ∙ ap (of_z w64) (to_z-of_z f) in
    record {
      left = omega arith;
      excess = 0;
      word = rw past done;
      zeros = refl;
      most = omega arith;
      sum = rw past (omega (arith, same, Fits-of_z f));
    }

-- a word behind a 1 has an excess
opened : {c k e a : ℕ} {w : List ℕ} → Word c k (1 ∷ w) → Word e a w → (x : ℕ) × (e ≡ suc x)
opened (one_next {e} r) s = (e, (word_same s r).0)

module _ (n : ℕ) (p : List ℕ) (g : Feasible n p) (small : n ≤ largest_size) (z i t a b : ℕ) (m : Sought n p z i t a b) where
  whole : Word 0 n (take i p ++ drop i p)
  whole = subst (Word 0 n) (sym (take-append-drop i p)) (feasible_word g)

  zeros_here : count 0 (drop i p) ≡ b
  zeros_here = word_zeros m.word ∙ m.zeros

  -- ---- a place more

  module _ (low : i ≡ 0 → ⊥) where
    from : drop (i - 1) p ≡ get_or p (i - 1) 0 ∷ drop i p
    from = from_before p i (omega arith) (omega (arith, m.left))

    module _ (o : get_or p (i - 1) 0 ≡ 0) where
      here_zero : drop (i - 1) p ≡ 0 ∷ drop i p
      here_zero = from ∙ rw o

      pub sought_zero : Sought n p z (i - 1) t a (b + 1)
      sought_zero =
          let more : count 0 (drop (i - 1) p) ≡ b + 1 = rw here_zero (unfold count in omega (arith, zeros_here)) in
          record {
            left = omega (arith, m.left);
            excess = suc m.excess;
            word = rw here_zero (zero_next m.word);
            zeros = omega (arith, m.zeros);
            most = omega (arith, more, count_split 0 (i - 1) p, g.zeros);
            sum = m.sum ∙ rw (here_zero, number_zero (drop i p));
          }

      pub row_next : b < 35
      row_next = omega (arith, sought_zero.most)

    module _ (o : get_or p (i - 1) 0 ≡ 0 → ⊥) where
      here_one : drop (i - 1) p ≡ 1 ∷ drop i p
      here_one =
          let one : get_or p (i - 1) 0 ≡ 1 = omega (arith, g.places (i - 1) (omega (arith, m.left))) in
          from ∙ rw one

      before : (x : ℕ) × (m.excess ≡ suc x)
      before =
          let all = subst (Word 0 n) (sym (take-append-drop (i - 1) p)) (feasible_word g) in
          let (c, k, r) = behind (take (i - 1) p) all in
          opened (subst (Word c k) here_one r) m.word

      inner : Word (suc before.0) a (drop i p)
      inner = subst (λ (e : ℕ). Word e a (drop i p)) before.1 m.word

      pub next_within : a + 1 < 36
      next_within = omega (arith, before.1, m.zeros, m.most)

      module _ (row : List ℕ) (w : row ≡ row_of b) where
        raised : get_or row (a + 1) 0 ≡ words before.0 (suc a) + get_or row a 0
        raised =
            let here = ways_words a b (suc (suc before.0)) (omega (arith, before.1, m.zeros)) in
            let next = ways_words (suc a) b (suc before.0) (omega (arith, before.1, m.zeros)) in
            let within : suc a < 36 = omega (arith, next_within) in
            rw (w, add-one, row_at b (suc a) within, row_at b a (omega arith), here, next) (words_step before.0 a)

        pub words_rise : get_or row a 0 ≤ get_or row (a + 1) 0
        words_rise = omega (arith, raised)

        pub sought_one : (r : ℕ) → r ≡ (t + (get_or row (a + 1) 0 - get_or row a 0)) % 2 ^ 64 → Sought n p z (i - 1) r (a + 1) b
        sought_one r e =
            let more = words before.0 (suc a) in
            let added : get_or row (a + 1) 0 - get_or row a 0 ≡ more = omega (arith, raised) in
            let number : local_number (drop i p) + more ≡ local_number (drop (i - 1) p) = rw here_one (omega (arith, number_one inner)) in
            record {
              left = omega (arith, m.left);
              excess = before.0;
              word = rw (here_one, add-one) (one_next inner);
              zeros = omega (arith, m.zeros, before.1);
              most = m.most;
              sum = e ∙ sum_on (local_number (drop i p)) z _ t m.sum ∙ rw (added, number);
            }

  -- ---- what is read of the row, and what is asked for where the word is put

  pub ones_fewer : a ≤ b
  ones_fewer = omega (arith, m.zeros)

  pub zeros_few : b ≤ largest_size
  zeros_few = omega (arith, m.most)

  pub ones_within : a < 36
  ones_within = omega (arith, ones_fewer, zeros_few)

  module _ (row : List ℕ) (w : row ≡ row_of b) where
    entry : get_or row a 0 ≡ ways a b
    entry = rw w (row_at b a ones_within)

    pub word_there : t < get_or row a 0 → t < ways a b
    word_there h = omega (arith, entry)

-- ---- where the search ends

-- what stands before a word adds the same to its number and to the target's: x is the number of the whole, y that with the other word
carried : (k t x y : ℕ) (d : ℤ) → pos t ≡ pos k +ℤ d → x + t ≡ y + k → pos y ≡ pos x +ℤ d
carried k t x y (pos n) e h = let same : t ≡ k + n = ap nat_abs e in ap pos (omega arith)
carried k t x y (negsuc n) e h =
    elim (dec_lt k (suc n)) [
      | yes l ↦ absurd (pos-ne-negsuc t (suc n - suc k) (rw (lt-ltb k (suc n) l) at e))
      | no g ↦ let same : t ≡ k - suc n = ap nat_abs (rw (le-ltb k (suc n) (omega arith)) at e) in
          rw (le-ltb x (suc n) (omega arith)) (ap pos (omega arith))
    ]

-- the code is handed a signed number by its bits, so z is those of what is read of them
pub same_bits : (d : ℤ) → SFits w64 d → of_z w64 (to_z w64 (of_z w64 d)) ≡ of_z w64 d
same_bits d f = ap (of_z w64) (to_z-of_z f)

module _ (n : ℕ) (p : List ℕ) (g : Feasible n p) (small : n ≤ largest_size) (d : ℤ) (f : SFits w64 d) (z i t a b : ℕ) (same : z ≡ of_z w64 d)
    (m : Sought n p z i t a b) (row : List ℕ) (w : row ≡ row_of b) where
  sum : t ≡ (local_number (drop i p) + of_z w64 d) % 2 ^ 64
  sum = m.sum ∙ rw same

  words_here : get_or row a 0 ≡ words (suc m.excess) a
  words_here = entry n p g small z i t a b m row w ∙ ways_words a b (suc m.excess) (omega (arith, m.zeros))

  words_small : get_or row a 0 ≤ 9223372036854775808
  words_small =
      let most = ways_at_most a b (ones_fewer n p g small z i t a b m) in
      omega (arith, entry n p g small z i t a b m row w, most, C_half b (zeros_few n p g small z i t a b m))

  number_here : local_number (drop i p) < get_or row a 0
  number_here = rw words_here (word_number_below m.word)

  module _ (h : t < get_or row a 0) where
    -- the word at the target, and the pattern with it
    abbrev other : List ℕ
    other = local_places (a + b) a b t

    other_numbered : HasNumber m.excess a t other
    other_numbered = places_numbered (a + b) m.excess a b t m.zeros refl (omega (arith, words_here))

    abbrev there : List ℕ
    there = take i p ++ other

    there_formed : Feasible n there
    there_formed = word_feasible (swapped m.word other_numbered.0 (take i p) (whole n p g small z i t a b m))

    there_number : pos (local_number there) ≡ pos (local_number p) +ℤ d
    there_number =
        let moves = swapped_number m.word other_numbered.0 (take i p) (whole n p g small z i t a b m) in
        carried (local_number (drop i p)) t (local_number p) (local_number there) d
        (sum_reached (local_number (drop i p)) (get_or row a 0) words_small number_here d f t sum h)
        (omega (arith, rw (take-append-drop i p, other_numbered.1) at moves))

    pub target_reached : true ≡ reaches (local n) d p
    unfolding reaches target
    target_reached = rw (sym there_number) (sym (lt-ltb (local_number there) (C n) ((local_lawful n).number_below there there_formed)))

    there_moved : there ≡ moved (local n) d p
    unfolding moved target
    there_moved = rw (sym there_number) (sym ((local_lawful n).shape_number there there_formed))

    pub target_put : (x : List ℕ) → x ≡ end_numbered a b t p → x ≡ moved_pattern n d p
    unfolding end_numbered moved_pattern
    target_put x e =
        let start : length p - (a + b) ≡ i = omega (arith, m.left) in
        e ∙ rw start (there_moved ∙ rw (sym target_reached))

  module _ (first : i ≡ 0) (h : get_or row a 0 ≤ t) where
    all : drop i p ≡ p
    all = rw first

    every_word : get_or row a 0 ≡ C n
    every_word =
        let (x, y) = word_same (feasible_word g) (subst (Word m.excess a) all m.word) in
        let zeros : b ≡ n = omega (arith, m.zeros) in
        entry n p g small z i t a b m row w ∙ rw (sym y, zeros) (sym (C_ways n))

    pub target_past : false ≡ reaches (local n) d p
    target_past = sum_stops (local n) (local_lawful n) small p g d f t (sum ∙ rw all) (omega (arith, every_word))

    pub target_left : p ≡ moved_pattern n d p
    unfolding moved_pattern
    target_left = rw (sym target_past)

-- ---- what the proof of `move_by` uses

pub ruleset moving = (
  length-set,
  length-replicate,
  row_start,
  row_long,
  sought_none,
  sought_zero,
  sought_one,
  row_next,
  ones_within,
  next_within,
  ones_fewer,
  zeros_few,
  words_rise,
  word_there,
  target_reached,
  target_put,
  target_past,
  target_left,
  same_bits,
)
