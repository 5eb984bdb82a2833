-- What reading a record answers, exactly when: 01, Refusal numbers. Its tests are not in the order of the refusals' numbers: empty 10, size
-- 1, the rest of 10, room for the places 2, then 4.
--     Laid r               the mark is 00, the length is what the size asks and the fill is 0
--     places_long          then there are 2n places
--     places_bits          each of them 0 or 1, whatever the bytes hold
--     layout_done          what is asked before the places are looked at is all so
--     read_record          refusal 10
--     read_size            refusal 1
--     read_length          refusal 2
--     read_shape           refusal 4
--     read_passes          done
--     read_others          and there is no other refusal, so never 3
-- Assumes nothing.
use mathlib.Core.Path.{◌≡◌, refl, sym, ◌∙◌, subst}
use mathlib.Core.Logic.Iff
use mathlib.Core.Logic.{◌↔◌, ◌⊎◌, inl, inr}
use mathlib.Core.Bool.{Bool, true, false, ◌&&◌, false≢true}
use mathlib.Core.List.{List}
use Prim.Native.Nat.{ℕ, ◌*◌, ◌<◌}
use native.Mathlib.Omega.{arith}
use native.Mathlib.Decide.{dec_lt}
use lib.Dec.{ltb, eqb}
use lib.ListN.{length, get_or, drop, length-drop}
use lib.Seq.{length-take-le}
use Rattle.shape.specs.Form.{patterns, every, balance_fits, place_fits, Feasible, Passes}
use Rattle.shape.specs.Reply.{refusal_number, Outcome}
use Rattle.shape.specs.Check.{unless, and_then, sized, Sized, record_length}
use Rattle.shape.specs.declared.Refusal.{Refusal}
use Rattle.shape.specs.declared.Refusal.TheVariants.{Size, Length, Shape, Record}
use Rattle.std.specs.Prelude.{Ok, Err}
use Rattle.shape.specs.Every.{All}
use Rattle.shape.proofs.Lists.{all_at}
use Rattle.shape.proofs.Tests.{le_means, less_means, equal_means, and_means, every_means, every_all, patterns_tested}
use Rattle.shape.proofs.Checks.{sized_means, Refuses, Other, refuses_unless, passed, failed}
use Rattle.record.specs.Bits.{bits_of}
use Rattle.record.specs.Record.{size_in, mark_in, places_in, fill_in}
use Rattle.record.specs.Calls.{layout_check, places_check, read_check}
use Rattle.record.proofs.Bits.{Bit, all_take, all_drop, length_bits_of, bits_of_below}

-- ---- one test after another

-- the answer f: the test fails, or it passes and f comes later all the same
failed_twice : {P : Type 0} (t : Bool) (f : Refusal) (next : Outcome) → (t ≡ true) ↔ P
    → (unless t f next ≡ Err f) ↔ ((P → ⊥) ⊎ (P × (next ≡ Err f)))
failed_twice true f next m = (λ r. inr (m.0 refl, r), λ c. elim c [ inl g ↦ absurd (g (m.0 refl)) | inr (k, r) ↦ r ])
failed_twice false f next m = (λ r. inl (λ k. false≢true (m.1 k)), λ c. refl)

-- Three tests in a row with the same refusal are one test.
gathered : (e s m l f : Bool) (next : Outcome)
    → and_then (unless e Record (unless s Size (unless m Record (unless l Record (unless f Record (Ok tt)))))) next
    ≡ unless e Record (unless s Size (unless (m && l && f) Record next))
gathered false s m l f next = refl
gathered true false m l f next = refl
gathered true true false l f next = refl
gathered true true true false f next = refl
gathered true true true true false next = refl
gathered true true true true true next = refl

then_done : (o : Outcome) → and_then o (Ok tt) ≡ o
then_done (Ok _) = refl
then_done (Err f) = refl

-- ---- the tests of a record

pub record Laid (r : List ℕ) : Type 0 where
  pub mark : mark_in r ≡ 0
  pub long : length r ≡ record_length (size_in r)
  pub filled : (i : ℕ) → i < length (fill_in r) → get_or (fill_in r) i 0 ≡ 0

pub places_bits : (r : List ℕ) → All Bit (places_in r)
unfolding places_in
places_bits r = all_take Bit (2 * size_in r) (drop 8 (bits_of r)) (all_drop Bit 8 (bits_of r) (bits_of_below r))

pub places_long : (r : List ℕ) → Laid r → length (places_in r) ≡ 2 * size_in r
unfolding places_in
places_long r h =
    let all = length_bits_of r in
    let after = length-drop 8 (bits_of r) in
    let long = h.long in
    length-take-le (2 * size_in r) (drop 8 (bits_of r)) (omega arith)

module _ (r : List ℕ) where
  abbrev some : Bool
  some = ltb 0 (length r)

  abbrev laid : Bool
  laid = eqb (mark_in r) 0 && eqb (length r) (record_length (size_in r)) && every (length (fill_in r)) (λ i. eqb (get_or (fill_in r) i 0) 0)

  laid_means : (laid ≡ true) ↔ Laid r
  laid_means =
      let fill_means = every_means (length (fill_in r)) (λ i l. equal_means (get_or (fill_in r) i 0) 0) in
      Iff.trans (and_means (and_means (equal_means (mark_in r) 0) (equal_means (length r) (record_length (size_in r)))) fill_means) (
        λ ((m, l), f). record { mark = m; long = l; filled = f },
        λ h. ((h.mark, h.long), h.filled),
      )

  -- what comes after the test of the size, and after all tests but those of the places
  abbrev after_size : Outcome → Outcome
  after_size next = unless (sized (size_in r)) Size (unless laid Record next)

  layout_after : (next : Outcome) → and_then (layout_check r) next ≡ unless some Record (after_size next)
  unfolding layout_check
  layout_after next =
      gathered some (sized (size_in r)) (eqb (mark_in r) 0) (eqb (length r) (record_length (size_in r)))
      (every (length (fill_in r)) (λ i. eqb (get_or (fill_in r) i 0) 0)) next

  after_passed : {Q : Type 0} (next a : Outcome) → Other Record a → Other Size a → (Laid r → (next ≡ a) ↔ Q)
      → (and_then (layout_check r) next ≡ a) ↔ (Sized (size_in r) × Laid r × Q)
  after_passed next a g h e =
      let third = passed laid Record next a laid_means g e in
      let second = passed (sized (size_in r)) Size (unless laid Record next) a (sized_means (size_in r)) h (λ s. third) in
      rw (layout_after next) (Iff.trans (passed some Record (after_size next) a (less_means 0 (length r)) g (λ k. second)) (
        λ (k, (s, (l, q))). (s, l, q),
        λ (s, l, q). (let long = l.long in omega arith, (s, (l, q))),
      ))

  pub layout_done : (layout_check r ≡ Ok tt) ↔ (Sized (size_in r) × Laid r)
  layout_done = Iff.trans (rw then_done at (after_passed (Ok tt) (Ok tt) tt tt (λ h. Iff.rfl))) (λ (s, l, e). (s, l), λ (s, l). (s, l, refl))

module _ (r q : List ℕ) where
  abbrev fits : Bool
  fits = eqb (length q) (2 * size_in r)

  abbrev balanced : Bool
  balanced = every (2 * size_in r) (balance_fits (size_in r) (places_in r))

  fits_means : (fits ≡ true) ↔ (length q ≡ 2 * size_in r)
  fits_means = equal_means (length q) (2 * size_in r)

  balanced_means : Laid r → (balanced ≡ true) ↔ Feasible (size_in r) (places_in r)
  balanced_means h =
      let n = size_in r in
      let p = places_in r in
      let long = places_long r h in
      let places : every (length p) (place_fits n p) ≡ true =
      every_all (length p) (place_fits n p) (λ i l. (le_means (get_or p i 0) 1).1 (all_at Bit p (places_bits r) i l)) in
      let shape : (Passes patterns n p) ↔ (every (length p) (balance_fits n p) ≡ true) =
      (λ t. t.shape, λ e. record { long = long; entries = places; shape = e }) in
      Iff.trans (rw long at (Iff.symm shape)) (patterns_tested n p)

  places_only : (P : ℕ → Type 0) → P 2 → P 4 → Refuses P (places_check r q)
  unfolding places_check
  places_only P g h = refuses_unless P fits Length (unless balanced Shape (Ok tt)) g (refuses_unless P balanced Shape (Ok tt) h tt)

  tests : read_check r q ≡ unless (some r) Record (after_size r (places_check r q))
  unfolding read_check
  tests = layout_after r (places_check r q)

  -- refusal 10 after the test of the size
  laid_refused : (after_size r (places_check r q) ≡ Err Record) ↔ (Sized (size_in r) × (Laid r → ⊥))
  laid_refused =
      let later : Other Record (places_check r q) = places_only (λ i. i ≡ 10 → ⊥) (λ e. omega arith) (λ e. omega arith) in
      passed (sized (size_in r)) Size (unless (laid r) Record (places_check r q)) (Err Record) (sized_means (size_in r)) (λ e. omega arith)
      (λ s. failed (laid r) Record (places_check r q) (laid_means r) later)

  pub read_record : (read_check r q ≡ Err Record) ↔ ((length r ≡ 0) ⊎ (Sized (size_in r) × (Laid r → ⊥)))
  read_record =
      rw tests (Iff.trans (failed_twice (some r) Record (after_size r (places_check r q)) (less_means 0 (length r))) (
        λ c. elim c [ inl g ↦ inl (omega arith) | inr (k, e) ↦ inr (laid_refused.0 e) ],
        λ c. elim c [
          | inl z ↦ inl (λ k. omega arith)
          | inr l ↦ elim (dec_lt 0 (length r)) [ yes k ↦ inr (k, laid_refused.1 l) | no g ↦ inl g ]
        ],
      ))

  pub read_size : (read_check r q ≡ Err Size) ↔ ((0 < length r) × (Sized (size_in r) → ⊥))
  read_size =
      let P : ℕ → Type 0 = λ i. i ≡ 1 → ⊥ in
      let later : Other Size (unless (laid r) Record (places_check r q)) =
      refuses_unless P (laid r) Record (places_check r q) (λ e. omega arith) (places_only P (λ e. omega arith) (λ e. omega arith)) in
      rw tests (passed (some r) Record (after_size r (places_check r q)) (Err Size) (less_means 0 (length r)) (λ e. omega arith)
      (λ k. failed (sized (size_in r)) Size (unless (laid r) Record (places_check r q)) (sized_means (size_in r)) later))

  -- what the tests of the places answer, once all before them have passed
  places_after : {Q : Type 0} (a : Outcome) → Other Record a → Other Size a → (Laid r → (places_check r q ≡ a) ↔ Q)
      → (read_check r q ≡ a) ↔ (Sized (size_in r) × Laid r × Q)
  unfolding read_check
  places_after = after_passed r (places_check r q)

  -- and the last of them, once there is room
  balance_after : {Q : Type 0} (a : Outcome) → Other Record a → Other Size a → Other Length a → (Laid r → (unless balanced Shape (Ok tt) ≡ a) ↔ Q)
      → (read_check r q ≡ a) ↔ (Sized (size_in r) × Laid r × (length q ≡ 2 * size_in r) × Q)
  unfolding places_check
  balance_after a f g h e =
      Iff.trans (places_after a f g (λ l. passed fits Length (unless balanced Shape (Ok tt)) a fits_means h (λ k. e l))) (
        λ (s, l, (k, x)). (s, l, k, x),
        λ (s, l, k, x). (s, l, (k, x)),
      )

  pub read_length : (read_check r q ≡ Err Length) ↔ (Sized (size_in r) × Laid r × (length q ≡ 2 * size_in r → ⊥))
  unfolding places_check
  read_length =
      let later : Other Length (unless balanced Shape (Ok tt)) =
      refuses_unless (λ i. i ≡ 2 → ⊥) balanced Shape (Ok tt) (λ e. omega arith) tt in
      places_after (Err Length) (λ e. omega arith) (λ e. omega arith)
      (λ h. failed fits Length (unless balanced Shape (Ok tt)) fits_means later)

  pub read_shape : (read_check r q ≡ Err Shape)
      ↔ (Sized (size_in r) × Laid r × (length q ≡ 2 * size_in r) × (Feasible (size_in r) (places_in r) → ⊥))
  read_shape =
      balance_after (Err Shape) (λ e. omega arith) (λ e. omega arith) (λ e. omega arith)
      (λ h. failed balanced Shape (Ok tt) (balanced_means h) tt)

  pub read_passes : (read_check r q ≡ Ok tt) ↔ (Sized (size_in r) × Laid r × (length q ≡ 2 * size_in r) × Feasible (size_in r) (places_in r))
  read_passes =
      Iff.trans (balance_after (Ok tt) tt tt tt (λ h. passed balanced Shape (Ok tt) (Ok tt) (balanced_means h) tt (λ k. Iff.rfl))) (
        λ (s, l, e, (f, d)). (s, l, e, f),
        λ (s, l, e, f). (s, l, e, (f, refl)),
      )

  pub read_others : (f : Refusal) → read_check r q ≡ Err f
      → (refusal_number f ≡ 1) ⊎ (refusal_number f ≡ 2) ⊎ (refusal_number f ≡ 4) ⊎ (refusal_number f ≡ 10)
  read_others f e =
      let P : ℕ → Type 0 = λ i. (i ≡ 1) ⊎ (i ≡ 2) ⊎ (i ≡ 4) ⊎ (i ≡ 10) in
      let last : P 10 = inr (inr (inr refl)) in
      let places : Refuses P (places_check r q) = places_only P (inr (inl refl)) (inr (inr (inl refl))) in
      let layout = refuses_unless P (laid r) Record (places_check r q) last places in
      let size = refuses_unless P (sized (size_in r)) Size (unless (laid r) Record (places_check r q)) (inl refl) layout in
      subst (Refuses P) (sym tests ∙ e) (refuses_unless P (some r) Record (after_size r (places_check r q)) last size)
