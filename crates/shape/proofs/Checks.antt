-- What the checks answer, exactly when: each refusal where its own test fails and no lower one does, and done where none fails.
--     sized_means                        the test of a size passes for 1 to 35
--     Refuses, Other, refuses_unless, differ, passed, failed, passed_last      one test after another: what it means that none, one of them or
--                                        another one has failed
--     room_size, room_length, room_done  refusals 1 and 2 of a list that is only written
--     room_after                         what a check answers after these two, 3 or above
--     checked_size, checked_length, checked_entry, checked_shape       refusals 1 to 4 of a list that is lent to be read
--     checked_passes, checked_done       done: the size is 1 to 35 and the list passes all tests; the size is 1 to 35 and the list is well formed
--     done_sized, done_formed            the same, one way
--     number_size, number_length, number_refused, number_done          refusals 1, 2 and 5 of a number that is asked for
--     step_lower, step_after             a list is read, and more is asked: refusals 1 to 4 are those of reading, and any other answer comes after it
--     successor_lower, successor_last, successor_done                  refusals 1 to 4 as above; of what is well formed, only the last shape
--     predecessor_lower, predecessor_first, predecessor_done           likewise, only the first
-- Assumes nothing.
use mathlib.Core.Path.{◌≡◌, refl, sym, subst}
use mathlib.Core.Logic.Iff
use mathlib.Core.Logic.{◌↔◌}
use mathlib.Core.Bool.{Bool, true, false, false≢true, not-eq-not}
use mathlib.Core.List.{List}
use Prim.Native.Nat.{ℕ, ◌+◌, ◌≤◌, ◌<◌}
use native.Mathlib.Omega.{arith}
use lib.Dec.{ltb, eqb}
use lib.ListN.{length}
use Rattle.catalan.specs.Count.{largest_size}
use Rattle.shape.specs.Form.{Form, every, Passes, Tested}
use Rattle.shape.specs.Numbering.{Numbering, total, WellFormed, Lawful}
use Rattle.shape.specs.Reply.{refusal_number, Outcome}
use Rattle.shape.specs.Check.{unless, and_then, sized, Sized, room_of, room_for, contents, checked, number_check, successor_check, predecessor_check}
use Rattle.shape.specs.declared.Refusal.{Refusal}
use Rattle.shape.specs.declared.Refusal.TheVariants.{Size, Length, Entry, Shape, Number, Last, First}
use Rattle.std.specs.Prelude.{Ok, Err}
use Rattle.shape.proofs.Tests.{le_means, less_means, equal_means, and_means}

pub sized_means : (n : ℕ) → (sized n ≡ true) ↔ Sized n
sized_means n = and_means (le_means 1 n) (le_means n largest_size)

-- ---- one test after another

-- what holds of the refusal's number, where there is one
abbrev pub Refuses : (ℕ → Type 0) → Outcome → Type 0
Refuses P (Ok _) = Unit
Refuses P (Err f) = P (refusal_number f)

-- done, or a refusal other than f
abbrev pub Other : Refusal → Outcome → Type 0
Other f = Refuses (λ m. m ≡ refusal_number f → ⊥)

pub refuses_unless : (P : ℕ → Type 0) (t : Bool) (f : Refusal) (next : Outcome) → P (refusal_number f) → Refuses P next → Refuses P (unless t f next)
refuses_unless P true f next h k = k
refuses_unless P false f next h k = h

refuses_also : {P Q : ℕ → Type 0} (o : Outcome) → ((m : ℕ) → P m → Q m) → Refuses P o → Refuses Q o
refuses_also (Ok _) h k = tt
refuses_also (Err f) h k = h (refusal_number f) k

pub differ : (f : Refusal) (a : Outcome) → Other f a → Err f ≡ a → ⊥
differ f a h e = subst (Other f) (sym e) h refl

-- an answer other than f: the test passes, and what comes next is that answer
pub passed : {P Q : Type 0} (t : Bool) (f : Refusal) (next a : Outcome) → (t ≡ true) ↔ P → Other f a → (P → (next ≡ a) ↔ Q)
    → (unless t f next ≡ a) ↔ (P × Q)
passed true f next a m h e = (λ r. (m.0 refl, (e (m.0 refl)).0 r), λ (k, q). (e k).1 q)
passed false f next a m h e = (λ r. absurd (differ f a h r), λ (k, q). absurd (false≢true (m.1 k)))

-- the answer f, where nothing that comes next gives it: the test fails
pub failed : {P : Type 0} (t : Bool) (f : Refusal) (next : Outcome) → (t ≡ true) ↔ P → Other f next → (unless t f next ≡ Err f) ↔ (P → ⊥)
failed true f next m h = (λ r. absurd (differ f next h (sym r)), λ g. absurd (g (m.0 refl)))
failed false f next m h = (λ r k. false≢true (m.1 k), λ g. refl)

pub passed_last : {P : Type 0} (t : Bool) (f : Refusal) → (t ≡ true) ↔ P → (unless t f (Ok tt) ≡ Ok tt) ↔ P
passed_last t f m = let e = passed t f (Ok tt) (Ok tt) m tt (λ k. Iff.rfl) in (λ r. (e.0 r).0, λ k. e.1 (k, refl))

-- One check after another: an answer of the second, and one of the first.
then_second : {P Q : Type 0} (k : ℕ) (o next a : Outcome) → Refuses (λ m. m < k) o → Refuses (λ m. k ≤ m) a → (o ≡ Ok tt) ↔ P → (next ≡ a) ↔ Q
    → (and_then o next ≡ a) ↔ (P × Q)
then_second k (Ok _) next a l h m e = (λ r. (m.0 refl, e.0 r), λ (d, q). e.1 q)
then_second k (Err f) next a l h m e = (
  λ r. absurd (let more = subst (Refuses (λ i. k ≤ i)) (sym r) h in omega arith),
  λ (d, q). absurd (differ f (Ok tt) tt (m.1 d)),
)

then_first : (o next : Outcome) (f : Refusal) → Other f next → (and_then o next ≡ Err f) ↔ (o ≡ Err f)
then_first (Ok _) next f h = (λ r. absurd (differ f next h (sym r)), λ r. absurd (differ f (Ok tt) tt (sym r)))
then_first (Err g) next f h = Iff.rfl

refuses_then : (P : ℕ → Type 0) (o next : Outcome) → Refuses P o → Refuses P next → Refuses P (and_then o next)
refuses_then P (Ok _) next h k = k
refuses_then P (Err f) next h k = h

-- ---- room for a list, and what it holds

module _ (long : ℕ → ℕ) (n m : ℕ) where
  -- the test of the length
  abbrev fits : Bool
  fits = eqb m (long n)

  fits_means : (fits ≡ true) ↔ (m ≡ long n)
  fits_means = equal_means m (long n)

  pub room_size : (room_of long n m ≡ Err Size) ↔ (Sized n → ⊥)
  unfolding room_of
  room_size =
      failed (sized n) Size (unless fits Length (Ok tt)) (sized_means n) (refuses_unless (λ i. i ≡ 1 → ⊥) fits Length (Ok tt) (λ e. omega arith) tt)

  pub room_length : (room_of long n m ≡ Err Length) ↔ (Sized n × (m ≡ long n → ⊥))
  unfolding room_of
  room_length =
      passed (sized n) Size (unless fits Length (Ok tt)) (Err Length) (sized_means n) (λ e. omega arith)
      (λ s. failed fits Length (Ok tt) fits_means tt)

  pub room_done : (room_of long n m ≡ Ok tt) ↔ (Sized n × (m ≡ long n))
  unfolding room_of
  room_done = passed (sized n) Size (unless fits Length (Ok tt)) (Ok tt) (sized_means n) tt (λ s. passed_last fits Length fits_means)

  -- refusals 1 and 2 only
  room_most : (P : ℕ → Type 0) → P 1 → P 2 → Refuses P (room_of long n m)
  unfolding room_of
  room_most P g h = refuses_unless P (sized n) Size (unless fits Length (Ok tt)) g (refuses_unless P fits Length (Ok tt) h tt)

  -- what comes after the tests of the size and of the length
  pub room_after : {Q : Type 0} (next a : Outcome) → Refuses (λ i. 3 ≤ i) a → (next ≡ a) ↔ Q
      → (and_then (room_of long n m) next ≡ a) ↔ (Sized n × (m ≡ long n) × Q)
  room_after next a h e =
      let lower = room_most (λ i. i < 3) (omega arith) (omega arith) in
      Iff.trans (then_second 3 (room_of long n m) next a lower h room_done e) (
        λ ((s, l), q). (s, l, q),
        λ (s, l, q). ((s, l), q),
      )

module _ (F : Form) (n : ℕ) (p : List ℕ) where
  -- the tests
  abbrev entries : Bool
  entries = every (length p) (F.entry_test n p)

  abbrev shape : Bool
  shape = every (length p) (F.shape_test n p)

  pub checked_entry : (checked F n p ≡ Err Entry) ↔ (Sized n × (length p ≡ F.length_of n) × (every (length p) (F.entry_test n p) ≡ false))
  unfolding checked contents
  checked_entry =
      let other : Other Entry (unless shape Shape (Ok tt)) = refuses_unless (λ m. m ≡ 3 → ⊥) shape Shape (Ok tt) (λ e. omega arith) tt in
      room_after F.length_of n (length p) (contents F n p) (Err Entry) (omega arith)
      (Iff.trans (failed entries Entry (unless shape Shape (Ok tt)) Iff.rfl other) not-eq-not)

  pub checked_passes : (checked F n p ≡ Ok tt) ↔ (Sized n × Passes F n p)
  unfolding checked contents
  checked_passes =
      let tests = passed entries Entry (unless shape Shape (Ok tt)) (Ok tt) Iff.rfl tt (λ e. passed_last shape Shape Iff.rfl) in
      Iff.trans (room_after F.length_of n (length p) (contents F n p) (Ok tt) tt tests) (
        λ (s, l, (e, h)). (s, record { long = l; entries = e; shape = h }),
        λ (s, t). (s, t.long, (t.entries, t.shape)),
      )

  pub done_sized : checked F n p ≡ Ok tt → Sized n
  done_sized e = (checked_passes.0 e).0

  refuses_contents : (P : ℕ → Type 0) → P 3 → P 4 → Refuses P (contents F n p)
  unfolding contents
  refuses_contents P h k = refuses_unless P entries Entry (unless shape Shape (Ok tt)) h (refuses_unless P shape Shape (Ok tt) k tt)

  pub checked_size : (checked F n p ≡ Err Size) ↔ (Sized n → ⊥)
  unfolding checked
  checked_size =
      Iff.trans (then_first (room_for F n p) (contents F n p) Size (refuses_contents (λ m. m ≡ 1 → ⊥) (λ e. omega arith) (λ e. omega arith)))
      (room_size F.length_of n (length p))

  pub checked_length : (checked F n p ≡ Err Length) ↔ (Sized n × (length p ≡ F.length_of n → ⊥))
  unfolding checked
  checked_length =
      Iff.trans (then_first (room_for F n p) (contents F n p) Length (refuses_contents (λ m. m ≡ 2 → ⊥) (λ e. omega arith) (λ e. omega arith)))
      (room_length F.length_of n (length p))

  -- refusals 1 to 4 only
  checked_most : Refuses (λ m. m < 5) (checked F n p)
  unfolding checked
  checked_most =
      let P : ℕ → Type 0 = λ m. m < 5 in
      refuses_then P (room_for F n p) (contents F n p) (room_most F.length_of n (length p) P (omega arith) (omega arith))
      (refuses_contents P (omega arith) (omega arith))

module _ (F : Form) (tested : Tested F) (n : ℕ) (p : List ℕ) where
  pub checked_shape : (checked F n p ≡ Err Shape)
      ↔ (Sized n × (length p ≡ F.length_of n) × (every (length p) (F.entry_test n p) ≡ true) × (F.WellFormed n p → ⊥))
  unfolding checked contents
  checked_shape =
      let last = failed (shape F n p) Shape (Ok tt) Iff.rfl tt in
      let tests = passed (entries F n p) Entry (unless (shape F n p) Shape (Ok tt)) (Err Shape) Iff.rfl (λ e. omega arith) (λ e. last) in
      Iff.trans (room_after F.length_of n (length p) (contents F n p) (Err Shape) (omega arith) tests) (
        λ (s, l, (e, h)). (s, l, e, λ w. h ((tested n p).1 w).shape),
        λ (s, l, e, h). (s, l, (e, λ t. h ((tested n p).0 (record { long = l; entries = e; shape = t })))),
      )

  pub checked_done : (checked F n p ≡ Ok tt) ↔ (Sized n × F.WellFormed n p)
  checked_done = Iff.trans (checked_passes F n p) (Iff.and Iff.rfl (tested n p))

  pub done_formed : checked F n p ≡ Ok tt → F.WellFormed n p
  done_formed e = (checked_done.0 e).1

-- ---- a number that is asked for

module _ (N : Numbering) (k : ℕ) (p : List ℕ) where
  abbrev room : Outcome
  room = room_for N.form N.nodes p

  abbrev asked : Outcome
  asked = unless (ltb k (total N)) Number (Ok tt)

  pub number_refused : (number_check N k p ≡ Err Number) ↔ (Sized N.nodes × (length p ≡ N.form.length_of N.nodes) × (total N ≤ k))
  unfolding number_check
  number_refused =
      room_after N.form.length_of N.nodes (length p) asked (Err Number) (omega arith)
      (Iff.trans (failed (ltb k (total N)) Number (Ok tt) (less_means k (total N)) tt) (λ g. omega arith, λ l m. omega arith))

  pub number_done : (number_check N k p ≡ Ok tt) ↔ (Sized N.nodes × (length p ≡ N.form.length_of N.nodes) × (k < total N))
  unfolding number_check
  number_done = room_after N.form.length_of N.nodes (length p) asked (Ok tt) tt (passed_last (ltb k (total N)) Number (less_means k (total N)))

  pub number_size : (number_check N k p ≡ Err Size) ↔ (Sized N.nodes → ⊥)
  unfolding number_check
  number_size =
      Iff.trans (then_first room asked Size (refuses_unless (λ m. m ≡ 1 → ⊥) (ltb k (total N)) Number (Ok tt) (λ e. omega arith) tt))
      (room_size N.form.length_of N.nodes (length p))

  pub number_length : (number_check N k p ≡ Err Length) ↔ (Sized N.nodes × (length p ≡ N.form.length_of N.nodes → ⊥))
  unfolding number_check
  number_length =
      Iff.trans (then_first room asked Length (refuses_unless (λ m. m ≡ 2 → ⊥) (ltb k (total N)) Number (Ok tt) (λ e. omega arith) tt))
      (room_length N.form.length_of N.nodes (length p))

-- ---- a step

-- A list is read, and then comes next, whose refusals reading does not give.
module _ (N : Numbering) (p : List ℕ) where
  abbrev reading : Outcome
  reading = checked N.form N.nodes p

  module _ (next : Outcome) where
    pub step_lower : Refuses (λ m. 5 ≤ m) next → (g : Refusal) → refusal_number g < 5 → (and_then reading next ≡ Err g) ↔ (reading ≡ Err g)
    step_lower high g l = then_first reading next g (refuses_also {P = λ m. 5 ≤ m} {Q = λ m. m ≡ refusal_number g → ⊥} next (λ m h e. omega arith) high)

    pub step_after : {Q : Type 0} → Tested N.form → (a : Outcome) → Refuses (λ m. 5 ≤ m) a → (next ≡ a) ↔ Q
        → (and_then reading next ≡ a) ↔ (Sized N.nodes × WellFormed N p × Q)
    step_after tested a h e =
        let read = checked_done N.form tested N.nodes p in
        Iff.trans (then_second 5 reading next a (checked_most N.form N.nodes p) h read e) (
          λ ((s, w), q). (s, w, q),
          λ (s, w, q). ((s, w), q),
        )

  -- one test, which decides on a refusal f
  module _ (t : Bool) (f : Refusal) (high : 5 ≤ refusal_number f) where
    abbrev verdict : Outcome
    verdict = unless t f (Ok tt)

    verdict_lower : (g : Refusal) → refusal_number g < 5 → (and_then reading verdict ≡ Err g) ↔ (reading ≡ Err g)
    verdict_lower = step_lower verdict (refuses_unless (λ m. 5 ≤ m) t f (Ok tt) high tt)

    module _ (tested : Tested N.form) {P : Type 0} (means : (t ≡ true) ↔ P) where
      step_refused : (and_then reading verdict ≡ Err f) ↔ (Sized N.nodes × WellFormed N p × (P → ⊥))
      step_refused = step_after verdict tested (Err f) high (failed t f (Ok tt) means tt)

      step_done : (and_then reading verdict ≡ Ok tt) ↔ (Sized N.nodes × WellFormed N p × P)
      step_done = step_after verdict tested (Ok tt) tt (passed_last t f means)

module _ (N : Numbering) (tested : Tested N.form) (p : List ℕ) where
  pub successor_last : Lawful N → (successor_check N p ≡ Err Last) ↔ (Sized N.nodes × WellFormed N p × (N.number p + 1 ≡ total N))
  unfolding successor_check
  successor_last laws =
      Iff.trans (step_refused N p _ Last (omega arith) tested (less_means (N.number p + 1) (total N))) (
        λ (s, w, g). (s, w, omega (arith, laws.number_below p w)),
        λ (s, w, e). (s, w, λ l. omega arith),
      )

  pub successor_done : (successor_check N p ≡ Ok tt) ↔ (Sized N.nodes × WellFormed N p × (N.number p + 1 < total N))
  unfolding successor_check
  successor_done = step_done N p _ Last (omega arith) tested (less_means (N.number p + 1) (total N))

  pub predecessor_first : (predecessor_check N p ≡ Err First) ↔ (Sized N.nodes × WellFormed N p × (N.number p ≡ 0))
  unfolding predecessor_check
  predecessor_first =
      Iff.trans (step_refused N p _ First (omega arith) tested (less_means 0 (N.number p))) (
        λ (s, w, g). (s, w, omega arith),
        λ (s, w, e). (s, w, λ l. omega arith),
      )

  pub predecessor_done : (predecessor_check N p ≡ Ok tt) ↔ (Sized N.nodes × WellFormed N p × (0 < N.number p))
  unfolding predecessor_check
  predecessor_done = step_done N p _ First (omega arith) tested (less_means 0 (N.number p))

module _ (N : Numbering) (p : List ℕ) where
  pub successor_lower : (f : Refusal) → refusal_number f < 5 → (successor_check N p ≡ Err f) ↔ (checked N.form N.nodes p ≡ Err f)
  unfolding successor_check
  successor_lower = verdict_lower N p (ltb (N.number p + 1) (total N)) Last (omega arith)

  pub predecessor_lower : (f : Refusal) → refusal_number f < 5 → (predecessor_check N p ≡ Err f) ↔ (checked N.form N.nodes p ≡ Err f)
  unfolding predecessor_check
  predecessor_lower = verdict_lower N p (ltb 0 (N.number p)) First (omega arith)
