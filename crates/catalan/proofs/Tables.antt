-- Laws of what is tabulated.
--     length_tabulate    a table of n entries has n entries
--     tabulate_at        the entry at i is f i
--     table_long         the table has 37 entries
--     table_at_lem       its entry at k is C(k)
--     table_rule         (k+2)·C(k+1) = (4k+2)·C(k) holds between neighbours of the table
--     table_within       within the table, `table_at` is C
--     table_entry        within the table, `table_at` is the table's entry
--     table_past         past the table, `table_at` is 0
--     held               the numbers that the code holds are C(0) .. C(36): antt computes and compares them, once for the whole table
--     table_held         and its entries are those of `table_at`
--     entries            what the proof of `catalan` uses
-- Assumes nothing.
use mathlib.Core.Path.{◌≡◌, refl, sym, ap, ◌∙◌}
use mathlib.Core.List.{List}
use Prim.Native.Nat.{ℕ, zero, suc, ◌+◌, ◌*◌, ◌≤◌, ◌<◌}
use native.Mathlib.Nat.{le_of_suc-le-suc}
use native.Mathlib.Omega.{arith}
use lib.ListN.{length, get_or}
use borrow.Author.Tests.{le-leb, lt-leb}
use Rattle.catalan.specs.Count.{C}
use Rattle.catalan.specs.declared.TheConstants.{CATALAN}
use Rattle.catalan.specs.Table.{tabulate, catalans, table_at}
use Rattle.catalan.proofs.Counting.{C_rule}

pub length_tabulate : (n : ℕ) (f : ℕ → ℕ) → length (tabulate n f) ≡ n
unfolding tabulate
length_tabulate zero f = refl
length_tabulate (suc n) f = ap suc (length_tabulate n (λ j. f (suc j)))

pub tabulate_at : (n : ℕ) (f : ℕ → ℕ) (i : ℕ) → i < n → get_or (tabulate n f) i 0 ≡ f i
unfolding tabulate
tabulate_at zero f i h = absurd (omega arith)
tabulate_at (suc n) f zero h = refl
tabulate_at (suc n) f (suc i) h = tabulate_at n (λ j. f (suc j)) i (le_of_suc-le-suc h)

pub table_long : (table : List ℕ) → table ≡ catalans → length table ≡ 37
table_long table e = rw e (unfold catalans in length_tabulate 37 C)

pub table_at_lem : (table : List ℕ) (k : ℕ) → table ≡ catalans → k ≤ 36 → get_or table k 0 ≡ C k
table_at_lem table k e h = rw e (unfold catalans in tabulate_at 37 C k (omega arith))

pub table_rule : (k : ℕ) → k < 36 → (k + 2) * get_or catalans (suc k) 0 ≡ (4 * k + 2) * get_or catalans k 0
table_rule k h = rw (table_at_lem catalans (suc k) refl h, table_at_lem catalans k refl (omega arith)) (C_rule k)

pub table_within : (n : ℕ) → n ≤ 36 → table_at n ≡ C n
unfolding table_at
table_within n h = rw (le-leb n 36 h)

pub table_entry : (n : ℕ) (table : List ℕ) → table ≡ catalans → n ≤ 36 → get_or table n 0 ≡ table_at n
table_entry n table e h = table_at_lem table n e h ∙ sym (table_within n h)

pub table_past : (n : ℕ) → 36 < n → 0 ≡ table_at n
unfolding table_at
table_past n h = rw (lt-leb n 36 h)

pub held : CATALAN ≡ catalans
unfolding catalans tabulate C
held = refl

pub table_held : (n : ℕ) → n ≤ 36 → get_or CATALAN n 0 ≡ table_at n
table_held n h = table_entry n CATALAN held h

pub ruleset entries = (table_held, table_past)
