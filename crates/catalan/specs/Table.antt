-- What the bench keeps of the numbers: a table and a row.
--     tabulate n f    f 0, .., f (n - 1)
--     catalans        C(0) .. C(36)
--     table_at n      C(n) within the table; 0, which no Catalan number is, past its end
--     row_of b        the ways to finish with b zeros and 0 to 35 ones left to place
-- Assumes nothing.
use Rattle.std.specs.Prelude.{ℕ, zero, suc, cond, List, [], ◌∷◌, leb}
use Rattle.catalan.specs.Count.{C, ways}

unfoldable pub tabulate : ℕ → (ℕ → ℕ) → List ℕ
tabulate zero f = []
tabulate (suc n) f = f 0 ∷ tabulate n (λ j. f (suc j))

unfoldable pub catalans : List ℕ
catalans = tabulate 37 C

unfoldable pub table_at : ℕ → ℕ
table_at n = cond (leb n 36) (C n) 0

unfoldable pub row_of : ℕ → List ℕ
row_of b = tabulate 36 (λ a. ways a b)
