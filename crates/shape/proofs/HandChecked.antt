-- Lines 1 to 12 of document 01 hold: one test of a line that antt computes, and what a passed test tells.
--     lines_hold
-- Assumes nothing.
use mathlib.Core.Path.{◌≡◌, refl, ap₂}
use mathlib.Core.Bool.{Bool, true, false, ◌&&◌}
use mathlib.Core.List.{List, [], ◌∷◌, map}
use Prim.Native.Nat.{ℕ}
use lib.Dec.{T, eqb, eqb→eq}
use Rattle.catalan.specs.Count.{C, binom, binom_before, ways, sum}
use Rattle.shape.specs.Tree.{Tree, size, pattern, permutation, permutation_from}
use Rattle.shape.specs.Form.{count, forest, pattern_tree}
use Rattle.shape.specs.Number.{local_number, local_places, local_pattern, fewer_left, natural_number, first_difference, change}
use Rattle.shape.specs.Lines.{Line, lines, Holds}
use Rattle.shape.specs.Every.{All}

-- every test of a list passes, so each does
abbrev every : List Bool → Bool
every [] = true
every (b ∷ bs) = b && every bs

each : (bs : List Bool) → T (every bs) → All T bs
each [] t = tt
each (true ∷ bs) t = (tt, each bs t)
each (false ∷ bs) t = absurd t

same : List ℕ → List ℕ → Bool
same [] [] = true
same [] (y ∷ q) = false
same (x ∷ p) [] = false
same (x ∷ p) (y ∷ q) = every (eqb x y ∷ same p q ∷ [])

same_equal : (p q : List ℕ) → T (same p q) → p ≡ q
unfolding same
same_equal [] [] t = refl
same_equal [] (y ∷ q) t = absurd t
same_equal (x ∷ p) [] t = absurd t
same_equal (x ∷ p) (y ∷ q) t =
    let passed = each (eqb x y ∷ same p q ∷ []) t in
    ap₂ ◌∷◌ (eqb→eq x y passed.0) (same_equal p q passed.1.0)

-- a line's columns, at the tree that its pattern is read as
tests : Line → Tree → List Bool
tests l t =
    eqb (size t) l.nodes
    ∷ same (pattern t) l.places
    ∷ same (permutation t) l.entries
    ∷ eqb (local_number (pattern t)) l.local_no
    ∷ eqb (natural_number t) l.natural_no
    ∷ eqb (change (size t) (local_number (pattern t))) l.change_no
    ∷ []

-- what is unfolded with it is what it computes by
test : Line → Bool
unfolding tests same pattern_tree forest size pattern permutation permutation_from local_number natural_number change count
test l = every (tests l (pattern_tree l.places))

test_holds : (l : Line) → T (test l) → Holds l
unfolding test tests
test_holds l h =
    let t = pattern_tree l.places in
    let passed = each (tests l t) h in
    record {
      tree = t;
      has_nodes = eqb→eq _ _ passed.0;
      has_places = same_equal _ _ passed.1.0;
      has_entries = same_equal _ _ passed.1.1.0;
      has_local = eqb→eq _ _ passed.1.1.1.0;
      has_natural = eqb→eq _ _ passed.1.1.1.1.0;
      has_change = eqb→eq _ _ passed.1.1.1.1.1.0;
    }

tested : (ls : List Line) → All T (map test ls) → All Holds ls
tested [] h = tt
tested (l ∷ ls) h = (test_holds l h.0, tested ls h.1)

computed : T (every (map test lines))
unfolding lines test local_pattern local_places first_difference fewer_left C ways binom binom_before sum
computed = tt

pub lines_hold : All Holds lines
lines_hold = tested lines (each (map test lines) computed)
