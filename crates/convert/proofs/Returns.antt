-- A shape written in the other form and back again is the same, as users of the calls see it.
--     pattern_returns         to_pattern after to_permutation gives back the pattern
--     permutation_returns     to_permutation after to_pattern gives back the tree permutation
-- Assumes nothing.
use mathlib.Core.Path.{◌≡◌}
use mathlib.Core.List.{List}
use Prim.Native.Nat.{ℕ, ◌*◌}
use lib.ListN.{length}
use Rattle.shape.specs.Form.{patterns, permutations}
use Rattle.shape.specs.Calls.{conversion_check, conversion_end}
use Rattle.std.specs.Prelude.{Ok}
use Rattle.shape.proofs.Patterns.{patterns_faithful}
use Rattle.shape.proofs.Permutations.{permutations_faithful}
use Rattle.shape.proofs.Tests.{patterns_tested, permutations_tested}
use Rattle.shape.proofs.Conversions.{conversion_back}

-- p is converted into q, and that into p', which may hold anything
module _ (n : ℕ) (p q p' : List ℕ) where
  pub pattern_returns : conversion_check patterns permutations.length_of n p q ≡ Ok tt → length p' ≡ 2 * n
      → conversion_end permutations patterns n (conversion_end patterns permutations n p q) p' ≡ p
  pattern_returns e =
      conversion_back patterns permutations n p q e permutations_faithful patterns_faithful patterns_tested permutations_tested p'

  pub permutation_returns : conversion_check permutations patterns.length_of n p q ≡ Ok tt → length p' ≡ n
      → conversion_end patterns permutations n (conversion_end permutations patterns n p q) p' ≡ p
  permutation_returns e =
      conversion_back permutations patterns n p q e patterns_faithful permutations_faithful permutations_tested patterns_tested p'
