-- Digits taken one by one, each time no farther than the largest number there is, give what all of them give, no farther than that.
-- Assumes nothing.
use Rattle.std.proofs.Common.{◌≡◌, ℕ, ◌+◌, ◌*◌, min, List, [], ◌∷◌, fold, ◌∙◌, arith, rules}
use Rattle.vectors.specs.Line.{place_of}
use Rattle.vectors.proofs.fields.digits.Goals as goal

saturates : (text : List ℕ) (far value : ℕ) → far ≡ min value 18446744073709551615 → fold (λ value letter. min (min (value * 10) 18446744073709551615 + place_of letter) 18446744073709551615) far text ≡ min (fold (λ value letter. value * 10 + place_of letter) value text) 18446744073709551615
saturates [] far value e = e
saturates (letter ∷ text) far value e = saturates text _ _ (omega arith)

pub returns : goal.returns
returns c =
    let e : c.fold.result ≡ fold (λ value letter. min (min (value * 10) 18446744073709551615 + place_of letter) 18446744073709551615) 0 c.args.text.now = search rules in
    let s = saturates c.args.text.now 0 0 (omega arith) in
    e ∙ s
