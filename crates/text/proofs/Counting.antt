-- Laws of decimals that are counted up, digit by digit from the last on, in the words of the source.
--     Begins                  a text is the decimals of a number, or there is none and the number is 0
--     Left                    with a text and zeros behind it still to be counted up, the number above comes out
--     Carried                 the digits from i on were nines and are zeros now: those before i are still to be counted up
--     carried_start, carried_more      so it is at the start, and behind a digit that was a nine
--     carried_up, carried_over         another digit is raised, and that is all; or all were nines, and there is a digit more
-- These four are the set counts.
-- Assumes nothing.
use mathlib.Core.Path.{◌≡◌, refl, sym, ap, ap₂, ◌∙◌}
use mathlib.Core.List.{List, [], ◌∷◌, ◌++◌, append_assoc, append-nil}
use Prim.Native.Nat.{ℕ, suc, ◌+◌, ◌-◌, ◌/◌, ◌%◌, ◌≤◌, ◌<◌}
use native.Mathlib.Nat.{sub_self}
use native.Mathlib.Numerals.{add-one}
use native.Mathlib.Omega.{arith}
use native.Mathlib.Decide.{dec_lt}
use lib.ListN.{length, get_or, set, take, replicate, length-append, length-set, replicate-append-replicate}
use lib.Seq.{take-append_seam, get_or-append_seam, take-suc, take-suc-set, take-set-le, take-set-lt, set_at, length-take-le}
use Rattle.text.specs.Text.{decimal}
use Rattle.text.proofs.Decimals.{decimal_digit, decimal_next}
use Rattle.text.proofs.Digits.{decimal_more, decimal_some}

-- ---- the last digit

snoc_parts : (s t : List ℕ) (x y : ℕ) → s ++ (x ∷ []) ≡ t ++ (y ∷ []) → (s ≡ t) × (x ≡ y)
snoc_parts s t x y e =
    let long : length s ≡ length t = omega (arith, ap length e, length-append s (x ∷ []), length-append t (y ∷ [])) in (
      sym (take-append_seam s (x ∷ [])) ∙ ap (λ (k : ℕ). take k (s ++ (x ∷ []))) long ∙ ap (take (length t)) e ∙ take-append_seam t (y ∷ []),
      sym (get_or-append_seam s x [] 0) ∙ ap (λ (k : ℕ). get_or (s ++ (x ∷ [])) k 0) long ∙ ap (λ (l : List ℕ). get_or l (length t) 0) e
          ∙ get_or-append_seam t y [] 0,
    )

abbrev Begins : List ℕ → ℕ → Type 0
Begins s m = (1 ≤ length s → s ≡ decimal m) × (length s ≡ 0 → m ≡ 0)

module _ (s : List ℕ) (x m : ℕ) (e : s ++ (x ∷ []) ≡ decimal m) where
  -- a number below 10 is its last digit
  only : m < 10 → (s ≡ []) × (x ≡ 48 + m)
  only small = snoc_parts s [] x (48 + m) (e ∙ decimal_digit m small)

  others : 10 ≤ m → (s ≡ decimal (m / 10)) × (x ≡ 48 + m % 10)
  others large = snoc_parts s (decimal (m / 10)) x (48 + m % 10) (e ∙ decimal_more m large)

  raised : x < 57 → s ++ ((x + 1) ∷ []) ≡ decimal (m + 1)
  raised below =
      elim (dec_lt m 10) [
        | yes small ↦
            let (none, digit) = only small in
            rw (none, digit) (ap (λ (y : ℕ). y ∷ []) (omega arith) ∙ sym (decimal_digit (m + 1) (omega arith)))
        | no large ↦
            let (same, digit) = others (omega arith) in
            rw (same, digit)
            (ap (λ (y : ℕ). decimal (m / 10) ++ (y ∷ [])) (omega arith)
            ∙ sym (decimal_next (m / 10) (m % 10 + 1) (omega arith) (omega arith)) ∙ ap decimal (omega arith))
      ]

  begins : Begins s (m / 10)
  begins =
      elim (dec_lt m 10) [
        | yes small ↦ (λ some. absurd (omega (arith, ap length (only small).0)), λ none. omega arith)
        | no large ↦
            let (same, digit) = others (omega arith) in
            (λ some. same, λ none. absurd (omega (arith, ap length same, decimal_some (m / 10))))
      ]

  over : 57 ≤ x → decimal (m / 10 + 1) ++ (48 ∷ []) ≡ decimal (m + 1)
  over nine =
      let digit : x ≡ 48 + m % 10 = elim (dec_lt m 10) [ yes small ↦ omega (arith, (only small).1) | no large ↦ (others (omega arith)).1 ] in
      sym (decimal_next (m / 10 + 1) 0 (omega arith) (omega arith)) ∙ ap decimal (omega arith)

-- ---- the digits that are counted up

abbrev noughts : ℕ → List ℕ
noughts n = replicate n 48

-- s and the zeros behind it are what is left of the text of k
pub record Left (s : List ℕ) (zeros k : ℕ) : Type 0 where
  pub number : ℕ
  pub front : Begins s number
  pub whole : decimal (number + 1) ++ noughts zeros ≡ decimal (k + 1)

pub record Carried (d₀ : List ℕ) (width : ℕ) (d : List ℕ) (i : ℕ) : Type 0 where
  pub within : i ≤ width
  pub same : length d ≡ length d₀
  pub zeros : take width d ≡ take i d ++ noughts (width - i)
  pub left : (k : ℕ) → take width d₀ ≡ decimal k → Left (take i d) (width - i) k

pub carried_start : (d : List ℕ) (width : ℕ) → Carried d width d width
carried_start d width =
    record {
      within = omega arith;
      same = refl;
      zeros = rw sub_self (sym (append-nil (take width d)));
      left = λ k e. record {
        number = k;
        front = (λ some. e, λ none. absurd (omega (arith, ap length e, decimal_some k)));
        whole = rw sub_self (append-nil (decimal (k + 1)));
      };
    }

module _ (d₀ : List ℕ) (width : ℕ) (d : List ℕ) (i : ℕ) (c : Carried d₀ width d i) (room : width < length d₀) where
  module _ (low : 0 < i) where
    abbrev j : ℕ
    j = i - 1

    abbrev x : ℕ
    x = get_or d j 0

    abbrev behind : List ℕ
    behind = noughts (width - i)

    on : j < length d
    on = omega (arith, c.within, c.same)

    here : take i d ≡ take j d ++ (x ∷ [])
    here =
        let next : suc j ≡ i = omega arith in
        ap (λ (n : ℕ). take n d) (sym next) ∙ take-suc d j 0 on

    stored : (y : ℕ) → take width (set d j y) ≡ (take j d ++ (y ∷ [])) ++ behind
    stored y =
        take-set-lt width d j y (omega (arith, c.within))
        ∙ ap (λ (l : List ℕ). set l j y) (c.zeros ∙ ap (λ (l : List ℕ). l ++ behind) here ∙ append_assoc (take j d) (x ∷ []) behind)
        ∙ set_at (take j d) x behind y j (length-take-le j d (omega (arith, on))) ∙ sym (append_assoc (take j d) (y ∷ []) behind)

    spells : (k : ℕ) (e : take width d₀ ≡ decimal k) → take j d ++ (x ∷ []) ≡ decimal (c.left k e).number
    spells k e = sym here ∙ (c.left k e).front.0 (omega (arith, length-take-le i d (omega (arith, on))))

    pub carried_up : x < 57 → (k : ℕ) → take width d₀ ≡ decimal k → take width (set d j (x + 1)) ≡ decimal (k + 1)
    carried_up below k e =
        stored (x + 1) ∙ ap (λ (l : List ℕ). l ++ behind) (raised (take j d) x (c.left k e).number (spells k e) below) ∙ (c.left k e).whole

    pub carried_more : 57 ≤ x → Carried d₀ width (set d j 48) j
    carried_more nine =
        let more : width - j ≡ suc (width - i) = omega (arith, c.within) in
        let kept : take j (set d j 48) ≡ take j d = take-set-le j d j 48 (omega arith) in
        record {
          within = omega (arith, c.within);
          same = length-set d j 48 ∙ c.same;
          zeros = stored 48 ∙ append_assoc (take j d) (48 ∷ []) behind ∙ sym (ap₂ {C = List ℕ} (λ l n. l ++ noughts n) kept more);
          left = λ k e.
              let m = (c.left k e).number in
              record {
                number = m / 10;
                front = rw kept (begins (take j d) x m (spells k e));
                whole =
                    ap (λ (n : ℕ). decimal (m / 10 + 1) ++ noughts n) more ∙ sym (append_assoc (decimal (m / 10 + 1)) (48 ∷ []) behind)
                    ∙ ap (λ (l : List ℕ). l ++ behind) (over (take j d) x m (spells k e) nine) ∙ (c.left k e).whole;
              };
        }

  pub carried_over : i ≤ 0 → (k : ℕ) → take width d₀ ≡ decimal k → take (width + 1) (set (set d width 48) 0 49) ≡ decimal (k + 1)
  carried_over none k e =
      let start : i ≡ 0 = omega arith in
      let all : width - i ≡ width = omega arith in
      let nothing : (c.left k e).number ≡ 0 = (c.left k e).front.1 (ap (λ (n : ℕ). length (take n d)) start) in
      let filled : take width d ≡ noughts width = c.zeros ∙ ap₂ {C = List ℕ} (λ n z. take n d ++ noughts z) start all in
      let longer : noughts width ++ (48 ∷ []) ≡ 48 ∷ noughts width =
      replicate-append-replicate width 1 48 ∙ ap (λ (n : ℕ). noughts n) (add-one width) in
      ap (λ (n : ℕ). take n (set (set d width 48) 0 49)) (add-one width) ∙ take-set-lt (suc width) (set d width 48) 0 49 (omega arith)
      ∙ ap (λ (l : List ℕ). set l 0 49) (take-suc-set d width 48 (omega (arith, c.same)) ∙ ap (λ (l : List ℕ). l ++ (48 ∷ [])) filled ∙ longer)
      ∙ ap (λ (l : List ℕ). l ++ noughts width) (sym (decimal_digit 1 (omega arith)))
      ∙ sym (ap₂ {C = List ℕ} (λ m z. decimal (m + 1) ++ noughts z) nothing all) ∙ (c.left k e).whole

pub ruleset counts = (carried_start, carried_up, carried_more, carried_over)
