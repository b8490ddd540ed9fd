-- The number of a decimal text.
use Rattle.std.proofs.Common.{◌≡◌, ℕ, ◌<◌, ◌≤◌, ◌^◌, Bool, true, false, cond, leb, ◌&&◌, List, Some, None, Result, Ok, Err, refl, sym, ap, subst, ◌∙◌, arith, inl, inr}
use Rattle.std.specs.Prelude.{decimal}
use Rattle.std.specs.Bool.{then_some}
use Rattle.std.specs.Str.Parse.{digits_value, ParsesUnsigned}
use Rattle.std.proofs.lemmas.Bool.{cases_Bool, and_parts, leb-true}
use Rattle.std.proofs.lemmas.Slice.Eq.{bytes_eq-Decides}
use Rattle.std.proofs.lemmas.Fmt.{parse-decimal, decimal_is_IsNumeral}
use Rattle.cost_words.specs.Grammar.{is, number_within}

-- the test that the text is that of the number
abbrev is_number : ℕ → ℕ → List ℕ → ℕ → Bool
is_number low high text n = (is text (decimal n) && leb low n) && leb n high

-- what stands in a test that is met
record Meets (high : ℕ) (text : List ℕ) (n : ℕ) : Type 0 where
  same : text ≡ decimal n
  below : n ≤ high

meets : (low high : ℕ) (text : List ℕ) (n : ℕ) → is_number low high text n ≡ true → Meets high text n
meets low high text n h =
    let parts = and_parts (is text (decimal n) && leb low n) (leb n high) h in
    let front = and_parts (is text (decimal n)) (leb low n) parts.0 in
    record { same = (bytes_eq-Decides text (decimal n)).0 front.0; below = leb-true n high parts.1 }

-- a text that meets the test is read as the number
parsed : {E : Type 0} (low high : ℕ) (text : List ℕ) (r : Result ℕ E) (n : ℕ) → high < 2 ^ 64 → ParsesUnsigned 64 10 text r → is_number low high text n ≡ true → r ≡ Ok n
parsed low high text r n small read h =
    let met = meets low high text n h in
    let fits : n < 2 ^ 64 = omega (arith, met.below) in
    parse-decimal 64 n text r fits fits met.same read

pub none_within : {E : Type 0} (low high : ℕ) (text : List ℕ) (e : E) → high < 2 ^ 64 → ParsesUnsigned {E = E} 64 10 text (Err e) → None ≡ number_within low high text
none_within {E} low high text e small read =
    elim (cases_Bool (is_number low high text (digits_value 10 text))) [
      | inl h ↦ let r : Result ℕ E = Err e in let same : r ≡ Ok (digits_value 10 text) = parsed low high text r (digits_value 10 text) small read h in absurd cc
      | inr h ↦ rw h refl
    ]

-- the test at the number that was read, and at the value of the digits
same_number : (low high : ℕ) (text : List ℕ) (n : ℕ) → n < 2 ^ 64 → is_number low high text n ≡ true → digits_value 10 text ≡ n
same_number low high text n fits h =
    let met = meets low high text n h in
    ap (digits_value 10) met.same ∙ (decimal_is_IsNumeral n fits).1

pub some_within : (E : Type 0) (low high : ℕ) (text : List ℕ) (n : ℕ) → high < 2 ^ 64 → ParsesUnsigned {E = E} 64 10 text (Ok n)
    → cond (is_number low high text n) (Some n) None ≡ number_within low high text
some_within E low high text n small read =
    let r : Result ℕ E = Ok n in
    let fits : n < 2 ^ 64 = omega (arith, read.0.1, read.1) in
    elim (cases_Bool (is_number low high text n)) [
      | inl h ↦ ap (λ (m : ℕ). cond (is_number low high text m) (Some m) None) (sym (same_number low high text n fits h))
      | inr h ↦ elim (cases_Bool (is_number low high text (digits_value 10 text))) [
        | inl met ↦
            let same : r ≡ Ok (digits_value 10 text) = parsed low high text r (digits_value 10 text) small read met in
            let again : n ≡ digits_value 10 text = cc in
            absurd (let yes : is_number low high text n ≡ true = subst (λ (m : ℕ). is_number low high text m ≡ true) (sym again) met in cc)
        | inr unmet ↦ rw (h, unmet) refl
      ]
    ]

pub then_some_is : (b : Bool) (n : ℕ) → then_some b n ≡ cond b (Some n) None
then_some_is true n = refl
then_some_is false n = refl
