-- What is made of one number more.
use Rattle.std.specs.Prelude.{◌≡◌, ℕ, ◌+◌, ℤ, List, [], ◌∷◌, ◌++◌, All, FitsSigned}
use Rattle.std.specs.Int.{w128}
use Rattle.std.specs.List.{range_with_len}
use Rattle.std.proofs.Common.{arith, refl, sym, ap, ◌∙◌, subst}
use Rattle.std.proofs.lemmas.List.{map-id}
use Rattle.std.proofs.lemmas.List.Elements.{All-push}
use Rattle.std.proofs.lemmas.List.FromFn.{map-range_with_len_more}
use Rattle.q128.specs.Fraction.{Fraction, whole}
use Rattle.lin_rows.specs.Linear.{Linear, coefficient_of}
use Rattle.lp_lines.specs.Numbers.{IsNumber}
use Rattle.lp_lines.specs.inside.First.{coefficients_to}
use Rattle.lp_lines.proofs.Fitting.{whole_number}

pub range_more : (a n : ℕ) → range_with_len a (n + 1) ≡ range_with_len a n ++ (a + n) ∷ []
range_more a n = sym (map-id (range_with_len a (n + 1))) ∙ map-range_with_len_more (λ (x : ℕ). x) a n (a + n) refl ∙ ap (λ (xs : List ℕ). xs ++ (a + n) ∷ []) (map-id (range_with_len a n))

pub row_more : (l : Linear) (n : ℕ) (made new : List Fraction) (x : Fraction) → made ≡ coefficients_to n l → new ≡ made ++ x ∷ [] → x ≡ whole (coefficient_of l n) → new ≡ coefficients_to (n + 1) l
row_more l n made new x e g h =
    g ∙ ap (λ (xs : List Fraction). xs ++ x ∷ []) e ∙ ap (λ (z : Fraction). coefficients_to n l ++ z ∷ []) h
    ∙ sym (map-range_with_len_more (λ (v : ℕ). whole (coefficient_of l v)) 0 n n (none n))
  where
    none : (n : ℕ) → 0 + n ≡ n
    none n = omega arith

-- a whole number of 128 bits behind such numbers
pub numbers_more : (made new : List Fraction) (x : Fraction) (z : ℤ) → All IsNumber made → new ≡ made ++ x ∷ [] → x ≡ whole z → FitsSigned w128 z → All IsNumber new
numbers_more made new x z all g h fits = subst (All IsNumber) (sym g) (All-push IsNumber made x all (subst IsNumber (sym h) (whole_number z fits.sfits)))
