-- The coefficients of a sum.
use Rattle.std.specs.Prelude.{ℕ, ◌<◌, ◌≤◌, ℤ, pos, length}
use Rattle.std.proofs.Common.{arith, refl, sym, subst, get_or, ⊎_elim}
use Rattle.std.proofs.lemmas.Bool.{cases_lt}
use Rattle.std.proofs.lemmas.List.{get_or_past}
use Rattle.q128.specs.Fraction.{Fraction, whole, IsSame}
use Rattle.lin_rows.specs.Linear.{Linear, coefficient_of}
use Rattle.lin_rows.specs.Combining.{Combination, HasCoefficients}

zero_same : IsSame (whole (pos 0)) (whole (pos 0))
zero_same = refl

pub same_past : (s : Combination) (l : Linear) (n : ℕ) → length s.coefficients ≤ n → length l.coefficients ≤ n → ((v : ℕ) → v < n → IsSame (get_or s.coefficients v (whole (pos 0))) (whole (coefficient_of l v))) → HasCoefficients s l
same_past s l n short low before = record { each = λ v. ⊎_elim (λ lt. before v lt) (λ le. past v le) (cases_lt v n) }
  where
    past : (v : ℕ) → n ≤ v → IsSame (get_or s.coefficients v (whole (pos 0))) (whole (coefficient_of l v))
    past v le =
        subst (λ (y : Fraction). IsSame y (whole (coefficient_of l v))) (sym (get_or_past s.coefficients v (whole (pos 0)) (omega (arith, short, le))))
        (subst (λ (z : ℤ). IsSame (whole (pos 0)) (whole z)) (sym (get_or_past l.coefficients v (pos 0) (omega (arith, low, le)))) zero_same)
