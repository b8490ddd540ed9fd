-- What is said of a choice by one of its dictionaries holds by each other.
use Rattle.std.specs.Prelude.{◌≡◌, ℕ, pos, ◌≤ℤ◌, ◌<ℤ◌, List, Some, Contains}
use Rattle.std.proofs.Common.{arith, inl, inr, sym, ap, ◌∙◌, subst}
use Rattle.std.proofs.lemmas.Bool.{cases_order}
use Rattle.std.proofs.lemmas.Int.{ints}
use Rattle.q128.specs.Fraction.{whole}
use Rattle.q128.specs.Rule.{mul_rule, div_rule}
use Rattle.q128.specs.declared.q.TooWide.{TooWide}
use Rattle.q128.specs.declared.q.QOp.TheVariants.{Sub, Mul, Div}
use Rattle.lin_rows.specs.Linear.{Linear}
use Rattle.solver_paths.specs.Choices.{IsOut, Dictionary, IsDictionary}
use Rattle.solver_paths.specs.Pivots.{MayLeave, IsMet, IsWorst, IsPivot, MeetsAll, IsStuck}
use Rattle.solver_paths.specs.Making.{Place, Constant, Of, number_at, IsOther, PivotMakes, inverse, quotient, opposite, share, product, rest}
use Rattle.solver_paths.specs.Laws.{SameNumbers}
use Rattle.solver_paths.proofs.Unique.{same_constant, same_coefficient}

pub same_numbers : (rows : List Linear) (choice : List ℕ) (d e : Dictionary) → IsDictionary rows choice d → IsDictionary rows choice e → SameNumbers rows choice d e
same_numbers rows choice d e isd ise = record {
  constants = same_constant rows choice choice d e isd ise (λ n. (λ h. h, λ h. h));
  coefficients = same_coefficient rows choice choice d e isd ise (λ n. (λ h. h, λ h. h));
}

module _ {rows : List Linear} {choice : List ℕ} {d e : Dictionary} (same : SameNumbers rows choice d e) where
  pub turned_round : SameNumbers rows choice e d
  turned_round = record { constants = λ n out. sym (same.constants n out); coefficients = λ n c out there. sym (same.coefficients n c out there) }

  pub same_met : (s : ℕ) → IsMet rows choice d s → IsMet rows choice e s
  same_met s m = record { met = λ row out. subst (λ z. pos 0 ≤ℤ z.num) (same.constants s out) (m.met row out) }

  pub same_meets : MeetsAll rows choice d → MeetsAll rows choice e
  same_meets m = record { each = λ s. same_met s (m.each s) }

  pub same_worst : (r : ℕ) → IsWorst rows choice d r → IsWorst rows choice e r
  same_worst r w = record { row = w.row; out = w.out; negative = subst (λ z. z.num <ℤ pos 0) (same.constants r w.out) w.negative; lowest = λ s lt. same_met s (w.lowest s lt) }

  same_leaves : (r c : ℕ) → IsOut rows choice r → Contains choice c → MayLeave rows (d.coefficient r c) c → MayLeave rows (e.coefficient r c) c
  same_leaves r c out there h = subst (λ k. MayLeave rows k c) (same.coefficients r c out there) h

  leaves_back : (r c : ℕ) → IsOut rows choice r → Contains choice c → MayLeave rows (e.coefficient r c) c → MayLeave rows (d.coefficient r c) c
  leaves_back r c out there h = subst (λ k. MayLeave rows k c) (sym (same.coefficients r c out there)) h

  pub same_pivot : (r c : ℕ) → IsPivot rows choice d r c → IsPivot rows choice e r c
  same_pivot r c p = record {
    worst = same_worst r p.worst;
    chosen = p.chosen;
    leaves = same_leaves r c p.worst.out p.chosen p.leaves;
    lowest = λ s lt there may. p.lowest s lt there (leaves_back r s p.worst.out there may);
  }

  pub same_stuck : (r : ℕ) → IsStuck rows choice d r → IsStuck rows choice e r
  same_stuck r p = record { worst = same_worst r p.worst; none = λ s there may. p.none s there (leaves_back r s p.worst.out there may) }

  same_number : (n c : ℕ) (p : Place) → IsOut rows choice n → IsOther choice c p → number_at d n p ≡ number_at e n p
  same_number n c Constant out other = same.constants n out
  same_number n c (Of s) out other = same.coefficients n s out other.0

  pub same_makes : (r c : ℕ) (w : TooWide) → IsOut rows choice r → Contains choice c → PivotMakes rows choice d r c w → PivotMakes rows choice e r c w
  same_makes r c w out there (inverse is) = inverse (is ∙ ap (λ k. record { a = whole (pos 1); b = k; op = Div }) (same.coefficients r c out there))
  same_makes r c w out there (quotient p other is) = quotient p other (is ∙ ap (λ k. record { a = number_at d r p; b = k; op = Div }) (same.coefficients r c out there) ∙ ap (λ q. record { a = q; b = e.coefficient r c; op = Div }) (same_number r c p out other))
  same_makes r c w out there (opposite p q other made is) = opposite p q other (subst (λ k. div_rule (number_at e r p) k ≡ Some q) (same.coefficients r c out there) (subst (λ z. div_rule z (d.coefficient r c) ≡ Some q) (same_number r c p out other) made)) is
  same_makes r c w out there (share n beside is) = share n beside (is ∙ ap (λ k. record { a = d.coefficient n c; b = k; op = Div }) (same.coefficients r c out there) ∙ ap (λ q. record { a = q; b = e.coefficient r c; op = Div }) (same.coefficients n c beside.out there))
  same_makes r c w out there (product n s p beside other made is) =
      product n s p beside other
      (subst (λ k. div_rule (e.coefficient n c) k ≡ Some s) (same.coefficients r c out there) (subst (λ z. div_rule z (d.coefficient r c) ≡ Some s) (same.coefficients n c beside.out there) made))
      (is ∙ ap (λ q. record { a = s; b = q; op = Mul }) (same_number r c p out other))
  same_makes r c w out there (rest n s q p beside other made times is) =
      rest n s q p beside other
      (subst (λ k. div_rule (e.coefficient n c) k ≡ Some s) (same.coefficients r c out there) (subst (λ z. div_rule z (d.coefficient r c) ≡ Some s) (same.coefficients n c beside.out there) made))
      (subst (λ z. mul_rule s z ≡ Some q) (same_number r c p out other) times)
      (is ∙ ap (λ z. record { a = z; b = q; op = Sub }) (same_number n c p beside.out other))

-- ---- a choice has one worst row and one pivot
pub one_worst : (rows : List Linear) (choice : List ℕ) (d : Dictionary) (r s : ℕ) → IsWorst rows choice d r → IsWorst rows choice d s → r ≡ s
one_worst rows choice d r s p q = elim (cases_order r s) [
  | inl same ↦ same
  | inr (inl lt) ↦ let met = (q.lowest r lt).met p.row p.out in let low = p.negative in absurd (omega (arith, ints))
  | inr (inr gt) ↦ let met = (p.lowest s gt).met q.row q.out in let low = q.negative in absurd (omega (arith, ints))
]

one_leaving : (rows : List Linear) (choice : List ℕ) (d : Dictionary) (r b c : ℕ) → IsPivot rows choice d r b → IsPivot rows choice d r c → b ≡ c
one_leaving rows choice d r b c p q = elim (cases_order b c) [
  | inl same ↦ same
  | inr (inl lt) ↦ absurd (q.lowest b lt p.chosen p.leaves)
  | inr (inr gt) ↦ absurd (p.lowest c gt q.chosen q.leaves)
]

pub one_pivot : (rows : List Linear) (choice : List ℕ) (d : Dictionary) (r b s c : ℕ) → IsPivot rows choice d r b → IsPivot rows choice d s c → (r ≡ s) × (b ≡ c)
one_pivot rows choice d r b s c p q =
    let same : r ≡ s = one_worst rows choice d r s p.worst q.worst in
    (same, one_leaving rows choice d s b c (subst (λ n. IsPivot rows choice d n b) same p) q)
