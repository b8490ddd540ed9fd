-- What doesn't depend on a size.
use Rattle.std.proofs.Common.{ℕ, zero, suc, ◌≡◌, ◌/◌, ◌^◌, Bool, false, List, [], ◌∷◌, refl, sym, ◌∙◌, ap, subst, arith}
use Rattle.std.specs.Prelude.{◌||◌, ℤ, pos, ◌+ℤ◌, ◌*ℤ◌, FitsSigned, Some, Result, Ok, Err, if◌then◌else◌}
use Rattle.std.specs.Int.{w128}
use Rattle.std.specs.Global.{Vec}
use Rattle.std.proofs.Math.IntN.{*ℤ-zero, +ℤ_idl}
use Rattle.std.proofs.lemmas.Bool.{lt-leb}
use Rattle.lin_rows.specs.Linear.{Linear}
use Rattle.bound_terms.specs.Terms.{Term, Floored, Floor, Power, Geometric}
use Rattle.bound_terms.specs.Values.{not_below_zero, floored_value, geo, value_of, SumsFit, IsSummed}
use Rattle.bound_terms.specs.declared.bound.Bound.{Bound}
use Rattle.bound_forms.specs.declared.fault.BoundFault.{BoundFault}
use Rattle.bound_forms.specs.declared.fault.BoundFault.TheVariants.{Monomials, Coefficient, Memory}
use Rattle.bound_forms.specs.Monomials.{Form, constant, one_atom}
use Rattle.bound_forms.specs.Lowest.{trimmed, lowest, by_sizes, fixed_value, floor_form, power_form, geometric_form}
use Rattle.bound_forms.specs.Limits.{past_limit, Keeps}
use Rattle.bound_forms.specs.Answered.{IsSmall, Makes, MakesWhole}
use Rattle.bound_forms.specs.inside.Numbers.{fixed_by}
use Rattle.bound_forms.proofs.Trimming.{apart}

-- ---- at no sizes
zero_fits : FitsSigned w128 (pos 0)
zero_fits = search arith

no_sums : (k : ℤ) (i : ℕ) (cs : List ℤ) → FitsSigned w128 k → SumsFit [] (pos 0) i cs k
no_sums k i [] fit = subst (FitsSigned w128) (sym (+ℤ_idl k)) fit
no_sums k i (c ∷ cs) fit =
    let z : (pos 0 +ℤ (c *ℤ pos 0)) ≡ pos 0 = ap (λ x. pos 0 +ℤ x) (*ℤ-zero c) in
    (subst (FitsSigned w128) (sym z) zero_fits, subst (λ s. SumsFit [] s (suc i) cs k) (sym z) (no_sums k (suc i) cs fit))

pub summed : (l : Linear) (k : ℤ) → k ≡ l.constant → FitsSigned w128 k → IsSummed [] l
summed l k e fit = no_sums l.constant 0 l.coefficients (subst (FitsSigned w128) e fit)

fixed_is : (n : Floored) → floored_value [] n ≡ fixed_value n
fixed_is n = ap (λ z. not_below_zero z / n.divisor) (+ℤ_idl n.expression.constant)

-- ---- numbers keep the limits, or pass them
keeps : (k : ℕ) → IsSmall (constant k) → Keeps (constant k)
keeps zero s = record { few = refl; small = refl }
keeps (suc n) s = record { few = refl; small = ap (λ b. (b || false) || false) (lt-leb past_limit (suc n) (s.small 0 (record { coefficient = 0; atoms = [] }) (omega arith))) }

pub number_whole : (r : Result (Vec (ℕ × List Bound)) BoundFault) (k : ℕ) → Makes r (constant k) → MakesWhole r (constant k)
number_whole (Ok f) k h = (h.0, keeps k h.1)
number_whole (Err Monomials) zero h = absurd (omega (arith, h))
number_whole (Err Monomials) (suc n) h = absurd (omega (arith, h))
number_whole (Err Coefficient) zero h = absurd (cc)
number_whole (Err Coefficient) (suc n) h = ap (λ b. b || false) h
number_whole (Err Memory) k h = tt

-- ---- what doesn't depend on a size is a number
number_by : (cs : List ℤ) (v w : ℕ) (p q : Form) → Some w ≡ fixed_by cs v → (w ≡ v) × (by_sizes cs p q ≡ p)
number_by [] v w p q h = (cc, refl)
number_by (c ∷ cs) v w p q h = absurd (cc)

pub floor_fixed : (r : Result (Vec (ℕ × List Bound)) BoundFault) (n : Floored) (w : ℕ) → Some w ≡ fixed_by (trimmed n.expression.coefficients) (fixed_value n) → Makes r (constant w) → MakesWhole r (floor_form n)
floor_fixed r n w h made =
    let p = number_by (trimmed n.expression.coefficients) (fixed_value n) w (constant (fixed_value n)) (one_atom (Floor (lowest n))) h in
    subst (MakesWhole r) (ap constant p.0 ∙ sym p.1) (number_whole r w made)

pub power_fixed : (r : Result (Vec (ℕ × List Bound)) BoundFault) (t : Term) (b : ℕ) (n : Floored) (w : ℕ) → t ≡ Power b n → (b ≡ 1 → ⊥) → Some w ≡ fixed_by (trimmed n.expression.coefficients) (fixed_value n) → Makes r (constant (value_of [] t)) → MakesWhole r (power_form b n)
power_fixed r t b n w e other h made =
    let number = constant (b ^ fixed_value n) in
    let atom = one_atom (Power b (lowest n)) in
    let p = number_by (trimmed n.expression.coefficients) (fixed_value n) w number atom h in
    let value : value_of [] t ≡ b ^ fixed_value n = ap (value_of []) e ∙ ap (λ v. b ^ v) (fixed_is n) in
    let is : power_form b n ≡ by_sizes (trimmed n.expression.coefficients) number atom = ap (λ (x : Bool). if x then constant 1 else by_sizes (trimmed n.expression.coefficients) number atom) (apart b 1 other) in
    subst (MakesWhole r) (ap constant value ∙ sym p.1 ∙ sym is) (number_whole r (value_of [] t) made)

pub geometric_fixed : (r : Result (Vec (ℕ × List Bound)) BoundFault) (t : Term) (b : ℕ) (n : Floored) (w : ℕ) → t ≡ Geometric b n → (b ≡ 1 → ⊥) → Some w ≡ fixed_by (trimmed n.expression.coefficients) (fixed_value n) → Makes r (constant (value_of [] t)) → MakesWhole r (geometric_form b n)
geometric_fixed r t b n w e other h made =
    let number = constant (geo b (fixed_value n)) in
    let atom = one_atom (Geometric b (lowest n)) in
    let p = number_by (trimmed n.expression.coefficients) (fixed_value n) w number atom h in
    let value : value_of [] t ≡ geo b (fixed_value n) = ap (value_of []) e ∙ ap (geo b) (fixed_is n) in
    let is : geometric_form b n ≡ by_sizes (trimmed n.expression.coefficients) number atom = ap (λ (x : Bool). if x then floor_form n else by_sizes (trimmed n.expression.coefficients) number atom) (apart b 1 other) in
    subst (MakesWhole r) (ap constant value ∙ sym p.1 ∙ sym is) (number_whole r (value_of [] t) made)
