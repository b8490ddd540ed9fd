-- What is 0 at all sizes.
use Rattle.std.proofs.Common.{ℕ, zero, suc, ◌≡◌, ◌*◌, ◌^◌, ◌≤◌, ◌==◌, Bool, true, false, List, [], ◌∷◌, refl, sym, arith}
use Rattle.std.specs.Prelude.{ℤ, if◌then◌else◌}
use Rattle.std.proofs.lemmas.Bool.{ne_eqb}
use Rattle.std.proofs.Math.Nat.{pow-zero, pow-succ'}
use Rattle.bound_terms.specs.Terms.{Floored, Term, Floor, Power, Geometric}
use Rattle.bound_terms.specs.Values.{geo}
use Rattle.bound_forms.specs.Monomials.{Form, constant, one_atom}
use Rattle.bound_forms.specs.Lowest.{trimmed, lowest, by_sizes, fixed_value, floor_form, power_form, geometric_form}
use Rattle.bound_forms.specs.Formed.{is_empty}

number_full : (k : ℕ) → 1 ≤ k → is_empty (constant k) ≡ false
number_full zero h = absurd (omega (arith, h))
number_full (suc k) h = refl

pub number_empty : (k : ℕ) → is_empty (constant k) ≡ (k == 0)
number_empty zero = refl
number_empty (suc k) = sym (ne_eqb (suc k) 0 (λ e. absurd (omega (arith, e))))

positive : (a b : ℕ) → 1 ≤ a → 1 ≤ b → 1 ≤ a * b
positive a b h k = grind arith

power_positive : (b k : ℕ) → 1 ≤ b → 1 ≤ b ^ k
power_positive b zero h = omega (arith, pow-zero b)
power_positive b (suc k) h = omega (arith, pow-succ' b k, positive b (b ^ k) h (power_positive b k h))

by_number : (cs : List ℤ) (k : ℕ) (a : Term) → 1 ≤ k → is_empty (by_sizes cs (constant k) (one_atom a)) ≡ false
by_number [] k a h = number_full k h
by_number (c ∷ cs) k a h = refl

based : (b : Bool) (p q : Form) → is_empty p ≡ false → is_empty q ≡ false → is_empty (if b then p else q) ≡ false
based true p q h g = h
based false p q h g = g

pub power_full : (b : ℕ) (n : Floored) → 1 ≤ b → is_empty (power_form b n) ≡ false
power_full b n h =
    based (b == 1) (constant 1) (by_sizes (trimmed n.expression.coefficients) (constant (b ^ fixed_value n)) (one_atom (Power b (lowest n)))) refl
    (by_number (trimmed n.expression.coefficients) (b ^ fixed_value n) (Power b (lowest n)) (power_positive b (fixed_value n) h))

same_numbers : (b k : ℕ) → 1 ≤ b → is_empty (constant (geo b k)) ≡ is_empty (constant k)
same_numbers b zero h = refl
same_numbers b (suc k) h = number_full (geo b (suc k)) (let g : 1 ≤ b ^ k = power_positive b k h in omega (arith, g))

same_by : (cs : List ℤ) (b k : ℕ) (x y : Term) → 1 ≤ b → is_empty (by_sizes cs (constant (geo b k)) (one_atom x)) ≡ is_empty (by_sizes cs (constant k) (one_atom y))
same_by [] b k x y h = same_numbers b k h
same_by (c ∷ cs) b k x y h = refl

same_based : (b : Bool) (p q r : Form) → is_empty p ≡ is_empty r → is_empty q ≡ is_empty r → is_empty (if b then p else q) ≡ is_empty r
same_based true p q r h g = h
same_based false p q r h g = g

-- a sum of powers is 0 where the exponent is
pub geometric_empty : (b : ℕ) (n : Floored) → 1 ≤ b → is_empty (geometric_form b n) ≡ is_empty (floor_form n)
geometric_empty b n h =
    let cs = trimmed n.expression.coefficients in
    same_based (b == 1) (floor_form n) (by_sizes cs (constant (geo b (fixed_value n))) (one_atom (Geometric b (lowest n)))) (floor_form n) refl (same_by cs b (fixed_value n) (Geometric b (lowest n)) (Floor (lowest n)) h)

pub not_zero : (b : ℕ) → 1 ≤ b → (b == 0) ≡ false
not_zero b h = ne_eqb b 0 (λ e. absurd (omega (arith, h, e)))
