-- What the operations make of numbers of 128 bits are such numbers.
use Rattle.std.specs.Prelude.{◌≡◌, ℕ, suc, ◌*◌, ◌/◌, ◌<◌, ◌≤◌, ◌^◌, ℤ, pos, negsuc, neg_ℤ, ◌+ℤ◌, ◌*ℤ◌, int_div, unsigned_abs, Some}
use Rattle.std.specs.Int.Signed.{mag}
use Rattle.std.proofs.Common.{arith, sym, ap, ◌∙◌, subst, ⊎_elim}
use Rattle.std.proofs.lemmas.Bool.{cases_lt}
use Rattle.q128.specs.Fraction.{Fraction, whole, IsLowest}
use Rattle.q128.specs.Fits.{IsQ}
use Rattle.q128.specs.Rule.{◌>>=◌, gcd, narrow, narrow_natural, ratio, add_parts, add_rule, negate_rule, sub_rule, mul_parts, mul_rule, inverse_parts, inverse_rule, div_rule}
use Rattle.q128.proofs.Checked.{is_none, narrow-some}
use Rattle.q128.proofs.Abs.{mag-int_div}
use Rattle.q128.proofs.Exact.{less_more}
use Rattle.q128.proofs.Lowest.{IsQ-add_parts, IsQ-mul_parts, IsQ-neg, IsQ-inverse_parts, IsQ-whole}
use Rattle.q128.proofs.Steps.{bind-some, made-some, inverse_parts-made}
use Rattle.lp_lines.specs.Numbers.{IsNumber}

narrow_fits : (z x : ℤ) → narrow z ≡ Some x → mag x < 2 ^ 127
narrow_fits z x e = ⊎_elim (λ (h : mag z < 2 ^ 127). subst (λ w. mag w < 2 ^ 127) (sym (narrow-some z x e)) h) (λ h. absurd (cc (is_none z h))) (cases_lt (mag z) (2 ^ 127))

ratio_fits : (p : ℤ × ℕ) → IsQ p.0 p.1 → mag p.0 < 2 ^ 127 → IsNumber (ratio p)
ratio_fits p q h = record { parts = subst (IsQ p.0) (sym (less_more p.1 q.positive)) q; size = h }

product_size : (a : ℤ) (b : ℕ) (c : ℤ) (d g h : ℕ) (p : ℤ × ℕ) → mul_parts a b c d g h ≡ Some p → mag p.0 < 2 ^ 127
unfolding mul_parts
product_size a b c d g h p e =
    let last = λ (top : ℤ) (bottom : ℕ). Some (top, bottom) in
    let first = λ (top : ℤ). narrow_natural (b / h * (d / g)) >>= last top in
    let t = bind-some (narrow (int_div a (pos g) *ℤ int_div c (pos h))) first p e in
    let m = bind-some (narrow_natural (b / h * (d / g))) (last t.x) p t.then_is in
    let is : (t.x, m.x) ≡ p = cc (m.then_is) in
    subst (λ (q : ℤ × ℕ). mag q.0 < 2 ^ 127) is (narrow_fits (int_div a (pos g) *ℤ int_div c (pos h)) t.x t.was)

sum_size : (a : ℤ) (b : ℕ) (c : ℤ) (d g : ℕ) (p : ℤ × ℕ) → add_parts a b c d g ≡ Some p → mag p.0 < 2 ^ 127
unfolding add_parts
sum_size a b c d g p e =
    let last = λ (top : ℤ) (bottom : ℕ). Some (int_div top (pos (gcd (unsigned_abs top) g)), bottom / gcd (unsigned_abs top) g) in
    let third = λ (top : ℤ). narrow_natural (b / g * d) >>= last top in
    let second = λ (left right : ℤ). narrow (left +ℤ right) >>= third in
    let first = λ (left : ℤ). narrow (c *ℤ pos (b / g)) >>= second left in
    let l = bind-some (narrow (a *ℤ pos (d / g))) first p e in
    let r = bind-some (narrow (c *ℤ pos (b / g))) (second l.x) p l.then_is in
    let t = bind-some (narrow (l.x +ℤ r.x)) third p r.then_is in
    let m = bind-some (narrow_natural (b / g * d)) (last t.x) p t.then_is in
    let is : (int_div t.x (pos (gcd (unsigned_abs t.x) g)), m.x / gcd (unsigned_abs t.x) g) ≡ p = cc (m.then_is) in
    subst (λ (q : ℤ × ℕ). mag q.0 < 2 ^ 127) is (omega (arith, narrow_fits (l.x +ℤ r.x) t.x t.was, mag-int_div t.x (gcd (unsigned_abs t.x) g)))

size_most : (z : ℤ) → mag z ≤ unsigned_abs z
size_most (pos n) = omega arith
size_most (negsuc n) = omega arith

pub number_lowest : (x : Fraction) → IsNumber x → IsLowest x
number_lowest x n = record { lowest = n.parts.lowest }

pub whole_number : (z : ℤ) → mag z < 2 ^ 127 → IsNumber (whole z)
whole_number z h = record { parts = IsQ-whole z; size = h }

pub product_number : (x y z : Fraction) → IsNumber x → IsNumber y → mul_rule x y ≡ Some z → IsNumber z
unfolding mul_rule
product_number x y z nx ny e =
    let m = made-some (mul_parts x.num (suc x.den_less_one) y.num (suc y.den_less_one) (gcd (unsigned_abs x.num) (suc y.den_less_one)) (gcd (unsigned_abs y.num) (suc x.den_less_one))) z e in
    subst IsNumber (sym m.is) (ratio_fits m.p (IsQ-mul_parts x.num (suc x.den_less_one) y.num (suc y.den_less_one) m.p nx.parts ny.parts m.was) (product_size x.num (suc x.den_less_one) y.num (suc y.den_less_one) (gcd (unsigned_abs x.num) (suc y.den_less_one)) (gcd (unsigned_abs y.num) (suc x.den_less_one)) m.p m.was))

sum_number : (x y z : Fraction) → IsNumber x → IsNumber y → add_rule x y ≡ Some z → IsNumber z
unfolding add_rule
sum_number x y z nx ny e =
    let m = made-some (add_parts x.num (suc x.den_less_one) y.num (suc y.den_less_one) (gcd (suc x.den_less_one) (suc y.den_less_one))) z e in
    subst IsNumber (sym m.is) (ratio_fits m.p (IsQ-add_parts x.num (suc x.den_less_one) y.num (suc y.den_less_one) m.p nx.parts ny.parts m.was) (sum_size x.num (suc x.den_less_one) y.num (suc y.den_less_one) (gcd (suc x.den_less_one) (suc y.den_less_one)) m.p m.was))

opposite_is : (y w : Fraction) → negate_rule y ≡ Some w → (w ≡ record { num = neg_ℤ y.num; den_less_one = y.den_less_one }) × (mag w.num < 2 ^ 127)
unfolding negate_rule
opposite_is y w e =
    let last = λ (n : ℤ). Some (record { num = n; den_less_one = y.den_less_one }) in
    let n = bind-some (narrow (neg_ℤ y.num)) last w e in
    let is : record { num = n.x; den_less_one = y.den_less_one } ≡ w = cc (n.then_is) in (
      sym is ∙ ap (λ (m : ℤ). record { num = m; den_less_one = y.den_less_one }) (narrow-some (neg_ℤ y.num) n.x n.was),
      subst (λ (v : Fraction). mag v.num < 2 ^ 127) is (narrow_fits (neg_ℤ y.num) n.x n.was),
    )

opposite_number : (y w : Fraction) → IsNumber y → negate_rule y ≡ Some w → IsNumber w
opposite_number y w ny e =
    let is = opposite_is y w e in
    record {
      parts = subst (λ (v : Fraction). IsQ v.num (suc v.den_less_one)) (sym is.0) (IsQ-neg y.num (suc y.den_less_one) ny.parts);
      size = is.1;
    }

pub difference_number : (x y z : Fraction) → IsNumber x → IsNumber y → sub_rule x y ≡ Some z → IsNumber z
unfolding sub_rule
difference_number x y z nx ny e =
    let w = bind-some (negate_rule y) (add_rule x) z e in
    sum_number x w.x z nx (opposite_number y w.x ny w.was) w.then_is

inverse_number : (y w : Fraction) → IsNumber y → inverse_rule y ≡ Some w → IsNumber w
unfolding inverse_rule
inverse_number y w ny e =
    let m = made-some (inverse_parts y.num (suc y.den_less_one)) w e in
    let s = inverse_parts-made y.num (suc y.den_less_one) m.p m.was in
    subst IsNumber (sym m.is) (ratio_fits m.p (IsQ-inverse_parts y.num (suc y.den_less_one) m.p ny.size ny.parts m.was) (omega (arith, size_most m.p.0, s.num_size, ny.parts.bounded)))

pub quotient_number : (x y z : Fraction) → IsNumber x → IsNumber y → div_rule x y ≡ Some z → IsNumber z
unfolding div_rule
quotient_number x y z nx ny e =
    let w = bind-some (inverse_rule y) (mul_rule x) z e in
    product_number x w.x z nx (inverse_number y w.x ny w.was) w.then_is
