-- Each rational has one fraction in lowest terms.
use Rattle.std.specs.Prelude.{ℕ, suc, ◌-◌, ◌*◌, ◌≡◌, ℤ, pos, ◌*ℤ◌, ◌↔◌, unsigned_abs}
use Rattle.std.specs.Ordering.{int_cmp}
use Rattle.std.specs.declared.cmp.Ordering.{Ordering}
use Rattle.std.specs.declared.cmp.Ordering.TheVariants.{Equal}
use Rattle.std.specs.Cmp.{int_cmp_is}
use Rattle.std.specs.Int.{◌∣◌}
use Rattle.std.proofs.Common.{arith, sym, ap, ◌∙◌, subst}
use Rattle.std.proofs.lemmas.Int.{unsigned_abs-mul}
use Rattle.std.proofs.lemmas.Cmp.{int_ranked}
use Rattle.std.proofs.Math.Nat.{dvd-mul_left, dvd_antisymm}
use Rattle.q128.specs.Fraction.{Fraction, den_of, IsSame, IsLowest}
use Rattle.q128.specs.Fits.{IsQ}
use Rattle.q128.proofs.Exact.{less_more}
use Rattle.q128.proofs.Ring.{*ℤ_cancel}
use Rattle.q128.proofs.Coprime.{IsCoprime, coprime, divides_other}

lowest_coprime : (x : Fraction) → IsLowest x → IsCoprime (suc x.den_less_one) (unsigned_abs x.num)
lowest_coprime x h = coprime (suc x.den_less_one) (unsigned_abs x.num) (λ d p q. h.lowest d q p)

den_divides : (x y : Fraction) → IsLowest x → IsSame x y → suc x.den_less_one ∣ suc y.den_less_one
den_divides x y h e =
    let sizes : unsigned_abs x.num * suc y.den_less_one ≡ unsigned_abs y.num * suc x.den_less_one =
    sym (unsigned_abs-mul x.num (den_of y)) ∙ ap unsigned_abs e ∙ unsigned_abs-mul y.num (den_of x) in
    let d : suc x.den_less_one ∣ unsigned_abs x.num * suc y.den_less_one = subst (λ n. suc x.den_less_one ∣ n) (sym sizes) (dvd-mul_left (suc x.den_less_one) (unsigned_abs y.num)) in
    divides_other (suc x.den_less_one) (unsigned_abs x.num) (suc y.den_less_one) (lowest_coprime x h) d

pub lowest-unique : (x y : Fraction) → IsLowest x → IsLowest y → IsSame x y → x ≡ y
lowest-unique x y h k e =
    let same : suc x.den_less_one ≡ suc y.den_less_one = dvd_antisymm (den_divides x y h e) (den_divides y x k (sym e)) in
    let dens : x.den_less_one ≡ y.den_less_one = omega arith in
    let e' : x.num *ℤ pos (suc x.den_less_one) ≡ y.num *ℤ pos (suc x.den_less_one) = ap (λ n. x.num *ℤ pos n) same ∙ e in
    let nums : x.num ≡ y.num = *ℤ_cancel x.num y.num x.den_less_one e' in
    ap (λ n. record { num = n; den_less_one = x.den_less_one }) nums ∙ ap (λ d. record { num = y.num; den_less_one = d }) dens

pub order-equal : (x y : Fraction) (r : Ordering) → IsLowest x → IsLowest y → r ≡ int_cmp (x.num *ℤ den_of y) (y.num *ℤ den_of x) → (r ≡ Equal) ↔ (x ≡ y)
order-equal x y r h k e = (there, back)
  where
    there : r ≡ Equal → x ≡ y
    there f = lowest-unique x y h k (rw f at (int_ranked (x.num *ℤ den_of y) (y.num *ℤ den_of x) r e))

    back : x ≡ y → r ≡ Equal
    back f = e ∙ sym (int_cmp_is (x.num *ℤ den_of y) (y.num *ℤ den_of x) Equal (ap (λ z. z.num *ℤ den_of y) f ∙ ap (λ z. y.num *ℤ den_of z) (sym f)))

pub IsQ-lowest : (a : ℤ) (b : ℕ) → IsQ a b → IsLowest (record { num = a; den_less_one = b - 1 })
IsQ-lowest a b q = record { lowest = λ d p h. q.lowest d p (subst (λ (n : ℕ). d ∣ n) (less_more b q.positive) h) }
