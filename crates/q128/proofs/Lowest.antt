-- The two numbers of each answer are in lowest terms.
use Rattle.std.specs.Prelude.{ℕ, ◌*◌, ◌/◌, ◌^◌, ◌<◌, ◌≡◌, Some, ℤ, pos, neg_ℤ, ◌+ℤ◌, ◌*ℤ◌, unsigned_abs, int_div}
use Rattle.std.specs.Int.{◌∣◌, IsGcd}
use Rattle.std.specs.Int.Signed.{mag}
use Rattle.std.proofs.Common.{arith, sym, ap, ◌∙◌, subst, lit<}
use Rattle.std.proofs.lemmas.Int.{ints, unsigned_abs-mul}
use Rattle.std.proofs.Math.Nat.{div-mul_cancel, div-le_self, dvd-mul_left_of_dvd, dvd_refl, eq-one_of_dvd-one}
use Rattle.q128.specs.Rule.{gcd, new_parts, add_parts, mul_parts, inverse_parts}
use Rattle.q128.specs.Fits.{IsQ}
use Rattle.q128.proofs.Coprime.{IsCoprime, coprime, only_one, coprime-swap, coprime-parts, coprime-*, coprime-/, coprime-/-*, quotient_divides, div_pos, positive_product, other_part}
use Rattle.q128.proofs.Divisors.{IsGcd-gcd, gcd_pos}
use Rattle.q128.proofs.Steps.{sum_parts-made, product_parts-made, signed-made, inverse_parts-made}
use Rattle.q128.proofs.Abs.{abs-neg, abs-int_div, abs_pos, mag-int_div}

pub IsQ-coprime : (a : ℤ) (b : ℕ) → IsQ a b → IsCoprime (unsigned_abs a) b
IsQ-coprime a b q = coprime (unsigned_abs a) b q.lowest

pub coprime-IsQ : (a : ℤ) (b : ℕ) → 0 < b → b < 2 ^ 127 → IsCoprime (unsigned_abs a) b → IsQ a b
coprime-IsQ a b low high c = record { positive = low; bounded = high; lowest = only_one (unsigned_abs a) b c }

-- the sum
pub IsQ-sum : (a c top : ℤ) (b d bottom : ℕ) → IsQ a b → IsQ c d → top ≡ a *ℤ pos (d / gcd b d) +ℤ c *ℤ pos (b / gcd b d) → bottom ≡ b / gcd b d * d → bottom < 2 ^ 127 → IsQ (int_div top (pos (gcd (unsigned_abs top) (gcd b d)))) (bottom / gcd (unsigned_abs top) (gcd b d))
IsQ-sum a c top b d bottom qa qc e f high =
    let g = gcd b d in
    let is : IsGcd b d g = IsGcd-gcd b d in
    let low : 0 < g = gcd_pos b d qc.positive in
    let B = b / g in
    let D = d / g in
    let apart : IsCoprime B D = coprime-/ b d g is low in
    let ca : IsCoprime (unsigned_abs a) B = coprime-parts (unsigned_abs a) b (unsigned_abs a) B (dvd_refl (unsigned_abs a)) (quotient_divides b g is.0) (IsQ-coprime a b qa) in
    let cc' : IsCoprime (unsigned_abs c) D = coprime-parts (unsigned_abs c) d (unsigned_abs c) D (dvd_refl (unsigned_abs c)) (quotient_divides d g is.1) (IsQ-coprime c d qc) in
    let tB : IsCoprime (unsigned_abs top) B = subst (λ z. IsCoprime (unsigned_abs z) B) (sym e) (other_part a c B D ca (coprime-swap B D apart)) in
    let tD : IsCoprime (unsigned_abs top) D = subst (λ z. IsCoprime (unsigned_abs z) D) (sym (e ∙ swap (a *ℤ pos D) (c *ℤ pos B))) (other_part c a D B cc' apart) in
    let k = gcd (unsigned_abs top) g in
    let ik : IsGcd (unsigned_abs top) g k = IsGcd-gcd (unsigned_abs top) g in
    let lowk : 0 < k = gcd_pos (unsigned_abs top) g low in
    let is_bottom : B * (D * g) ≡ bottom = ap (λ n. B * n) (div-mul_cancel g is.1) ∙ sym f in
    let apart_all : IsCoprime (unsigned_abs top / k) (bottom / k) = subst (λ n. IsCoprime (unsigned_abs top / k) (n / k)) is_bottom (coprime-/-* (unsigned_abs top) B D g k tB tD ik lowk) in
    let divides : k ∣ bottom = subst (λ n. k ∣ n) is_bottom (dvd-mul_left_of_dvd k (dvd-mul_left_of_dvd k ik.1 D) B) in
    let some : 0 < bottom = subst (λ n. 0 < n) (sym f) (positive_product B d (div_pos b g qa.positive is.0) qc.positive) in
    coprime-IsQ (int_div top (pos k)) (bottom / k) (div_pos bottom k some divides) (omega (arith, div-le_self bottom k)) (subst (λ n. IsCoprime n (bottom / k)) (sym (abs-int_div top k)) apart_all)
  where
    swap : (x y : ℤ) → x +ℤ y ≡ y +ℤ x
    swap x y = omega (arith, ints)

pub IsQ-add_parts : (a : ℤ) (b : ℕ) (c : ℤ) (d : ℕ) (p : ℤ × ℕ) → IsQ a b → IsQ c d → add_parts a b c d (gcd b d) ≡ Some p → IsQ p.0 p.1
IsQ-add_parts a b c d p qa qc e =
    let s = sum_parts-made a b c d (gcd b d) p e in
    let q = IsQ-sum a c s.top b d s.bottom qa qc s.top_is s.bottom_is s.bounded in
    subst (λ n. IsQ p.0 n) (sym s.den_is) (subst (λ z. IsQ z (s.bottom / gcd (unsigned_abs s.top) (gcd b d))) (sym s.num_is) q)

pub IsQ-mul_parts : (a : ℤ) (b : ℕ) (c : ℤ) (d : ℕ) (p : ℤ × ℕ) → IsQ a b → IsQ c d → mul_parts a b c d (gcd (unsigned_abs a) d) (gcd (unsigned_abs c) b) ≡ Some p → IsQ p.0 p.1
IsQ-mul_parts a b c d p qa qc e =
    let g = gcd (unsigned_abs a) d in
    let h = gcd (unsigned_abs c) b in
    let s = product_parts-made a b c d g h p e in
    let ig : IsGcd (unsigned_abs a) d g = IsGcd-gcd (unsigned_abs a) d in
    let ih : IsGcd (unsigned_abs c) b h = IsGcd-gcd (unsigned_abs c) b in
    let A = unsigned_abs a / g in
    let B = b / h in
    let C = unsigned_abs c / h in
    let D = d / g in
    let ab : IsCoprime A B = coprime-parts (unsigned_abs a) b A B (quotient_divides (unsigned_abs a) g ig.0) (quotient_divides b h ih.1) (IsQ-coprime a b qa) in
    let ad : IsCoprime A D = coprime-/ (unsigned_abs a) d g ig (gcd_pos (unsigned_abs a) d qc.positive) in
    let cb : IsCoprime C B = coprime-/ (unsigned_abs c) b h ih (gcd_pos (unsigned_abs c) b qa.positive) in
    let cd : IsCoprime C D = coprime-parts (unsigned_abs c) d C D (quotient_divides (unsigned_abs c) h ih.0) (quotient_divides d g ig.1) (IsQ-coprime c d qc) in
    let all : IsCoprime (B * D) (A * C) = coprime-* B D (A * C) (coprime-swap (A * C) B (coprime-* A C B ab cb)) (coprime-swap (A * C) D (coprime-* A C D ad cd)) in
    let size : unsigned_abs p.0 ≡ A * C = ap unsigned_abs s.num_is ∙ unsigned_abs-mul (int_div a (pos g)) (int_div c (pos h)) ∙ ap (λ n. n * unsigned_abs (int_div c (pos h))) (abs-int_div a g) ∙ ap (λ n. A * n) (abs-int_div c h) in
    let apart : IsCoprime (unsigned_abs p.0) p.1 = subst (λ n. IsCoprime n p.1) (sym size) (subst (λ n. IsCoprime (A * C) n) (sym s.den_is) (coprime-swap (B * D) (A * C) all)) in
    let low : 0 < p.1 = subst (λ n. 0 < n) (sym s.den_is) (positive_product B D (div_pos b h qa.positive ih.1) (div_pos d g qc.positive ig.1)) in
    coprime-IsQ p.0 p.1 low s.bounded apart

pub IsQ-neg : (a : ℤ) (b : ℕ) → IsQ a b → IsQ (neg_ℤ a) b
IsQ-neg a b q = coprime-IsQ (neg_ℤ a) b q.positive q.bounded (subst (λ n. IsCoprime n b) (sym (abs-neg a)) (IsQ-coprime a b q))

pub IsQ-inverse_parts : (a : ℤ) (b : ℕ) (p : ℤ × ℕ) → mag a < 2 ^ 127 → IsQ a b → inverse_parts a b ≡ Some p → IsQ p.0 p.1
IsQ-inverse_parts a b p h q e =
    let s = inverse_parts-made a b p e in
    let apart : IsCoprime b (unsigned_abs a) = coprime-swap (unsigned_abs a) b (IsQ-coprime a b q) in
    coprime-IsQ p.0 p.1 s.positive (s.bounded h) (subst (λ n. IsCoprime n p.1) (sym s.num_size) (subst (λ n. IsCoprime b n) (sym s.den_size) apart))

pub IsQ-new_parts : (a b : ℤ) (p : ℤ × ℕ) → (b ≡ pos 0 → ⊥) → mag b < 2 ^ 127 → new_parts a b (gcd (unsigned_abs a) (unsigned_abs b)) ≡ Some p → IsQ p.0 p.1
IsQ-new_parts a b p some h e =
    let g = gcd (unsigned_abs a) (unsigned_abs b) in
    let is : IsGcd (unsigned_abs a) (unsigned_abs b) g = IsGcd-gcd (unsigned_abs a) (unsigned_abs b) in
    let low : 0 < unsigned_abs b = abs_pos b some in
    let fits : mag (int_div b (pos g)) < 2 ^ 127 = omega (arith, mag-int_div b g) in
    let s = signed-made (int_div a (pos g)) (int_div b (pos g)) p fits e in
    let num : unsigned_abs p.0 ≡ unsigned_abs a / g = s.num_size ∙ abs-int_div a g in
    let den : p.1 ≡ unsigned_abs b / g = s.den_size ∙ abs-int_div b g in
    let apart : IsCoprime (unsigned_abs a / g) (unsigned_abs b / g) = coprime-/ (unsigned_abs a) (unsigned_abs b) g is (gcd_pos (unsigned_abs a) (unsigned_abs b) low) in
    coprime-IsQ p.0 p.1 (subst (λ n. 0 < n) (sym den) (div_pos (unsigned_abs b) g low is.1)) s.bounded (subst (λ n. IsCoprime n p.1) (sym num) (subst (λ n. IsCoprime (unsigned_abs a / g) n) (sym den) apart))

pub IsQ-whole : (a : ℤ) → IsQ a 1
IsQ-whole a = record { positive = omega arith; bounded = lit< tt; lowest = λ d p q. eq-one_of_dvd-one q }
