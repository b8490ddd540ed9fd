-- Powers and their sums.
use Rattle.std.proofs.Common.{ℕ, zero, suc, ◌≡◌, ◌≤◌, ◌<◌, ◌+◌, ◌*◌, ◌^◌, ◌-◌, refl, sym, ◌∙◌, ap, subst, arith, add-one, add-zero}
use Rattle.std.proofs.Math.Nat.{pow-zero, pow-succ', pow-le-pow_left, pow-le-pow_right}
use Rattle.bound_terms.specs.Values.{geo}

pub one_pow : (n : ℕ) → 1 ^ n ≡ 1
one_pow zero = pow-zero 1
one_pow (suc n) = let e = pow-succ' 1 n in let r = one_pow n in omega (arith, e, r)

pub geo_one : (n : ℕ) → geo 1 n ≡ n
geo_one zero = refl
geo_one (suc n) = omega (arith, geo_one n, one_pow n)

-- all powers one higher, and 1
pub geo_next : (b n : ℕ) → geo b (suc n) ≡ b * geo b n + 1
geo_next b zero = grind (arith, pow-zero b)
geo_next b (suc n) = grind (arith, geo_next b n, pow-succ' b n)

pub geo_more : (b n : ℕ) → geo b n ≤ geo b (suc n)
geo_more b n = omega arith

-- at least the highest power
pub geo_above : (b n : ℕ) → b ^ n ≤ geo b (suc n)
geo_above b n = omega arith

-- more powers are no less
pub geo_mono : (b n k : ℕ) → geo b n ≤ geo b (n + k)
geo_mono b n zero = let P : ℕ → Type 0 = λ m. geo b n ≤ geo b m in subst P (sym (add-zero n)) (omega arith)
geo_mono b n (suc k) =
    let e : n + suc k ≡ suc (n + k) = omega arith in
    let r = geo_mono b n k in
    let P : ℕ → Type 0 = λ m. geo b n ≤ geo b m in
    subst P (sym e) (omega (arith, r, geo_more b (n + k)))

pub power_big : (b n : ℕ) → 2 ≤ b → 128 ≤ n → 2 ^ 128 ≤ b ^ n
power_big b n two many = omega (arith, pow-le-pow_left two 128, pow-le-pow_right {n = b} (omega (arith, two)) many)

pub geo_big : (b n : ℕ) → 2 ≤ b → 129 ≤ n → 2 ^ 128 ≤ geo b n
geo_big b zero two many = omega (arith, many)
geo_big b (suc n) two many = omega (arith, power_big b n two (omega (arith, many)), geo_above b n)

pub geo_next_is : (b n sum now : ℕ) → sum ≡ geo b n → now ≡ b * sum + 1 → now ≡ geo b (n + 1)
geo_next_is b n sum now is made =
    let P : ℕ → Type 0 = λ m. now ≡ geo b m in
    subst P (sym (add-one n)) (made ∙ ap (λ s. b * s + 1) is ∙ sym (geo_next b n))

-- a sum that is too big stays so
pub geo_later : (b n m sum : ℕ) → sum ≡ geo b m → m < n → 2 ^ 128 ≤ b * sum + 1 → 2 ^ 128 ≤ geo b n
geo_later b n m sum is less big =
    let k = n - suc m in
    let e : suc m + k ≡ n = omega (arith, less) in
    let P : ℕ → Type 0 = λ x. geo b (suc m) ≤ geo b x in
    let low : geo b (suc m) ≤ geo b n = subst P e (geo_mono b (suc m) k) in
    let now : b * sum + 1 ≡ geo b (suc m) = ap (λ s. b * s + 1) is ∙ sym (geo_next b m) in
    omega (arith, low, now, big)
