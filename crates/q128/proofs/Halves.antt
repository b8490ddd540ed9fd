-- A product made of four products of halves, in base w.
use Rattle.std.specs.Prelude.{ℕ, ◌+◌, ◌*◌, ◌/◌, ◌%◌, ◌<◌, ◌≡◌}
use Rattle.std.proofs.Common.{arith, ap, ◌∙◌}

carried : (a a' b b' w p r q s t u : ℕ) → a' * b' ≡ w * p + r → a * b' + p ≡ w * q + s → a' * b + s ≡ w * t + u → (a * b + q + t) * (w * w) + (u * w + r) ≡ (a * w + a') * (b * w + b')
carried a a' b b' w p r q s t u e f g =
    let f1 : (a * b' + p) * w ≡ (w * q + s) * w = ap (λ n. n * w) f in
    let g1 : (a' * b + s) * w ≡ (w * t + u) * w = ap (λ n. n * w) g in
    omega arith

split : (n w : ℕ) → n ≡ w * (n / w) + n % w
split n w = omega arith

pub product_of_halves : (a b w : ℕ) → 0 < w →
    let low = a % w * (b % w) in
    let cross = a / w * (b % w) + low / w in
    let other = a % w * (b / w) + cross % w in
    (a / w * (b / w) + cross / w + other / w) * (w * w) + (other % w * w + low % w) ≡ a * b
product_of_halves a b w h =
    let low = a % w * (b % w) in
    let cross = a / w * (b % w) + low / w in
    let other = a % w * (b / w) + cross % w in
    carried (a / w) (a % w) (b / w) (b % w) w (low / w) (low % w) (cross / w) (cross % w) (other / w) (other % w) (split low w) (split cross w) (split other w)
    ∙ ap (λ n. n * (b / w * w + b % w)) (whole a) ∙ ap (λ n. a * n) (whole b)
  where
    whole : (n : ℕ) → n / w * w + n % w ≡ n
    whole n = let e : n ≡ w * (n / w) + n % w = split n w in omega arith
