-- Quotients by great sizes.
use Rattle.std.proofs.Common.{ℕ, suc, ◌≡◌, ◌<◌, ◌^◌, sym, ap, arith}
use Rattle.std.specs.Prelude.{ℤ, pos, negsuc, neg_ℤ, int_div, FitsSigned}
use Rattle.std.specs.Int.{w128}
use Rattle.std.proofs.lemmas.Int.{ints}
use Rattle.std.proofs.Math.Nat.{div-eq_of_lt}

-- a size past those of the type divides no number but to 0
pub beyond : (z : ℤ) (k : ℕ) → FitsSigned w128 z → 2 ^ 127 < k → pos 0 ≡ int_div z (pos k)
beyond (pos n) k fit h = let less : n < k = omega (arith, ints, fit, h) in ap pos (sym (div-eq_of_lt less))
beyond (negsuc n) k fit h = let less : suc n < k = omega (arith, ints, fit, h) in ap (λ m. neg_ℤ (pos m)) (sym (div-eq_of_lt less))
