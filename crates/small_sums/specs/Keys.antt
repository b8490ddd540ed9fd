-- Keys of expressions: the coefficients as the digits of one number, less the multiples of 2^64. Equal expressions have
-- equal keys, and the key of a sum is that of the sum of the keys.
use Rattle.std.specs.Prelude.{◌≡◌, ℕ, ◌<◌, ◌^◌, ℤ, pos, ◌+ℤ◌, ◌*ℤ◌, List, [], ◌∷◌}

-- the factor from one digit to the next
abbrev pub base : ℤ
base = pos 11400714819323198485

-- c 0 + base * (c 1 + base * (..))
abbrev pub digits : List ℤ → ℤ
digits [] = pos 0
digits (c ∷ cs) = c +ℤ base *ℤ digits cs

-- r is what is left of z when multiples of 2^64 are taken away
pub record IsResidue (z : ℤ) (r : ℕ) : Type 0 where
  pub quotient : ℤ
  pub value : z ≡ pos r +ℤ pos 18446744073709551616 *ℤ quotient
  pub small : r < 2 ^ 64
