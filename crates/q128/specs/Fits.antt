-- What the two numbers of a fraction in 128 bits keep.
use Rattle.std.specs.Prelude.{◌≡◌, ℕ, ◌<◌, ◌^◌, ℤ, unsigned_abs}
use Rattle.std.specs.Int.{◌∣◌}

-- a numerator and a denominator: the second is positive and an i128, and 1 alone divides both
pub record IsQ (num : ℤ) (den : ℕ) : Type 0 where
  pub positive : 0 < den
  pub bounded : den < 2 ^ 127
  pub lowest : (d : ℕ) → d ∣ unsigned_abs num → d ∣ den → d ≡ 1
