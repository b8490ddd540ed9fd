-- Numbers of more than 128 bits.
use Rattle.std.specs.Prelude.{ℕ, ◌+◌, ◌*◌, ℤ, pos, neg_ℤ, ◌+ℤ◌, ◌*ℤ◌, ◌≤ℤ◌, ◌^◌}
use Rattle.small_levels.specs.declared.wide.Wide.{Wide}

abbrev pub value_of : Wide → ℤ
value_of w = w.high *ℤ pos 18446744073709551616 +ℤ pos w.low

-- far inside of what a wide number holds
pub record IsModest (z : ℤ) : Type 0 where
  pub low : neg_ℤ (pos (2 ^ 180)) ≤ℤ z
  pub high : z ≤ℤ pos (2 ^ 180)

-- at most j + 1 times what 128 bits hold
pub record IsBetween (j : ℕ) (z : ℤ) : Type 0 where
  pub low : neg_ℤ (pos ((j + 1) * 170141183460469231731687303715884105728)) ≤ℤ z
  pub high : z ≤ℤ pos ((j + 1) * 170141183460469231731687303715884105728)
