-- What the numbers of a table keep: each is a fraction of 128 bits, in lowest terms.
use Rattle.std.specs.Prelude.{ℕ, suc, ◌<◌, ◌^◌, pos, List, slice_index_or}
use Rattle.std.specs.Int.Signed.{mag}
use Rattle.q128.specs.Fraction.{Fraction, whole}
use Rattle.q128.specs.Fits.{IsQ}

pub record IsNumber (x : Fraction) : Type 0 where
  pub parts : IsQ x.num (suc x.den_less_one)
  pub size : mag x.num < 2 ^ 127

-- the number at a place of a line
abbrev pub place_of : List Fraction → ℕ → Fraction
place_of xs p = slice_index_or xs p (whole (pos 0))
