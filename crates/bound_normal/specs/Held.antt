-- What the machine holds of a bound.
use Rattle.std.specs.Prelude.{ℕ, ◌<◌, ◌≤◌, ◌^◌}
use Rattle.bound_terms.specs.Terms.{Term, Number, Floor, Total, Product, Greatest, Power, Geometric, Terms, none, more}
use Rattle.bound_forms.specs.Normal.{IsHeld}

-- a base, which is at least 1
pub record IsBase (b : ℕ) : Type 0 where
  pub low : 1 ≤ b
  pub high : b < 2 ^ 128

abbrev mutual
  -- each expression, its divisor, and each base
  pub IsHeldTerm : Term → Type 0
  IsHeldTerm (Number n) = Unit {0}
  IsHeldTerm (Floor n) = IsHeld n
  IsHeldTerm (Total ts) = AreHeldTerms ts
  IsHeldTerm (Product ts) = AreHeldTerms ts
  IsHeldTerm (Greatest ts) = AreHeldTerms ts
  IsHeldTerm (Power b n) = IsBase b × IsHeld n
  IsHeldTerm (Geometric b n) = IsBase b × IsHeld n

  pub AreHeldTerms : Terms → Type 0
  AreHeldTerms none = Unit {0}
  AreHeldTerms (more t ts) = IsHeldTerm t × AreHeldTerms ts
