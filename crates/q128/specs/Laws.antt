-- Laws of fractions: those of an ordered field (van der Waerden, Algebra, on rings and fields and on ordered fields).
use Rattle.std.specs.Prelude.{◌≡◌, ◌≢◌, ◌⊎◌, ◌↔◌, ◌<◌, ◌^◌, ℤ, pos, neg_ℤ, ◌+ℤ◌, ◌-ℤ◌, ◌*ℤ◌, ◌≤ℤ◌, Option, None}
use Rattle.std.specs.Int.Signed.{mag}
use Rattle.std.specs.Option.{option_map}
use Rattle.q128.specs.Fraction.{Fraction, whole, IsSame, IsAtMost, plus, negative, minus, times, inverse, IsQuotient}
use Rattle.q128.specs.Rule.{narrow, add_rule, sub_rule, mul_rule}

-- `same` is reflexive, symmetric and transitive
pub record IsEquivalence {A : Type 0} (same : A → A → Type 0) : Type 0 where
  pub reflexive : (x : A) → same x x
  pub symmetric : (x y : A) → same x y → same y x
  pub transitive : (x y z : A) → same x y → same y z → same x z

-- an operation that depends on what is the same alone, associative and commutative, with a neutral element
pub record IsCommutativeMonoid {A : Type 0} (same : A → A → Type 0) (with : A → A → A) (neutral : A) : Type 0 where
  pub respects : (x x' y y' : A) → same x x' → same y y' → same (with x y) (with x' y')
  pub associates : (x y z : A) → same (with (with x y) z) (with x (with y z))
  pub commutes : (x y : A) → same (with x y) (with y x)
  pub leaves : (x : A) → same (with x neutral) x

-- a field, up to `same`
pub record IsField {A : Type 0} (same : A → A → Type 0) (plus times : A → A → A) (zero one : A) (negative inverse : A → A) : Type 0 where
  pub equivalence : IsEquivalence same
  pub sums : IsCommutativeMonoid same plus zero
  pub products : IsCommutativeMonoid same times one
  pub distributes : (x y z : A) → same (times x (plus y z)) (plus (times x y) (times x z))
  pub negatives : (x : A) → same (plus x (negative x)) zero
  pub inverses : (x : A) → (same x zero → ⊥) → same (times x (inverse x)) one
  pub apart : same zero one → ⊥

-- a total order of what is the same, which sums and products with what isn't below zero keep
pub record IsFieldOrder {A : Type 0} (same at_most : A → A → Type 0) (plus times : A → A → A) (zero : A) : Type 0 where
  pub reflexive : (x y : A) → same x y → at_most x y
  pub antisymmetric : (x y : A) → at_most x y → at_most y x → same x y
  pub transitive : (x y z : A) → at_most x y → at_most y z → at_most x z
  pub total : (x y : A) → at_most x y ⊎ at_most y x
  pub sums : (x y z : A) → at_most x y → at_most (plus x z) (plus y z)
  pub products : (x y z : A) → at_most zero z → at_most x y → at_most (times x z) (times y z)

-- Fractions are the ordered field of the rationals: differences and quotients are what the field makes them, and a
-- fraction isn't below 0 exactly where its numerator isn't.
pub record AreOrderedField : Type 0 where
  pub field : IsField IsSame plus times (whole (pos 0)) (whole (pos 1)) negative inverse
  pub order : IsFieldOrder IsSame IsAtMost plus times (whole (pos 0))
  pub differences : (x y : Fraction) → IsSame (minus x y) (plus x (negative y))
  pub quotients : (x y z : Fraction) → (IsSame y (whole (pos 0)) → ⊥) → IsQuotient z x y ↔ IsSame z (times x (inverse y))
  pub signs : (x : Fraction) → IsAtMost (whole (pos 0)) x ↔ (pos 0 ≤ℤ x.num)

-- ---- whole numbers
-- z is a number of i128
abbrev pub IsNarrow : ℤ → Type 0
IsNarrow z = mag z < 2 ^ 127

-- the whole number z as a fraction, or None where i128 doesn't hold it
abbrev pub narrow_whole : ℤ → Option Fraction
narrow_whole z = option_map whole (narrow z)

-- The rule on whole numbers: a sum and a product are None only where they leave i128 themselves, and a difference is so
-- too, but that the least number is never taken away.
pub record RuleOnWholes (a b : ℤ) : Type 0 where
  pub sum : add_rule (whole a) (whole b) ≡ narrow_whole (a +ℤ b)
  pub product : mul_rule (whole a) (whole b) ≡ narrow_whole (a *ℤ b)
  pub difference : b ≢ neg_ℤ (pos (2 ^ 127)) → sub_rule (whole a) (whole b) ≡ narrow_whole (a -ℤ b)
  pub least : b ≡ neg_ℤ (pos (2 ^ 127)) → sub_rule (whole a) (whole b) ≡ None
