-- Levels of steps, and what is made of them.
use Rattle.std.specs.Prelude.{◌≡◌, ℕ, ℤ, pos, ◌*ℤ◌, List, Option, Some, None}
use Rattle.q128.specs.Fraction.{Fraction, IsSame}
use Rattle.lin_rows.specs.declared.row.Transition.{Transition}
use Rattle.lin_rows.specs.Linear.{Linear}
use Rattle.small_cert.specs.declared.least.Least.{Least}
use Rattle.small_cert.specs.Least.{halves, shared_of}
use Rattle.small_levels.specs.declared.levels.Levels.{Levels}
use Rattle.small_levels.specs.declared.measure.Measure.{Measure}
use Rattle.small_levels.specs.declared.measure.Factor.{Factor}
use Rattle.small_levels.specs.declared.measure.Factor.TheVariants.{One, Two}
use Rattle.small_levels.specs.Numbers.{value_of}
use Rattle.small_levels.specs.Leveled.{AreDead, IsGate, IsDrop, IsMeasure}

-- the levels are those of the live steps
pub record AreLevels (steps : List Transition) (f : Linear) (l : Levels) : Type 0 where
  pub gate : IsGate steps f (halves (value_of l.gate))
  pub fall : IsDrop steps f (halves (value_of l.fall))

-- or no step is live
abbrev pub AreKnown : List Transition → Linear → Option Levels → Type 0
AreKnown steps f None = AreDead steps
AreKnown steps f (Some l) = AreLevels steps f l

-- f has no levels
abbrev pub HasNoLevels : List Transition → Linear → Type 0
HasNoLevels steps f = (c d : Fraction) → IsGate steps f c → IsDrop steps f d → ⊥

-- a least constant in halves
abbrev pub halves_in : Least → ℤ
halves_in l = shared_of l.multiple l.sum

-- ---- the factor
abbrev pub times_in : Factor → ℕ
times_in One = 1
times_in Two = 2

-- n is so many halves times the factor
abbrev pub IsTimes : Factor → ℤ → ℤ → Type 0
IsTimes One z n = z ≡ pos 2 *ℤ n
IsTimes Two z n = z ≡ n

-- so many halves are whole
abbrev pub IsEven : ℤ → Type 0
IsEven z = (n : ℤ) × (z ≡ pos 2 *ℤ n)

-- the factor that makes both levels whole
abbrev pub IsFactorOf : Levels → Factor → Type 0
IsFactorOf l One = IsEven (value_of l.gate) × IsEven (value_of l.fall)
IsFactorOf l Two = (IsEven (value_of l.gate) × IsEven (value_of l.fall)) → ⊥

-- the factor makes so many halves whole
abbrev pub MakesInteger : Factor → ℤ → Type 0
MakesInteger One z = IsEven z
MakesInteger Two z = Unit {0}

pub record IsMade (l : Levels) (m : Measure) : Type 0 where
  pub gate : IsSame (halves (value_of l.gate)) m.gate
  pub fall : IsSame (halves (value_of l.fall)) m.fall
  pub measure : IsMeasure (halves (value_of l.gate)) (halves (value_of l.fall)) (times_in m.factor) m.c m.d

abbrev pub HasNoMeasure : Levels → Type 0
HasNoMeasure l = (s : ℕ) (whole_c whole_d : ℤ) → IsMeasure (halves (value_of l.gate)) (halves (value_of l.fall)) s whole_c whole_d → ⊥
