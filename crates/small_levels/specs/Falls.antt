-- The difference of a function's values before and after a step, coefficient by coefficient.
use Rattle.std.specs.Prelude.{◌≡◌, ◌⊎◌, ℕ, ◌<◌, ◌^◌, ℤ, pos, negsuc, ◌+ℤ◌, ◌*ℤ◌, List, [], ◌∷◌, length, All, Option, Some, None, slice_index_or}
use Rattle.q128.specs.Laws.{IsNarrow}
use Rattle.lin_rows.specs.Linear.{Linear, coefficient_of}
use Rattle.lin_rows.specs.Transitions.{drop_of}

abbrev pub IsUnit : ℤ → Type 0
IsUnit c = (c ≡ pos 0) ⊎ (c ≡ pos 1) ⊎ (c ≡ negsuc 0)

abbrev pub AreUnits : Linear → Type 0
AreUnits f = All IsUnit f.coefficients

-- the coefficient of a variable, or the constant
abbrev pub part_of : Linear → Option ℕ → ℤ
part_of l None = l.constant
part_of l (Some v) = coefficient_of l v

-- the same of f, whose constant has no part in the difference
abbrev pub first_of : Linear → Option ℕ → ℤ
first_of f None = pos 0
first_of f (Some v) = coefficient_of f v

-- the parts of the expressions, each times its factor
abbrev pub sum_part : List ℤ → List Linear → Option ℕ → ℤ
sum_part [] es at = pos 0
sum_part (c ∷ cs) [] at = pos 0
sum_part (c ∷ cs) (e ∷ es) at = c *ℤ part_of e at +ℤ sum_part cs es at

-- the coefficients of the difference
pub record IsFallList (f : Linear) (next : List Linear) (cs : List ℤ) : Type 0 where
  pub short : length cs < 2 ^ 32
  pub each : (v : ℕ) → slice_index_or cs v (pos 0) ≡ coefficient_of (drop_of f next (pos 0)) v

-- some of them doesn't fit
pub record HasNoFallList (f : Linear) (next : List Linear) : Type 0 where
  pub variable : ℕ
  pub wide : IsNarrow (coefficient_of (drop_of f next (pos 0)) variable) → ⊥
