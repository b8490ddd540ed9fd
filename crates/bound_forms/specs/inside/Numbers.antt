-- What doesn't depend on a size.
use Rattle.std.specs.Prelude.{ℕ, ◌≤◌, ℤ, List, [], ◌∷◌, Option, Some, None}
use Rattle.bound_terms.specs.Terms.{Term}
use Rattle.bound_terms.specs.Values.{value_of, Fits}
use Rattle.bound_forms.specs.Limits.{past_limit}

-- a value where no coefficient is left
abbrev pub fixed_by : List ℤ → ℕ → Option ℕ
fixed_by [] v = Some v
fixed_by (c ∷ cs) v = None

-- where no size is wanted, a value that doesn't fit is past the limit
abbrev pub FitsOrPasses : Term → Type 0
FitsOrPasses t = ¬ Fits [] t → past_limit ≤ value_of [] t
