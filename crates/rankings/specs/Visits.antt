-- The visits of a node: its entry, and where each step from a visit leads.
use Rattle.std.specs.Prelude.{◌≡◌, ℕ, ℤ, List, ◌++◌, length, Contains}
use Rattle.lin_rows.specs.declared.row.Transition.{Transition}
use Rattle.lin_rows.specs.Transitions.{StepsWhole}

-- The sizes at a visit. A step from a visit may give any values to the variables behind its sizes.
pub data Visits (steps : List Transition) (entry : List ℤ) : List ℤ → Type 0 where
  first : Visits steps entry entry
  later : {x now : List ℤ} (step : Transition) (zs : List ℤ) → Visits steps entry x → Contains steps step → StepsWhole step (x ++ zs) now → Visits steps entry now

-- each step has so many next sizes
pub record HaveSizes (n : ℕ) (steps : List Transition) : Type 0 where
  pub each : (step : Transition) → Contains steps step → length step.next ≡ n
