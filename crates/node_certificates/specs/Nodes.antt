-- What is asked of the steps of a node.
use Rattle.std.specs.Prelude.{◌≡◌, ℕ, ◌<◌, ◌^◌, List, length, All}
use Rattle.lin_rows.specs.declared.row.Transition.{Transition}

-- numbers of 32 bits count the rows of each step, and each has a next value for each of so many sizes
pub record AreStepsOf (sizes : ℕ) (steps : List Transition) : Type 0 where
  pub rows : All (λ (t : Transition). length t.rows < 2 ^ 32) steps
  pub next : All (λ (t : Transition). length t.next ≡ sizes) steps
