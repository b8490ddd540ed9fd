-- The methods by the numbers of their components.
use Rattle.std.specs.Prelude.{◌≡◌, ℕ, ◌<◌, List, length, slice_index, All, Contains}
use Rattle.std.specs.List.Sorted.{IsNonDecreasingBy}

-- the numbers below n, in some order
pub record AreBelow (n : ℕ) (nodes : List ℕ) : Type 0 where
  pub count : length nodes ≡ n
  pub inside : All (λ k. k < n) nodes
  pub all : (k : ℕ) → k < n → Contains nodes k

-- all nodes, none behind one with a greater number
pub record IsByNumber (numbers order : List ℕ) : Type 0 where
  pub nodes : AreBelow (length numbers) order
  pub rising : IsNonDecreasingBy (λ k. slice_index numbers k) order
