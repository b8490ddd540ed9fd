-- What a bound says, as a term of numbers and expressions over sizes (the cost expressions of Albert, Arenas, Genaim and
-- Puebla, Closed-form upper bounds in static cost analysis, 2011, section 2).
use Rattle.std.specs.Prelude.{ℕ, List, [], ◌∷◌}
use Rattle.lin_rows.specs.Linear.{Linear}

-- an expression, and what it is divided by
pub record Floored : Type 0 where
  pub expression : Linear
  pub divisor : ℕ

mutual
  pub data Term : Type 0 where
    Number : ℕ → Term
    Floor : Floored → Term
    Total : Terms → Term
    Product : Terms → Term
    Greatest : Terms → Term
    Power : ℕ → Floored → Term
    Geometric : ℕ → Floored → Term

  -- a list of terms
  pub data Terms : Type 0 where
    none : Terms
    more : Term → Terms → Terms

-- the terms of a list
abbrev pub terms : List Term → Terms
terms [] = none
terms (t ∷ ts) = more t (terms ts)
