-- Regions of a method's code. A region is named by the entries of the loops that it lies in, the innermost first; the
-- method itself lies in none. (Loops with one entry: Aho, Lam, Sethi and Ullman, Compilers, 9.6.)
use Rattle.std.specs.Prelude.{◌≡◌, ℕ, List, ◌∷◌, ◌++◌}

-- a place that lies in these loops, its home, lies in the region
abbrev pub IsIn : List ℕ → List ℕ → Type 0
IsIn region home = (inner : List ℕ) × (home ≡ inner ++ region)

abbrev pub IsOutside : List ℕ → List ℕ → Type 0
IsOutside region home = IsIn region home → ⊥

-- What an edge to a place may do: it leaves any number of loops, none among them, and may then enter one loop that it
-- wasn't in, at the loop's entry.
pub data Passage (from : List ℕ) (place : ℕ) : List ℕ → Type 0 where
  leaves : {to : List ℕ} → IsIn to from → Passage from place to
  enters : {to : List ℕ} → IsIn to from → IsOutside (place ∷ to) from → Passage from place (place ∷ to)
