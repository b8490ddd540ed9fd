-- The path of a problem: from the first choice, each next choice is the one after the solver's pivot.
use Rattle.std.specs.Prelude.{◌≡◌, ℕ, max, List, [], ◌∷◌, map}
use Rattle.lin_rows.specs.Linear.{Linear}
use Rattle.solver_paths.specs.Choices.{first_choice, Dictionary, IsDictionary}
use Rattle.solver_paths.specs.Pivots.{IsPivot, replaced}
use Rattle.solver_paths.specs.Making.{IsNarrow}

-- the solver's pivot at the choice, none of whose numbers is too wide
pub record IsStep (rows : List Linear) (choice : List ℕ) (r c : ℕ) : Type 0 where
  pub own : Dictionary
  pub dictionary : IsDictionary rows choice own
  pub pivot : IsPivot rows choice own r c
  pub narrow : IsNarrow rows choice own r c

-- the solver's pivots, one after another, lead from a choice to the last
abbrev pub Goes : List Linear → List ℕ → List (ℕ × ℕ) → List ℕ → Type 0
Goes rows choice [] last = choice ≡ last
Goes rows choice (p ∷ ps) last = IsStep rows choice p.0 p.1 × Goes rows (replaced p.0 p.1 choice) ps last

-- the path of the problem comes to the choice by these pivots
abbrev pub Path : List Linear → List (ℕ × ℕ) → List ℕ → Type 0
Path rows ps choice = Goes rows (first_choice rows) ps choice

-- the greater of a pivot's two numbers
abbrev pub key_of : ℕ × ℕ → ℕ
key_of p = max p.0 p.1

abbrev pub keys_of : List (ℕ × ℕ) → List ℕ
keys_of ps = map key_of ps
