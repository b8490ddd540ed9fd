-- The rows of a sum by their places: some front ones, and a last one.
use Rattle.std.specs.Prelude.{ℕ, ◌/◌, ◌<◌, List, [], ◌∷◌, ◌++◌, map}
use Rattle.lin_rows.specs.Proving.{Multipliers}
use Rattle.small_sums.specs.Places.{term_at}
use Rattle.small_sums.specs.Terms.{term_of}
use Rattle.small_caps.specs.declared.pick.Front.{Front}
use Rattle.small_caps.specs.declared.pick.Front.TheVariants.{Zero, One, Two}

abbrev pub places_in : Front → List ℕ
places_in Zero = []
places_in (One a) = a ∷ []
places_in (Two a b) = a ∷ b ∷ []

abbrev pub multipliers_at : List ℕ → Multipliers
multipliers_at places = map (λ p. term_of (term_at p)) places

-- the multipliers of the rows
abbrev pub multipliers_in : Front → ℕ → Multipliers
multipliers_in front last = multipliers_at (places_in front ++ last ∷ [])

-- the front rows are there, of so many places, and in the order of their numbers
abbrev pub IsFront : ℕ → Front → Type 0
IsFront count Zero = Unit {0}
IsFront count (One a) = a < count
IsFront count (Two a b) = (a < count) × (b < count) × (a / 2 < b / 2)

-- the last row is behind them
abbrev pub IsBehind : Front → ℕ → Type 0
IsBehind Zero last = Unit {0}
IsBehind (One a) last = a / 2 < last / 2
IsBehind (Two a b) last = b / 2 < last / 2
