-- What is known of steps while they are proved.
use Rattle.std.specs.Prelude.{ℤ, List, [], ◌∷◌, Contains}
use Rattle.lin_rows.specs.declared.row.Transition.{Transition}
use Rattle.lin_rows.specs.Linear.{Linear}
use Rattle.lin_rows.specs.Proving.{Multipliers}
use Rattle.lin_rows.specs.Rows.{lins}
use Rattle.small_sums.specs.Terms.{multipliers_of}
use Rattle.small_cert.specs.declared.least.Least.{Least}
use Rattle.small_cert.specs.Multiples.{times_of}
use Rattle.small_cert.specs.Small.{AreShared}
use Rattle.small_cert.specs.Least.{IsLeastSum}
use Rattle.small_levels.specs.Leveled.{IsLive}
use Rattle.small_levels.specs.Measured.{HasNoLevels}

-- multipliers of the least constant of coefficients
abbrev pub ProvesLeastOf : Transition → List ℤ → Multipliers → Type 0
ProvesLeastOf t cs n = (f : Least) × IsLeastSum (lins t.rows) cs f × AreShared n (multipliers_of f.terms) (times_of f.multiple)

-- f has levels on each live step
abbrev pub HasLevelsOn : List Transition → Linear → Type 0
HasLevelsOn steps f = (t : Transition) → Contains steps t → IsLive t → HasNoLevels (t ∷ []) f → ⊥
