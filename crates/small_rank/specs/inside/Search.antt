-- What the search for the first ranking keeps.
use Rattle.std.specs.Prelude.{◌≡◌, ◌⊎◌, ℕ, ℤ, pos, negsuc, List}
use Rattle.q128.specs.Fraction.{Fraction}
use Rattle.lin_rows.specs.declared.row.Transition.{Transition}
use Rattle.lin_rows.specs.Linear.{Linear}
use Rattle.small_cert.specs.Order.{key_of, Precedes}
use Rattle.small_levels.specs.Measured.{times_in}
use Rattle.small_rank.specs.declared.functions.Found.{Found}
use Rattle.small_rank.specs.Ranking.{IsRanking, IsFirstRanking}

-- a coefficient of a function that isn't 0
abbrev pub IsSign : ℤ → Type 0
IsSign a = (a ≡ pos 1) ⊎ (a ≡ negsuc 0)

-- f has no ranking
abbrev pub HasNoRankingBy : List Transition → ℕ → Linear → Type 0
HasNoRankingBy steps n f = (c d : Fraction) (s : ℕ) (whole_c whole_d : ℤ) → IsRanking steps n f c d s whole_c whole_d → ⊥

-- no function whose key comes before this one has a ranking
pub record HasNoneBefore (steps : List Transition) (n : ℕ) (key : List ℕ) : Type 0 where
  pub each : (g : Linear) → Precedes (key_of g) key → HasNoRankingBy steps n g

-- nor one with this key
pub record HasNoneUpTo (steps : List Transition) (n : ℕ) (key : List ℕ) : Type 0 where
  pub before : HasNoneBefore steps n key
  pub here : (g : Linear) → key_of g ≡ key → HasNoRankingBy steps n g

-- what is found is a ranking, with its fractions and their common factor
abbrev pub IsFoundBy : List Transition → ℕ → Found → Type 0
IsFoundBy steps n r = IsRanking steps n r.function r.measure.gate r.measure.fall (times_in r.measure.factor) r.measure.c r.measure.d

-- and the first one
abbrev pub IsFirstFound : List Transition → ℕ → Found → Type 0
IsFirstFound steps n r = IsFirstRanking steps n r.function r.measure.gate r.measure.fall (times_in r.measure.factor) r.measure.c r.measure.d
