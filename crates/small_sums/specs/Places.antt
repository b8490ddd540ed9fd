-- Each row has two places, once and twice, by which the rows of a sum are looked up.
use Rattle.std.specs.Prelude.{ℕ, ◌+◌, ◌/◌, ◌%◌, ◌<◌, ◌==◌, ℤ, pos, ◌*ℤ◌, List, if◌then◌else◌}
use Rattle.lin_rows.specs.Linear.{Linear, row_at}
use Rattle.small_sums.specs.declared.term.Term.{Term}
use Rattle.small_sums.specs.Keys.{digits, IsResidue}

-- the row of a place, once at an even place and twice at an odd one
abbrev pub term_at : ℕ → Term
term_at place = record { number = place / 2 + 1; twice = place % 2 == 1 }

-- what the key of a place is the key of
abbrev pub digits_at : List Linear → ℕ → ℤ
digits_at rows place = (if place % 2 == 1 then pos 2 else pos 1) *ℤ digits (row_at rows (place / 2 + 1)).coefficients

-- the last place before `last_end` whose row has the key
pub record IsLastWith (rows : List Linear) (key last_end place : ℕ) : Type 0 where
  pub within : place < last_end
  pub there : IsResidue (digits_at rows place) key
  pub behind : (i : ℕ) → place < i → i < last_end → IsResidue (digits_at rows i) key → ⊥

-- there is none
pub record HasNoneWith (rows : List Linear) (key last_end : ℕ) : Type 0 where
  pub nowhere : (i : ℕ) → i < last_end → IsResidue (digits_at rows i) key → ⊥
