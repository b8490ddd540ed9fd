-- The least constant with which coefficients are small, as it is answered: in halves, since a sum is shared by 1 or 2.
use Rattle.std.specs.Prelude.{ℤ, pos, ◌*ℤ◌, List}
use Rattle.q128.specs.Fraction.{Fraction}
use Rattle.lin_rows.specs.Linear.{Linear}
use Rattle.small_cert.specs.declared.multiple.Multiple.{Multiple}
use Rattle.small_cert.specs.declared.multiple.Multiple.TheVariants.{Once, Twice}
use Rattle.small_cert.specs.declared.least.Least.{Least}
use Rattle.small_cert.specs.Multiples.{times_of}
use Rattle.small_cert.specs.Small.{IsReached, IsLeastBy}
use Rattle.small_sums.specs.Terms.{multipliers_of}

-- so many halves
abbrev pub halves : ℤ → Fraction
halves z = record { num = z; den_less_one = 1 }

-- the constant of a sum for a multiple, in halves
abbrev pub shared_of : Multiple → ℤ → ℤ
shared_of Once s = pos 2 *ℤ s
shared_of Twice s = s

abbrev pub constant_of : Least → Fraction
constant_of f = halves (shared_of f.multiple f.sum)

-- coefficients without a constant
abbrev pub expression_of : List ℤ → Linear
expression_of cs = record { coefficients = cs; constant = pos 0 }

-- what is answered is the least constant, with the rows that reach it
abbrev pub IsLeastSum : List Linear → List ℤ → Least → Type 0
IsLeastSum rows cs f = IsLeastBy rows (expression_of cs) (constant_of f) (multipliers_of f.terms) (times_of f.multiple)

-- no constant is reached
abbrev pub HasNoLeast : List Linear → List ℤ → Type 0
HasNoLeast rows cs = (x : Fraction) → IsReached rows (expression_of cs) x → ⊥
