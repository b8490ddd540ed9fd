-- A sum, of which the last monomial is still read.
use Rattle.std.specs.Prelude.{ℕ, zero, suc, Option, Some, None, List, [], ◌∷◌, ◌++◌, map}
use Rattle.bound_terms.specs.Terms.{Term, Number, Total, Product, more, terms}
use Rattle.bound_terms.specs.Bounds.{term_of}
use Rattle.bound_text.specs.declared.sum.Sum.{Sum}
use Rattle.bound_text.specs.inside.Runs.{digit_onto, number_or}

-- the operands in front of it, where it is one of a maximum; its monomials; of the last one the number and the atoms
pub record OpenSum : Type 0 where
  pub operands : List Term
  pub monomials : List Term
  pub coefficient : Option ℕ
  pub atoms : List Term

abbrev pub open_of : Sum → OpenSum
open_of s = record { operands = map term_of s.operands.items; monomials = map term_of s.monomials.items; coefficient = s.coefficient; atoms = map term_of s.atoms.items }

abbrev pub sum_behind : List Term → List Term → OpenSum
sum_behind operands monomials = record { operands = operands; monomials = monomials; coefficient = None; atoms = [] }

abbrev pub nothing_open : OpenSum
nothing_open = sum_behind [] []

abbrev pub with_digit : ℕ → OpenSum → OpenSum
with_digit byte s = record { operands = s.operands; monomials = s.monomials; coefficient = Some (digit_onto (number_or 0 s.coefficient) byte); atoms = s.atoms }

abbrev pub with_atom : Term → OpenSum → OpenSum
with_atom t s = record { operands = s.operands; monomials = s.monomials; coefficient = s.coefficient; atoms = s.atoms ++ t ∷ [] }

-- a number 0 is no monomial
abbrev pub monomial_by : ℕ → List Term → List Term
monomial_by zero ts = []
monomial_by (suc n) ts = Product (more (Number (suc n)) (terms ts)) ∷ []

abbrev pub with_monomial : OpenSum → OpenSum
with_monomial s = sum_behind s.operands (s.monomials ++ monomial_by (number_or 1 s.coefficient) s.atoms)

abbrev pub with_operand : OpenSum → OpenSum
with_operand s = sum_behind (s.operands ++ Total (terms (with_monomial s).monomials) ∷ []) []
