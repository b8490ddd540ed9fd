-- What is answered for the parts of a bound: their forms, or a limit that they pass.
use Rattle.std.specs.Prelude.{ℕ, ◌≡◌, Bool, true, false, List, [], ◌∷◌, Result, Ok, Err}
use Rattle.std.specs.Global.{Vec}
use Rattle.bound_terms.specs.Terms.{Term}
use Rattle.bound_terms.specs.declared.bound.Bound.{Bound}
use Rattle.bound_forms.specs.declared.fault.BoundFault.{BoundFault}
use Rattle.bound_forms.specs.declared.fault.BoundFault.TheVariants.{Monomials, Coefficient, Memory}
use Rattle.bound_forms.specs.Monomials.{Form, form_term}
use Rattle.bound_forms.specs.Forms.{form}
use Rattle.bound_forms.specs.Coded.{coded_form}
use Rattle.bound_forms.specs.Limits.{has_many, has_great}
use Rattle.bound_forms.specs.Needed.{Needs, NeedsKeep}

-- the form of a term is made, where all that it needs keeps the limits, or a needed part passes the limit that is answered
abbrev pub IsFormed : Result (Vec (ℕ × List Bound)) BoundFault → Term → Type 0
IsFormed (Ok f) t = (coded_form f.items ≡ form t) × NeedsKeep t
IsFormed (Err Monomials) t = (u : Term) × Needs u t × (has_many (form_term (form u)) ≡ true)
IsFormed (Err Coefficient) t = (u : Term) × Needs u t × (has_great (form_term (form u)) ≡ true)
IsFormed (Err Memory) t = Unit {0}

-- whether there is no monomial
abbrev pub is_empty : Form → Bool
is_empty [] = true
is_empty (m ∷ p) = false
