-- Which operands of a maximum are kept.
use Rattle.std.specs.Prelude.{◌==◌, ◌&&◌, ◌<◌, Bool, true, false, List, [], ◌∷◌, ◌++◌, map, if◌then◌else◌}
use Rattle.bound_terms.specs.Terms.{Term, Greatest}
use Rattle.bound_forms.specs.Monomials.{Monomial, Form}
use Rattle.bound_forms.specs.Limits.{past_limit}
use Rattle.bound_forms.specs.Maxima.{is_needless, listed, form_of}

-- for each operand whether it is needless
abbrev pub needless_of : List Form → List Form → List Bool
needless_of before [] = []
needless_of before (p ∷ ps) = is_needless before p ps ∷ needless_of (before ++ p ∷ []) ps

-- the machine takes the coefficient
abbrev pub IsLow : Monomial → Type 0
IsLow m = m.coefficient < past_limit

-- the operands of an atom that is a maximum
abbrev pub parts_of : Term → List Form
parts_of (Greatest ts) = map form_of (listed ts)
parts_of t = []

-- the operands of a maximum that is an only atom
abbrev pub maximum_operands : List Term → List Form
maximum_operands (Greatest ts ∷ []) = map form_of (listed ts)
maximum_operands atoms = []

abbrev pub is_maximum : List Term → Bool
is_maximum (Greatest ts ∷ []) = true
is_maximum atoms = false

-- a form is a maximum alone
abbrev pub is_alone : Form → Bool
is_alone [] = false
is_alone (m ∷ []) = (m.coefficient == 1) && is_maximum m.atoms
is_alone (m ∷ n ∷ p) = false

-- those whose flag isn't set
abbrev pub unflagged : List Bool → List Form → List Form
unflagged [] ps = []
unflagged (b ∷ bs) [] = []
unflagged (b ∷ bs) (p ∷ ps) = if b then unflagged bs ps else p ∷ unflagged bs ps
