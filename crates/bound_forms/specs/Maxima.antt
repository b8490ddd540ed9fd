-- Maxima of forms, without a maximum among the operands and without needless operands.
use Rattle.std.specs.Prelude.{ℕ, ◌==◌, ◌&&◌, ◌||◌, not, nat_le, Bool, true, List, [], ◌∷◌, ◌++◌, map, if◌then◌else◌}
use Rattle.std.specs.List.{list_any}
use Rattle.std.specs.declared.cmp.Ordering.{Ordering}
use Rattle.std.specs.declared.cmp.Ordering.TheVariants.{Less, Equal, Greater}
use Rattle.bound_terms.specs.Terms.{Term, Number, Total, Product, Greatest, Terms, none, more, terms}
use Rattle.bound_forms.specs.Monomials.{Monomial, Form, form_term, atoms_order, one_atom}

-- the coefficient of a monomial, 0 where it isn't there
abbrev pub coefficient_by : Ordering → ℕ → ℕ → ℕ
coefficient_by Equal here behind = here
coefficient_by Less here behind = behind
coefficient_by Greater here behind = behind

abbrev pub coefficient_in : Form → List Term → ℕ
coefficient_in [] atoms = 0
coefficient_in (m ∷ ms) atoms = coefficient_by (atoms_order m.atoms atoms) m.coefficient (coefficient_in ms atoms)

-- q has at least the coefficient of p on each monomial
abbrev pub covers : Form → Form → Bool
covers q [] = true
covers q (m ∷ ms) = nat_le m.coefficient (coefficient_in q m.atoms) && covers q ms

-- an operand is needless where another covers it, all looked at together; of equal ones the first is kept
abbrev pub is_needless : List Form → Form → List Form → Bool
is_needless before p behind = list_any (λ q. covers q p) before || list_any (λ q. covers q p && not (covers p q)) behind

abbrev pub pruned : List Form → List Form → List Form
pruned before [] = []
pruned before (p ∷ ps) =
    if is_needless before p ps then pruned (before ++ p ∷ []) ps
    else p ∷ pruned (before ++ p ∷ []) ps

abbrev pub greatest_form : List Form → Form
greatest_form [] = []
greatest_form (p ∷ []) = p
greatest_form (p ∷ q ∷ ps) = one_atom (Greatest (terms (map form_term (p ∷ q ∷ ps))))

-- ---- the form that a term in normal form is
abbrev pub listed : Terms → List Term
listed none = []
listed (more t ts) = t ∷ listed ts

abbrev pub monomial_by : Terms → Monomial
monomial_by none = record { coefficient = 0; atoms = [] }
monomial_by (more (Number c) ts) = record { coefficient = c; atoms = listed ts }
monomial_by (more t ts) = record { coefficient = 0; atoms = [] }

abbrev pub monomial_of : Term → Monomial
monomial_of (Product ts) = monomial_by ts
monomial_of t = record { coefficient = 0; atoms = [] }

abbrev pub form_of : Term → Form
form_of (Total ts) = map monomial_of (listed ts)
form_of t = []

-- a form that is a maximum alone stands for its operands
abbrev pub operands_by : Bool → List Term → Form → List Form
operands_by true (Greatest ts ∷ []) p = map form_of (listed ts)
operands_by is_alone atoms p = p ∷ []

abbrev pub operands_of : Form → List Form
operands_of [] = [] ∷ []
operands_of (m ∷ []) = operands_by (m.coefficient == 1) m.atoms (m ∷ [])
operands_of (m ∷ n ∷ p) = (m ∷ n ∷ p) ∷ []
