-- What the program's monomials are.
use Rattle.std.specs.Prelude.{ℕ, List, map}
use Rattle.bound_terms.specs.declared.bound.Bound.{Bound}
use Rattle.bound_terms.specs.Bounds.{term_of}
use Rattle.bound_forms.specs.Monomials.{Monomial, Form}

-- a coefficient and atoms
abbrev pub coded : ℕ × List Bound → Monomial
coded m = record { coefficient = m.0; atoms = map term_of m.1 }

abbrev pub coded_form : List (ℕ × List Bound) → Form
coded_form p = map coded p
