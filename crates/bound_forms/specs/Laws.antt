-- What is gathered is in order.
use Rattle.std.specs.Prelude.{List}
use Rattle.bound_terms.specs.Terms.{Term}
use Rattle.bound_forms.specs.Monomials.{Monomial, Form, gathered, atoms_onto, total_form, form_product}
use Rattle.bound_forms.specs.Normal.{Rising, NotFalling}

-- monomials that are put into a form in order, each before the next, leave it so
abbrev pub GatheredRise : Type 0
GatheredRise = (p : Form) (ms : List Monomial) → Rising p → Rising (gathered p ms)

-- so sums and products are in order, with no two monomials whose atoms have the same keys
abbrev pub SumsRise : Type 0
SumsRise = (ps : List Form) → Rising (total_form ps)

abbrev pub ProductsRise : Type 0
ProductsRise = (p q : Form) → Rising (form_product p q)

-- atoms that are put into a list in order leave it so
abbrev pub AtomsStayInOrder : Type 0
AtomsStayInOrder = (bs more : List Term) → NotFalling bs → NotFalling (atoms_onto bs more)
