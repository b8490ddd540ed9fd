-- Sums of monomials in order: a map from lists of atoms to coefficients, in the order of its keys.
use Rattle.std.specs.Prelude.{ℕ, zero, suc, ◌+◌, ◌*◌, List, [], ◌∷◌, length, map}
use Rattle.std.specs.List.{flat_map}
use Rattle.std.specs.Cmp.Lexicographic.{slice_cmp}
use Rattle.std.specs.Ordering.{nat_cmp, ordering_then}
use Rattle.std.specs.declared.cmp.Ordering.{Ordering}
use Rattle.std.specs.declared.cmp.Ordering.TheVariants.{Less, Equal, Greater}
use Rattle.bound_terms.specs.Terms.{Term, Number, Floor, Total, Product, Greatest, Power, Geometric, more, terms}
use Rattle.bound_terms.specs.Texts.{text_of}

-- a coefficient, and atoms in order
pub record Monomial : Type 0 where
  pub coefficient : ℕ
  pub atoms : List Term

abbrev pub Form : Type 0
Form = List Monomial

-- the term that a form is
abbrev pub monomial_term : Monomial → Term
monomial_term m = Product (more (Number m.coefficient) (terms m.atoms))

abbrev pub form_term : Form → Term
form_term p = Total (terms (map monomial_term p))

-- ---- order
-- the kinds of atoms in their order
abbrev pub kind_of : Term → ℕ
kind_of (Floor n) = 0
kind_of (Greatest ts) = 1
kind_of (Geometric b n) = 2
kind_of (Power b n) = 3
kind_of t = 4

-- atoms go by their kind, and within a kind by the bytes of their texts
abbrev pub atom_key : Term → List ℕ
atom_key t = kind_of t ∷ text_of t

abbrev pub atom_order : Term → Term → Ordering
atom_order a b = slice_cmp nat_cmp (atom_key a) (atom_key b)

-- monomials go by the number of their atoms, and then by their atoms
abbrev pub atoms_order : List Term → List Term → Ordering
atoms_order xs ys = ordering_then (nat_cmp (length xs) (length ys)) (slice_cmp atom_order xs ys)

-- ---- sums
-- a monomial put into its place; the coefficients of equal ones are added
abbrev pub put_by : Ordering → Monomial → Monomial → Form → Form → Form
put_by Less m n ns behind = m ∷ n ∷ ns
put_by Equal m n ns behind = record { coefficient = m.coefficient + n.coefficient; atoms = m.atoms } ∷ ns
put_by Greater m n ns behind = n ∷ behind

abbrev pub put : Monomial → Form → Form
put m [] = m ∷ []
put m (n ∷ ns) = put_by (atoms_order m.atoms n.atoms) m n ns (put m ns)

-- several monomials, in any order, put into a form
abbrev pub gathered : Form → List Monomial → Form
gathered p [] = p
gathered p (m ∷ ms) = gathered (put m p) ms

abbrev pub total_form : List Form → Form
total_form ps = gathered [] (flat_map (λ p. p) ps)

-- ---- products
-- an atom put into its place
abbrev pub put_atom_by : Ordering → Term → Term → List Term → List Term → List Term
put_atom_by Less a b bs behind = a ∷ b ∷ bs
put_atom_by Equal a b bs behind = a ∷ b ∷ bs
put_atom_by Greater a b bs behind = b ∷ behind

abbrev pub put_atom : Term → List Term → List Term
put_atom a [] = a ∷ []
put_atom a (b ∷ bs) = put_atom_by (atom_order a b) a b bs (put_atom a bs)

-- several atoms, in any order, put into a list in order
abbrev pub atoms_onto : List Term → List Term → List Term
atoms_onto bs [] = bs
atoms_onto bs (a ∷ rest) = atoms_onto (put_atom a bs) rest

abbrev pub monomial_product : Monomial → Monomial → Monomial
monomial_product m n = record { coefficient = m.coefficient * n.coefficient; atoms = atoms_onto m.atoms n.atoms }

-- the product of two forms, multiplied out: the products of each monomial of the one with each of the other
abbrev pub products : Form → Form → List Monomial
products p q = flat_map (λ m. map (monomial_product m) q) p

abbrev pub form_product : Form → Form → Form
form_product p q = gathered [] (products p q)

-- ---- one monomial
abbrev pub constant : ℕ → Form
constant zero = []
constant (suc n) = record { coefficient = suc n; atoms = [] } ∷ []

abbrev pub one_atom : Term → Form
one_atom t = record { coefficient = 1; atoms = t ∷ [] } ∷ []

-- the product of several forms
abbrev pub product_from : Form → List Form → Form
product_from p [] = p
product_from p (q ∷ qs) = product_from (form_product p q) qs

abbrev pub product_form : List Form → Form
product_form ps = product_from (constant 1) ps
