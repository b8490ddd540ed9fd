-- What holds of the monomials of forms holds of those of their sums and products, where adding and multiplying two keeps it.
use Rattle.std.proofs.Common.{◌+◌, List, [], ◌∷◌, map}
use Rattle.std.specs.Prelude.{All}
use Rattle.std.specs.List.{flat_map}
use Rattle.std.specs.declared.cmp.Ordering.{Ordering}
use Rattle.std.specs.declared.cmp.Ordering.TheVariants.{Less, Equal, Greater}
use Rattle.std.proofs.lemmas.List.Elements.{All-nil, All-cons, All-head, All-tail, All-append}
use Rattle.bound_terms.specs.Terms.{Term}
use Rattle.bound_forms.specs.Monomials.{Monomial, Form, atoms_order, atom_order, put_by, put, gathered, total_form, put_atom_by, put_atom, atoms_onto, monomial_product, products, form_product, product_from}

abbrev pub added : Monomial → Monomial → Monomial
added m n = record { coefficient = m.coefficient + n.coefficient; atoms = m.atoms }

pub record IsClosed (M : Monomial → Type 0) : Type 0 where
  pub add : (m n : Monomial) → M m → M n → M (added m n)
  pub times : (m n : Monomial) → M m → M n → M (monomial_product m n)

by_order : (M : Monomial → Type 0) → IsClosed M → (o : Ordering) (m n : Monomial) (ns rest : Form) → M m → M n → All M ns → All M rest → All M (put_by o m n ns rest)
by_order M k Less m n ns rest a b h g = All-cons M m (n ∷ ns) a (All-cons M n ns b h)
by_order M k Equal m n ns rest a b h g = All-cons M (added m n) ns (k.add m n a b) h
by_order M k Greater m n ns rest a b h g = All-cons M n rest b g

pub all_put : (M : Monomial → Type 0) → IsClosed M → (m : Monomial) (p : Form) → M m → All M p → All M (put m p)
all_put M k m [] a h = All-cons M m [] a (All-nil M)
all_put M k m (n ∷ ns) a h =
    by_order M k (atoms_order m.atoms n.atoms) m n ns (put m ns) a (All-head M n ns h) (All-tail M n ns h) (all_put M k m ns a (All-tail M n ns h))

pub all_gathered : (M : Monomial → Type 0) → IsClosed M → (p : Form) (ms : List Monomial) → All M p → All M ms → All M (gathered p ms)
all_gathered M k p [] h g = h
all_gathered M k p (m ∷ ms) h g = all_gathered M k (put m p) ms (all_put M k m p (All-head M m ms g) h) (All-tail M m ms g)

all_flat : (M : Monomial → Type 0) → (ps : List Form) → All (All M) ps → All M (flat_map (λ p. p) ps)
all_flat M [] h = All-nil M
all_flat M (p ∷ ps) h = All-append M p (flat_map (λ p. p) ps) (All-head (All M) p ps h) (all_flat M ps (All-tail (All M) p ps h))

pub all_total : (M : Monomial → Type 0) → IsClosed M → (ps : List Form) → All (All M) ps → All M (total_form ps)
all_total M k ps h = all_gathered M k [] (flat_map (λ p. p) ps) (All-nil M) (all_flat M ps h)

all_row : (M : Monomial → Type 0) → IsClosed M → (m : Monomial) (q : Form) → M m → All M q → All M (map (monomial_product m) q)
all_row M k m [] a h = All-nil M
all_row M k m (n ∷ q) a h = All-cons M (monomial_product m n) (map (monomial_product m) q) (k.times m n a (All-head M n q h)) (all_row M k m q a (All-tail M n q h))

all_rows : (M : Monomial → Type 0) → IsClosed M → (p q : Form) → All M p → All M q → All M (products p q)
all_rows M k [] q h g = All-nil M
all_rows M k (m ∷ p) q h g =
    All-append M (map (monomial_product m) q) (products p q) (all_row M k m q (All-head M m p h) g) (all_rows M k p q (All-tail M m p h) g)

pub all_product : (M : Monomial → Type 0) → IsClosed M → (p q : Form) → All M p → All M q → All M (form_product p q)
all_product M k p q h g = all_gathered M k [] (products p q) (All-nil M) (all_rows M k p q h g)

pub all_products : (M : Monomial → Type 0) → IsClosed M → (p : Form) (qs : List Form) → All M p → All (All M) qs → All M (product_from p qs)
all_products M k p [] h g = h
all_products M k p (q ∷ qs) h g =
    all_products M k (form_product p q) qs (all_product M k p q h (All-head (All M) q qs g)) (All-tail (All M) q qs g)

-- ---- atoms
atom_by : (Q : Term → Type 0) → (o : Ordering) (a b : Term) (bs rest : List Term) → Q a → Q b → All Q bs → All Q rest → All Q (put_atom_by o a b bs rest)
atom_by Q Less a b bs rest x y h g = All-cons Q a (b ∷ bs) x (All-cons Q b bs y h)
atom_by Q Equal a b bs rest x y h g = All-cons Q a (b ∷ bs) x (All-cons Q b bs y h)
atom_by Q Greater a b bs rest x y h g = All-cons Q b rest y g

all_atom : (Q : Term → Type 0) → (a : Term) (bs : List Term) → Q a → All Q bs → All Q (put_atom a bs)
all_atom Q a [] x h = All-cons Q a [] x (All-nil Q)
all_atom Q a (b ∷ bs) x h = atom_by Q (atom_order a b) a b bs (put_atom a bs) x (All-head Q b bs h) (All-tail Q b bs h) (all_atom Q a bs x (All-tail Q b bs h))

pub all_onto : (Q : Term → Type 0) → (bs as' : List Term) → All Q bs → All Q as' → All Q (atoms_onto bs as')
all_onto Q bs [] h g = h
all_onto Q bs (a ∷ rest) h g = all_onto Q (put_atom a bs) rest (all_atom Q a bs (All-head Q a rest g) h) (All-tail Q a rest g)

-- what holds of each atom
abbrev pub EachAtom : (Term → Type 0) → Monomial → Type 0
EachAtom Q m = All Q m.atoms

pub atoms_closed : (Q : Term → Type 0) → IsClosed (EachAtom Q)
atoms_closed Q = record { add = λ m n h g. h; times = λ m n h g. all_onto Q m.atoms n.atoms h g }
