-- Forms and atoms stay in order.
use Rattle.std.proofs.Common.{◌≡◌, ◌+◌, List, [], ◌∷◌, length, refl, ◌∙◌, ap}
use Rattle.std.specs.Cmp.{IsTotalOrder}
use Rattle.std.specs.List.{flat_map}
use Rattle.std.specs.Ordering.{ordering_reverse}
use Rattle.std.specs.declared.cmp.Ordering.{Ordering}
use Rattle.std.specs.declared.cmp.Ordering.TheVariants.{Less, Equal, Greater}
use Rattle.std.proofs.lemmas.Cmp.{nat_cmp_total, on_total, then_total, lists_total, nat_list_cmp_total}
use Rattle.bound_terms.specs.Terms.{Term}
use Rattle.bound_forms.specs.Monomials.{Monomial, Form, atom_key, atom_order, atoms_order, put_by, put, products, put_atom_by, put_atom}
use Rattle.bound_forms.specs.Normal.{Rising, NotFalling}
use Rattle.bound_forms.specs.Laws.{GatheredRise, SumsRise, ProductsRise, AtomsStayInOrder}

pub atom_order_total : IsTotalOrder atom_order
atom_order_total = on_total atom_key nat_list_cmp_total

pub atoms_order_total : IsTotalOrder atoms_order
atoms_order_total = then_total (on_total (λ (xs : List Term). length xs) nat_cmp_total) (lists_total atom_order_total)

-- ---- monomials
abbrev pub First : List Term → Form → Type 0
First atoms [] = Unit {0}
First atoms (n ∷ p) = atoms_order atoms n.atoms ≡ Less

pub rising : (m : Monomial) (p : Form) → First m.atoms p → Rising p → Rising (m ∷ p)
rising m [] f r = tt
rising m (n ∷ p) f r = (f, r)

pub first : (m : Monomial) (p : Form) → Rising (m ∷ p) → First m.atoms p
first m [] r = tt
first m (n ∷ p) r = r.0

pub behind : (m : Monomial) (p : Form) → Rising (m ∷ p) → Rising p
behind m [] r = tt
behind m (n ∷ p) r = r.1

first_by : (o : Ordering) (atoms : List Term) (m n : Monomial) (ns rest : Form) → atoms_order atoms m.atoms ≡ Less → atoms_order atoms n.atoms ≡ Less → First atoms (put_by o m n ns rest)
first_by Less atoms m n ns rest h k = h
first_by Equal atoms m n ns rest h k = h
first_by Greater atoms m n ns rest h k = k

first_put : (atoms : List Term) (m : Monomial) (p : Form) → atoms_order atoms m.atoms ≡ Less → First atoms p → First atoms (put m p)
first_put atoms m [] h f = h
first_put atoms m (n ∷ ns) h f = first_by (atoms_order m.atoms n.atoms) atoms m n ns (put m ns) h f

pub same_first : (xs ys : List Term) (p : Form) → atoms_order xs ys ≡ Equal → First ys p → First xs p
same_first xs ys [] e f = tt
same_first xs ys (n ∷ p) e f = atoms_order_total.congr xs ys n.atoms e ∙ f

rising_by : (o : Ordering) (m n : Monomial) (ns rest : Form) → atoms_order m.atoms n.atoms ≡ o → First n.atoms ns → Rising ns → Rising rest → (atoms_order n.atoms m.atoms ≡ Less → First n.atoms rest) → Rising (put_by o m n ns rest)
rising_by Less m n ns rest e f r later g = (e, rising n ns f r)
rising_by Equal m n ns rest e f r later g = rising (record { coefficient = m.coefficient + n.coefficient; atoms = m.atoms }) ns (same_first m.atoms n.atoms ns e f) r
rising_by Greater m n ns rest e f r later g = rising n rest (g (atoms_order_total.antisymm n.atoms m.atoms ∙ ap ordering_reverse e)) later

pub rising_put : (m : Monomial) (p : Form) → Rising p → Rising (put m p)
rising_put m [] r = tt
rising_put m (n ∷ ns) r =
    rising_by (atoms_order m.atoms n.atoms) m n ns (put m ns) refl (first n ns r) (behind n ns r) (rising_put m ns (behind n ns r)) (λ h. first_put n.atoms m ns h (first n ns r))

pub gathered_rise : GatheredRise
gathered_rise p [] r = r
gathered_rise p (m ∷ ms) r = gathered_rise (put m p) ms (rising_put m p r)

pub sums_rise : SumsRise
sums_rise ps = gathered_rise [] (flat_map (λ p. p) ps) tt

pub products_rise : ProductsRise
products_rise p q = gathered_rise [] (products p q) tt

-- ---- atoms
abbrev NotAfter : Term → List Term → Type 0
NotAfter a [] = Unit {0}
NotAfter a (b ∷ bs) = ¬ (atom_order a b ≡ Greater)

in_order : (a : Term) (bs : List Term) → NotAfter a bs → NotFalling bs → NotFalling (a ∷ bs)
in_order a [] f r = tt
in_order a (b ∷ bs) f r = (f, r)

not_after : (a : Term) (bs : List Term) → NotFalling (a ∷ bs) → NotAfter a bs
not_after a [] r = tt
not_after a (b ∷ bs) r = r.0

rest_in_order : (a : Term) (bs : List Term) → NotFalling (a ∷ bs) → NotFalling bs
rest_in_order a [] r = tt
rest_in_order a (b ∷ bs) r = r.1

less_is_not : (o : Ordering) → o ≡ Less → ¬ (o ≡ Greater)
less_is_not o h k = absurd (cc)

equal_is_not : (o : Ordering) → o ≡ Equal → ¬ (o ≡ Greater)
equal_is_not o h k = absurd (cc)

after_by : (o : Ordering) (c a b : Term) (bs rest : List Term) → ¬ (atom_order c a ≡ Greater) → ¬ (atom_order c b ≡ Greater) → NotAfter c (put_atom_by o a b bs rest)
after_by Less c a b bs rest h k = h
after_by Equal c a b bs rest h k = h
after_by Greater c a b bs rest h k = k

after_put : (c a : Term) (bs : List Term) → ¬ (atom_order c a ≡ Greater) → NotAfter c bs → NotAfter c (put_atom a bs)
after_put c a [] h f = h
after_put c a (b ∷ bs) h f = after_by (atom_order a b) c a b bs (put_atom a bs) h f

order_by : (o : Ordering) (a b : Term) (bs rest : List Term) → atom_order a b ≡ o → NotAfter b bs → NotFalling bs → NotFalling rest → (¬ (atom_order b a ≡ Greater) → NotAfter b rest) → NotFalling (put_atom_by o a b bs rest)
order_by Less a b bs rest e f r later g = (less_is_not (atom_order a b) e, in_order b bs f r)
order_by Equal a b bs rest e f r later g = (equal_is_not (atom_order a b) e, in_order b bs f r)
order_by Greater a b bs rest e f r later g = in_order b rest (g (less_is_not (atom_order b a) (atom_order_total.antisymm b a ∙ ap ordering_reverse e))) later

order_put : (a : Term) (bs : List Term) → NotFalling bs → NotFalling (put_atom a bs)
order_put a [] r = tt
order_put a (b ∷ bs) r =
    order_by (atom_order a b) a b bs (put_atom a bs) refl (not_after b bs r) (rest_in_order b bs r) (order_put a bs (rest_in_order b bs r)) (λ h. after_put b a bs h (not_after b bs r))

pub atoms_stay_in_order : AtomsStayInOrder
atoms_stay_in_order bs [] r = r
atoms_stay_in_order bs (a ∷ rest) r = atoms_stay_in_order (put_atom a bs) rest (order_put a bs r)
