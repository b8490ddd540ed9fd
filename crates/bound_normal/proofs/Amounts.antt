-- Sums, products and what covers what, by their values, where atoms with one key are one.
use Rattle.std.proofs.Common.{ℕ, ◌≡◌, ◌+◌, ◌*◌, ◌≤◌, List, [], ◌∷◌, ◌++◌, length, map, refl, sym, ◌∙◌, ap, subst, arith}
use Rattle.std.specs.Prelude.{All, ℤ}
use Rattle.std.specs.FinMap.{slice_cmp-IsAntisymmetric, nat_cmp-IsAntisymmetric}
use Rattle.std.specs.Ordering.{nat_cmp, ordering_reverse, ordering_then}
use Rattle.std.specs.Cmp.Lexicographic.{slice_cmp}
use Rattle.std.specs.declared.cmp.Ordering.{Ordering}
use Rattle.std.specs.declared.cmp.Ordering.TheVariants.{Less, Equal, Greater}
use Rattle.std.proofs.lemmas.List.Elements.{All-nil, All-cons, All-head, All-tail, All-append}
use Rattle.std.proofs.Math.Nat.{mul-le-mul_right}
use Rattle.bound_terms.specs.Terms.{Term, terms}
use Rattle.bound_terms.specs.Values.{value_of, product_of}
use Rattle.bound_forms.specs.Monomials.{Monomial, Form, monomial_term, atom_key, atom_order, atoms_order, put_by, put, gathered, put_atom_by, put_atom, atoms_onto, monomial_product, products, form_product}
use Rattle.bound_forms.specs.Maxima.{coefficient_by, coefficient_in}
use Rattle.bound_forms.specs.Normal.{Rising, IsAtom}
use Rattle.bound_forms.proofs.Rising.{First, first, behind, same_first, atoms_order_total}
use Rattle.bound_forms.proofs.Comparing.{same_atoms, turned, above}
use Rattle.bound_forms.proofs.Combining.{EachAtom, atoms_closed, all_put}
use Rattle.bound_normal.proofs.Telling.{keys_tell}
use Rattle.bound_normal.proofs.Floors.{form_value}

abbrev pub Good : Form → Type 0
Good p = All (EachAtom IsAtom) p

abbrev pub monomial_value : List ℤ → Monomial → ℕ
monomial_value sizes m = value_of sizes (monomial_term m)

abbrev pub atoms_value : List ℤ → List Term → ℕ
atoms_value sizes xs = product_of sizes (terms xs)

-- ---- equal keys
then_equal : (o p : Ordering) → ordering_then o p ≡ Equal → (o ≡ Equal) × (p ≡ Equal)
then_equal Less p e = absurd (cc)
then_equal Equal p e = (refl, e)
then_equal Greater p e = absurd (cc)

pub atom_same : (x y : Term) → IsAtom x → IsAtom y → atom_order x y ≡ Equal → x ≡ y
atom_same x y h g e = keys_tell x y h g (slice_cmp-IsAntisymmetric nat_cmp-IsAntisymmetric (atom_key x) (atom_key y) e)

lists_same : (xs ys : List Term) → All IsAtom xs → All IsAtom ys → slice_cmp atom_order xs ys ≡ Equal → xs ≡ ys
lists_same [] [] h g e = refl
lists_same [] (y ∷ ys) h g e = absurd (cc)
lists_same (x ∷ xs) [] h g e = absurd (cc)
lists_same (x ∷ xs) (y ∷ ys) h g e =
    let w = then_equal (atom_order x y) (slice_cmp atom_order xs ys) e in
    ap (λ z. z ∷ xs) (atom_same x y (All-head IsAtom x xs h) (All-head IsAtom y ys g) w.0) ∙ ap (λ zs. y ∷ zs) (lists_same xs ys (All-tail IsAtom x xs h) (All-tail IsAtom y ys g) w.1)

pub atoms_same : (xs ys : List Term) → All IsAtom xs → All IsAtom ys → atoms_order xs ys ≡ Equal → xs ≡ ys
atoms_same xs ys h g e = lists_same xs ys h g (then_equal (nat_cmp (length xs) (length ys)) (slice_cmp atom_order xs ys) e).1

-- ---- sums
same_sum : (a b x y f : ℕ) → x ≡ y → (a + b) * x + f ≡ a * x + (b * y + f)
same_sum a b x y f e = subst (λ z. (a + b) * x + f ≡ a * x + (b * z + f)) e (omega arith)

later_sum : (m n f rest : ℕ) → rest ≡ m + f → n + rest ≡ m + (n + f)
later_sum m n f rest e = omega (arith, e)

put_value_by : (sizes : List ℤ) (o : Ordering) (m n : Monomial) (ns rest : Form) → (o ≡ Equal → m.atoms ≡ n.atoms) → form_value sizes rest ≡ monomial_value sizes m + form_value sizes ns
    → form_value sizes (put_by o m n ns rest) ≡ monomial_value sizes m + form_value sizes (n ∷ ns)
put_value_by sizes Less m n ns rest h e = refl
put_value_by sizes Equal m n ns rest h e = same_sum m.coefficient n.coefficient (atoms_value sizes m.atoms) (atoms_value sizes n.atoms) (form_value sizes ns) (ap (atoms_value sizes) (h refl))
put_value_by sizes Greater m n ns rest h e = later_sum (monomial_value sizes m) (monomial_value sizes n) (form_value sizes ns) (form_value sizes rest) e

put_value : (sizes : List ℤ) (m : Monomial) (p : Form) → All IsAtom m.atoms → Good p → form_value sizes (put m p) ≡ monomial_value sizes m + form_value sizes p
put_value sizes m [] a h = refl
put_value sizes m (n ∷ ns) a h =
    put_value_by sizes (atoms_order m.atoms n.atoms) m n ns (put m ns) (atoms_same m.atoms n.atoms a (All-head (EachAtom IsAtom) n ns h)) (put_value sizes m ns a (All-tail (EachAtom IsAtom) n ns h))

put_more : (a b c d : ℕ) → a ≡ b + c → a + d ≡ c + (b + d)
put_more a b c d e = omega (arith, e)

pub gathered_value : (sizes : List ℤ) (p : Form) (ms : List Monomial) → Good p → Good ms → form_value sizes (gathered p ms) ≡ form_value sizes p + form_value sizes ms
gathered_value sizes p [] h g = omega arith
gathered_value sizes p (m ∷ ms) h g =
    let a = All-head (EachAtom IsAtom) m ms g in
    gathered_value sizes (put m p) ms (all_put (EachAtom IsAtom) (atoms_closed IsAtom) m p a h) (All-tail (EachAtom IsAtom) m ms g)
    ∙ put_more (form_value sizes (put m p)) (monomial_value sizes m) (form_value sizes p) (form_value sizes ms) (put_value sizes m p a h)

sum_more : (a b c d : ℕ) → b ≡ c + d → a + b ≡ (a + c) + d
sum_more a b c d e = omega (arith, e)

pub append_value : (sizes : List ℤ) (p q : Form) → form_value sizes (p ++ q) ≡ form_value sizes p + form_value sizes q
append_value sizes [] q = omega arith
append_value sizes (m ∷ p) q = sum_more (monomial_value sizes m) (form_value sizes (p ++ q)) (form_value sizes p) (form_value sizes q) (append_value sizes p q)

-- ---- products
swapped : (a b f rest : ℕ) → rest ≡ a * f → b * rest ≡ a * (b * f)
swapped a b f rest e = subst (λ x. b * x ≡ a * (b * f)) (sym e) (omega arith)

atom_value_by : (sizes : List ℤ) (o : Ordering) (a b : Term) (bs rest : List Term) → atoms_value sizes rest ≡ value_of sizes a * atoms_value sizes bs
    → atoms_value sizes (put_atom_by o a b bs rest) ≡ value_of sizes a * atoms_value sizes (b ∷ bs)
atom_value_by sizes Less a b bs rest e = refl
atom_value_by sizes Equal a b bs rest e = refl
atom_value_by sizes Greater a b bs rest e = swapped (value_of sizes a) (value_of sizes b) (atoms_value sizes bs) (atoms_value sizes rest) e

atom_value : (sizes : List ℤ) (a : Term) (bs : List Term) → atoms_value sizes (put_atom a bs) ≡ value_of sizes a * atoms_value sizes bs
atom_value sizes a [] = refl
atom_value sizes a (b ∷ bs) = atom_value_by sizes (atom_order a b) a b bs (put_atom a bs) (atom_value sizes a bs)

times_more : (x a f rest : ℕ) → x ≡ a * f → x * rest ≡ f * (a * rest)
times_more x a f rest e = subst (λ y. y * rest ≡ f * (a * rest)) (sym e) (omega arith)

onto_value : (sizes : List ℤ) (bs xs : List Term) → atoms_value sizes (atoms_onto bs xs) ≡ atoms_value sizes bs * atoms_value sizes xs
onto_value sizes bs [] = omega arith
onto_value sizes bs (a ∷ xs) =
    onto_value sizes (put_atom a bs) xs ∙ times_more (atoms_value sizes (put_atom a bs)) (value_of sizes a) (atoms_value sizes bs) (atoms_value sizes xs) (atom_value sizes a bs)

four : (a b x y z : ℕ) → z ≡ x * y → (a * b) * z ≡ (a * x) * (b * y)
four a b x y z e = subst (λ w. (a * b) * w ≡ (a * x) * (b * y)) (sym e) (omega arith)

product_value : (sizes : List ℤ) (m n : Monomial) → monomial_value sizes (monomial_product m n) ≡ monomial_value sizes m * monomial_value sizes n
product_value sizes m n = four m.coefficient n.coefficient (atoms_value sizes m.atoms) (atoms_value sizes n.atoms) (atoms_value sizes (atoms_onto m.atoms n.atoms)) (onto_value sizes m.atoms n.atoms)

row_more : (m n q x r : ℕ) → x ≡ m * n → r ≡ m * q → x + r ≡ m * (n + q)
row_more m n q x r e f = omega (arith, e, f)

row_value : (sizes : List ℤ) (m : Monomial) (q : Form) → form_value sizes (map (monomial_product m) q) ≡ monomial_value sizes m * form_value sizes q
row_value sizes m [] = omega arith
row_value sizes m (n ∷ q) =
    row_more (monomial_value sizes m) (monomial_value sizes n) (form_value sizes q) (monomial_value sizes (monomial_product m n)) (form_value sizes (map (monomial_product m) q)) (product_value sizes m n) (row_value sizes m q)

rows_more : (m p q x r : ℕ) → x ≡ m * q → r ≡ p * q → x + r ≡ (m + p) * q
rows_more m p q x r e f = omega (arith, e, f)

rows_value : (sizes : List ℤ) (p q : Form) → form_value sizes (products p q) ≡ form_value sizes p * form_value sizes q
rows_value sizes [] q = omega arith
rows_value sizes (m ∷ p) q =
    append_value sizes (map (monomial_product m) q) (products p q)
    ∙ rows_more (monomial_value sizes m) (form_value sizes p) (form_value sizes q) (form_value sizes (map (monomial_product m) q)) (form_value sizes (products p q)) (row_value sizes m q) (rows_value sizes p q)

row_good : (m : Monomial) (q : Form) → All IsAtom m.atoms → Good q → Good (map (monomial_product m) q)
row_good m [] a h = All-nil (EachAtom IsAtom)
row_good m (n ∷ q) a h =
    All-cons (EachAtom IsAtom) (monomial_product m n) (map (monomial_product m) q) ((atoms_closed IsAtom).times m n a (All-head (EachAtom IsAtom) n q h)) (row_good m q a (All-tail (EachAtom IsAtom) n q h))

pub products_good : (p q : Form) → Good p → Good q → Good (products p q)
products_good [] q h g = All-nil (EachAtom IsAtom)
products_good (m ∷ p) q h g =
    All-append (EachAtom IsAtom) (map (monomial_product m) q) (products p q) (row_good m q (All-head (EachAtom IsAtom) m p h) g) (products_good p q (All-tail (EachAtom IsAtom) m p h) g)

pub form_product_value : (sizes : List ℤ) (p q : Form) → Good (products p q) → form_value sizes (form_product p q) ≡ form_value sizes p * form_value sizes q
form_product_value sizes p q h = gathered_value sizes [] (products p q) (All-nil (EachAtom IsAtom)) h ∙ nothing_more (form_value sizes (products p q)) ∙ rows_value sizes p q
  where
    nothing_more : (n : ℕ) → 0 + n ≡ n
    nothing_more n = omega arith

-- ---- what covers a form is worth at least as much
behind_first : (o : Ordering) (a c d : ℕ) → (o ≡ Equal → a ≡ 0) → a ≤ coefficient_by o c d → a ≤ d
behind_first Less a c d h g = g
behind_first Equal a c d h g = omega (arith, h refl)
behind_first Greater a c d h g = g

behind_both : (o : Ordering) (a b c d : ℕ) → (o ≡ Equal → a ≡ 0) → coefficient_by o c a ≤ coefficient_by o d b → a ≤ b
behind_both Less a b c d h g = g
behind_both Equal a b c d h g = omega (arith, h refl)
behind_both Greater a b c d h g = g

abbrev Below : Form → Form → Type 0
Below p q = (xs : List Term) → coefficient_in p xs ≤ coefficient_in q xs

abbrev Positive : Monomial → Type 0
Positive m = 1 ≤ m.coefficient

below_less : (m n : Monomial) (p q : Form) → atoms_order n.atoms m.atoms ≡ Less → Rising (m ∷ p) → Below (m ∷ p) (n ∷ q) → Below (m ∷ p) q
below_less m n p q e r h xs =
    behind_first (atoms_order n.atoms xs) (coefficient_in (m ∷ p) xs) n.coefficient (coefficient_in q xs)
    (λ f. above xs (m ∷ p) (same_first xs n.atoms (m ∷ p) (turned n.atoms xs f) e) r) (h xs)

below_equal : (m n : Monomial) (p q : Form) → atoms_order n.atoms m.atoms ≡ Equal → Rising (m ∷ p) → Below (m ∷ p) (n ∷ q) → Below p q
below_equal m n p q e r h xs =
    let same : atoms_order m.atoms xs ≡ atoms_order n.atoms xs = sym (atoms_order_total.congr n.atoms m.atoms xs e) in
    behind_both (atoms_order n.atoms xs) (coefficient_in p xs) (coefficient_in q xs) m.coefficient n.coefficient
    (λ f. above xs p (same_first xs m.atoms p (turned m.atoms xs (same ∙ f)) (first m p r)) (behind m p r))
    (subst (λ o. coefficient_by o m.coefficient (coefficient_in p xs) ≤ coefficient_by (atoms_order n.atoms xs) n.coefficient (coefficient_in q xs)) same (h xs))

own : (m : Monomial) (p : Form) → coefficient_in (m ∷ p) m.atoms ≡ m.coefficient
own m p = ap (λ o. coefficient_by o m.coefficient (coefficient_in p m.atoms)) (same_atoms m.atoms)

both_sums : (c d x y p q : ℕ) → c ≤ d → y ≡ x → p ≤ q → c * x + p ≤ d * y + q
both_sums c d x y p q h e g = subst (λ z. c * x + p ≤ d * z + q) (sym e) (omega (arith, mul-le-mul_right x h, g))

covered_by : (sizes : List ℤ) (o : Ordering) (m n : Monomial) (p q : Form) → atoms_order n.atoms m.atoms ≡ o → Rising (n ∷ q) → Rising (m ∷ p) → Good (n ∷ q) → Good (m ∷ p) → All Positive (m ∷ p) → Below (m ∷ p) (n ∷ q)
    → ((r : Form) → Rising r → Good r → All Positive r → Below r q → form_value sizes r ≤ form_value sizes q) → form_value sizes (m ∷ p) ≤ form_value sizes (n ∷ q)
covered_by sizes Less m n p q e rq rp gq gp pos h later = omega (arith, later (m ∷ p) rp gp pos (below_less m n p q e rp h))
covered_by sizes Equal m n p q e rq rp gq gp pos h later =
    let enough : m.coefficient ≤ n.coefficient = omega (arith, h m.atoms, own m p, ap (λ o. coefficient_by o n.coefficient (coefficient_in q m.atoms)) e) in
    let same : n.atoms ≡ m.atoms = atoms_same n.atoms m.atoms (All-head (EachAtom IsAtom) n q gq) (All-head (EachAtom IsAtom) m p gp) e in
    both_sums m.coefficient n.coefficient (atoms_value sizes m.atoms) (atoms_value sizes n.atoms) (form_value sizes p) (form_value sizes q) enough (ap (atoms_value sizes) same)
    (later p (behind m p rp) (All-tail (EachAtom IsAtom) m p gp) (All-tail Positive m p pos) (below_equal m n p q e rp h))
covered_by sizes Greater m n p q e rq rp gq gp pos h later =
    let before : First m.atoms (n ∷ q) = atoms_order_total.antisymm m.atoms n.atoms ∙ ap ordering_reverse e in
    absurd (omega (arith, All-head Positive m p pos, h m.atoms, own m p, above m.atoms (n ∷ q) before rq))

pub covered_value : (sizes : List ℤ) (q p : Form) → Rising q → Rising p → Good q → Good p → All Positive p → Below p q → form_value sizes p ≤ form_value sizes q
covered_value sizes [] [] rq rp gq gp pos h = omega arith
covered_value sizes [] (m ∷ p) rq rp gq gp pos h = absurd (omega (arith, All-head Positive m p pos, h m.atoms, own m p))
covered_value sizes (n ∷ q) [] rq rp gq gp pos h = omega arith
covered_value sizes (n ∷ q) (m ∷ p) rq rp gq gp pos h =
    covered_by sizes (atoms_order n.atoms m.atoms) m n p q refl rq rp gq gp pos h (λ r rr gr pr hr. covered_value sizes q r (behind n q rq) rr (All-tail (EachAtom IsAtom) n q gq) gr pr hr)
