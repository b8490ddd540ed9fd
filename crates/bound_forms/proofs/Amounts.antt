-- Forms as maps from atoms to coefficients: what sums and products have at atoms, and that a product with a form that isn't
-- empty has no fewer monomials and no smaller coefficients.
use Rattle.std.proofs.Common.{ℕ, suc, ◌≡◌, ◌+◌, ◌*◌, ◌<◌, ◌≤◌, Bool, true, List, [], ◌∷◌, ◌++◌, length, get_or, map, refl, sym, ◌∙◌, ap, subst, arith, ⊎_elim}
use Rattle.std.specs.Prelude.{All, nat_le, ◌||◌}
use Rattle.std.specs.List.{list_any}
use Rattle.std.specs.Ordering.{ordering_reverse, ordering_then, nat_cmp}
use Rattle.std.specs.Cmp.{nat_cmp_is}
use Rattle.std.specs.Cmp.Lexicographic.{slice_cmp}
use Rattle.std.specs.declared.cmp.Ordering.{Ordering}
use Rattle.std.specs.declared.cmp.Ordering.TheVariants.{Less, Equal, Greater}
use Rattle.std.proofs.lemmas.Bool.{le-leb, leb-true, or_left, or_right, cases_order}
use Rattle.std.proofs.lemmas.List.Elements.{All-nil, All-cons, All-head, All-tail, All-weaker}
use Rattle.std.proofs.lemmas.List.{length-map, get_or-map}
use Rattle.std.proofs.lemmas.List.Folds.{Any-from_list_any}
use Rattle.bound_terms.specs.Terms.{Term}
use Rattle.bound_forms.specs.Monomials.{Monomial, Form, atom_order, atoms_order, put_by, put, gathered, put_atom_by, put_atom, atoms_onto, monomial_product, products, form_product}
use Rattle.bound_forms.specs.Maxima.{coefficient_by, coefficient_in}
use Rattle.bound_forms.specs.Normal.{Rising}
use Rattle.bound_forms.specs.Limits.{past_limit}
use Rattle.bound_forms.proofs.Rising.{First, first, behind, rising, rising_put, same_first, atom_order_total, atoms_order_total, products_rise}
use Rattle.bound_forms.proofs.Comparing.{same_atoms, turned, further, above}

-- ---- coefficients
abbrev pub amount : Monomial → List Term → ℕ
amount m xs = coefficient_by (atoms_order m.atoms xs) m.coefficient 0

abbrev pub amounts : List Monomial → List Term → ℕ
amounts [] xs = 0
amounts (m ∷ ms) xs = amount m xs + amounts ms xs

put_less : (o : Ordering) (c d : ℕ) → (o ≡ Equal → d ≡ 0) → coefficient_by o c d ≡ coefficient_by o c 0 + d
put_less Less c d h = omega arith
put_less Equal c d h = omega (arith, h refl)
put_less Greater c d h = omega arith

put_equal : (o : Ordering) (b c d : ℕ) → coefficient_by o (b + c) d ≡ coefficient_by o b 0 + coefficient_by o c d
put_equal Less b c d = omega arith
put_equal Equal b c d = omega arith
put_equal Greater b c d = omega arith

put_greater : (o : Ordering) (c d e a : ℕ) → e ≡ a + d → (o ≡ Equal → a ≡ 0) → coefficient_by o c e ≡ a + coefficient_by o c d
put_greater Less c d e a h g = h
put_greater Equal c d e a h g = omega (arith, g refl)
put_greater Greater c d e a h g = h

put_at_by : (o : Ordering) (m n : Monomial) (ns rest : Form) (xs : List Term) → atoms_order m.atoms n.atoms ≡ o → First n.atoms ns → Rising ns → coefficient_in rest xs ≡ amount m xs + coefficient_in ns xs
    → coefficient_in (put_by o m n ns rest) xs ≡ amount m xs + coefficient_in (n ∷ ns) xs
put_at_by Less m n ns rest xs e f r later =
    put_less (atoms_order m.atoms xs) m.coefficient (coefficient_in (n ∷ ns) xs)
    (λ g. let before : First xs (n ∷ ns) = atoms_order_total.congr xs m.atoms n.atoms (turned m.atoms xs g) ∙ e in above xs (n ∷ ns) before (rising n ns f r))
put_at_by Equal m n ns rest xs e f r later =
    put_equal (atoms_order m.atoms xs) m.coefficient n.coefficient (coefficient_in ns xs)
    ∙ ap (λ o. amount m xs + coefficient_by o n.coefficient (coefficient_in ns xs)) (atoms_order_total.congr m.atoms n.atoms xs e)
put_at_by Greater m n ns rest xs e f r later =
    put_greater (atoms_order n.atoms xs) n.coefficient (coefficient_in ns xs) (coefficient_in rest xs) (amount m xs) later
    (λ g. ap (λ o. coefficient_by o m.coefficient 0) (after m.atoms n.atoms xs e g))
  where
    after : (as' bs xs : List Term) → atoms_order as' bs ≡ Greater → atoms_order bs xs ≡ Equal → atoms_order as' xs ≡ Greater
    after as' bs xs e g =
        let reverse : atoms_order bs as' ≡ Less = atoms_order_total.antisymm bs as' ∙ ap ordering_reverse e in
        let there : atoms_order xs as' ≡ Less = sym (atoms_order_total.congr bs xs as' g) ∙ reverse in
        atoms_order_total.antisymm as' xs ∙ ap ordering_reverse there

pub put_at : (m : Monomial) (p : Form) (xs : List Term) → Rising p → coefficient_in (put m p) xs ≡ amount m xs + coefficient_in p xs
put_at m [] xs r = omega arith
put_at m (n ∷ ns) xs r = put_at_by (atoms_order m.atoms n.atoms) m n ns (put m ns) xs refl (first n ns r) (behind n ns r) (put_at m ns xs (behind n ns r))

pub gathered_at : (p : Form) (ms : List Monomial) (xs : List Term) → Rising p → coefficient_in (gathered p ms) xs ≡ coefficient_in p xs + amounts ms xs
gathered_at p [] xs r = omega arith
gathered_at p (m ∷ ms) xs r = let h = gathered_at (put m p) ms xs (rising_put m p r) in let g = put_at m p xs r in omega (arith, h, g)

amounts-append : (ms ns : List Monomial) (xs : List Term) → amounts (ms ++ ns) xs ≡ amounts ms xs + amounts ns xs
amounts-append [] ns xs = omega arith
amounts-append (m ∷ ms) ns xs = omega (arith, amounts-append ms ns xs)

-- each of several monomials is there
pub amounts_there : (ms : List Monomial) → All (λ m. m.coefficient ≤ amounts ms m.atoms) ms
amounts_there [] = All-nil (λ (m : Monomial). m.coefficient ≤ 0)
amounts_there (m ∷ ms) =
    let own : amount m m.atoms ≡ m.coefficient = ap (λ o. coefficient_by o m.coefficient 0) (same_atoms m.atoms) in
    All-cons (λ n. n.coefficient ≤ amounts (m ∷ ms) n.atoms) m ms (omega (arith, own)) (All-weaker (λ n. n.coefficient ≤ amounts ms n.atoms) (λ n. n.coefficient ≤ amounts (m ∷ ms) n.atoms) (λ n h. omega (arith, h)) ms (amounts_there ms))

-- ---- the order of atoms under a product
atom_same : (a : Term) → atom_order a a ≡ Equal
atom_same a = reversed (atom_order a a) (atom_order_total.antisymm a a)
  where
    reversed : (o : Ordering) → o ≡ ordering_reverse o → o ≡ Equal
    reversed Less h = absurd (cc)
    reversed Equal h = refl
    reversed Greater h = absurd (cc)

-- one more atom in each of two lists of one length leaves their order
abbrev lists_order : List Term → List Term → Ordering
lists_order xs ys = slice_cmp atom_order xs ys

both_front : (a : Term) (us vs : List Term) → lists_order (a ∷ us) (a ∷ vs) ≡ lists_order us vs
both_front a us vs = ap (λ o. ordering_then o (lists_order us vs)) (atom_same a)

flipped_less : (x y : Term) → atom_order x y ≡ Less → atom_order y x ≡ Greater
flipped_less x y e = atom_order_total.antisymm y x ∙ ap ordering_reverse e

flipped_greater : (x y : Term) → atom_order x y ≡ Greater → atom_order y x ≡ Less
flipped_greater x y e = atom_order_total.antisymm y x ∙ ap ordering_reverse e

-- y goes before a, which doesn't go behind x
later_less : (a x y : Term) → atom_order a x ≡ Less → atom_order a y ≡ Greater → atom_order x y ≡ Greater
later_less a x y e f = flipped_less y x (atom_order_total.trans y a x (flipped_greater a y f) e)

later_equal : (a x y : Term) → atom_order a x ≡ Equal → atom_order a y ≡ Greater → atom_order x y ≡ Greater
later_equal a x y e f = sym (atom_order_total.congr a x y e) ∙ f

sooner_less : (a x y : Term) → atom_order a x ≡ Greater → atom_order a y ≡ Less → atom_order x y ≡ Less
sooner_less a x y e f = atom_order_total.trans x a y (flipped_greater a x e) f

sooner_equal : (a x y : Term) → atom_order a x ≡ Greater → atom_order a y ≡ Equal → atom_order x y ≡ Less
sooner_equal a x y e f = flipped_greater y x (sym (atom_order_total.congr a y x f) ∙ e)

decided : (o p q : Ordering) → p ≡ o → q ≡ o → (o ≡ Equal → ⊥) → (u v : Ordering) → ordering_then p u ≡ ordering_then q v
decided Less p q e f n u v = ap (λ x. ordering_then x u) e ∙ ap (λ x. ordering_then x v) (sym f)
decided Equal p q e f n u v = absurd (n refl)
decided Greater p q e f n u v = ap (λ x. ordering_then x u) e ∙ ap (λ x. ordering_then x v) (sym f)

greater_not : Greater ≡ Equal → ⊥
greater_not e = absurd (cc)

less_not : Less ≡ Equal → ⊥
less_not e = absurd (cc)

order_by : (p q : Ordering) (a x y : Term) (xs ys X Y : List Term) → atom_order a x ≡ p → atom_order a y ≡ q → lists_order X Y ≡ lists_order xs ys
    → lists_order (put_atom_by p a x xs X) (put_atom_by q a y ys Y) ≡ lists_order (x ∷ xs) (y ∷ ys)
order_by Less Less a x y xs ys X Y e f ih = both_front a (x ∷ xs) (y ∷ ys)
order_by Less Equal a x y xs ys X Y e f ih = both_front a (x ∷ xs) (y ∷ ys)
order_by Equal Less a x y xs ys X Y e f ih = both_front a (x ∷ xs) (y ∷ ys)
order_by Equal Equal a x y xs ys X Y e f ih = both_front a (x ∷ xs) (y ∷ ys)
order_by Greater Greater a x y xs ys X Y e f ih = ap (ordering_then (atom_order x y)) ih
order_by Less Greater a x y xs ys X Y e f ih = decided Greater (atom_order a y) (atom_order x y) f (later_less a x y e f) greater_not (lists_order (x ∷ xs) Y) (lists_order xs ys)
order_by Equal Greater a x y xs ys X Y e f ih = decided Greater (atom_order a y) (atom_order x y) f (later_equal a x y e f) greater_not (lists_order (x ∷ xs) Y) (lists_order xs ys)
order_by Greater Less a x y xs ys X Y e f ih = decided Less (atom_order x a) (atom_order x y) (flipped_greater a x e) (sooner_less a x y e f) less_not (lists_order X (y ∷ ys)) (lists_order xs ys)
order_by Greater Equal a x y xs ys X Y e f ih = decided Less (atom_order x a) (atom_order x y) (flipped_greater a x e) (sooner_equal a x y e f) less_not (lists_order X (y ∷ ys)) (lists_order xs ys)

atom_kept : (a : Term) (xs ys : List Term) → length xs ≡ length ys → lists_order (put_atom a xs) (put_atom a ys) ≡ lists_order xs ys
atom_kept a [] [] h = both_front a [] []
atom_kept a [] (y ∷ ys) h = absurd (omega (arith, h))
atom_kept a (x ∷ xs) [] h = absurd (omega (arith, h))
atom_kept a (x ∷ xs) (y ∷ ys) h = order_by (atom_order a x) (atom_order a y) a x y xs ys (put_atom a xs) (put_atom a ys) refl refl (atom_kept a xs ys (omega (arith, h)))

longer_by : (o : Ordering) (a b : Term) (bs rest : List Term) → length rest ≡ suc (length bs) → length (put_atom_by o a b bs rest) ≡ suc (suc (length bs))
longer_by Less a b bs rest h = refl
longer_by Equal a b bs rest h = refl
longer_by Greater a b bs rest h = ap suc h

one_longer : (a : Term) (bs : List Term) → length (put_atom a bs) ≡ suc (length bs)
one_longer a [] = refl
one_longer a (b ∷ bs) = longer_by (atom_order a b) a b bs (put_atom a bs) (one_longer a bs)

onto_kept : (zs xs ys : List Term) → length xs ≡ length ys → lists_order (atoms_onto xs zs) (atoms_onto ys zs) ≡ lists_order xs ys
onto_kept [] xs ys h = refl
onto_kept (z ∷ zs) xs ys h = onto_kept zs (put_atom z xs) (put_atom z ys) (omega (arith, h, one_longer z xs, one_longer z ys)) ∙ atom_kept z xs ys h

onto_longer : (zs xs : List Term) → length (atoms_onto xs zs) ≡ length xs + length zs
onto_longer [] xs = omega arith
onto_longer (z ∷ zs) xs = omega (arith, onto_longer zs (put_atom z xs), one_longer z xs)

counted : (m n k : ℕ) → nat_cmp (m + k) (n + k) ≡ nat_cmp m n
counted m n k =
    ⊎_elim (λ e. sym (nat_cmp_is (m + k) (n + k) Equal (omega (arith, e))) ∙ nat_cmp_is m n Equal e)
    (⊎_elim (λ l. sym (nat_cmp_is (m + k) (n + k) Less (omega (arith, l))) ∙ nat_cmp_is m n Less l) (λ g. sym (nat_cmp_is (m + k) (n + k) Greater (omega (arith, g))) ∙ nat_cmp_is m n Greater g))
    (cases_order m n)

by_count : (m n : ℕ) (o p : Ordering) → (m ≡ n → o ≡ p) → ordering_then (nat_cmp m n) o ≡ ordering_then (nat_cmp m n) p
by_count m n o p h =
    ⊎_elim (λ e. ap (ordering_then (nat_cmp m n)) (h e))
    (⊎_elim (λ l. decided Less (nat_cmp m n) (nat_cmp m n) (sym (nat_cmp_is m n Less l)) (sym (nat_cmp_is m n Less l)) less_not o p) (λ g. decided Greater (nat_cmp m n) (nat_cmp m n) (sym (nat_cmp_is m n Greater g)) (sym (nat_cmp_is m n Greater g)) greater_not o p))
    (cases_order m n)

-- products with one list of atoms stand in the order of what they are made of
pub order_kept : (xs ys zs : List Term) → atoms_order (atoms_onto xs zs) (atoms_onto ys zs) ≡ atoms_order xs ys
order_kept xs ys zs =
    ap (λ k. ordering_then (nat_cmp k (length (atoms_onto ys zs))) (lists_order (atoms_onto xs zs) (atoms_onto ys zs))) (onto_longer zs xs)
    ∙ ap (λ k. ordering_then (nat_cmp (length xs + length zs) k) (lists_order (atoms_onto xs zs) (atoms_onto ys zs))) (onto_longer zs ys)
    ∙ ap (λ o. ordering_then o (lists_order (atoms_onto xs zs) (atoms_onto ys zs))) (counted (length xs) (length ys) (length zs))
    ∙ by_count (length xs) (length ys) (lists_order (atoms_onto xs zs) (atoms_onto ys zs)) (lists_order xs ys) (onto_kept zs xs ys)

-- ---- products with a form that isn't empty
-- the products with one monomial
abbrev column : Monomial → Form → Form
column n p = map (λ m. monomial_product m n) p

column_first : (xs : List Term) (n : Monomial) (p : Form) → First xs p → First (atoms_onto xs n.atoms) (column n p)
column_first xs n [] f = tt
column_first xs n (m ∷ p) f = order_kept xs m.atoms n.atoms ∙ f

column_rises : (n : Monomial) (p : Form) → Rising p → Rising (column n p)
column_rises n [] r = tt
column_rises n (m ∷ p) r = rising (monomial_product m n) (column n p) (column_first m.atoms n p (first m p r)) (column_rises n p (behind m p r))

column_there : (n : Monomial) (q p : Form) (xs : List Term) → amounts (column n p) xs ≤ amounts (products p (n ∷ q)) xs
column_there n q [] xs = omega arith
column_there n q (m ∷ p) xs =
    omega (arith, column_there n q p xs, amounts-append (map (monomial_product m) q) (products p (n ∷ q)) xs)

-- what is there can't be more than all
absent : (n : Monomial) (r : Form) (ks : Form) → First n.atoms ks → Rising ks → All (λ k. 1 ≤ coefficient_in (n ∷ r) k.atoms) ks → All (λ k. 1 ≤ coefficient_in r k.atoms) ks
absent n r [] f rise h = All-nil (λ k. 1 ≤ coefficient_in r k.atoms)
absent n r (k ∷ ks) f rise h =
    let here : coefficient_in (n ∷ r) k.atoms ≡ coefficient_in r k.atoms = ap (λ o. coefficient_by o n.coefficient (coefficient_in r k.atoms)) f in
    All-cons (λ k. 1 ≤ coefficient_in r k.atoms) k ks (omega (arith, All-head (λ k. 1 ≤ coefficient_in (n ∷ r) k.atoms) k ks h, here))
    (absent n r ks (further n.atoms k ks f (first k ks rise)) (behind k ks rise) (All-tail (λ k. 1 ≤ coefficient_in (n ∷ r) k.atoms) k ks h))

fewer_by : (o : Ordering) (n k : Monomial) (r ks : Form) → atoms_order n.atoms k.atoms ≡ o → Rising (n ∷ r) → Rising (k ∷ ks) → All (λ k. 1 ≤ coefficient_in (n ∷ r) k.atoms) (k ∷ ks)
    → ((ls : Form) → Rising ls → All (λ k. 1 ≤ coefficient_in r k.atoms) ls → length ls ≤ length r) → length (k ∷ ks) ≤ length (n ∷ r)
fewer_by Less n k r ks e rr rk h later = omega (arith, later (k ∷ ks) rk (absent n r (k ∷ ks) e rk h))
fewer_by Equal n k r ks e rr rk h later =
    omega (arith, later ks (behind k ks rk) (absent n r ks (same_first n.atoms k.atoms ks e (first k ks rk)) (behind k ks rk) (All-tail (λ k. 1 ≤ coefficient_in (n ∷ r) k.atoms) k ks h)))
fewer_by Greater n k r ks e rr rk h later =
    let before : First k.atoms (n ∷ r) = atoms_order_total.antisymm k.atoms n.atoms ∙ ap ordering_reverse e in
    absurd (omega (arith, All-head (λ k. 1 ≤ coefficient_in (n ∷ r) k.atoms) k ks h, above k.atoms (n ∷ r) before rr))

pub no_fewer : (r ks : Form) → Rising r → Rising ks → All (λ k. 1 ≤ coefficient_in r k.atoms) ks → length ks ≤ length r
no_fewer [] [] rr rk h = omega arith
no_fewer [] (k ∷ ks) rr rk h = absurd (omega (arith, All-head (λ (k : Monomial). 1 ≤ 0) k ks h))
no_fewer (n ∷ r) [] rr rk h = omega arith
no_fewer (n ∷ r) (k ∷ ks) rr rk h = fewer_by (atoms_order n.atoms k.atoms) n k r ks refl rr rk h (λ ls. no_fewer r ls (behind n r rr))

-- a coefficient that is too great
great_by : (o : Ordering) (c : ℕ) (n : Monomial) (d : ℕ) (rest : Bool) → c ≤ coefficient_by o n.coefficient d → past_limit ≤ c → (c ≤ d → rest ≡ true) → (nat_le past_limit n.coefficient || rest) ≡ true
great_by Less c n d rest h g later = or_right (nat_le past_limit n.coefficient) rest (later h)
great_by Equal c n d rest h g later = or_left (nat_le past_limit n.coefficient) rest (le-leb past_limit n.coefficient (omega (arith, h, g)))
great_by Greater c n d rest h g later = or_right (nat_le past_limit n.coefficient) rest (later h)

pub great_there : (c : ℕ) (r : Form) (xs : List Term) → 1 ≤ c → c ≤ coefficient_in r xs → past_limit ≤ c → list_any (λ (m : Monomial). nat_le past_limit m.coefficient) r ≡ true
great_there c [] xs one h g = absurd (omega (arith, one, h))
great_there c (n ∷ r) xs one h g =
    great_by (atoms_order n.atoms xs) c n (coefficient_in r xs) (list_any (λ (m : Monomial). nat_le past_limit m.coefficient) r) h g (λ later. great_there c r xs one later g)

-- ---- what a factor passes the product passes
times_more : (a b : ℕ) → 1 ≤ b → a ≤ a * b
times_more a b h = grind arith

products_there : (p : Form) (n : Monomial) (q : Form) → All (λ k. k.coefficient ≤ coefficient_in (form_product p (n ∷ q)) k.atoms) (column n p)
products_there p n q =
    All-weaker (λ k. k.coefficient ≤ amounts (column n p) k.atoms) (λ k. k.coefficient ≤ coefficient_in (form_product p (n ∷ q)) k.atoms)
    (λ k h. omega (arith, h, column_there n q p k.atoms, gathered_at [] (products p (n ∷ q)) k.atoms tt)) (column n p) (amounts_there (column n p))

column_positive : (n : Monomial) (p : Form) → 1 ≤ n.coefficient → All (λ m. 1 ≤ m.coefficient) p → All (λ k. 1 ≤ k.coefficient) (column n p)
column_positive n [] h g = All-nil (λ (k : Monomial). 1 ≤ k.coefficient)
column_positive n (m ∷ p) h g =
    All-cons (λ k. 1 ≤ k.coefficient) (monomial_product m n) (column n p) (omega (arith, times_more m.coefficient n.coefficient h, All-head (λ m. 1 ≤ m.coefficient) m p g))
    (column_positive n p h (All-tail (λ m. 1 ≤ m.coefficient) m p g))

both_hold : (P Q : Monomial → Type 0) (ms : List Monomial) → All P ms → All Q ms → All (λ m. P m × Q m) ms
both_hold P Q ms h g k d l = (h k d l, g k d l)

pub product_many : (p : Form) (n : Monomial) (q : Form) → Rising p → All (λ m. 1 ≤ m.coefficient) p → 1 ≤ n.coefficient → length p ≤ length (form_product p (n ∷ q))
product_many p n q r h g =
    let C : Monomial → Type 0 = λ k. k.coefficient ≤ coefficient_in (form_product p (n ∷ q)) k.atoms in
    let P : Monomial → Type 0 = λ k. 1 ≤ k.coefficient in
    let there : All (λ k. 1 ≤ coefficient_in (form_product p (n ∷ q)) k.atoms) (column n p) =
    All-weaker (λ k. P k × C k) (λ k. 1 ≤ coefficient_in (form_product p (n ∷ q)) k.atoms) (λ k w. omega (arith, w.0, w.1)) (column n p) (both_hold P C (column n p) (column_positive n p g h) (products_there p n q)) in
    omega (arith, no_fewer (form_product p (n ∷ q)) (column n p) (products_rise p (n ∷ q)) (column_rises n p r) there, length-map p (λ m. monomial_product m n))

pub product_great : (p : Form) (n : Monomial) (q : Form) → 1 ≤ n.coefficient → list_any (λ (m : Monomial). nat_le past_limit m.coefficient) p ≡ true → list_any (λ (m : Monomial). nat_le past_limit m.coefficient) (form_product p (n ∷ q)) ≡ true
product_great p n q g h =
    let w = Any-from_list_any (λ (m : Monomial). nat_le past_limit m.coefficient) p h in
    let m = w.1 in
    let k = monomial_product m n in
    let within : w.0 < length (column n p) = omega (arith, w.2, length-map p (λ m. monomial_product m n)) in
    let at : get_or (column n p) w.0 k ≡ k = get_or-map (λ m. monomial_product m n) p w.0 m k w.2 ∙ ap (λ x. monomial_product x n) w.3 in
    let there : k.coefficient ≤ coefficient_in (form_product p (n ∷ q)) k.atoms = subst (λ (x : Monomial). x.coefficient ≤ coefficient_in (form_product p (n ∷ q)) x.atoms) at (products_there p n q w.0 k within) in
    let great : past_limit ≤ k.coefficient = omega (arith, leb-true past_limit m.coefficient w.4, times_more m.coefficient n.coefficient g) in
    great_there k.coefficient (form_product p (n ∷ q)) k.atoms (omega (arith, great)) there great
