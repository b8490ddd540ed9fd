-- The form of a normal form is itself.
use Rattle.std.proofs.Common.{ℕ, zero, suc, ◌≡◌, ◌*◌, ◌/◌, ◌<◌, ◌≤◌, ◌==◌, Bool, false, List, [], ◌∷◌, ◌++◌, length, get_or, map, ◌^◌, refl, sym, ◌∙◌, ap, subst, arith}
use Rattle.std.specs.Prelude.{All, ℤ, pos, negsuc, neg_ℤ, int_div, unsigned_abs, ◌&&◌, not, if◌then◌else◌}
use Rattle.std.specs.Int.{◌∣◌}
use Rattle.std.specs.List.{flat_map, list_any}
use Rattle.std.specs.Ordering.{ordering_reverse}
use Rattle.std.specs.declared.cmp.Ordering.{Ordering}
use Rattle.std.specs.declared.cmp.Ordering.TheVariants.{Less, Equal, Greater}
use Rattle.std.proofs.lemmas.List.{append_assoc}
use Rattle.std.proofs.lemmas.List.Elements.{All-nil, All-cons, All-head, All-tail, All-append}
use Rattle.std.proofs.lemmas.Bool.{or_from}
use Rattle.std.proofs.Math.Nat.{div-one, dvd_trans}
use Rattle.q128.specs.Rule.{gcd}
use Rattle.q128.proofs.Divisors.{IsGcd-gcd}
use Rattle.bound_terms.specs.Terms.{Floored, Term, Number, Floor, Total, Product, Greatest, Power, Geometric, Terms, none, more, terms}
use Rattle.bound_terms.specs.Values.{geo}
use Rattle.bound_forms.specs.Monomials.{Monomial, Form, monomial_term, form_term, atom_order, atoms_order, put_by, put, gathered, put_atom_by, put_atom, constant, one_atom, form_product, product_from}
use Rattle.bound_forms.specs.Lowest.{trimmed, common_divisor, divided, lowest, by_sizes, fixed_value, floor_form}
use Rattle.bound_forms.specs.Maxima.{covers, listed, monomial_of, form_of, operands_of, is_needless, pruned, greatest_form}
use Rattle.bound_forms.specs.Forms.{form, forms}
use Rattle.bound_forms.specs.Normal.{IsLowest, IsRaised, IsFlat, IsMonomial, IsSum, Rising, NotFalling, IsNormal, AreNormal, AreMonomials, IsProduct, IsScaled, AreAtoms, IsAtom}
use Rattle.bound_forms.proofs.Rising.{First, first, behind, atom_order_total, atoms_order_total}
use Rattle.bound_forms.proofs.Trimming.{apart}
use Rattle.bound_normal.proofs.Divisors.{common_divides, common_divides_all}
use Rattle.bound_normal.proofs.Telling.{EachTerm}
use Rattle.bound_normal.proofs.Amounts.{atom_same}
use Rattle.bound_normal.proofs.Values.{terms_listed}

-- ---- what is in order is gathered as it stands
turned_greater : (xs ys : List Term) → atoms_order ys xs ≡ Less → atoms_order xs ys ≡ Greater
turned_greater xs ys e = atoms_order_total.antisymm xs ys ∙ ap ordering_reverse e

put_greater : (m n : Monomial) (ns : Form) → atoms_order n.atoms m.atoms ≡ Less → put m (n ∷ ns) ≡ n ∷ put m ns
put_greater m n ns e = ap (λ o. put_by o m n ns (put m ns)) (turned_greater m.atoms n.atoms e)

-- each of a form goes before a monomial
abbrev Before : Form → Monomial → Type 0
Before q m = All (λ (n : Monomial). atoms_order n.atoms m.atoms ≡ Less) q

put_last : (m : Monomial) (q : Form) → Before q m → put m q ≡ q ++ m ∷ []
put_last m [] h = refl
put_last m (n ∷ ns) h =
    put_greater m n ns (All-head (λ (k : Monomial). atoms_order k.atoms m.atoms ≡ Less) n ns h) ∙ ap (λ r. n ∷ r) (put_last m ns (All-tail (λ (k : Monomial). atoms_order k.atoms m.atoms ≡ Less) n ns h))

before_next : (q : Form) (m n : Monomial) → Before q m → atoms_order m.atoms n.atoms ≡ Less → Before (q ++ m ∷ []) n
before_next q m n h e =
    All-append (λ (k : Monomial). atoms_order k.atoms n.atoms ≡ Less) q (m ∷ []) (λ i d l. atoms_order_total.trans (get_or q i d).atoms m.atoms n.atoms (h i d l) e)
    (All-cons (λ (k : Monomial). atoms_order k.atoms n.atoms ≡ Less) m [] e (All-nil (λ (k : Monomial). atoms_order k.atoms n.atoms ≡ Less)))

-- all of a form goes before the first of the rest
abbrev Ahead : Form → Form → Type 0
Ahead q [] = Unit {0}
Ahead q (m ∷ p) = Before q m

next_ahead : (q : Form) (m : Monomial) (p : Form) → Before q m → First m.atoms p → Ahead (q ++ m ∷ []) p
next_ahead q m [] h f = tt
next_ahead q m (n ∷ p) h f = before_next q m n h f

gathered_again : (q p : Form) → Rising p → Ahead q p → gathered q p ≡ q ++ p
gathered_again q [] r a = append_none q
  where
    append_none : (q : Form) → q ≡ q ++ []
    append_none [] = refl
    append_none (m ∷ q) = ap (λ r. m ∷ r) (append_none q)
gathered_again q (m ∷ p) r a =
    ap (λ s. gathered s p) (put_last m q a) ∙ gathered_again (q ++ m ∷ []) p (behind m p r) (next_ahead q m p a (first m p r)) ∙ append_assoc q (m ∷ []) p

pub rising_again : (p : Form) → Rising p → gathered [] p ≡ p
rising_again p r = gathered_again [] p r (ahead_all p)
  where
    ahead_all : (p : Form) → Ahead [] p
    ahead_all [] = tt
    ahead_all (m ∷ p) = All-nil (λ (k : Monomial). atoms_order k.atoms m.atoms ≡ Less)

-- ---- atoms in order
abbrev Le : Term → Term → Type 0
Le x y = ¬ (atom_order x y ≡ Greater)

le_by : (o : Ordering) (x y z : Term) → atom_order x y ≡ o → Le x y → Le y z → atom_order x z ≡ Greater → ⊥
le_by Less x y z is h g e =
    let back : atom_order z x ≡ Less = atom_order_total.antisymm z x ∙ ap ordering_reverse e in
    g (atom_order_total.antisymm y z ∙ ap ordering_reverse (atom_order_total.trans z x y back is))
le_by Equal x y z is h g e = g (sym (atom_order_total.congr x y z is) ∙ e)
le_by Greater x y z is h g e = h is

le_trans : (x y z : Term) → Le x y → Le y z → Le x z
le_trans x y z h g e = le_by (atom_order x y) x y z refl h g e

chain : (b : Term) (bs : List Term) (a : Term) → NotFalling (b ∷ (bs ++ a ∷ [])) → Le b a
chain b [] a h = h.0
chain b (c ∷ cs) a h = le_trans b c a h.0 (chain c cs a h.1)

both_by : (o : Ordering) (x y : Term) → atom_order x y ≡ o → Le x y → Le y x → atom_order x y ≡ Equal
both_by Less x y is h g = absurd (g (atom_order_total.antisymm y x ∙ ap ordering_reverse is))
both_by Equal x y is h g = is
both_by Greater x y is h g = absurd (h is)

same_atom : (x y : Term) → IsAtom x → IsAtom y → Le x y → Le y x → x ≡ y
same_atom x y h g a b = atom_same x y h g (both_by (atom_order x y) x y refl a b)

rotated : (b : Term) (bs : List Term) (a : Term) → IsAtom a → All IsAtom bs → b ≡ a → NotFalling (b ∷ (bs ++ a ∷ [])) → b ∷ bs ≡ bs ++ a ∷ []
rotated b [] a ia ibs e h = ap (λ x. x ∷ []) e
rotated b (c ∷ cs) a ia ibs e h =
    let f : c ≡ a = same_atom c a (All-head IsAtom c cs ibs) ia (chain c cs a h.1) (subst (λ x. Le x c) e h.0) in
    ap (λ x. x ∷ c ∷ cs) (e ∙ sym f) ∙ ap (λ xs. c ∷ xs) (rotated c cs a ia (All-tail IsAtom c cs ibs) f h.1)

behind_first : (b : Term) (bs : List Term) → NotFalling (b ∷ bs) → NotFalling bs
behind_first b [] h = tt
behind_first b (c ∷ cs) h = h.1

atom_last_by : (o : Ordering) (a b : Term) (bs rest : List Term) → atom_order a b ≡ o → IsAtom a → IsAtom b → All IsAtom bs → NotFalling (b ∷ (bs ++ a ∷ [])) → rest ≡ bs ++ a ∷ [] → put_atom_by o a b bs rest ≡ b ∷ (bs ++ a ∷ [])
atom_last_by Less a b bs rest is ia ib ibs h e = absurd (chain b bs a h (atom_order_total.antisymm b a ∙ ap ordering_reverse is))
atom_last_by Equal a b bs rest is ia ib ibs h e =
    let f : a ≡ b = atom_same a b ia ib is in
    ap (λ x. x ∷ b ∷ bs) f ∙ ap (λ xs. b ∷ xs) (rotated b bs a ia ibs (sym f) h)
atom_last_by Greater a b bs rest is ia ib ibs h e = ap (λ xs. b ∷ xs) e

atom_last : (a : Term) (bs : List Term) → IsAtom a → All IsAtom bs → NotFalling (bs ++ a ∷ []) → put_atom a bs ≡ bs ++ a ∷ []
atom_last a [] ia ibs h = refl
atom_last a (b ∷ bs) ia ibs h =
    atom_last_by (atom_order a b) a b bs (put_atom a bs) refl ia (All-head IsAtom b bs ibs) (All-tail IsAtom b bs ibs) h (atom_last a bs ia (All-tail IsAtom b bs ibs) (behind_first b (bs ++ a ∷ []) h))

front_order : (bs rest : List Term) → NotFalling (bs ++ rest) → NotFalling bs
front_order [] rest h = tt
front_order (b ∷ []) rest h = tt
front_order (b ∷ c ∷ cs) rest h = (h.0, front_order (c ∷ cs) rest h.1)

-- ---- monomials
abbrev scaled : ℕ → List Term → Monomial
scaled c xs = record { coefficient = c; atoms = xs }

append_none : (xs : List Term) → xs ≡ xs ++ []
append_none [] = refl
append_none (x ∷ xs) = ap (λ ys. x ∷ ys) (append_none xs)

times_one : (c : ℕ) → c * 1 ≡ c
times_one c = omega arith

one_times : (c : ℕ) → 1 * c ≡ c
one_times c = omega arith

factors_again : (c : ℕ) (xs : List Term) (us : Terms) → EachTerm (λ t. form t ≡ one_atom t) us → All IsAtom xs → AreAtoms us → NotFalling (xs ++ listed us) → product_from (scaled c xs ∷ []) (forms us) ≡ scaled c (xs ++ listed us) ∷ []
factors_again c xs none e h g r = ap (λ ys. scaled c ys ∷ []) (append_none xs)
factors_again c xs (more u us) e h g r =
    let joins : (xs ++ u ∷ []) ++ listed us ≡ xs ++ listed (more u us) = append_assoc xs (u ∷ []) (listed us) in
    let r' : NotFalling ((xs ++ u ∷ []) ++ listed us) = subst NotFalling (sym joins) r in
    ap (λ q. product_from (form_product (scaled c xs ∷ []) q) (forms us)) e.0
    ∙ ap (λ d. product_from (scaled d (put_atom u xs) ∷ []) (forms us)) (times_one c)
    ∙ ap (λ ys. product_from (scaled c ys ∷ []) (forms us)) (atom_last u xs g.0 h (front_order (xs ++ u ∷ []) (listed us) r'))
    ∙ factors_again c (xs ++ u ∷ []) us e.1 (All-append IsAtom xs (u ∷ []) h (All-cons IsAtom u [] g.0 (All-nil IsAtom))) g.1 r'
    ∙ ap (λ ys. scaled c ys ∷ []) joins

scaled_again : (c : ℕ) (us : Terms) → IsMonomial c (listed us) → AreAtoms us → EachTerm (λ t. form t ≡ one_atom t) us → form (Product (more (Number c) us)) ≡ scaled c (listed us) ∷ []
scaled_again zero us m g e = absurd (omega (arith, m.positive))
scaled_again (suc c) us m g e =
    ap (λ d. product_from (scaled d [] ∷ []) (forms us)) (one_times (suc c)) ∙ factors_again (suc c) [] us e (All-nil IsAtom) g m.in_order

-- ---- sums
flat_again : (ts : Terms) → EachTerm (λ t. form t ≡ monomial_of t ∷ []) ts → flat_map (λ p. p) (forms ts) ≡ map monomial_of (listed ts)
flat_again none e = refl
flat_again (more t ts) e = ap (λ p. p ++ flat_map (λ p. p) (forms ts)) e.0 ∙ ap (λ q. monomial_of t ∷ q) (flat_again ts e.1)

total_again : (ts : Terms) → EachTerm (λ t. form t ≡ monomial_of t ∷ []) ts → IsSum (form_of (Total ts)) → form (Total ts) ≡ form_of (Total ts)
total_again ts e s = ap (gathered []) (flat_again ts e) ∙ rising_again (form_of (Total ts)) s.in_order

-- ---- expressions
over_one : (z : ℤ) → int_div z (pos 1) ≡ z
over_one (pos n) = ap pos (div-one n)
over_one (negsuc n) = ap (λ k. neg_ℤ (pos k)) (div-one (suc n))

all_over_one : (cs : List ℤ) → map (λ c. int_div c (pos 1)) cs ≡ cs
all_over_one [] = refl
all_over_one (c ∷ cs) = ap (λ d. d ∷ map (λ c. int_div c (pos 1)) cs) (over_one c) ∙ ap (λ ds. c ∷ ds) (all_over_one cs)

divided_again : (n : Floored) → divided n.expression.coefficients n.expression.constant n.divisor 1 ≡ n
divided_again n =
    let cs = n.expression.coefficients in
    let k = n.expression.constant in
    let d = n.divisor in
    ap (λ (xs : List ℤ). let x : Floored = record { expression = record { coefficients = xs; constant = int_div k (pos 1) }; divisor = d / 1 } in x) (all_over_one cs)
    ∙ ap (λ (z : ℤ). let x : Floored = record { expression = record { coefficients = cs; constant = z }; divisor = d / 1 } in x) (over_one k)
    ∙ ap (λ (e : ℕ). let x : Floored = record { expression = record { coefficients = cs; constant = k }; divisor = e } in x) (div-one d)

lowest_again : (n : Floored) → IsLowest n → lowest n ≡ n
lowest_again n h =
    let cs = n.expression.coefficients in
    let k = n.expression.constant in
    let d = n.divisor in
    let first = gcd (unsigned_abs k) d in
    let g = common_divisor first cs in
    let is = IsGcd-gcd (unsigned_abs k) d in
    let divides : g ∣ first = common_divides first cs in
    let one : g ≡ 1 = h.nothing_common g (dvd_trans g divides is.1) (dvd_trans g divides is.0) (common_divides_all first cs) in
    ap (λ xs. divided xs k d g) h.last_is_used ∙ ap (divided cs k d) one ∙ divided_again n

by_sizes_again : (cs : List ℤ) (p q : Form) → 0 < length cs → by_sizes cs p q ≡ q
by_sizes_again [] p q h = absurd (omega (arith, h))
by_sizes_again (c ∷ cs) p q h = refl

depends : (n : Floored) → IsLowest n → 0 < length (trimmed n.expression.coefficients)
depends n h = subst (λ cs. 0 < length cs) (sym h.last_is_used) h.depends

floor_again : (n : Floored) → IsLowest n → form (Floor n) ≡ one_atom (Floor n)
floor_again n h = by_sizes_again (trimmed n.expression.coefficients) (constant (fixed_value n)) (one_atom (Floor (lowest n))) (depends n h) ∙ ap (λ m. one_atom (Floor m)) (lowest_again n h)

not_one : (b : ℕ) → 2 ≤ b → (b == 1) ≡ false
not_one b h = apart b 1 (λ e. omega (arith, h, e))

power_again : (b : ℕ) (n : Floored) → IsRaised b n → form (Power b n) ≡ one_atom (Power b n)
power_again b n h =
    let q = by_sizes (trimmed n.expression.coefficients) (constant (b ^ fixed_value n)) (one_atom (Power b (lowest n))) in
    ap (λ (x : Bool). if x then constant 1 else q) (not_one b h.base)
    ∙ by_sizes_again (trimmed n.expression.coefficients) (constant (b ^ fixed_value n)) (one_atom (Power b (lowest n))) (depends n h.exponent) ∙ ap (λ m. one_atom (Power b m)) (lowest_again n h.exponent)

geometric_again : (b : ℕ) (n : Floored) → IsRaised b n → form (Geometric b n) ≡ one_atom (Geometric b n)
geometric_again b n h =
    let q = by_sizes (trimmed n.expression.coefficients) (constant (geo b (fixed_value n))) (one_atom (Geometric b (lowest n))) in
    ap (λ (x : Bool). if x then floor_form n else q) (not_one b h.base)
    ∙ by_sizes_again (trimmed n.expression.coefficients) (constant (geo b (fixed_value n))) (one_atom (Geometric b (lowest n))) (depends n h.exponent) ∙ ap (λ m. one_atom (Geometric b m)) (lowest_again n h.exponent)

-- ---- maxima
none_any : (f : Form → Bool) (qs : List Form) → All (λ q. f q ≡ false) qs → list_any f qs ≡ false
none_any f [] h = refl
none_any f (q ∷ qs) h = or_from (f q) (list_any f qs) (All-head (λ q. f q ≡ false) q qs h) (none_any f qs (All-tail (λ q. f q ≡ false) q qs h))

front_all : (P : Form → Type 0) (xs ys : List Form) → All P (xs ++ ys) → All P xs
front_all P [] ys h = All-nil P
front_all P (x ∷ xs) ys h = All-cons P x xs (All-head P x (xs ++ ys) h) (front_all P xs ys (All-tail P x (xs ++ ys) h))

back_all : (P : Form → Type 0) (xs ys : List Form) → All P (xs ++ ys) → All P ys
back_all P [] ys h = h
back_all P (x ∷ xs) ys h = back_all P xs ys (All-tail P x (xs ++ ys) h)

exceeds_none : (p : Form) (qs : List Form) → All (λ q. covers q p ≡ false) qs → All (λ q. (covers q p && not (covers p q)) ≡ false) qs
exceeds_none p [] h = All-nil (λ q. (covers q p && not (covers p q)) ≡ false)
exceeds_none p (q ∷ qs) h =
    All-cons (λ q. (covers q p && not (covers p q)) ≡ false) q qs (ap (λ b. b && not (covers p q)) (All-head (λ q. covers q p ≡ false) q qs h)) (exceeds_none p qs (All-tail (λ q. covers q p ≡ false) q qs h))

abbrev Needed : List Form → Type 0
Needed ps = (before behind : List Form) (p : Form) → ps ≡ before ++ p ∷ behind → All (λ q. covers q p ≡ false) (before ++ behind)

pruned_again : (whole before ps : List Form) → Needed whole → whole ≡ before ++ ps → pruned before ps ≡ ps
pruned_again whole before [] n e = refl
pruned_again whole before (p ∷ ps) n e =
    let h = n before ps p e in
    let rest = pruned (before ++ p ∷ []) ps in
    let needed : is_needless before p ps ≡ false = or_from (list_any (λ q. covers q p) before) (list_any (λ q. covers q p && not (covers p q)) ps)
    (none_any (λ q. covers q p) before (front_all (λ q. covers q p ≡ false) before ps h))
    (none_any (λ q. covers q p && not (covers p q)) ps (exceeds_none p ps (back_all (λ q. covers q p ≡ false) before ps h))) in
    ap (λ b. if b then rest else p ∷ rest) needed ∙ ap (λ qs. p ∷ qs) (pruned_again whole (before ++ p ∷ []) ps n (e ∙ sym (append_assoc before (p ∷ []) ps)))

operands_again : (ps : List Form) → All (λ p. operands_of p ≡ p ∷ []) ps → flat_map operands_of ps ≡ ps
operands_again [] h = refl
operands_again (p ∷ ps) h =
    ap (λ qs. qs ++ flat_map operands_of ps) (All-head (λ p. operands_of p ≡ p ∷ []) p ps h) ∙ ap (λ qs. p ∷ qs) (operands_again ps (All-tail (λ p. operands_of p ≡ p ∷ []) p ps h))

several_again : (ps : List Form) → 2 ≤ length ps → greatest_form ps ≡ one_atom (Greatest (terms (map form_term ps)))
several_again [] h = absurd (omega (arith, h))
several_again (p ∷ []) h = absurd (omega (arith, h))
several_again (p ∷ q ∷ ps) h = refl

forms_again : (ts : Terms) → EachTerm (λ t. form t ≡ form_of t) ts → forms ts ≡ map form_of (listed ts)
forms_again none e = refl
forms_again (more t ts) e = ap (λ p. p ∷ forms ts) e.0 ∙ ap (λ ps. form_of t ∷ ps) (forms_again ts e.1)

greatest_again : (ts : Terms) → IsFlat (map form_of (listed ts)) → EachTerm (λ t. form t ≡ form_of t) ts → terms (map form_term (map form_of (listed ts))) ≡ ts → form (Greatest ts) ≡ one_atom (Greatest ts)
greatest_again ts f e back =
    let ps = map form_of (listed ts) in
    ap (λ qs. greatest_form (pruned [] (flat_map operands_of qs))) (forms_again ts e) ∙ ap (λ qs. greatest_form (pruned [] qs)) (operands_again ps f.flat)
    ∙ ap greatest_form (pruned_again ps [] ps f.needed refl) ∙ several_again ps f.several ∙ ap (λ us. one_atom (Greatest us)) back

-- ---- terms and their forms
scaled_back : (ts : Terms) → IsScaled ts → monomial_term (monomial_of (Product ts)) ≡ Product ts
scaled_back none h = absurd h
scaled_back (more (Number c) ts) h = ap (λ us. Product (more (Number c) us)) (terms_listed ts)
scaled_back (more (Floor n) ts) h = absurd h
scaled_back (more (Total us) ts) h = absurd h
scaled_back (more (Product us) ts) h = absurd h
scaled_back (more (Greatest us) ts) h = absurd h
scaled_back (more (Power b n) ts) h = absurd h
scaled_back (more (Geometric b n) ts) h = absurd h

pub product_back : (t : Term) → IsProduct t → monomial_term (monomial_of t) ≡ t
product_back (Number c) h = absurd h
product_back (Floor n) h = absurd h
product_back (Total us) h = absurd h
product_back (Product us) h = scaled_back us h
product_back (Greatest us) h = absurd h
product_back (Power b n) h = absurd h
product_back (Geometric b n) h = absurd h

products_back : (ts : Terms) → AreMonomials ts → terms (map monomial_term (map monomial_of (listed ts))) ≡ ts
products_back none h = refl
products_back (more t ts) h = ap (λ u. more u (terms (map monomial_term (map monomial_of (listed ts))))) (product_back t h.0) ∙ ap (λ us. more t us) (products_back ts h.1)

pub normal_back : (t : Term) → IsNormal t → form_term (form_of t) ≡ t
normal_back (Number c) h = absurd h
normal_back (Floor n) h = absurd h
normal_back (Total us) h = ap Total (products_back us h.0)
normal_back (Product us) h = absurd h
normal_back (Greatest us) h = absurd h
normal_back (Power b n) h = absurd h
normal_back (Geometric b n) h = absurd h

normals_back : (ts : Terms) → AreNormal ts → terms (map form_term (map form_of (listed ts))) ≡ ts
normals_back none h = refl
normals_back (more t ts) h = ap (λ u. more u (terms (map form_term (map form_of (listed ts))))) (normal_back t h.0) ∙ ap (λ us. more t us) (normals_back ts h.1)

-- ---- whole terms
mutual
  pub atom_again : (t : Term) → IsAtom t → form t ≡ one_atom t
  atom_again (Number n) h = absurd h
  atom_again (Floor n) h = floor_again n h
  atom_again (Total ts) h = absurd h
  atom_again (Product ts) h = absurd h
  atom_again (Greatest ts) h = greatest_again ts h.1 (sums_again ts h.0) (normals_back ts h.0)
  atom_again (Power b n) h = power_again b n h
  atom_again (Geometric b n) h = geometric_again b n h

  pub sum_again : (t : Term) → IsNormal t → form t ≡ form_of t
  sum_again (Number n) h = absurd h
  sum_again (Floor n) h = absurd h
  sum_again (Total ts) h = total_again ts (products_again ts h.0) h.1
  sum_again (Product ts) h = absurd h
  sum_again (Greatest ts) h = absurd h
  sum_again (Power b n) h = absurd h
  sum_again (Geometric b n) h = absurd h

  pub product_again : (t : Term) → IsProduct t → form t ≡ monomial_of t ∷ []
  product_again (Number n) h = absurd h
  product_again (Floor n) h = absurd h
  product_again (Total ts) h = absurd h
  product_again (Product ts) h = factor_again ts h
  product_again (Greatest ts) h = absurd h
  product_again (Power b n) h = absurd h
  product_again (Geometric b n) h = absurd h

  factor_again : (ts : Terms) → IsScaled ts → form (Product ts) ≡ monomial_of (Product ts) ∷ []
  factor_again none h = absurd h
  factor_again (more (Number c) ts) h = scaled_again c ts h.0 h.1 (atoms_again ts h.1)
  factor_again (more (Floor n) ts) h = absurd h
  factor_again (more (Total us) ts) h = absurd h
  factor_again (more (Product us) ts) h = absurd h
  factor_again (more (Greatest us) ts) h = absurd h
  factor_again (more (Power b n) ts) h = absurd h
  factor_again (more (Geometric b n) ts) h = absurd h

  atoms_again : (ts : Terms) → AreAtoms ts → EachTerm (λ t. form t ≡ one_atom t) ts
  atoms_again none h = tt
  atoms_again (more t ts) h = (atom_again t h.0, atoms_again ts h.1)

  products_again : (ts : Terms) → AreMonomials ts → EachTerm (λ t. form t ≡ monomial_of t ∷ []) ts
  products_again none h = tt
  products_again (more t ts) h = (product_again t h.0, products_again ts h.1)

  sums_again : (ts : Terms) → AreNormal ts → EachTerm (λ t. form t ≡ form_of t) ts
  sums_again none h = tt
  sums_again (more t ts) h = (sum_again t h.0, sums_again ts h.1)

-- the normal form of a normal form is itself
pub normal_again : (t : Term) → IsNormal t → form_term (form t) ≡ t
normal_again t h = ap form_term (sum_again t h) ∙ normal_back t h
