-- What a form that is gathered passes, it passes however much is put into it.
use Rattle.std.proofs.Common.{ℕ, suc, ◌≡◌, ◌+◌, ◌<◌, ◌≤◌, Bool, true, false, List, [], ◌∷◌, ◌++◌, length, map, drop, get_or, refl, sym, ◌∙◌, ap, subst, arith}
use Rattle.std.specs.Prelude.{nat_le, ◌||◌, ◌*◌, Err}
use Rattle.std.specs.List.{list_any, flat_map}
use Rattle.std.specs.declared.cmp.Ordering.{Ordering}
use Rattle.std.specs.declared.cmp.Ordering.TheVariants.{Less, Equal, Greater}
use Rattle.std.proofs.lemmas.Bool.{le-leb, leb-true}
use Rattle.std.proofs.lemmas.List.{drop_more}
use Rattle.bound_terms.specs.declared.bound.Bound.{Bound}
use Rattle.bound_forms.specs.declared.fault.BoundFault.{BoundFault}
use Rattle.bound_forms.specs.declared.fault.BoundFault.TheVariants.{Monomials, Coefficient, Memory}
use Rattle.bound_forms.specs.Monomials.{Monomial, Form, atoms_order, put_by, put, gathered, monomial_product, products}
use Rattle.bound_forms.specs.Coded.{coded, coded_form}
use Rattle.bound_forms.specs.Limits.{past_limit}
use Rattle.bound_forms.specs.Answered.{Passes}
use Rattle.bound_forms.specs.inside.Passing.{Limited}

or_left : (a b : Bool) → a ≡ true → (a || b) ≡ true
or_left true b h = refl
or_left false b h = absurd (cc)

or_right : (a b : Bool) → b ≡ true → (a || b) ≡ true
or_right true b h = refl
or_right false b h = h

or_either : (a b c : Bool) → (a ≡ true → c ≡ true) → (b ≡ true → c ≡ true) → (a || b) ≡ true → c ≡ true
or_either true b c f g h = f refl
or_either false b c f g h = g h

more_great : (a b : ℕ) → nat_le past_limit b ≡ true → nat_le past_limit (a + b) ≡ true
more_great a b h = le-leb past_limit (a + b) (omega (arith, leb-true past_limit b h))

more_great_too : (a b : ℕ) → nat_le past_limit a ≡ true → nat_le past_limit (a + b) ≡ true
more_great_too a b h = le-leb past_limit (a + b) (omega (arith, leb-true past_limit a h))

-- ---- one monomial more
great_by : (o : Ordering) (m n : Monomial) (ns behind : Form) → (list_any (λ (m : Monomial). nat_le past_limit m.coefficient) ns ≡ true → list_any (λ (m : Monomial). nat_le past_limit m.coefficient) behind ≡ true) → list_any (λ (m : Monomial). nat_le past_limit m.coefficient) (n ∷ ns) ≡ true → list_any (λ (m : Monomial). nat_le past_limit m.coefficient) (put_by o m n ns behind) ≡ true
great_by Less m n ns behind later h = or_right (nat_le past_limit m.coefficient) (list_any (λ (m : Monomial). nat_le past_limit m.coefficient) (n ∷ ns)) h
great_by Equal m n ns behind later h =
    let rest = list_any (λ (m : Monomial). nat_le past_limit m.coefficient) ns in
    or_either (nat_le past_limit n.coefficient) rest (nat_le past_limit (m.coefficient + n.coefficient) || rest)
    (λ e. or_left (nat_le past_limit (m.coefficient + n.coefficient)) rest (more_great m.coefficient n.coefficient e))
    (λ e. or_right (nat_le past_limit (m.coefficient + n.coefficient)) rest e) h
great_by Greater m n ns behind later h =
    let rest = list_any (λ (m : Monomial). nat_le past_limit m.coefficient) behind in
    or_either (nat_le past_limit n.coefficient) (list_any (λ (m : Monomial). nat_le past_limit m.coefficient) ns) (nat_le past_limit n.coefficient || rest)
    (λ e. or_left (nat_le past_limit n.coefficient) rest e)
    (λ e. or_right (nat_le past_limit n.coefficient) rest (later e)) h

great_put : (m : Monomial) (p : Form) → list_any (λ (m : Monomial). nat_le past_limit m.coefficient) p ≡ true → list_any (λ (m : Monomial). nat_le past_limit m.coefficient) (put m p) ≡ true
great_put m [] h = absurd (cc)
great_put m (n ∷ ns) h = great_by (atoms_order m.atoms n.atoms) m n ns (put m ns) (great_put m ns) h

longer_by : (o : Ordering) (m n : Monomial) (ns behind : Form) → length ns ≤ length behind → suc (length ns) ≤ length (put_by o m n ns behind)
longer_by Less m n ns behind h = omega arith
longer_by Equal m n ns behind h = omega arith
longer_by Greater m n ns behind h = omega (arith, h)

longer_put : (m : Monomial) (p : Form) → length p ≤ length (put m p)
longer_put m [] = omega arith
longer_put m (n ∷ ns) = longer_by (atoms_order m.atoms n.atoms) m n ns (put m ns) (longer_put m ns)

passes_put : (e : BoundFault) (m : Monomial) (p : Form) → Passes e p → Passes e (put m p)
passes_put Monomials m p h = omega (arith, h, longer_put m p)
passes_put Coefficient m p h = great_put m p h
passes_put Memory m p h = tt

-- several more
pub passes_on : (e : BoundFault) (ms : List Monomial) (p : Form) → Passes e p → Passes e (gathered p ms)
passes_on e [] p h = h
passes_on e (m ∷ ms) p h = passes_on e ms (put m p) (passes_put e m p h)

-- ---- a monomial that is too great
new_by : (o : Ordering) (m n : Monomial) (ns behind : Form) → nat_le past_limit m.coefficient ≡ true → list_any (λ (m : Monomial). nat_le past_limit m.coefficient) behind ≡ true → list_any (λ (m : Monomial). nat_le past_limit m.coefficient) (put_by o m n ns behind) ≡ true
new_by Less m n ns behind h later = or_left (nat_le past_limit m.coefficient) (list_any (λ (m : Monomial). nat_le past_limit m.coefficient) (n ∷ ns)) h
new_by Equal m n ns behind h later = or_left (nat_le past_limit (m.coefficient + n.coefficient)) (list_any (λ (m : Monomial). nat_le past_limit m.coefficient) ns) (more_great_too m.coefficient n.coefficient h)
new_by Greater m n ns behind h later = or_right (nat_le past_limit n.coefficient) (list_any (λ (m : Monomial). nat_le past_limit m.coefficient) behind) later

new_great : (m : Monomial) (p : Form) → nat_le past_limit m.coefficient ≡ true → list_any (λ (m : Monomial). nat_le past_limit m.coefficient) (put m p) ≡ true
new_great m [] h = or_left (nat_le past_limit m.coefficient) false h
new_great m (n ∷ ns) h = new_by (atoms_order m.atoms n.atoms) m n ns (put m ns) h (new_great m ns h)

pub great_product : (m n : Monomial) (p : Form) → past_limit ≤ (monomial_product m n).coefficient → Passes Coefficient (put (monomial_product m n) p)
great_product m n p h = new_great (monomial_product m n) p (le-leb past_limit (monomial_product m n).coefficient h)

-- ---- loops
-- a row that is cut off
pub row_passes : (e : BoundFault) (m : Monomial) (q : List (ℕ × List Bound)) (i : ℕ) (n : ℕ × List Bound) (g r : Form) → i < length q → n ≡ get_or q i n → gathered g (map (monomial_product m) (coded_form (drop i q))) ≡ r → Passes e (put (monomial_product m (coded n)) g) → Passes e r
row_passes e m q i n g r h at is passed =
    let rest = map (monomial_product m) (coded_form (drop (i + 1) q)) in
    let split : drop i q ≡ n ∷ drop (i + 1) q = drop_more q i n h ∙ ap (λ x. x ∷ drop (i + 1) q) (sym at) in
    let all : gathered (put (monomial_product m (coded n)) g) rest ≡ r = ap (λ ds. gathered g (map (monomial_product m) (coded_form ds))) (sym split) ∙ is in
    subst (Passes e) all (passes_on e rest (put (monomial_product m (coded n)) g) passed)

pub gathered-append : (p : Form) (ms ns : List Monomial) → gathered p (ms ++ ns) ≡ gathered (gathered p ms) ns
gathered-append p [] ns = refl
gathered-append p (m ∷ ms) ns = gathered-append (put m p) ms ns

-- a row more of a product
product_more : (p q : List (ℕ × List Bound)) (i : ℕ) (m : ℕ × List Bound) (g : Form) → i < length p → m ≡ get_or p i m → gathered g (products (coded_form (drop i p)) (coded_form q)) ≡ gathered (gathered g (map (monomial_product (coded m)) (coded_form q))) (products (coded_form (drop (i + 1) p)) (coded_form q))
product_more p q i m g h at =
    let split : drop i p ≡ m ∷ drop (i + 1) p = drop_more p i m h ∙ ap (λ x. x ∷ drop (i + 1) p) (sym at) in
    ap (λ ds. gathered g (products (coded_form ds) (coded_form q))) split ∙ gathered-append g (map (monomial_product (coded m)) (coded_form q)) (products (coded_form (drop (i + 1) p)) (coded_form q))

pub product_goes : (p q : List (ℕ × List Bound)) (i : ℕ) (m : ℕ × List Bound) (g now r : Form) → i < length p → m ≡ get_or p i m → gathered g (products (coded_form (drop i p)) (coded_form q)) ≡ r → now ≡ gathered g (map (monomial_product (coded m)) (coded_form q)) → gathered now (products (coded_form (drop (i + 1) p)) (coded_form q)) ≡ r
product_goes p q i m g now r h at is made = ap (λ x. gathered x (products (coded_form (drop (i + 1) p)) (coded_form q))) made ∙ sym (product_more p q i m g h at) ∙ is

pub product_passes : (e : BoundFault) (p q : List (ℕ × List Bound)) (i : ℕ) (m : ℕ × List Bound) (g r : Form) → i < length p → m ≡ get_or p i m → gathered g (products (coded_form (drop i p)) (coded_form q)) ≡ r → Passes e (gathered g (map (monomial_product (coded m)) (coded_form q))) → Passes e r
product_passes e p q i m g r h at is passed =
    subst (Passes e) (sym (product_more p q i m g h at) ∙ is) (passes_on e (products (coded_form (drop (i + 1) p)) (coded_form q)) (gathered g (map (monomial_product (coded m)) (coded_form q))) passed)

-- the monomials of a form, one after another
pub all_passes : (e : BoundFault) (m : ℕ × List Bound) (rest : List (ℕ × List Bound)) (g r : Form) → gathered g (coded_form (m ∷ rest)) ≡ r → Passes e (put (coded m) g) → Passes e r
all_passes e m rest g r is passed = subst (Passes e) is (passes_on e (coded_form rest) (put (coded m) g) passed)

-- a product of coefficients that is too great
pub limited_passes : (e : BoundFault) (m n : Monomial) (p : Form) → Limited (Err e) (m.coefficient * n.coefficient) → Passes e (put (monomial_product m n) p)
limited_passes Monomials m n p h = absurd h
limited_passes Coefficient m n p h = great_product m n p h
limited_passes Memory m n p h = absurd h

-- the sum of forms, one after another
total_more : (f : List (ℕ × List Bound)) (ps : List Form) (g : Form) → gathered g (flat_map (λ p. p) (coded_form f ∷ ps)) ≡ gathered (gathered g (coded_form f)) (flat_map (λ p. p) ps)
total_more f ps g = gathered-append g (coded_form f) (flat_map (λ p. p) ps)

pub total_goes : (f : List (ℕ × List Bound)) (all ps : List Form) (g now r : Form) → all ≡ coded_form f ∷ ps → gathered g (flat_map (λ p. p) all) ≡ r → now ≡ gathered g (coded_form f) → gathered now (flat_map (λ p. p) ps) ≡ r
total_goes f all ps g now r split is made = ap (λ x. gathered x (flat_map (λ p. p) ps)) made ∙ sym (total_more f ps g) ∙ ap (λ qs. gathered g (flat_map (λ p. p) qs)) (sym split) ∙ is

pub total_passes : (e : BoundFault) (f : List (ℕ × List Bound)) (all ps : List Form) (g r : Form) → all ≡ coded_form f ∷ ps → gathered g (flat_map (λ p. p) all) ≡ r → Passes e (gathered g (coded_form f)) → Passes e r
total_passes e f all ps g r split is passed = subst (Passes e) (total_goes f all ps g (gathered g (coded_form f)) r split is refl) (passes_on e (flat_map (λ p. p) ps) (gathered g (coded_form f)) passed)
