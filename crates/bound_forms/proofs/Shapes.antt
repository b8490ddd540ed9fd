-- What holds of each form that is made, whatever its size: it is in order, its coefficients are positive, its atoms are in
-- order, and so on down through the operands of its maxima, which are flat and needed.
use Rattle.std.proofs.Common.{ℕ, zero, suc, ◌≡◌, ◌*◌, ◌^◌, ◌<◌, ◌≤◌, ◌==◌, Bool, true, false, List, [], ◌∷◌, length, get_or, map, refl, sym, ◌∙◌, ap, subst, arith}
use Rattle.std.specs.Prelude.{All, ℤ, if◌then◌else◌}
use Rattle.std.specs.List.{flat_map}
use Rattle.std.proofs.lemmas.List.Elements.{All-nil, All-cons, All-head, All-tail, All-append, All-weaker}
use Rattle.bound_terms.specs.Terms.{Floored, Term, Number, Floor, Total, Product, Greatest, Power, Geometric, Terms, none, more, terms}
use Rattle.bound_terms.specs.Values.{geo}
use Rattle.bound_forms.specs.Monomials.{Monomial, Form, monomial_term, form_term, constant, one_atom, total_form, form_product, product_from, product_form}
use Rattle.bound_forms.specs.Lowest.{trimmed, lowest, by_sizes, fixed_value, floor_form, power_form, geometric_form}
use Rattle.bound_forms.specs.Maxima.{listed, monomial_of, form_of, operands_by, operands_of, pruned, greatest_form}
use Rattle.bound_forms.specs.Forms.{form, forms}
use Rattle.bound_forms.specs.Normal.{Rising, NotFalling, IsFlat}
use Rattle.bound_forms.proofs.Rising.{sums_rise, products_rise, atoms_stay_in_order}
use Rattle.bound_forms.proofs.Combining.{IsClosed, all_total, all_product, all_products, EachAtom, atoms_closed}
use Rattle.bound_forms.proofs.Pruning.{all_pruned, kept_needed}

-- ---- terms and forms
pub listed_terms : (ts : List Term) → listed (terms ts) ≡ ts
listed_terms [] = refl
listed_terms (t ∷ ts) = ap (λ us. t ∷ us) (listed_terms ts)

monomial_back : (m : Monomial) → monomial_of (monomial_term m) ≡ m
monomial_back m = ap (λ (xs : List Term). let n : Monomial = record { coefficient = m.coefficient; atoms = xs } in n) (listed_terms m.atoms)

monomials_back : (p : Form) → map monomial_of (map monomial_term p) ≡ p
monomials_back [] = refl
monomials_back (m ∷ p) = ap (λ n. n ∷ map monomial_of (map monomial_term p)) (monomial_back m) ∙ ap (λ q. m ∷ q) (monomials_back p)

-- the form that a form's term is
pub form_back : (p : Form) → form_of (form_term p) ≡ p
form_back p = ap (map monomial_of) (listed_terms (map monomial_term p)) ∙ monomials_back p

all_back : (ps : List Form) → map form_of (map form_term ps) ≡ ps
all_back [] = refl
all_back (p ∷ ps) = ap (λ q. q ∷ map form_of (map form_term ps)) (form_back p) ∙ ap (λ qs. p ∷ qs) (all_back ps)

pub forms_back : (ps : List Form) → map form_of (listed (terms (map form_term ps))) ≡ ps
forms_back ps = ap (map form_of) (listed_terms (map form_term ps)) ∙ all_back ps

-- ---- shapes
pub record IsScaled (m : Monomial) : Type 0 where
  pub positive : 1 ≤ m.coefficient
  pub in_order : NotFalling m.atoms

mutual
  -- L is what holds of atoms that aren't maxima
  pub data IsShaped (L : Term → Type 0) : Form → Type 0 where
    shaped : {p : Form} → Rising p → All IsScaled p → ((k : ℕ) (d : Monomial) → k < length p → (j : ℕ) (a : Term) → j < length (get_or p k d).atoms → IsShapedAtom L (get_or (get_or p k d).atoms j a)) → IsShaped L p

  pub data IsShapedAtom (L : Term → Type 0) : Term → Type 0 where
    leaf : {a : Term} → L a → IsShapedAtom L a
    maximum : {ps : List Form} → ((k : ℕ) (p : Form) → k < length ps → IsShaped L (get_or ps k p)) → IsFlat ps → IsShapedAtom L (Greatest (terms (map form_term ps)))

pub rises : (L : Term → Type 0) (p : Form) → IsShaped L p → Rising p
rises L p (shaped r s a) = r

pub scales : (L : Term → Type 0) (p : Form) → IsShaped L p → All IsScaled p
scales L p (shaped r s a) = s

pub holds : (L : Term → Type 0) (p : Form) → IsShaped L p → All (EachAtom (IsShapedAtom L)) p
holds L p (shaped r s a) = a

product_positive : (a b : ℕ) → 1 ≤ a → 1 ≤ b → 1 ≤ a * b
product_positive a b h k = grind arith

scaled_closed : IsClosed IsScaled
scaled_closed = record {
  add = λ m n h g. record { positive = omega (arith, h.positive); in_order = h.in_order };
  times = λ m n h g. record { positive = product_positive m.coefficient n.coefficient h.positive g.positive; in_order = atoms_stay_in_order m.atoms n.atoms h.in_order };
}

-- ---- leaves
pub shaped_number : (L : Term → Type 0) (n : ℕ) → IsShaped L (constant n)
shaped_number L zero = shaped tt (All-nil IsScaled) (All-nil (EachAtom (IsShapedAtom L)))
shaped_number L (suc n) =
    let m : Monomial = record { coefficient = suc n; atoms = [] } in
    shaped tt (All-cons IsScaled m [] (record { positive = omega arith; in_order = tt }) (All-nil IsScaled))
    (All-cons (EachAtom (IsShapedAtom L)) m [] (All-nil (IsShapedAtom L)) (All-nil (EachAtom (IsShapedAtom L))))

pub shaped_atom : (L : Term → Type 0) (a : Term) → IsShapedAtom L a → IsShaped L (one_atom a)
shaped_atom L a h =
    let m : Monomial = record { coefficient = 1; atoms = a ∷ [] } in
    shaped tt (All-cons IsScaled m [] (record { positive = omega arith; in_order = tt }) (All-nil IsScaled))
    (All-cons (EachAtom (IsShapedAtom L)) m [] (All-cons (IsShapedAtom L) a [] h (All-nil (IsShapedAtom L))) (All-nil (EachAtom (IsShapedAtom L))))

shaped_by : (L : Term → Type 0) (cs : List ℤ) (p q : Form) → IsShaped L p → (0 < length cs → IsShaped L q) → IsShaped L (by_sizes cs p q)
shaped_by L [] p q h g = h
shaped_by L (c ∷ cs) p q h g = g (omega arith)

-- where H holds of expressions, powers and sums of powers, L holds of their atoms
pub record AreLeaves (H L : Term → Type 0) : Type 0 where
  pub floor : (n : Floored) → H (Floor n) → 0 < length (trimmed n.expression.coefficients) → L (Floor (lowest n))
  pub power : (b : ℕ) (n : Floored) → H (Power b n) → (b == 1) ≡ false → 0 < length (trimmed n.expression.coefficients) → L (Power b (lowest n))
  pub geometric : (b : ℕ) (n : Floored) → H (Geometric b n) → (b == 1) ≡ false → 0 < length (trimmed n.expression.coefficients) → L (Geometric b (lowest n))
  pub exponent : (b : ℕ) (n : Floored) → H (Geometric b n) → H (Floor n)
  pub no_maximum : (ts : Terms) → ¬ (L (Greatest ts))

shaped_floor : (H L : Term → Type 0) → AreLeaves H L → (n : Floored) → H (Floor n) → IsShaped L (floor_form n)
shaped_floor H L k n h =
    shaped_by L (trimmed n.expression.coefficients) (constant (fixed_value n)) (one_atom (Floor (lowest n))) (shaped_number L (fixed_value n)) (λ g. shaped_atom L (Floor (lowest n)) (leaf (k.floor n h g)))

based : (L : Term → Type 0) (b : Bool) (p q : Form) → IsShaped L p → (b ≡ false → IsShaped L q) → IsShaped L (if b then p else q)
based L true p q h g = h
based L false p q h g = g refl

shaped_power : (H L : Term → Type 0) → AreLeaves H L → (b : ℕ) (n : Floored) → H (Power b n) → IsShaped L (power_form b n)
shaped_power H L k b n h =
    let number = constant (b ^ fixed_value n) in
    let atom = one_atom (Power b (lowest n)) in
    based L (b == 1) (constant 1) (by_sizes (trimmed n.expression.coefficients) number atom) (shaped_number L 1)
    (λ e. shaped_by L (trimmed n.expression.coefficients) number atom (shaped_number L (b ^ fixed_value n)) (λ g. shaped_atom L (Power b (lowest n)) (leaf (k.power b n h e g))))

shaped_geometric : (H L : Term → Type 0) → AreLeaves H L → (b : ℕ) (n : Floored) → H (Geometric b n) → IsShaped L (geometric_form b n)
shaped_geometric H L k b n h =
    let number = constant (geo b (fixed_value n)) in
    let atom = one_atom (Geometric b (lowest n)) in
    based L (b == 1) (floor_form n) (by_sizes (trimmed n.expression.coefficients) number atom) (shaped_floor H L k n (k.exponent b n h))
    (λ e. shaped_by L (trimmed n.expression.coefficients) number atom (shaped_number L (geo b (fixed_value n))) (λ g. shaped_atom L (Geometric b (lowest n)) (leaf (k.geometric b n h e g))))

-- ---- sums and products
pub shaped_total : (L : Term → Type 0) (ps : List Form) → All (IsShaped L) ps → IsShaped L (total_form ps)
shaped_total L ps h =
    shaped (sums_rise ps) (all_total IsScaled scaled_closed ps (All-weaker (IsShaped L) (All IsScaled) (scales L) ps h))
    (all_total (EachAtom (IsShapedAtom L)) (atoms_closed (IsShapedAtom L)) ps (All-weaker (IsShaped L) (All (EachAtom (IsShapedAtom L))) (holds L) ps h))

pub shaped_times : (L : Term → Type 0) (p q : Form) → IsShaped L p → IsShaped L q → IsShaped L (form_product p q)
shaped_times L p q h g =
    shaped (products_rise p q) (all_product IsScaled scaled_closed p q (scales L p h) (scales L q g))
    (all_product (EachAtom (IsShapedAtom L)) (atoms_closed (IsShapedAtom L)) p q (holds L p h) (holds L q g))

products_in_order : (p : Form) (qs : List Form) → Rising p → Rising (product_from p qs)
products_in_order p [] r = r
products_in_order p (q ∷ qs) r = products_in_order (form_product p q) qs (products_rise p q)

pub shaped_product : (L : Term → Type 0) (ps : List Form) → All (IsShaped L) ps → IsShaped L (product_form ps)
shaped_product L ps h =
    let one : IsShaped L (constant 1) = shaped_number L 1 in
    shaped (products_in_order (constant 1) ps (rises L (constant 1) one))
    (all_products IsScaled scaled_closed (constant 1) ps (scales L (constant 1) one) (All-weaker (IsShaped L) (All IsScaled) (scales L) ps h))
    (all_products (EachAtom (IsShapedAtom L)) (atoms_closed (IsShapedAtom L)) (constant 1) ps (holds L (constant 1) one) (All-weaker (IsShaped L) (All (EachAtom (IsShapedAtom L))) (holds L) ps h))

-- ---- maxima
abbrev pub OfMaximum : (Term → Type 0) → Term → Type 0
OfMaximum L (Greatest ts) = All (IsShaped L) (map form_of (listed ts)) × IsFlat (map form_of (listed ts))
OfMaximum L t = Unit {0}

of_leaf : (L : Term → Type 0) → ((ts : Terms) → ¬ (L (Greatest ts))) → (a : Term) → L a → OfMaximum L a
of_leaf L isnt (Number n) l = tt
of_leaf L isnt (Floor n) l = tt
of_leaf L isnt (Total ts) l = tt
of_leaf L isnt (Product ts) l = tt
of_leaf L isnt (Greatest ts) l = absurd (isnt ts l)
of_leaf L isnt (Power b n) l = tt
of_leaf L isnt (Geometric b n) l = tt

pub of_maximum : (L : Term → Type 0) → ((ts : Terms) → ¬ (L (Greatest ts))) → (a : Term) → IsShapedAtom L a → OfMaximum L a
of_maximum L isnt a (leaf l) = of_leaf L isnt a l
of_maximum L isnt a (maximum {ps = ps} h f) = (subst (All (IsShaped L)) (sym (forms_back ps)) h, subst IsFlat (sym (forms_back ps)) f)

abbrev pub StaysOne : Form → Type 0
StaysOne p = operands_of p ≡ p ∷ []

abbrev pub AreOperands : (Term → Type 0) → List Form → Type 0
AreOperands L ps = All (IsShaped L) ps × All StaysOne ps

itself : (L : Term → Type 0) (p : Form) → IsShaped L p → StaysOne p → AreOperands L (p ∷ [])
itself L p h e = (All-cons (IsShaped L) p [] h (All-nil (IsShaped L)), All-cons StaysOne p [] e (All-nil StaysOne))

-- two atoms are no maximum alone
pub two_stay : (a b : Term) (rest : List Term) (p : Form) → operands_by true (a ∷ b ∷ rest) p ≡ p ∷ []
two_stay (Number n) b rest p = refl
two_stay (Floor n) b rest p = refl
two_stay (Total ts) b rest p = refl
two_stay (Product ts) b rest p = refl
two_stay (Greatest ts) b rest p = refl
two_stay (Power c n) b rest p = refl
two_stay (Geometric c n) b rest p = refl

operands_shaped_by : (L : Term → Type 0) → ((ts : Terms) → ¬ (L (Greatest ts))) → (b : Bool) (atoms : List Term) (p : Form) → IsShaped L p → All (IsShapedAtom L) atoms → operands_of p ≡ operands_by b atoms p → AreOperands L (operands_by b atoms p)
operands_shaped_by L isnt false atoms p h g e = itself L p h e
operands_shaped_by L isnt true [] p h g e = itself L p h e
operands_shaped_by L isnt true (Number n ∷ []) p h g e = itself L p h e
operands_shaped_by L isnt true (Floor n ∷ []) p h g e = itself L p h e
operands_shaped_by L isnt true (Total ts ∷ []) p h g e = itself L p h e
operands_shaped_by L isnt true (Product ts ∷ []) p h g e = itself L p h e
operands_shaped_by L isnt true (Greatest ts ∷ []) p h g e =
    let facts = of_maximum L isnt (Greatest ts) (All-head (IsShapedAtom L) (Greatest ts) [] g) in (facts.0, facts.1.flat)
operands_shaped_by L isnt true (Power b n ∷ []) p h g e = itself L p h e
operands_shaped_by L isnt true (Geometric b n ∷ []) p h g e = itself L p h e
operands_shaped_by L isnt true (a ∷ b ∷ rest) p h g e = subst (AreOperands L) (sym (two_stay a b rest p)) (itself L p h (e ∙ two_stay a b rest p))

pub operands_shaped : (L : Term → Type 0) → ((ts : Terms) → ¬ (L (Greatest ts))) → (p : Form) → IsShaped L p → AreOperands L (operands_of p)
operands_shaped L isnt [] h = itself L [] h refl
operands_shaped L isnt (m ∷ []) h =
    operands_shaped_by L isnt (m.coefficient == 1) m.atoms (m ∷ []) h (All-head (EachAtom (IsShapedAtom L)) m [] (holds L (m ∷ []) h)) refl
operands_shaped L isnt (m ∷ n ∷ p) h = itself L (m ∷ n ∷ p) h refl

pub all_operands_shaped : (L : Term → Type 0) → ((ts : Terms) → ¬ (L (Greatest ts))) → (ps : List Form) → All (IsShaped L) ps → AreOperands L (flat_map operands_of ps)
all_operands_shaped L isnt [] h = (All-nil (IsShaped L), All-nil StaysOne)
all_operands_shaped L isnt (p ∷ ps) h =
    let here = operands_shaped L isnt p (All-head (IsShaped L) p ps h) in
    let rest = all_operands_shaped L isnt ps (All-tail (IsShaped L) p ps h) in
    (All-append (IsShaped L) (operands_of p) (flat_map operands_of ps) here.0 rest.0, All-append StaysOne (operands_of p) (flat_map operands_of ps) here.1 rest.1)

shaped_kept : (L : Term → Type 0) (ops kept : List Form) → kept ≡ pruned [] ops → AreOperands L kept → IsShaped L (greatest_form kept)
shaped_kept L ops [] is h = shaped_number L 0
shaped_kept L ops (p ∷ []) is h = All-head (IsShaped L) p [] h.0
shaped_kept L ops (p ∷ q ∷ ps) is h =
    let kept = p ∷ q ∷ ps in
    shaped_atom L (Greatest (terms (map form_term kept)))
    (maximum {ps = kept} h.0 (record { several = omega arith; flat = h.1; needed = λ before behind r split. kept_needed ops kept before behind r is split }))

pub shaped_greatest : (L : Term → Type 0) (ops : List Form) → AreOperands L ops → IsShaped L (greatest_form (pruned [] ops))
shaped_greatest L ops h = shaped_kept L ops (pruned [] ops) refl (all_pruned (IsShaped L) [] ops h.0, all_pruned StaysOne [] ops h.1)

-- ---- whole terms
abbrev mutual
  -- H holds of each expression, power and sum of powers
  pub Each : (Term → Type 0) → Term → Type 0
  Each H (Number n) = Unit {0}
  Each H (Floor n) = H (Floor n)
  Each H (Total ts) = EachOf H ts
  Each H (Product ts) = EachOf H ts
  Each H (Greatest ts) = EachOf H ts
  Each H (Power b n) = H (Power b n)
  Each H (Geometric b n) = H (Geometric b n)

  pub EachOf : (Term → Type 0) → Terms → Type 0
  EachOf H none = Unit {0}
  EachOf H (more t ts) = Each H t × EachOf H ts

mutual
  pub form_shaped : (H L : Term → Type 0) → AreLeaves H L → (t : Term) → Each H t → IsShaped L (form t)
  form_shaped H L k (Number n) h = shaped_number L n
  form_shaped H L k (Floor n) h = shaped_floor H L k n h
  form_shaped H L k (Total ts) h = shaped_total L (forms ts) (forms_shaped H L k ts h)
  form_shaped H L k (Product ts) h = shaped_product L (forms ts) (forms_shaped H L k ts h)
  form_shaped H L k (Greatest ts) h = shaped_greatest L (flat_map operands_of (forms ts)) (all_operands_shaped L k.no_maximum (forms ts) (forms_shaped H L k ts h))
  form_shaped H L k (Power b n) h = shaped_power H L k b n h
  form_shaped H L k (Geometric b n) h = shaped_geometric H L k b n h

  pub forms_shaped : (H L : Term → Type 0) → AreLeaves H L → (ts : Terms) → EachOf H ts → All (IsShaped L) (forms ts)
  forms_shaped H L k none h = All-nil (IsShaped L)
  forms_shaped H L k (more t ts) h = All-cons (IsShaped L) (form t) (forms ts) (form_shaped H L k t h.0) (forms_shaped H L k ts h.1)

-- ---- without any condition on leaves
abbrev pub AnyLeaf : Term → Type 0
AnyLeaf (Floor n) = Unit {0}
AnyLeaf (Power b n) = Unit {0}
AnyLeaf (Geometric b n) = Unit {0}
AnyLeaf t = ⊥

any_leaves : AreLeaves (λ t. Unit {0}) AnyLeaf
any_leaves = record { floor = λ n h g. tt; power = λ b n h e g. tt; geometric = λ b n h e g. tt; exponent = λ b n h. tt; no_maximum = λ ts h. h }

mutual
  each_any : (t : Term) → Each (λ t. Unit {0}) t
  each_any (Number n) = tt
  each_any (Floor n) = tt
  each_any (Total ts) = each_of_any ts
  each_any (Product ts) = each_of_any ts
  each_any (Greatest ts) = each_of_any ts
  each_any (Power b n) = tt
  each_any (Geometric b n) = tt

  each_of_any : (ts : Terms) → EachOf (λ t. Unit {0}) ts
  each_of_any none = tt
  each_of_any (more t ts) = (each_any t, each_of_any ts)

pub has_shape : (t : Term) → IsShaped AnyLeaf (form t)
has_shape t = form_shaped (λ t. Unit {0}) AnyLeaf any_leaves t (each_any t)

pub have_shapes : (ts : Terms) → All (IsShaped AnyLeaf) (forms ts)
have_shapes ts = forms_shaped (λ t. Unit {0}) AnyLeaf any_leaves ts (each_of_any ts)

pub no_maxima : (ts : Terms) → ¬ (AnyLeaf (Greatest ts))
no_maxima ts h = h
