-- The form of a bound is worth what the bound is.
use Rattle.std.proofs.Common.{ℕ, ◌≡◌, ◌+◌, ◌*◌, ◌≤◌, ◌==◌, Bool, true, false, List, [], ◌∷◌, ◌++◌, get_or, map, refl, sym, ◌∙◌, ap, subst, arith, ⊎_elim}
use Rattle.std.specs.Prelude.{All, ℤ, max, if◌then◌else◌}
use Rattle.std.specs.List.{flat_map, list_all, list_any}
use Rattle.std.proofs.lemmas.Bool.{cases_Bool, and_parts, or_cases, eqb-true, both_ways}
use Rattle.std.proofs.lemmas.List.Elements.{All-nil, All-cons, All-head, All-tail, All-append, All-weaker}
use Rattle.std.proofs.lemmas.List.Folds.{list_any_at}
use Rattle.bound_terms.specs.Terms.{Term, Number, Floor, Total, Product, Greatest, Power, Geometric, Terms, none, more, terms}
use Rattle.bound_terms.specs.Laws.{IsPart, here, behind}
use Rattle.bound_terms.specs.Values.{value_of, total_of, product_of, greatest_of}
use Rattle.bound_forms.specs.Monomials.{Form, form_term, constant, form_product, product_from}
use Rattle.bound_forms.specs.Maxima.{covers, listed, monomial_of, form_of, operands_by, operands_of, is_needless, pruned, greatest_form}
use Rattle.bound_forms.specs.Forms.{form, forms}
use Rattle.bound_forms.specs.Formed.{is_empty}
use Rattle.bound_forms.specs.Needed.{itself, in_total, in_product, in_greatest, NeedsKeep}
use Rattle.bound_forms.specs.Normal.{Rising, IsNormal, AreNormal, AreMonomials, IsProduct, IsScaled, AreAtoms, IsAtom}
use Rattle.bound_forms.proofs.Comparing.{covered, covers_itself, some_covers, kept_covers}
use Rattle.bound_forms.proofs.Combining.{EachAtom, atoms_closed, all_product}
use Rattle.bound_forms.proofs.Emptiness.{total_empty, products_empty, maximum_empty}
use Rattle.bound_forms.proofs.Pruning.{all_pruned}
use Rattle.bound_forms.proofs.Shapes.{IsShaped, IsShapedAtom, leaf, maximum, rises, scales, holds, two_stay, form_back, forms_back, all_operands_shaped, AnyLeaf, has_shape, have_shapes, no_maxima}
use Rattle.bound_normal.specs.Held.{IsHeldTerm, AreHeldTerms}
use Rattle.bound_normal.proofs.Shaping.{forms_are_normal}
use Rattle.bound_normal.proofs.Telling.{EachTerm}
use Rattle.bound_normal.proofs.Floors.{form_value, number_value, floor_form_value, power_form_value, geometric_form_value}
use Rattle.bound_normal.proofs.Amounts.{Good, gathered_value, append_value, products_good, form_product_value, covered_value}

-- ---- the atoms of normal forms
pub listed_atoms : (ts : Terms) → AreAtoms ts → All IsAtom (listed ts)
listed_atoms none h = All-nil IsAtom
listed_atoms (more t ts) h = All-cons IsAtom t (listed ts) h.0 (listed_atoms ts h.1)

scaled_atoms : (ts : Terms) → IsScaled ts → EachAtom IsAtom (monomial_of (Product ts))
scaled_atoms none h = absurd h
scaled_atoms (more (Number c) ts) h = listed_atoms ts h.1
scaled_atoms (more (Floor n) ts) h = absurd h
scaled_atoms (more (Total us) ts) h = absurd h
scaled_atoms (more (Product us) ts) h = absurd h
scaled_atoms (more (Greatest us) ts) h = absurd h
scaled_atoms (more (Power b n) ts) h = absurd h
scaled_atoms (more (Geometric b n) ts) h = absurd h

product_atoms : (t : Term) → IsProduct t → EachAtom IsAtom (monomial_of t)
product_atoms (Number c) h = absurd h
product_atoms (Floor n) h = absurd h
product_atoms (Total us) h = absurd h
product_atoms (Product us) h = scaled_atoms us h
product_atoms (Greatest us) h = absurd h
product_atoms (Power b n) h = absurd h
product_atoms (Geometric b n) h = absurd h

monomials_good : (ts : Terms) → AreMonomials ts → Good (map monomial_of (listed ts))
monomials_good none h = All-nil (EachAtom IsAtom)
monomials_good (more t ts) h = All-cons (EachAtom IsAtom) (monomial_of t) (map monomial_of (listed ts)) (product_atoms t h.0) (monomials_good ts h.1)

form_good : (t : Term) → IsNormal t → Good (form_of t)
form_good (Number c) h = absurd h
form_good (Floor n) h = absurd h
form_good (Total us) h = monomials_good us h.0
form_good (Product us) h = absurd h
form_good (Greatest us) h = absurd h
form_good (Power b n) h = absurd h
form_good (Geometric b n) h = absurd h

forms_good : (ts : Terms) → AreNormal ts → All Good (map form_of (listed ts))
forms_good none h = All-nil Good
forms_good (more t ts) h = All-cons Good (form_of t) (map form_of (listed ts)) (form_good t h.0) (forms_good ts h.1)

pub good : (p : Form) → IsNormal (form_term p) → Good p
good p h = subst Good (form_back p) (form_good (form_term p) h)

needed_good : (t : Term) → IsHeldTerm t → NeedsKeep t → Good (form t)
needed_good t held keep = good (form t) (forms_are_normal t held (keep t itself))

-- ---- maxima
abbrev greatest_value : List ℤ → List Form → ℕ
greatest_value sizes ps = greatest_of sizes (terms (map form_term ps))

max_more : (a b c d : ℕ) → b ≡ max c d → max a b ≡ max (max a c) d
max_more a b c d e = omega (arith, e)

append_greatest : (sizes : List ℤ) (ps qs : List Form) → greatest_value sizes (ps ++ qs) ≡ max (greatest_value sizes ps) (greatest_value sizes qs)
append_greatest sizes [] qs = omega arith
append_greatest sizes (p ∷ ps) qs = max_more (form_value sizes p) (greatest_value sizes (ps ++ qs)) (greatest_value sizes ps) (greatest_value sizes qs) (append_greatest sizes ps qs)

one_greatest : (n : ℕ) → n ≡ max n 0
one_greatest n = omega arith

alone_value : (n : ℕ) → 1 * (n * 1) + 0 ≡ n
alone_value n = omega arith

greatest_form_value : (sizes : List ℤ) (kept : List Form) → form_value sizes (greatest_form kept) ≡ greatest_value sizes kept
greatest_form_value sizes [] = refl
greatest_form_value sizes (p ∷ []) = one_greatest (form_value sizes p)
greatest_form_value sizes (p ∷ q ∷ ps) = alone_value (greatest_value sizes (p ∷ q ∷ ps))

kept_by : (sizes : List ℤ) (b : Bool) (p : Form) (rest : List Form) (k : ℕ) → greatest_value sizes rest ≤ k → greatest_value sizes (if b then rest else p ∷ rest) ≤ max (form_value sizes p) k
kept_by sizes true p rest k h = omega (arith, h)
kept_by sizes false p rest k h = omega (arith, h)

pruned_below : (sizes : List ℤ) (before ps : List Form) → greatest_value sizes (pruned before ps) ≤ greatest_value sizes ps
pruned_below sizes before [] = omega arith
pruned_below sizes before (p ∷ ps) = kept_by sizes (is_needless before p ps) p (pruned (before ++ p ∷ []) ps) (greatest_value sizes ps) (pruned_below sizes (before ++ p ∷ []) ps)

-- what is known of each operand
record IsOperand (p : Form) : Type 0 where
  shape : IsShaped AnyLeaf p
  good : Good p

some_above : (sizes : List ℤ) (p : Form) → IsOperand p → (kept : List Form) → All IsOperand kept → some_covers kept p ≡ true → form_value sizes p ≤ greatest_value sizes kept
some_above sizes p o [] h e = absurd (cc)
some_above sizes p o (q ∷ kept) h e =
    let k = All-head IsOperand q kept h in
    ⊎_elim (λ c. omega (arith, covered_value sizes q p (rises AnyLeaf q k.shape) (rises AnyLeaf p o.shape) k.good o.good (λ i m l. (scales AnyLeaf p o.shape i m l).positive) (covered q p c)))
    (λ c. omega (arith, some_above sizes p o kept (All-tail IsOperand q kept h) c)) (or_cases (covers q p) (some_covers kept p) e)

all_below : (sizes : List ℤ) (ps : List Form) (k : ℕ) → All (λ p. form_value sizes p ≤ k) ps → greatest_value sizes ps ≤ k
all_below sizes [] k h = omega arith
all_below sizes (p ∷ ps) k h = omega (arith, All-head (λ p. form_value sizes p ≤ k) p ps h, all_below sizes ps k (All-tail (λ p. form_value sizes p ≤ k) p ps h))

operand_rises : (p : Form) → IsOperand p → Rising p
operand_rises p o = rises AnyLeaf p o.shape

itself_covers : (ops : List Form) → All IsOperand ops → All (λ p. some_covers ops p ≡ true) ops
itself_covers ops h i p l =
    let q = get_or ops i p in
    list_any_at (λ r. covers r q) ops i p l (covers_itself q (operand_rises q (h i p l)))

none_covers : (p : Form) → some_covers [] p ≡ true → ⊥
none_covers p h = absurd (cc)

pruned_value : (sizes : List ℤ) (ops : List Form) → All IsOperand ops → greatest_value sizes (pruned [] ops) ≡ greatest_value sizes ops
pruned_value sizes ops h =
    let kept = pruned [] ops in
    let rise : All Rising ops = All-weaker IsOperand Rising operand_rises ops h in
    let below : All (λ p. form_value sizes p ≤ greatest_value sizes kept) ops = λ i p l.
    let q = get_or ops i p in
    ⊎_elim (λ c. some_above sizes q (h i p l) kept (all_pruned IsOperand [] ops h) c) (λ c. absurd (none_covers q c)) (kept_covers [] ops rise q (rise i p l) (itself_covers ops h i p l)) in
    omega (arith, pruned_below sizes [] ops, all_below sizes ops (greatest_value sizes kept) below)

-- ---- what a form stands for in a maximum
one_operand : (sizes : List ℤ) (p : Form) → greatest_value sizes (p ∷ []) ≡ form_value sizes p
one_operand sizes p = sym (one_greatest (form_value sizes p))

abbrev OfMaximum : List ℤ → Term → Type 0
OfMaximum sizes (Greatest ts) = greatest_value sizes (map form_of (listed ts)) ≡ greatest_of sizes ts
OfMaximum sizes t = Unit {0}

leaf_maximum : (sizes : List ℤ) (a : Term) → AnyLeaf a → OfMaximum sizes a
leaf_maximum sizes (Number n) l = tt
leaf_maximum sizes (Floor n) l = tt
leaf_maximum sizes (Total ts) l = tt
leaf_maximum sizes (Product ts) l = tt
leaf_maximum sizes (Greatest ts) l = absurd l
leaf_maximum sizes (Power b n) l = tt
leaf_maximum sizes (Geometric b n) l = tt

of_maximum : (sizes : List ℤ) (a : Term) → IsShapedAtom AnyLeaf a → OfMaximum sizes a
of_maximum sizes a (leaf l) = leaf_maximum sizes a l
of_maximum sizes a (maximum {ps = ps} h f) = ap (greatest_value sizes) (forms_back ps)

maximum_alone : (c v w : ℕ) → c ≡ 1 → v ≡ w → v ≡ c * (w * 1) + 0
maximum_alone c v w e f = subst (λ d. v ≡ d * (w * 1) + 0) (sym e) (omega (arith, f))

operands_value_by : (sizes : List ℤ) (b : Bool) (atoms : List Term) (c : ℕ) → (c == 1) ≡ b → All (IsShapedAtom AnyLeaf) atoms
    → greatest_value sizes (operands_by b atoms (record { coefficient = c; atoms = atoms } ∷ [])) ≡ form_value sizes (record { coefficient = c; atoms = atoms } ∷ [])
operands_value_by sizes false atoms c e h = one_operand sizes (record { coefficient = c; atoms = atoms } ∷ [])
operands_value_by sizes true [] c e h = one_operand sizes (record { coefficient = c; atoms = [] } ∷ [])
operands_value_by sizes true (Number n ∷ []) c e h = one_operand sizes (record { coefficient = c; atoms = Number n ∷ [] } ∷ [])
operands_value_by sizes true (Floor n ∷ []) c e h = one_operand sizes (record { coefficient = c; atoms = Floor n ∷ [] } ∷ [])
operands_value_by sizes true (Total ts ∷ []) c e h = one_operand sizes (record { coefficient = c; atoms = Total ts ∷ [] } ∷ [])
operands_value_by sizes true (Product ts ∷ []) c e h = one_operand sizes (record { coefficient = c; atoms = Product ts ∷ [] } ∷ [])
operands_value_by sizes true (Greatest ts ∷ []) c e h =
    maximum_alone c (greatest_value sizes (map form_of (listed ts))) (greatest_of sizes ts) (eqb-true c 1 e) (of_maximum sizes (Greatest ts) (All-head (IsShapedAtom AnyLeaf) (Greatest ts) [] h))
operands_value_by sizes true (Power d n ∷ []) c e h = one_operand sizes (record { coefficient = c; atoms = Power d n ∷ [] } ∷ [])
operands_value_by sizes true (Geometric d n ∷ []) c e h = one_operand sizes (record { coefficient = c; atoms = Geometric d n ∷ [] } ∷ [])
operands_value_by sizes true (a ∷ b ∷ rest) c e h =
    let p : Form = record { coefficient = c; atoms = a ∷ b ∷ rest } ∷ [] in
    ap (greatest_value sizes) (two_stay a b rest p) ∙ one_operand sizes p

operands_value : (sizes : List ℤ) (p : Form) → IsShaped AnyLeaf p → greatest_value sizes (operands_of p) ≡ form_value sizes p
operands_value sizes [] h = refl
operands_value sizes (m ∷ []) h = operands_value_by sizes (m.coefficient == 1) m.atoms m.coefficient refl (All-head (EachAtom (IsShapedAtom AnyLeaf)) m [] (holds AnyLeaf (m ∷ []) h))
operands_value sizes (m ∷ n ∷ p) h = one_operand sizes (m ∷ n ∷ p)

one_good : (p : Form) → Good p → All Good (p ∷ [])
one_good p h = All-cons Good p [] h (All-nil Good)

operands_good_by : (b : Bool) (atoms : List Term) (p : Form) → Good p → All IsAtom atoms → All Good (operands_by b atoms p)
operands_good_by false atoms p h g = one_good p h
operands_good_by true [] p h g = one_good p h
operands_good_by true (Number n ∷ []) p h g = one_good p h
operands_good_by true (Floor n ∷ []) p h g = one_good p h
operands_good_by true (Total ts ∷ []) p h g = one_good p h
operands_good_by true (Product ts ∷ []) p h g = one_good p h
operands_good_by true (Greatest ts ∷ []) p h g = forms_good ts (All-head IsAtom (Greatest ts) [] g).0
operands_good_by true (Power d n ∷ []) p h g = one_good p h
operands_good_by true (Geometric d n ∷ []) p h g = one_good p h
operands_good_by true (a ∷ b ∷ rest) p h g = subst (All Good) (sym (two_stay a b rest p)) (one_good p h)

operands_good : (p : Form) → Good p → All Good (operands_of p)
operands_good [] h = one_good [] h
operands_good (m ∷ []) h = operands_good_by (m.coefficient == 1) m.atoms (m ∷ []) h (All-head (EachAtom IsAtom) m [] h)
operands_good (m ∷ n ∷ p) h = one_good (m ∷ n ∷ p) h

-- ---- whole terms
abbrev PartsKeep : Terms → Type 0
PartsKeep ts = (u : Term) → IsPart u ts → NeedsKeep u

record IsKept (sizes : List ℤ) (t : Term) : Type 0 where
  empty : IsHeldTerm t → is_empty (form t) ≡ true → value_of sizes t ≡ 0
  whole : IsHeldTerm t → NeedsKeep t → form_value sizes (form t) ≡ value_of sizes t

empty_value : (sizes : List ℤ) (p : Form) → is_empty p ≡ true → form_value sizes p ≡ 0
empty_value sizes [] e = refl
empty_value sizes (m ∷ p) e = absurd (cc)

kept_leaf : (sizes : List ℤ) (t : Term) → (IsHeldTerm t → form_value sizes (form t) ≡ value_of sizes t) → IsKept sizes t
kept_leaf sizes t h = record { empty = λ held e. sym (h held) ∙ empty_value sizes (form t) e; whole = λ held keep. h held }

head_keeps : (t : Term) (ts : Terms) → PartsKeep (more t ts) → NeedsKeep t
head_keeps t ts k = k t here

tail_keeps : (t : Term) (ts : Terms) → PartsKeep (more t ts) → PartsKeep ts
tail_keeps t ts k u p = k u (behind p)

-- sums
two_zeros : (a b : ℕ) → a ≡ 0 → b ≡ 0 → a + b ≡ 0
two_zeros a b e f = omega (arith, e, f)

total_zero : (sizes : List ℤ) (ts : Terms) → EachTerm (IsKept sizes) ts → AreHeldTerms ts → list_all is_empty (forms ts) ≡ true → total_of sizes ts ≡ 0
total_zero sizes none h held e = refl
total_zero sizes (more t ts) h held e =
    let w = and_parts (is_empty (form t)) (list_all is_empty (forms ts)) e in
    two_zeros (value_of sizes t) (total_of sizes ts) (h.0.empty held.0 w.0) (total_zero sizes ts h.1 held.1 w.1)

flat_good : (ts : Terms) → AreHeldTerms ts → PartsKeep ts → Good (flat_map (λ p. p) (forms ts))
flat_good none held k = All-nil (EachAtom IsAtom)
flat_good (more t ts) held k = All-append (EachAtom IsAtom) (form t) (flat_map (λ p. p) (forms ts)) (needed_good t held.0 (head_keeps t ts k)) (flat_good ts held.1 (tail_keeps t ts k))

two_sums : (a b c d e : ℕ) → a ≡ b + c → b ≡ d → c ≡ e → a ≡ d + e
two_sums a b c d e x y z = omega (arith, x, y, z)

flat_value : (sizes : List ℤ) (ts : Terms) → EachTerm (IsKept sizes) ts → AreHeldTerms ts → PartsKeep ts → form_value sizes (flat_map (λ p. p) (forms ts)) ≡ total_of sizes ts
flat_value sizes none h held k = refl
flat_value sizes (more t ts) h held k =
    let rest = flat_map (λ p. p) (forms ts) in
    two_sums (form_value sizes (form t ++ rest)) (form_value sizes (form t)) (form_value sizes rest) (value_of sizes t) (total_of sizes ts) (append_value sizes (form t) rest)
    (h.0.whole held.0 (head_keeps t ts k)) (flat_value sizes ts h.1 held.1 (tail_keeps t ts k))

nothing_more : (n : ℕ) → 0 + n ≡ n
nothing_more n = omega arith

kept_total : (sizes : List ℤ) (ts : Terms) → EachTerm (IsKept sizes) ts → IsKept sizes (Total ts)
kept_total sizes ts h = record {
  empty = λ held e. total_zero sizes ts h held (sym (total_empty (forms ts)) ∙ e);
  whole = λ held keep.
      let k : PartsKeep ts = λ u p v n. keep v (in_total p n) in
      let ms = flat_map (λ p. p) (forms ts) in
      gathered_value sizes [] ms (All-nil (EachAtom IsAtom)) (flat_good ts held k) ∙ nothing_more (form_value sizes ms) ∙ flat_value sizes ts h held k;
}

-- products
zero_times : (a b : ℕ) → a ≡ 0 → a * b ≡ 0
zero_times a b e = subst (λ c. c * b ≡ 0) (sym e) (omega arith)

times_zero : (a b : ℕ) → b ≡ 0 → a * b ≡ 0
times_zero a b e = subst (λ c. a * c ≡ 0) (sym e) (omega arith)

product_zero : (sizes : List ℤ) (ts : Terms) → EachTerm (IsKept sizes) ts → AreHeldTerms ts → list_any is_empty (forms ts) ≡ true → product_of sizes ts ≡ 0
product_zero sizes none h held e = absurd (cc)
product_zero sizes (more t ts) h held e =
    ⊎_elim (λ w. zero_times (value_of sizes t) (product_of sizes ts) (h.0.empty held.0 w)) (λ w. times_zero (value_of sizes t) (product_of sizes ts) (product_zero sizes ts h.1 held.1 w))
    (or_cases (is_empty (form t)) (list_any is_empty (forms ts)) e)

times_parts : (x p q v w : ℕ) → x ≡ p * q → q ≡ v → x * w ≡ p * (v * w)
times_parts x p q v w e f = subst (λ y. y * w ≡ p * (v * w)) (sym (e ∙ ap (λ z. p * z) f)) (omega arith)

times_one : (n : ℕ) → n ≡ n * 1
times_one n = omega arith

from_value : (sizes : List ℤ) (p : Form) (ts : Terms) → Good p → EachTerm (IsKept sizes) ts → AreHeldTerms ts → PartsKeep ts → form_value sizes (product_from p (forms ts)) ≡ form_value sizes p * product_of sizes ts
from_value sizes p none g h held k = times_one (form_value sizes p)
from_value sizes p (more t ts) g h held k =
    let q = form t in
    let good_q = needed_good t held.0 (head_keeps t ts k) in
    from_value sizes (form_product p q) ts (all_product (EachAtom IsAtom) (atoms_closed IsAtom) p q g good_q) h.1 held.1 (tail_keeps t ts k)
    ∙ times_parts (form_value sizes (form_product p q)) (form_value sizes p) (form_value sizes q) (value_of sizes t) (product_of sizes ts)
    (form_product_value sizes p q (products_good p q g good_q)) (h.0.whole held.0 (head_keeps t ts k))

one_times : (n : ℕ) → 1 * n ≡ n
one_times n = omega arith

one_is_good : Good (constant 1)
one_is_good = All-cons (EachAtom IsAtom) (record { coefficient = 1; atoms = [] }) [] (All-nil IsAtom) (All-nil (EachAtom IsAtom))

not_empty : (p : Form) → is_empty p ≡ false → p ≡ [] → ⊥
not_empty p h e = both_ways (is_empty p) h (ap is_empty e)

kept_product : (sizes : List ℤ) (ts : Terms) → EachTerm (IsKept sizes) ts → IsKept sizes (Product ts)
kept_product sizes ts h = record {
  empty = λ held e. product_zero sizes ts h held (sym (products_empty (forms ts)) ∙ e);
  whole = λ held keep.
      ⊎_elim (λ e. empty_value sizes (form (Product ts)) e ∙ sym (product_zero sizes ts h held (sym (products_empty (forms ts)) ∙ e)))
      (λ e. from_value sizes (constant 1) ts one_is_good h held (λ u p v n. keep v (in_product (not_empty (form (Product ts)) e) p n)) ∙ one_times (product_of sizes ts)) (cases_Bool (is_empty (form (Product ts))));
}

-- maxima
pub terms_listed : (ts : Terms) → terms (listed ts) ≡ ts
terms_listed none = refl
terms_listed (more t ts) = ap (λ us. more t us) (terms_listed ts)

two_maxima : (a b : ℕ) → a ≡ 0 → b ≡ 0 → max a b ≡ 0
two_maxima a b e f = omega (arith, e, f)

greatest_zero : (sizes : List ℤ) (ts : Terms) → EachTerm (IsKept sizes) ts → AreHeldTerms ts → list_all (λ t. is_empty (form t)) (listed ts) ≡ true → greatest_of sizes ts ≡ 0
greatest_zero sizes none h held e = refl
greatest_zero sizes (more t ts) h held e =
    let w = and_parts (is_empty (form t)) (list_all (λ t. is_empty (form t)) (listed ts)) e in
    two_maxima (value_of sizes t) (greatest_of sizes ts) (h.0.empty held.0 w.0) (greatest_zero sizes ts h.1 held.1 w.1)

all_good : (ts : Terms) → AreHeldTerms ts → PartsKeep ts → All Good (flat_map operands_of (forms ts))
all_good none held k = All-nil Good
all_good (more t ts) held k =
    All-append Good (operands_of (form t)) (flat_map operands_of (forms ts)) (operands_good (form t) (needed_good t held.0 (head_keeps t ts k))) (all_good ts held.1 (tail_keeps t ts k))

two_greatest : (a b c d e : ℕ) → a ≡ max b c → b ≡ d → c ≡ e → a ≡ max d e
two_greatest a b c d e x y z = omega (arith, x, y, z)

all_operands_value : (sizes : List ℤ) (ts : Terms) → EachTerm (IsKept sizes) ts → AreHeldTerms ts → PartsKeep ts → greatest_value sizes (flat_map operands_of (forms ts)) ≡ greatest_of sizes ts
all_operands_value sizes none h held k = refl
all_operands_value sizes (more t ts) h held k =
    let ops = operands_of (form t) in
    let rest = flat_map operands_of (forms ts) in
    two_greatest (greatest_value sizes (ops ++ rest)) (greatest_value sizes ops) (greatest_value sizes rest) (value_of sizes t) (greatest_of sizes ts) (append_greatest sizes ops rest)
    (operands_value sizes (form t) (has_shape t) ∙ h.0.whole held.0 (head_keeps t ts k)) (all_operands_value sizes ts h.1 held.1 (tail_keeps t ts k))

kept_greatest : (sizes : List ℤ) (ts : Terms) → EachTerm (IsKept sizes) ts → IsKept sizes (Greatest ts)
kept_greatest sizes ts h = record {
  empty = λ held e. greatest_zero sizes ts h held (sym (maximum_empty (listed ts)) ∙ ap (λ us. is_empty (form (Greatest us))) (terms_listed ts) ∙ e);
  whole = λ held keep.
      let k : PartsKeep ts = λ u p v n. keep v (in_greatest p n) in
      let ops = flat_map operands_of (forms ts) in
      let shaped = (all_operands_shaped AnyLeaf no_maxima (forms ts) (have_shapes ts)).0 in
      let goods = all_good ts held k in
      greatest_form_value sizes (pruned [] ops) ∙ pruned_value sizes ops (λ i p l. record { shape = shaped i p l; good = goods i p l }) ∙ all_operands_value sizes ts h held k;
}

mutual
  kept : (sizes : List ℤ) (t : Term) → IsKept sizes t
  kept sizes (Number n) = kept_leaf sizes (Number n) (λ held. number_value sizes n)
  kept sizes (Floor n) = kept_leaf sizes (Floor n) (λ held. floor_form_value sizes n held)
  kept sizes (Total ts) = kept_total sizes ts (all_kept sizes ts)
  kept sizes (Product ts) = kept_product sizes ts (all_kept sizes ts)
  kept sizes (Greatest ts) = kept_greatest sizes ts (all_kept sizes ts)
  kept sizes (Power b n) = kept_leaf sizes (Power b n) (λ held. power_form_value sizes b n held.1)
  kept sizes (Geometric b n) = kept_leaf sizes (Geometric b n) (λ held. geometric_form_value sizes b n held.1)

  all_kept : (sizes : List ℤ) (ts : Terms) → EachTerm (IsKept sizes) ts
  all_kept sizes none = tt
  all_kept sizes (more t ts) = (kept sizes t, all_kept sizes ts)

pub forms_keep_values : (t : Term) → IsHeldTerm t → NeedsKeep t → (sizes : List ℤ) → value_of sizes (form_term (form t)) ≡ value_of sizes t
forms_keep_values t held keep sizes = (kept sizes t).whole held keep
