-- Which forms keep the limits, and what a form that passes one passes with it.
use Rattle.std.proofs.Common.{suc, ◌≡◌, ◌≤◌, ◌==◌, Bool, true, false, List, [], ◌∷◌, length, map, refl, sym, ap, subst, arith, ⊎_elim}
use Rattle.std.specs.Prelude.{All, nat_le, nat_lt, ◌||◌}
use Rattle.std.specs.List.{list_any, flat_map}
use Rattle.std.proofs.lemmas.Bool.{or_parts, or_from, or_left, or_right, or_cases, le-ltb, lt-ltb, lt-leb, leb-false}
use Rattle.std.proofs.lemmas.List.Elements.{All-nil, All-cons, All-head, All-tail, All-append, All-weaker}
use Rattle.bound_terms.specs.Terms.{Term, Number, Floor, Total, Product, Greatest, Power, Geometric, terms}
use Rattle.bound_forms.specs.declared.fault.BoundFault.{BoundFault}
use Rattle.bound_forms.specs.declared.fault.BoundFault.TheVariants.{Monomials, Coefficient, Memory}
use Rattle.bound_forms.specs.Monomials.{Monomial, Form, monomial_term, form_term, form_product, product_from, one_atom}
use Rattle.bound_forms.specs.Maxima.{listed, form_of, operands_by, operands_of, pruned, greatest_form}
use Rattle.bound_forms.specs.Limits.{most_monomials, past_limit, count, has_many, some_has_many, has_great, some_has_great, Keeps}
use Rattle.bound_forms.specs.Answered.{Passes}
use Rattle.bound_forms.specs.Formed.{is_empty}
use Rattle.bound_forms.specs.inside.Pruning.{IsLow}
use Rattle.bound_forms.proofs.Combining.{EachAtom}
use Rattle.bound_forms.proofs.Shapes.{IsScaled, IsShaped, IsShapedAtom, leaf, maximum, rises, scales, holds, shaped_times, two_stay, forms_back, AnyLeaf}
use Rattle.bound_forms.proofs.Pruning.{all_pruned}
use Rattle.bound_forms.proofs.Amounts.{product_many, product_great}

abbrev pub AtomKeeps : Term → Type 0
AtomKeeps a = (has_many a ≡ false) × (has_great a ≡ false)

-- ---- down
atoms_keep : (as' : List Term) → some_has_many (terms as') ≡ false → some_has_great (terms as') ≡ false → All AtomKeeps as'
atoms_keep [] h g = All-nil AtomKeeps
atoms_keep (a ∷ rest) h g =
    let x = or_parts (has_many a) (some_has_many (terms rest)) h in
    let y = or_parts (has_great a) (some_has_great (terms rest)) g in
    All-cons AtomKeeps a rest (x.0, y.0) (atoms_keep rest x.1 y.1)

monomials_keep : (p : Form) → some_has_many (terms (map monomial_term p)) ≡ false → some_has_great (terms (map monomial_term p)) ≡ false → All (λ m. EachAtom AtomKeeps m × IsLow m) p
monomials_keep [] h g = All-nil (λ m. EachAtom AtomKeeps m × IsLow m)
monomials_keep (m ∷ p) h g =
    let x = or_parts (some_has_many (terms m.atoms)) (some_has_many (terms (map monomial_term p))) h in
    let y = or_parts (nat_le past_limit m.coefficient || some_has_great (terms m.atoms)) (some_has_great (terms (map monomial_term p))) g in
    let z = or_parts (nat_le past_limit m.coefficient) (some_has_great (terms m.atoms)) y.0 in
    All-cons (λ m. EachAtom AtomKeeps m × IsLow m) m p (atoms_keep m.atoms x.0 z.1, leb-false past_limit m.coefficient z.0) (monomials_keep p x.1 y.1)

kept_monomials : (p : Form) → Keeps p → All (λ m. EachAtom AtomKeeps m × IsLow m) p
kept_monomials p k = monomials_keep p (or_parts (nat_lt most_monomials (count (terms (map monomial_term p)))) (some_has_many (terms (map monomial_term p))) k.few).1 k.small

pub keeps_atoms : (p : Form) → Keeps p → All (EachAtom AtomKeeps) p
keeps_atoms p k = All-weaker (λ m. EachAtom AtomKeeps m × IsLow m) (EachAtom AtomKeeps) (λ m h. h.0) p (kept_monomials p k)

pub keeps_low : (p : Form) → Keeps p → All IsLow p
keeps_low p k = All-weaker (λ m. EachAtom AtomKeeps m × IsLow m) IsLow (λ m h. h.1) p (kept_monomials p k)

-- ---- up
pub counts : (p : Form) → count (terms (map monomial_term p)) ≡ length p
counts [] = refl
counts (m ∷ p) = ap suc (counts p)

few_atoms : (as' : List Term) → All AtomKeeps as' → (some_has_many (terms as') ≡ false) × (some_has_great (terms as') ≡ false)
few_atoms [] h = (refl, refl)
few_atoms (a ∷ rest) h =
    let x = All-head AtomKeeps a rest h in
    let y = few_atoms rest (All-tail AtomKeeps a rest h) in
    (or_from (has_many a) (some_has_many (terms rest)) x.0 y.0, or_from (has_great a) (some_has_great (terms rest)) x.1 y.1)

few_monomials : (p : Form) → All (EachAtom AtomKeeps) p → All IsLow p → (some_has_many (terms (map monomial_term p)) ≡ false) × (some_has_great (terms (map monomial_term p)) ≡ false)
few_monomials [] h g = (refl, refl)
few_monomials (m ∷ p) h g =
    let x = few_atoms m.atoms (All-head (EachAtom AtomKeeps) m p h) in
    let y = few_monomials p (All-tail (EachAtom AtomKeeps) m p h) (All-tail IsLow m p g) in
    let z : nat_le past_limit m.coefficient ≡ false = lt-leb past_limit m.coefficient (All-head IsLow m p g) in (
      or_from (some_has_many (terms m.atoms)) (some_has_many (terms (map monomial_term p))) x.0 y.0,
      or_from (nat_le past_limit m.coefficient || some_has_great (terms m.atoms)) (some_has_great (terms (map monomial_term p))) (or_from (nat_le past_limit m.coefficient) (some_has_great (terms m.atoms)) z x.1) y.1,
    )

pub keeps_from : (p : Form) → length p ≤ most_monomials → All IsLow p → All (EachAtom AtomKeeps) p → Keeps p
keeps_from p few low h =
    let x = few_monomials p h low in
    record {
      few = or_from (nat_lt most_monomials (count (terms (map monomial_term p)))) (some_has_many (terms (map monomial_term p))) (le-ltb most_monomials (count (terms (map monomial_term p))) (omega (arith, few, counts p))) x.0;
      small = x.1;
    }

-- ---- operands
abbrev Parts : Term → Type 0
Parts (Greatest ts) = All Keeps (map form_of (listed ts))
Parts t = Unit {0}

pub each_keeps : (ps : List Form) → some_has_many (terms (map form_term ps)) ≡ false → some_has_great (terms (map form_term ps)) ≡ false → All Keeps ps
each_keeps [] h g = All-nil Keeps
each_keeps (p ∷ ps) h g =
    let x = or_parts (has_many (form_term p)) (some_has_many (terms (map form_term ps))) h in
    let y = or_parts (has_great (form_term p)) (some_has_great (terms (map form_term ps))) g in
    All-cons Keeps p ps (record { few = x.0; small = y.0 }) (each_keeps ps x.1 y.1)

leaf_parts : (a : Term) → AnyLeaf a → Parts a
leaf_parts (Number n) l = tt
leaf_parts (Floor n) l = tt
leaf_parts (Total ts) l = tt
leaf_parts (Product ts) l = tt
leaf_parts (Greatest ts) l = absurd l
leaf_parts (Power b n) l = tt
leaf_parts (Geometric b n) l = tt

parts_keep : (a : Term) → IsShapedAtom AnyLeaf a → AtomKeeps a → Parts a
parts_keep a (leaf l) k = leaf_parts a l
parts_keep a (maximum {ps = ps} h f) k = subst (All Keeps) (sym (forms_back ps)) (each_keeps ps k.0 k.1)

one_keeps : (p : Form) → Keeps p → All Keeps (p ∷ [])
one_keeps p k = All-cons Keeps p [] k (All-nil Keeps)

operands_keep_by : (b : Bool) (atoms : List Term) (p : Form) → Keeps p → All (IsShapedAtom AnyLeaf) atoms → All AtomKeeps atoms → All Keeps (operands_by b atoms p)
operands_keep_by false atoms p k h g = one_keeps p k
operands_keep_by true [] p k h g = one_keeps p k
operands_keep_by true (Number n ∷ []) p k h g = one_keeps p k
operands_keep_by true (Floor n ∷ []) p k h g = one_keeps p k
operands_keep_by true (Total ts ∷ []) p k h g = one_keeps p k
operands_keep_by true (Product ts ∷ []) p k h g = one_keeps p k
operands_keep_by true (Greatest ts ∷ []) p k h g = parts_keep (Greatest ts) (All-head (IsShapedAtom AnyLeaf) (Greatest ts) [] h) (All-head AtomKeeps (Greatest ts) [] g)
operands_keep_by true (Power b n ∷ []) p k h g = one_keeps p k
operands_keep_by true (Geometric b n ∷ []) p k h g = one_keeps p k
operands_keep_by true (a ∷ b ∷ rest) p k h g = subst (All Keeps) (sym (two_stay a b rest p)) (one_keeps p k)

pub operands_keep : (p : Form) → IsShaped AnyLeaf p → Keeps p → All Keeps (operands_of p)
operands_keep [] s k = one_keeps [] k
operands_keep (m ∷ []) s k =
    operands_keep_by (m.coefficient == 1) m.atoms (m ∷ []) k (All-head (EachAtom (IsShapedAtom AnyLeaf)) m [] (holds AnyLeaf (m ∷ []) s)) (All-head (EachAtom AtomKeeps) m [] (keeps_atoms (m ∷ []) k))
operands_keep (m ∷ n ∷ p) s k = one_keeps (m ∷ n ∷ p) k

pub all_operands_keep : (ps : List Form) → All (IsShaped AnyLeaf) ps → All Keeps ps → All Keeps (flat_map operands_of ps)
all_operands_keep [] s k = All-nil Keeps
all_operands_keep (p ∷ ps) s k =
    All-append Keeps (operands_of p) (flat_map operands_of ps) (operands_keep p (All-head (IsShaped AnyLeaf) p ps s) (All-head Keeps p ps k)) (all_operands_keep ps (All-tail (IsShaped AnyLeaf) p ps s) (All-tail Keeps p ps k))

some_keep : (ps : List Form) → All Keeps ps → (some_has_many (terms (map form_term ps)) ≡ false) × (some_has_great (terms (map form_term ps)) ≡ false)
some_keep [] h = (refl, refl)
some_keep (p ∷ ps) h =
    let x = All-head Keeps p ps h in
    let y = some_keep ps (All-tail Keeps p ps h) in
    (or_from (has_many (form_term p)) (some_has_many (terms (map form_term ps))) x.few y.0, or_from (has_great (form_term p)) (some_has_great (terms (map form_term ps))) x.small y.1)

pub atom_keeps : (a : Term) → AtomKeeps a → Keeps (one_atom a)
atom_keeps a k =
    keeps_from (one_atom a) (omega arith) (All-cons IsLow (record { coefficient = 1; atoms = a ∷ [] }) [] (omega arith) (All-nil IsLow))
    (All-cons (EachAtom AtomKeeps) (record { coefficient = 1; atoms = a ∷ [] }) [] (All-cons AtomKeeps a [] k (All-nil AtomKeeps)) (All-nil (EachAtom AtomKeeps)))

kept_keeps : (kept : List Form) → All Keeps kept → Keeps (greatest_form kept)
kept_keeps [] k = record { few = refl; small = refl }
kept_keeps (p ∷ []) k = All-head Keeps p [] k
kept_keeps (p ∷ q ∷ ps) k = atom_keeps (Greatest (terms (map form_term (p ∷ q ∷ ps)))) (some_keep (p ∷ q ∷ ps) k)

pub greatest_keeps : (ops : List Form) → All Keeps ops → Keeps (greatest_form (pruned [] ops))
greatest_keeps ops k = kept_keeps (pruned [] ops) (all_pruned Keeps [] ops k)

-- ---- what a factor passes
positives : (p : Form) → All IsScaled p → All (λ (m : Monomial). 1 ≤ m.coefficient) p
positives p s = All-weaker IsScaled (λ (m : Monomial). 1 ≤ m.coefficient) (λ m h. h.positive) p s

pub passes_product : (e : BoundFault) (p q : Form) → IsShaped AnyLeaf p → IsShaped AnyLeaf q → is_empty q ≡ false → Passes e p → Passes e (form_product p q)
passes_product e p [] s g full h = absurd (cc)
passes_product Monomials p (n ∷ q) s g full h =
    omega (arith, h, product_many p n q (rises AnyLeaf p s) (positives p (scales AnyLeaf p s)) (All-head IsScaled n q (scales AnyLeaf (n ∷ q) g)).positive)
passes_product Coefficient p (n ∷ q) s g full h = product_great p n q (All-head IsScaled n q (scales AnyLeaf (n ∷ q) g)).positive h
passes_product Memory p (n ∷ q) s g full h = tt

pub passes_products : (e : BoundFault) (p : Form) (qs : List Form) → IsShaped AnyLeaf p → All (IsShaped AnyLeaf) qs → list_any is_empty qs ≡ false → Passes e p → Passes e (product_from p qs)
passes_products e p [] s g full h = h
passes_products e p (q ∷ qs) s g full h =
    let parts = or_parts (is_empty q) (list_any is_empty qs) full in
    let shape = All-head (IsShaped AnyLeaf) q qs g in
    passes_products e (form_product p q) qs (shaped_times AnyLeaf p q s shape) (All-tail (IsShaped AnyLeaf) q qs g) parts.1 (passes_product e p q s shape parts.0 h)

-- ---- what a form passes, its term has
great_up : (p : Form) → list_any (λ (m : Monomial). nat_le past_limit m.coefficient) p ≡ true → some_has_great (terms (map monomial_term p)) ≡ true
great_up [] h = absurd (cc)
great_up (m ∷ p) h =
    ⊎_elim (λ g. or_left (nat_le past_limit m.coefficient || some_has_great (terms m.atoms)) (some_has_great (terms (map monomial_term p))) (or_left (nat_le past_limit m.coefficient) (some_has_great (terms m.atoms)) g))
    (λ g. or_right (nat_le past_limit m.coefficient || some_has_great (terms m.atoms)) (some_has_great (terms (map monomial_term p))) (great_up p g))
    (or_cases (nat_le past_limit m.coefficient) (list_any (λ (m : Monomial). nat_le past_limit m.coefficient) p) h)

pub passes_many : (p : Form) → Passes Monomials p → has_many (form_term p) ≡ true
passes_many p h = or_left (nat_lt most_monomials (count (terms (map monomial_term p)))) (some_has_many (terms (map monomial_term p))) (lt-ltb most_monomials (count (terms (map monomial_term p))) (omega (arith, h, counts p)))

pub passes_great : (p : Form) → Passes Coefficient p → has_great (form_term p) ≡ true
passes_great p h = great_up p h
