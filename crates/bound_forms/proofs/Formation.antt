-- The forms of sums, products and maxima, part by part.
use Rattle.std.proofs.Common.{ℕ, zero, suc, ◌≡◌, ◌+◌, ◌<◌, ◌≤◌, Bool, true, false, List, [], ◌∷◌, ◌++◌, length, get_or, take, drop, map, refl, sym, ◌∙◌, ap, subst, arith}
use Rattle.std.specs.Prelude.{All, Result, Ok, Err}
use Rattle.std.specs.List.{flat_map, list_any}
use Rattle.std.specs.Global.{Vec}
use Rattle.std.proofs.lemmas.Bool.{or_parts, or_from}
use Rattle.std.proofs.lemmas.List.{drop_more, drop_all, take_more, take_all, map_push, append_assoc, append-nil}
use Rattle.std.proofs.lemmas.List.Elements.{All-nil, All-cons, All-head, All-tail, All-push, All-weaker}
use Rattle.bound_terms.specs.declared.bound.Bound.{Bound}
use Rattle.bound_terms.specs.declared.bound.Bound.TheVariants.{Const, Nat, Sum, Prod, Max, Pow, Geo}
use Rattle.bound_terms.specs.Terms.{Floored, Term, Number, Floor, Total, Product, Greatest, Power, Geometric, Terms, more, terms}
use Rattle.bound_terms.specs.Laws.{IsPart, here, behind}
use Rattle.bound_terms.specs.Bounds.{term_of, terms_of}
use Rattle.bound_forms.specs.declared.fault.BoundFault.{BoundFault}
use Rattle.bound_forms.specs.declared.fault.BoundFault.TheVariants.{Monomials, Coefficient, Memory}
use Rattle.bound_forms.specs.Monomials.{Form, form_term, gathered, total_form, constant, form_product, product_from, product_form}
use Rattle.bound_forms.specs.Maxima.{operands_of, pruned, greatest_form}
use Rattle.bound_forms.specs.Forms.{form, forms}
use Rattle.bound_forms.specs.Normal.{Rising}
use Rattle.bound_forms.specs.Coded.{coded_form}
use Rattle.bound_forms.specs.Limits.{Keeps}
use Rattle.bound_forms.specs.Answered.{IsSmall, Passes, Makes, MakesWhole, coded_forms}
use Rattle.bound_forms.specs.Needed.{Needs, itself, in_total, in_product, in_greatest, NeedsKeep, IsNormalized}
use Rattle.bound_forms.specs.Formed.{IsFormed, is_empty}
use Rattle.bound_forms.specs.inside.Pruning.{IsLow}
use Rattle.bound_forms.specs.Lowest.{floor_form, power_form, geometric_form}
use Rattle.bound_forms.proofs.Fixed.{number_whole}
use Rattle.bound_forms.proofs.Views.{number_term, floor_term, power_term, geometric_term, sum_term, product_term, maximum_term}
use Rattle.bound_forms.proofs.Combining.{EachAtom, atoms_closed, all_total, all_products}
use Rattle.bound_forms.proofs.Shapes.{IsShaped, AnyLeaf, has_shape, have_shapes, shaped_number, shaped_times, all_operands_shaped, no_maxima, rises}
use Rattle.bound_forms.proofs.Emptiness.{factors_empty}
use Rattle.bound_forms.proofs.Passing.{total_goes, total_passes}
use Rattle.bound_forms.proofs.Limiting.{AtomKeeps, keeps_atoms, keeps_low, keeps_from, operands_keep, all_operands_keep, greatest_keeps, passes_products, passes_many, passes_great}

abbrev Made : Type 0
Made = Vec (ℕ × List Bound)

-- ---- faults
pub passes_formed : (e : BoundFault) (t : Term) → Passes e (form t) → IsFormed (Err e) t
passes_formed Monomials t h = (t, itself, passes_many (form t) h)
passes_formed Coefficient t h = (t, itself, passes_great (form t) h)
passes_formed Memory t h = tt

pub lifted : (e : BoundFault) (v t : Term) → ((u : Term) → Needs u v → Needs u t) → IsFormed (Err e) v → IsFormed (Err e) t
lifted Monomials v t f h = (h.0, f h.0 h.1, h.2)
lifted Coefficient v t f h = (h.0, f h.0 h.1, h.2)
lifted Memory v t f h = tt

-- ---- parts
pub part_of : (parts : List Bound) (i : ℕ) (part : Bound) → i < length parts → part ≡ get_or parts i part → IsPart (term_of part) (terms_of parts)
part_of [] i part h is = absurd (omega (arith, h))
part_of (b ∷ bs) zero part h is = subst (λ t. IsPart (term_of part) (more t (terms_of bs))) (ap term_of is) here
part_of (b ∷ bs) (suc i) part h is = behind (part_of bs i part (omega (arith, h)) is)

part_keeps : (ts : List Term) → All NeedsKeep ts → (v : Term) → IsPart v (terms ts) → NeedsKeep v
part_keeps [] h v p = elim p [ ]
part_keeps (t ∷ ts) h v here = All-head NeedsKeep t ts h
part_keeps (t ∷ ts) h v (behind p) = part_keeps ts (All-tail NeedsKeep t ts h) v p

pub keep_more : (parts : List Bound) (i : ℕ) (part : Bound) → i < length parts → part ≡ get_or parts i part → All NeedsKeep (map term_of (take i parts)) → NeedsKeep (term_of part) → All NeedsKeep (map term_of (take (i + 1) parts))
keep_more parts i part h is all this =
    let e : map term_of (take (i + 1) parts) ≡ map term_of (take i parts) ++ term_of part ∷ [] = ap (map term_of) (take_more parts i part h ∙ ap (λ b. take i parts ++ b ∷ []) (sym is)) ∙ map_push term_of (take i parts) part in
    subst (All NeedsKeep) (sym e) (All-push NeedsKeep (map term_of (take i parts)) (term_of part) all this)

pub keep_all : (parts : List Bound) (i : ℕ) → length parts ≤ i → All NeedsKeep (map term_of (take i parts)) → All NeedsKeep (map term_of parts)
keep_all parts i h all = subst (λ bs. All NeedsKeep (map term_of bs)) (take_all i parts h) all

pub forms_of_terms : (ts : List Term) → forms (terms ts) ≡ map form ts
forms_of_terms [] = refl
forms_of_terms (t ∷ ts) = ap (λ ps. form t ∷ ps) (forms_of_terms ts)

forms_keep : (ts : List Term) → All NeedsKeep ts → All Keeps (forms (terms ts))
forms_keep [] h = All-nil Keeps
forms_keep (t ∷ ts) h = All-cons Keeps (form t) (forms (terms ts)) (All-head NeedsKeep t ts h t itself) (forms_keep ts (All-tail NeedsKeep t ts h))

forms_atoms : (ts : List Term) → All NeedsKeep ts → All (All (EachAtom AtomKeeps)) (forms (terms ts))
forms_atoms ts h = All-weaker Keeps (All (EachAtom AtomKeeps)) keeps_atoms (forms (terms ts)) (forms_keep ts h)

-- the forms of the parts from one place on
abbrev pub rest_forms : List Bound → ℕ → List Form
rest_forms parts i = map form (map term_of (drop i parts))

rest_split : (parts : List Bound) (i : ℕ) (part : Bound) → i < length parts → part ≡ get_or parts i part → rest_forms parts i ≡ form (term_of part) ∷ rest_forms parts (i + 1)
rest_split parts i part h is = ap (λ bs. map form (map term_of bs)) (drop_more parts i part h ∙ ap (λ b. b ∷ drop (i + 1) parts) (sym is))

no_rest : (parts : List Bound) (i : ℕ) → length parts ≤ i → rest_forms parts i ≡ []
no_rest parts i h = ap (λ bs. map form (map term_of bs)) (drop_all i parts h)

-- ---- sums
total_needs : (ts : Terms) (u : Term) → Needs u (Total ts) → Keeps (form (Total ts)) → ((v : Term) → IsPart v ts → NeedsKeep v) → Keeps (form u)
total_needs ts u itself k h = k
total_needs ts u (in_total {v = v} p n) k h = h v p u n

abbrev pub TotalGoes : List (ℕ × List Bound) → List Bound → ℕ → Type 0
TotalGoes g parts i = (gathered (coded_form g) (flat_map (λ p. p) (rest_forms parts i)) ≡ form (Total (terms_of parts))) × All NeedsKeep (map term_of (take i parts))

pub total_begins : (parts : List Bound) (g : List (ℕ × List Bound)) → g ≡ [] → TotalGoes g parts 0
total_begins parts g e = (
  ap (λ ms. gathered (coded_form ms) (flat_map (λ p. p) (map form (map term_of parts)))) e ∙ ap total_form (sym (forms_of_terms (map term_of parts))),
  All-nil NeedsKeep,
)

pub total_steps : (parts : List Bound) (i : ℕ) (part : Bound) (f : Made) (g now : List (ℕ × List Bound)) → i < length parts → part ≡ get_or parts i part → IsFormed (Ok f) (term_of part) → coded_form now ≡ gathered (coded_form g) (coded_form f.items)
    → TotalGoes g parts i → TotalGoes now parts (i + 1)
total_steps parts i part f g now h is formed made was = (
  total_goes f.items (rest_forms parts i) (rest_forms parts (i + 1)) (coded_form g) (coded_form now) (form (Total (terms_of parts))) (rest_split parts i part h is ∙ ap (λ p. p ∷ rest_forms parts (i + 1)) (sym formed.0)) was.0 made,
  keep_more parts i part h is was.1 formed.1,
)

pub total_faults : (e : BoundFault) (parts : List Bound) (i : ℕ) (part : Bound) (f : Made) (g : List (ℕ × List Bound)) → i < length parts → part ≡ get_or parts i part → IsFormed (Ok f) (term_of part) → Passes e (gathered (coded_form g) (coded_form f.items))
    → TotalGoes g parts i → IsFormed (Err e) (Total (terms_of parts))
total_faults e parts i part f g h is formed passed was =
    passes_formed e (Total (terms_of parts))
    (total_passes e f.items (rest_forms parts i) (rest_forms parts (i + 1)) (coded_form g) (form (Total (terms_of parts))) (rest_split parts i part h is ∙ ap (λ p. p ∷ rest_forms parts (i + 1)) (sym formed.0)) was.0 passed)

pub total_part_faults : (e : BoundFault) (parts : List Bound) (i : ℕ) (part : Bound) → i < length parts → part ≡ get_or parts i part → IsFormed (Err e) (term_of part) → IsFormed (Err e) (Total (terms_of parts))
total_part_faults e parts i part h is fault = lifted e (term_of part) (Total (terms_of parts)) (λ u n. in_total (part_of parts i part h is) n) fault

pub total_ends : (r : Result Made BoundFault) (parts : List Bound) (i : ℕ) (g : List (ℕ × List Bound)) → length parts ≤ i → TotalGoes g parts i → Makes r (coded_form g) → IsFormed r (Total (terms_of parts))
total_ends (Ok f) parts i g h was made =
    let ts = map term_of parts in
    let all : All NeedsKeep ts = keep_all parts i h was.1 in
    let whole : coded_form g ≡ form (Total (terms ts)) = sym (ap (λ ps. gathered (coded_form g) (flat_map (λ p. p) ps)) (no_rest parts i h)) ∙ was.0 in
    let small : IsSmall (form (Total (terms ts))) = subst IsSmall whole made.1 in
    let keeps : Keeps (form (Total (terms ts))) = keeps_from (form (Total (terms ts))) small.few small.small (all_total (EachAtom AtomKeeps) (atoms_closed AtomKeeps) (forms (terms ts)) (forms_atoms ts all)) in
    (made.0 ∙ whole, λ u n. total_needs (terms ts) u n keeps (part_keeps ts all))
total_ends (Err e) parts i g h was made =
    passes_formed e (Total (terms_of parts)) (subst (Passes e) (sym (ap (λ ps. gathered (coded_form g) (flat_map (λ p. p) ps)) (no_rest parts i h)) ∙ was.0) made)

-- ---- products
product_needs : (ts : Terms) (u : Term) → Needs u (Product ts) → Keeps (form (Product ts)) → ((v : Term) → IsPart v ts → NeedsKeep v) → Keeps (form u)
product_needs ts u itself k h = k
product_needs ts u (in_product {v = v} f p n) k h = h v p u n

zero_needs : (ts : Terms) (u : Term) → form (Product ts) ≡ [] → Needs u (Product ts) → Keeps (form u)
zero_needs ts u e itself = subst Keeps (sym e) (record { few = refl; small = refl })
zero_needs ts u e (in_product f p n) = absurd (f e)

is_nil : (p : Form) → is_empty p ≡ true → p ≡ []
is_nil [] h = refl
is_nil (m ∷ p) h = absurd (cc)

-- where a factor is 0
pub zero_formed : (parts : List Bound) (f : Made) → list_any (λ t. is_empty (form t)) (map term_of parts) ≡ true → f.items ≡ [] → IsFormed (Ok f) (Product (terms_of parts))
zero_formed parts f some e =
    let none : form (Product (terms_of parts)) ≡ [] = is_nil (form (Product (terms_of parts))) (factors_empty (map term_of parts) ∙ some) in
    (ap coded_form e ∙ sym none, λ u n. zero_needs (terms_of parts) u none n)

abbrev pub AllFull : List Bound → Type 0
AllFull parts = list_any (λ t. is_empty (form t)) (map term_of parts) ≡ false

full_whole : (parts : List Bound) → AllFull parts → ¬ (form (Product (terms_of parts)) ≡ [])
full_whole parts full e = absurd (clash (is_empty (form (Product (terms_of parts)))) (ap is_empty e) (factors_empty (map term_of parts) ∙ full))
  where
    clash : (b : Bool) → b ≡ true → b ≡ false → ⊥
    clash b g h = absurd (cc)

rest_full : (parts : List Bound) (i : ℕ) → AllFull parts → list_any is_empty (rest_forms parts i) ≡ false
rest_full [] zero full = refl
rest_full [] (suc i) full = refl
rest_full (b ∷ bs) zero full =
    let x = or_parts (is_empty (form (term_of b))) (list_any (λ t. is_empty (form t)) (map term_of bs)) full in
    or_from (is_empty (form (term_of b))) (list_any is_empty (map form (map term_of bs))) x.0 (rest_full bs zero x.1)
rest_full (b ∷ bs) (suc i) full = rest_full bs i (or_parts (is_empty (form (term_of b))) (list_any (λ t. is_empty (form t)) (map term_of bs)) full).1

map_shapes : (ts : List Term) → All (IsShaped AnyLeaf) (map form ts)
map_shapes [] = All-nil (IsShaped AnyLeaf)
map_shapes (t ∷ ts) = All-cons (IsShaped AnyLeaf) (form t) (map form ts) (has_shape t) (map_shapes ts)

pub record ProductGoes (p : List (ℕ × List Bound)) (parts : List Bound) (i : ℕ) : Type 0 where
  pub product : product_from (coded_form p) (rest_forms parts i) ≡ form (Product (terms_of parts))
  pub keep : All NeedsKeep (map term_of (take i parts))
  pub small : IsSmall (coded_form p)
  pub shape : IsShaped AnyLeaf (coded_form p)

pub product_begins : (parts : List Bound) (p : List (ℕ × List Bound)) → coded_form p ≡ constant 1 → IsSmall (constant 1) → ProductGoes p parts 0
product_begins parts p e small = record {
  product = ap (λ q. product_from q (map form (map term_of parts))) e ∙ ap product_form (sym (forms_of_terms (map term_of parts)));
  keep = All-nil NeedsKeep;
  small = subst IsSmall (sym e) small;
  shape = subst (IsShaped AnyLeaf) (sym e) (shaped_number AnyLeaf 1);
}

-- the forms as the program hands them on
pub handed : (xs ys p q : List (ℕ × List Bound)) → xs ≡ p → ys ≡ q → form_product (coded_form xs) (coded_form ys) ≡ form_product (coded_form p) (coded_form q)
handed xs ys p q e f = ap (λ as'. form_product (coded_form as') (coded_form ys)) e ∙ ap (λ bs. form_product (coded_form p) (coded_form bs)) f

pub product_steps : (parts : List Bound) (i : ℕ) (part : Bound) (f now : Made) (p : List (ℕ × List Bound)) (made_of : Form) → i < length parts → part ≡ get_or parts i part → IsFormed (Ok f) (term_of part) → made_of ≡ form_product (coded_form p) (coded_form f.items)
    → Makes (Ok now) made_of → ProductGoes p parts i → ProductGoes now.items parts (i + 1)
product_steps parts i part f now p made_of h is formed of made was =
    let e : coded_form now.items ≡ form_product (coded_form p) (form (term_of part)) = made.0 ∙ of ∙ ap (form_product (coded_form p)) formed.0 in
    record {
      product = ap (λ q. product_from q (rest_forms parts (i + 1))) e ∙ ap (product_from (coded_form p)) (sym (rest_split parts i part h is)) ∙ was.product;
      keep = keep_more parts i part h is was.keep formed.1;
      small = subst IsSmall (sym made.0) made.1;
      shape = subst (IsShaped AnyLeaf) (sym e) (shaped_times AnyLeaf (coded_form p) (form (term_of part)) was.shape (has_shape (term_of part)));
    }

pub product_faults : (e : BoundFault) (parts : List Bound) (i : ℕ) (part : Bound) (f : Made) (p : List (ℕ × List Bound)) (made_of : Form) → AllFull parts → i < length parts → part ≡ get_or parts i part → IsFormed (Ok f) (term_of part)
    → made_of ≡ form_product (coded_form p) (coded_form f.items) → Passes e made_of → ProductGoes p parts i → IsFormed (Err e) (Product (terms_of parts))
product_faults e parts i part f p made_of full h is formed of passed was =
    let passes : Passes e (form_product (coded_form p) (form (term_of part))) = subst (Passes e) (of ∙ ap (form_product (coded_form p)) formed.0) passed in
    let whole : product_from (form_product (coded_form p) (form (term_of part))) (rest_forms parts (i + 1)) ≡ form (Product (terms_of parts)) = ap (product_from (coded_form p)) (sym (rest_split parts i part h is)) ∙ was.product in
    passes_formed e (Product (terms_of parts))
    (subst (Passes e) whole (passes_products e (form_product (coded_form p) (form (term_of part))) (rest_forms parts (i + 1)) (shaped_times AnyLeaf (coded_form p) (form (term_of part)) was.shape (has_shape (term_of part))) (map_shapes (map term_of (drop (i + 1) parts))) (rest_full parts (i + 1) full) passes))

pub product_part_faults : (e : BoundFault) (parts : List Bound) (i : ℕ) (part : Bound) → AllFull parts → i < length parts → part ≡ get_or parts i part → IsFormed (Err e) (term_of part) → IsFormed (Err e) (Product (terms_of parts))
product_part_faults e parts i part full h is fault = lifted e (term_of part) (Product (terms_of parts)) (λ u n. in_product (full_whole parts full) (part_of parts i part h is) n) fault

pub one_faults : (e : BoundFault) (t : Term) → Passes e (constant 1) → IsFormed (Err e) t
one_faults Monomials t h = absurd (omega (arith, h))
one_faults Coefficient t h = absurd (cc)
one_faults Memory t h = tt

pub product_ends : (f : Made) (parts : List Bound) (i : ℕ) → length parts ≤ i → ProductGoes f.items parts i → IsFormed (Ok f) (Product (terms_of parts))
product_ends f parts i h was =
    let ts = map term_of parts in
    let all : All NeedsKeep ts = keep_all parts i h was.keep in
    let whole : coded_form f.items ≡ form (Product (terms ts)) = sym (ap (product_from (coded_form f.items)) (no_rest parts i h)) ∙ was.product in
    let small : IsSmall (form (Product (terms ts))) = subst IsSmall whole was.small in
    let one : All (EachAtom AtomKeeps) (constant 1) = All-cons (EachAtom AtomKeeps) (record { coefficient = 1; atoms = [] }) [] (All-nil AtomKeeps) (All-nil (EachAtom AtomKeeps)) in
    let keeps : Keeps (form (Product (terms ts))) = keeps_from (form (Product (terms ts))) small.few small.small (all_products (EachAtom AtomKeeps) (atoms_closed AtomKeeps) (constant 1) (forms (terms ts)) one (forms_atoms ts all)) in
    (whole, λ u n. product_needs (terms ts) u n keeps (part_keeps ts all))

-- ---- maxima
greatest_needs : (ts : Terms) (u : Term) → Needs u (Greatest ts) → Keeps (form (Greatest ts)) → ((v : Term) → IsPart v ts → NeedsKeep v) → Keeps (form u)
greatest_needs ts u itself k h = k
greatest_needs ts u (in_greatest {v = v} p n) k h = h v p u n

abbrev pub MaximumGoes : List Made → List Bound → ℕ → Type 0
MaximumGoes ops parts i = (coded_forms ops ++ flat_map operands_of (rest_forms parts i) ≡ flat_map operands_of (forms (terms_of parts))) × All NeedsKeep (map term_of (take i parts))

pub maximum_begins : (parts : List Bound) (ops : List Made) → ops ≡ [] → MaximumGoes ops parts 0
maximum_begins parts ops e = (
  ap (λ fs. coded_forms fs ++ flat_map operands_of (map form (map term_of parts))) e ∙ ap (flat_map operands_of) (sym (forms_of_terms (map term_of parts))),
  All-nil NeedsKeep,
)

pub operands_low : (f : Made) (t : Term) → IsFormed (Ok f) t → All (All IsLow) (operands_of (coded_form f.items))
operands_low f t formed =
    subst (λ p. All (All IsLow) (operands_of p)) (sym formed.0) (All-weaker Keeps (All IsLow) keeps_low (operands_of (form t)) (operands_keep (form t) (has_shape t) (formed.1 t itself)))

pub maximum_steps : (parts : List Bound) (i : ℕ) (part : Bound) (f : Made) (ops now : List Made) → i < length parts → part ≡ get_or parts i part → IsFormed (Ok f) (term_of part) → coded_forms now ≡ coded_forms ops ++ operands_of (coded_form f.items)
    → MaximumGoes ops parts i → MaximumGoes now parts (i + 1)
maximum_steps parts i part f ops now h is formed put was =
    let rest = flat_map operands_of (rest_forms parts (i + 1)) in (
      ap (λ ps. ps ++ rest) put ∙ append_assoc (coded_forms ops) (operands_of (coded_form f.items)) rest ∙ ap (λ p. coded_forms ops ++ (operands_of p ++ rest)) formed.0
          ∙ ap (λ ps. coded_forms ops ++ flat_map operands_of ps) (sym (rest_split parts i part h is)) ∙ was.0,
      keep_more parts i part h is was.1 formed.1,
    )

pub maximum_part_faults : (e : BoundFault) (parts : List Bound) (i : ℕ) (part : Bound) → i < length parts → part ≡ get_or parts i part → IsFormed (Err e) (term_of part) → IsFormed (Err e) (Greatest (terms_of parts))
maximum_part_faults e parts i part h is fault = lifted e (term_of part) (Greatest (terms_of parts)) (λ u n. in_greatest (part_of parts i part h is) n) fault

all_there : (ops : List Made) (parts : List Bound) (i : ℕ) → length parts ≤ i → MaximumGoes ops parts i → coded_forms ops ≡ flat_map operands_of (forms (terms_of parts))
all_there ops parts i h was = sym (ap (λ ps. coded_forms ops ++ flat_map operands_of ps) (no_rest parts i h) ∙ append-nil (coded_forms ops)) ∙ was.0

pub operands_rise : (ops : List Made) (parts : List Bound) (i : ℕ) → length parts ≤ i → MaximumGoes ops parts i → All Rising (coded_forms ops)
operands_rise ops parts i h was =
    subst (All Rising) (sym (all_there ops parts i h was))
    (All-weaker (IsShaped AnyLeaf) Rising (rises AnyLeaf) (flat_map operands_of (forms (terms_of parts))) (all_operands_shaped AnyLeaf no_maxima (forms (terms_of parts)) (have_shapes (terms_of parts))).0)

pub maximum_ends : (f : Made) (parts : List Bound) (i : ℕ) (ops : List Made) → length parts ≤ i → MaximumGoes ops parts i → coded_form f.items ≡ greatest_form (pruned [] (coded_forms ops)) → IsFormed (Ok f) (Greatest (terms_of parts))
maximum_ends f parts i ops h was made =
    let ts = map term_of parts in
    let all : All NeedsKeep ts = keep_all parts i h was.1 in
    let keeps : Keeps (form (Greatest (terms ts))) = greatest_keeps (flat_map operands_of (forms (terms ts))) (all_operands_keep (forms (terms ts)) (have_shapes (terms ts)) (forms_keep ts all)) in
    (made ∙ ap (λ ps. greatest_form (pruned [] ps)) (all_there ops parts i h was), λ u n. greatest_needs (terms ts) u n keeps (part_keeps ts all))

-- ---- leaves
whole_formed : (r : Result Made BoundFault) (t : Term) → ((u : Term) → Needs u t → u ≡ t) → MakesWhole r (form t) → IsFormed r t
whole_formed (Ok f) t only made = (made.0, λ u n. subst (λ v. Keeps (form v)) (sym (only u n)) made.1)
whole_formed (Err Monomials) t only made = (t, itself, made)
whole_formed (Err Coefficient) t only made = (t, itself, made)
whole_formed (Err Memory) t only made = tt

only_number : (n : ℕ) (u : Term) → Needs u (Number n) → u ≡ Number n
only_number n u itself = refl

only_floor : (n : Floored) (u : Term) → Needs u (Floor n) → u ≡ Floor n
only_floor n u itself = refl

only_power : (b : ℕ) (n : Floored) (u : Term) → Needs u (Power b n) → u ≡ Power b n
only_power b n u itself = refl

only_geometric : (b : ℕ) (n : Floored) (u : Term) → Needs u (Geometric b n) → u ≡ Geometric b n
only_geometric b n u itself = refl

pub number_formed : (r : Result Made BoundFault) (n : ℕ) → MakesWhole r (constant n) → IsFormed r (Number n)
number_formed r n made = whole_formed r (Number n) (only_number n) made

pub floor_formed : (r : Result Made BoundFault) (n : Floored) → MakesWhole r (form (Floor n)) → IsFormed r (Floor n)
floor_formed r n made = whole_formed r (Floor n) (only_floor n) made

pub power_formed : (r : Result Made BoundFault) (b : ℕ) (n : Floored) → MakesWhole r (form (Power b n)) → IsFormed r (Power b n)
power_formed r b n made = whole_formed r (Power b n) (only_power b n) made

pub geometric_formed : (r : Result Made BoundFault) (b : ℕ) (n : Floored) → MakesWhole r (form (Geometric b n)) → IsFormed r (Geometric b n)
geometric_formed r b n made = whole_formed r (Geometric b n) (only_geometric b n) made

-- ---- the same of bounds
pub number_bound : (r : Result Made BoundFault) (b : Bound) (n : ℕ) → b ≡ Const n → Makes r (constant n) → IsFormed r (term_of b)
number_bound r b n is made = subst (IsFormed r) (sym (number_term n) ∙ ap term_of (sym is)) (number_formed r n (number_whole r n made))

pub floor_bound : (r : Result Made BoundFault) (b : Bound) (n : Floored) → b ≡ Nat n → MakesWhole r (floor_form n) → IsFormed r (term_of b)
floor_bound r b n is made = subst (IsFormed r) (sym (floor_term n) ∙ ap term_of (sym is)) (floor_formed r n made)

pub power_bound : (r : Result Made BoundFault) (b : Bound) (k : ℕ) (n : Floored) → b ≡ Pow k n → MakesWhole r (power_form k n) → IsFormed r (term_of b)
power_bound r b k n is made = subst (IsFormed r) (sym (power_term k n) ∙ ap term_of (sym is)) (power_formed r k n made)

pub geometric_bound : (r : Result Made BoundFault) (b : Bound) (k : ℕ) (n : Floored) → b ≡ Geo k n → MakesWhole r (geometric_form k n) → IsFormed r (term_of b)
geometric_bound r b k n is made = subst (IsFormed r) (sym (geometric_term k n) ∙ ap term_of (sym is)) (geometric_formed r k n made)

pub sum_bound : (r : Result Made BoundFault) (b : Bound) (parts : Vec Bound) (items : List Bound) → b ≡ Sum parts → items ≡ parts.items → IsFormed r (Total (terms_of items)) → IsFormed r (term_of b)
sum_bound r b parts items is are made = subst (IsFormed r) (ap (λ bs. Total (terms_of bs)) are ∙ sym (sum_term parts) ∙ ap term_of (sym is)) made

pub product_bound : (r : Result Made BoundFault) (b : Bound) (parts : Vec Bound) (items : List Bound) → b ≡ Prod parts → items ≡ parts.items → IsFormed r (Product (terms_of items)) → IsFormed r (term_of b)
product_bound r b parts items is are made = subst (IsFormed r) (ap (λ bs. Product (terms_of bs)) are ∙ sym (product_term parts) ∙ ap term_of (sym is)) made

pub maximum_bound : (r : Result Made BoundFault) (b : Bound) (parts : Vec Bound) (items : List Bound) → b ≡ Max parts → items ≡ parts.items → IsFormed r (Greatest (terms_of items)) → IsFormed r (term_of b)
maximum_bound r b parts items is are made = subst (IsFormed r) (ap (λ bs. Greatest (terms_of bs)) are ∙ sym (maximum_term parts) ∙ ap term_of (sym is)) made

-- ---- the whole
pub fault_normalized : (e : BoundFault) (t : Term) → IsFormed (Err e) t → IsNormalized (Err e) t
fault_normalized Monomials t h = h
fault_normalized Coefficient t h = h
fault_normalized Memory t h = tt

pub normalized : (b : Bound) (f : Made) (t : Term) → term_of b ≡ form_term (coded_form f.items) → IsFormed (Ok f) t → IsNormalized (Ok b) t
normalized b f t is formed = (is ∙ ap form_term formed.0, formed.1)
