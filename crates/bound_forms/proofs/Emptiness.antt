-- Which forms have no monomial.
use Rattle.std.proofs.Common.{suc, ◌≡◌, ◌≤◌, ◌==◌, Bool, true, false, List, [], ◌∷◌, ◌++◌, get_or, map, refl, sym, ◌∙◌, ap, subst, arith, ⊎_elim}
use Rattle.std.specs.Prelude.{All, ◌&&◌, ◌||◌, not, nat_le, if◌then◌else◌}
use Rattle.std.specs.List.{flat_map, list_any, list_all, Any}
use Rattle.std.specs.declared.cmp.Ordering.{Ordering}
use Rattle.std.specs.declared.cmp.Ordering.TheVariants.{Less, Equal, Greater}
use Rattle.std.proofs.lemmas.Bool.{and_cases, and_parts, or_left, both_ways, leb-true}
use Rattle.std.proofs.lemmas.List.Elements.{All-head, All-tail}
use Rattle.std.proofs.lemmas.List.Folds.{list_any-append, list_all-append, list_any_at}
use Rattle.bound_terms.specs.Terms.{Term, Number, Floor, Total, Product, Greatest, Power, Geometric, Terms, terms}
use Rattle.bound_forms.specs.Monomials.{Monomial, Form, atoms_order, put_by, put, gathered, total_form, constant, monomial_product, products, form_product, product_from, product_form}
use Rattle.bound_forms.specs.Maxima.{covers, listed, form_of, operands_by, operands_of, is_needless, pruned, greatest_form}
use Rattle.bound_forms.specs.Forms.{form, forms}
use Rattle.bound_forms.specs.Formed.{is_empty}
use Rattle.bound_forms.specs.Normal.{IsFlat}
use Rattle.bound_forms.proofs.Comparing.{some_covers, kept_covers, covers_itself}
use Rattle.bound_forms.proofs.Shapes.{IsScaled, IsShaped, IsShapedAtom, rises, scales, holds, of_maximum, two_stay, all_operands_shaped, AnyLeaf, no_maxima, have_shapes}

-- ---- sums
put_full_by : (o : Ordering) (m n : Monomial) (ns behind : Form) → is_empty (put_by o m n ns behind) ≡ false
put_full_by Less m n ns behind = refl
put_full_by Equal m n ns behind = refl
put_full_by Greater m n ns behind = refl

put_full : (m : Monomial) (p : Form) → is_empty (put m p) ≡ false
put_full m [] = refl
put_full m (n ∷ ns) = put_full_by (atoms_order m.atoms n.atoms) m n ns (put m ns)

gathered_full : (p : Form) (ms : List Monomial) → is_empty p ≡ false → is_empty (gathered p ms) ≡ false
gathered_full p [] h = h
gathered_full p (m ∷ ms) h = gathered_full (put m p) ms (put_full m p)

gathered_empty : (ms : List Monomial) → is_empty (gathered [] ms) ≡ is_empty ms
gathered_empty [] = refl
gathered_empty (m ∷ ms) = gathered_full (m ∷ []) ms refl

empty_append : (p q : Form) → is_empty (p ++ q) ≡ (is_empty p && is_empty q)
empty_append [] q = refl
empty_append (m ∷ p) q = refl

flat_empty : (ps : List Form) → is_empty (flat_map (λ p. p) ps) ≡ list_all is_empty ps
flat_empty [] = refl
flat_empty (p ∷ ps) = empty_append p (flat_map (λ p. p) ps) ∙ ap (λ b. is_empty p && b) (flat_empty ps)

pub total_empty : (ps : List Form) → is_empty (total_form ps) ≡ list_all is_empty ps
total_empty ps = gathered_empty (flat_map (λ p. p) ps) ∙ flat_empty ps

-- ---- products
map_empty : (m : Monomial) (q : Form) → is_empty (map (monomial_product m) q) ≡ is_empty q
map_empty m [] = refl
map_empty m (n ∷ q) = refl

rows_empty : (p q : Form) → is_empty (products p q) ≡ (is_empty p || is_empty q)
rows_empty [] q = refl
rows_empty (m ∷ p) [] = rows_empty p [] ∙ either_empty (is_empty p)
  where
    either_empty : (b : Bool) → (b || true) ≡ true
    either_empty true = refl
    either_empty false = refl
rows_empty (m ∷ p) (n ∷ q) = refl

product_empty : (p q : Form) → is_empty (form_product p q) ≡ (is_empty p || is_empty q)
product_empty p q = gathered_empty (products p q) ∙ rows_empty p q

or_assoc : (a b c : Bool) → ((a || b) || c) ≡ (a || (b || c))
or_assoc true b c = refl
or_assoc false b c = refl

or_false : (b : Bool) → b ≡ (b || false)
or_false true = refl
or_false false = refl

from_empty : (p : Form) (qs : List Form) → is_empty (product_from p qs) ≡ (is_empty p || list_any is_empty qs)
from_empty p [] = or_false (is_empty p)
from_empty p (q ∷ qs) = from_empty (form_product p q) qs ∙ ap (λ b. b || list_any is_empty qs) (product_empty p q) ∙ or_assoc (is_empty p) (is_empty q) (list_any is_empty qs)

pub products_empty : (ps : List Form) → is_empty (product_form ps) ≡ list_any is_empty ps
products_empty ps = from_empty (constant 1) ps

-- ---- maxima
empty_is : (p : Form) → is_empty p ≡ true → p ≡ []
empty_is [] h = refl
empty_is (m ∷ p) h = absurd (cc)

pushed_covers : (before : List Form) (p : Form) → some_covers before [] ≡ true → some_covers (before ++ p ∷ []) [] ≡ true
pushed_covers before p h = list_any-append (λ q. covers q []) before (p ∷ []) ∙ or_left (some_covers before []) (some_covers (p ∷ []) []) h

-- behind one that is covered by another, forms without monomials are needless
empties_go : (before ps : List Form) → some_covers before [] ≡ true → list_all is_empty ps ≡ true → pruned before ps ≡ []
empties_go before [] c h = refl
empties_go before (p ∷ ps) c h =
    let parts = and_parts (is_empty p) (list_all is_empty ps) h in
    let rest = pruned (before ++ p ∷ []) ps in
    let needless : is_needless before p ps ≡ true = ap (λ q. is_needless before q ps) (empty_is p parts.0) ∙ or_left (some_covers before []) (list_any (λ q. covers q [] && not (covers [] q)) ps) c in
    ap (λ b. if b then rest else p ∷ rest) needless ∙ empties_go (before ++ p ∷ []) ps (pushed_covers before p c) parts.1

none_more : (ps : List Form) → list_all is_empty ps ≡ true → list_any (λ q. covers q [] && not (covers [] q)) ps ≡ false
none_more [] h = refl
none_more (p ∷ ps) h =
    let parts = and_parts (is_empty p) (list_all is_empty ps) h in
    ap (λ q. not (covers [] q) || list_any (λ q. covers q [] && not (covers [] q)) ps) (empty_is p parts.0) ∙ none_more ps parts.1

all_empty : (ops : List Form) → list_all is_empty ops ≡ true → is_empty (greatest_form (pruned [] ops)) ≡ true
all_empty [] h = refl
all_empty (p ∷ ps) h =
    let parts = and_parts (is_empty p) (list_all is_empty ps) h in
    let e = empty_is p parts.0 in
    let rest = pruned (p ∷ []) ps in
    let needed : is_needless [] p ps ≡ false = ap (λ q. is_needless [] q ps) e ∙ none_more ps parts.1 in
    let kept : pruned [] (p ∷ ps) ≡ p ∷ [] = ap (λ b. if b then rest else p ∷ rest) needed ∙ ap (λ qs. p ∷ qs) (empties_go (p ∷ []) ps refl parts.1) in
    ap (λ qs. is_empty (greatest_form qs)) kept ∙ parts.0

some_full : (ps : List Form) → list_all is_empty ps ≡ false → Any (λ p. is_empty p ≡ false) ps
some_full [] h = absurd (cc)
some_full (p ∷ ps) h =
    ⊎_elim (λ e. (0, p, omega arith, refl, e)) (λ e. let w = some_full ps e in (suc w.0, w.1, omega (arith, w.2), w.3, w.4)) (and_cases (is_empty p) (list_all is_empty ps) h)

-- what covers a form that has a monomial has one
covers_full : (q p : Form) → All IsScaled p → is_empty p ≡ false → covers q p ≡ true → is_empty q ≡ false
covers_full (n ∷ q) p s e h = refl
covers_full [] [] s e h = absurd (cc)
covers_full [] (m ∷ p) s e h =
    let positive : 1 ≤ m.coefficient = (All-head IsScaled m p s).positive in
    absurd (omega (arith, positive, leb-true m.coefficient 0 (and_parts (nat_le m.coefficient 0) (covers [] p) h).0))

kept_full : (kept : List Form) (p : Form) → All IsScaled p → is_empty p ≡ false → some_covers kept p ≡ true → is_empty (greatest_form kept) ≡ false
kept_full [] p s e h = absurd (cc)
kept_full (k ∷ []) p s e h = covers_full k p s e (one (covers k p) h)
  where
    one : (b : Bool) → (b || false) ≡ true → b ≡ true
    one true g = refl
    one false g = g
kept_full (k ∷ l ∷ kept) p s e h = refl

not_all_empty : (L : Term → Type 0) (ops : List Form) → All (IsShaped L) ops → list_all is_empty ops ≡ false → is_empty (greatest_form (pruned [] ops)) ≡ false
not_all_empty L ops sh h =
    let w = some_full ops h in
    let p = w.1 in
    let s : IsShaped L p = subst (IsShaped L) w.3 (sh w.0 p w.2) in
    let there : some_covers ops p ≡ true = list_any_at (λ q. covers q p) ops w.0 p w.2 (ap (λ q. covers q p) w.3 ∙ covers_itself p (rises L p s)) in
    ⊎_elim (kept_full (pruned [] ops) p (scales L p s) w.4) (λ b. absurd (cc)) (kept_covers [] ops (λ k d l. rises L (get_or ops k d) (sh k d l)) p (rises L p s) there)

same_by : (a b : Bool) → (b ≡ true → a ≡ true) → (b ≡ false → a ≡ false) → a ≡ b
same_by a true f g = f refl
same_by a false f g = g refl

greatest_empty : (L : Term → Type 0) (ops : List Form) → All (IsShaped L) ops → is_empty (greatest_form (pruned [] ops)) ≡ list_all is_empty ops
greatest_empty L ops sh = same_by (is_empty (greatest_form (pruned [] ops))) (list_all is_empty ops) (all_empty ops) (not_all_empty L ops sh)

-- the operands that a form stands for
flat_full : (ps : List Form) → IsFlat ps → list_all is_empty ps ≡ false
flat_full [] f = absurd (omega (arith, f.several))
flat_full (p ∷ []) f = absurd (omega (arith, f.several))
flat_full ((m ∷ p) ∷ q ∷ ps) f = refl
flat_full ([] ∷ q ∷ ps) f = absurd (both_ways (covers q []) (All-head (λ r. covers r [] ≡ false) q ps (f.needed [] (q ∷ ps) [] refl)) refl)

one_empty : (p : Form) → is_empty p ≡ list_all is_empty (p ∷ [])
one_empty [] = refl
one_empty (m ∷ p) = refl

operands_empty_by : (L : Term → Type 0) → ((ts : Terms) → ¬ (L (Greatest ts))) → (b : Bool) (atoms : List Term) (m : Monomial) → All (IsShapedAtom L) atoms → false ≡ list_all is_empty (operands_by b atoms (m ∷ []))
operands_empty_by L isnt false atoms m h = refl
operands_empty_by L isnt true [] m h = refl
operands_empty_by L isnt true (Number n ∷ []) m h = refl
operands_empty_by L isnt true (Floor n ∷ []) m h = refl
operands_empty_by L isnt true (Total ts ∷ []) m h = refl
operands_empty_by L isnt true (Product ts ∷ []) m h = refl
operands_empty_by L isnt true (Greatest ts ∷ []) m h = sym (flat_full (map form_of (listed ts)) (of_maximum L isnt (Greatest ts) (All-head (IsShapedAtom L) (Greatest ts) [] h)).1)
operands_empty_by L isnt true (Power b n ∷ []) m h = refl
operands_empty_by L isnt true (Geometric b n ∷ []) m h = refl
operands_empty_by L isnt true (a ∷ b ∷ rest) m h = sym (ap (list_all is_empty) (two_stay a b rest (m ∷ [])))

operands_empty : (L : Term → Type 0) → ((ts : Terms) → ¬ (L (Greatest ts))) → (p : Form) → IsShaped L p → is_empty p ≡ list_all is_empty (operands_of p)
operands_empty L isnt [] h = refl
operands_empty L isnt (m ∷ []) h = operands_empty_by L isnt (m.coefficient == 1) m.atoms m (All-head (λ (n : Monomial). All (IsShapedAtom L) n.atoms) m [] (holds L (m ∷ []) h))
operands_empty L isnt (m ∷ n ∷ p) h = refl

all_operands_empty : (L : Term → Type 0) → ((ts : Terms) → ¬ (L (Greatest ts))) → (ps : List Form) → All (IsShaped L) ps → list_all is_empty (flat_map operands_of ps) ≡ list_all is_empty ps
all_operands_empty L isnt [] h = refl
all_operands_empty L isnt (p ∷ ps) h =
    list_all-append is_empty (operands_of p) (flat_map operands_of ps)
    ∙ ap (λ b. b && list_all is_empty (flat_map operands_of ps)) (sym (operands_empty L isnt p (All-head (IsShaped L) p ps h)))
    ∙ ap (λ b. is_empty p && b) (all_operands_empty L isnt ps (All-tail (IsShaped L) p ps h))

-- ---- whole terms
forms_terms : (ts : List Term) → forms (terms ts) ≡ map form ts
forms_terms [] = refl
forms_terms (t ∷ ts) = ap (λ ps. form t ∷ ps) (forms_terms ts)

all_forms : (ts : List Term) → list_all is_empty (forms (terms ts)) ≡ list_all (λ t. is_empty (form t)) ts
all_forms [] = refl
all_forms (t ∷ ts) = ap (λ b. is_empty (form t) && b) (all_forms ts)

any_forms : (ts : List Term) → list_any is_empty (forms (terms ts)) ≡ list_any (λ t. is_empty (form t)) ts
any_forms [] = refl
any_forms (t ∷ ts) = ap (λ b. is_empty (form t) || b) (any_forms ts)

pub sum_empty : (ts : List Term) → is_empty (form (Total (terms ts))) ≡ list_all (λ t. is_empty (form t)) ts
sum_empty ts = total_empty (forms (terms ts)) ∙ all_forms ts

pub factors_empty : (ts : List Term) → is_empty (form (Product (terms ts))) ≡ list_any (λ t. is_empty (form t)) ts
factors_empty ts = products_empty (forms (terms ts)) ∙ any_forms ts

pub maximum_empty : (ts : List Term) → is_empty (form (Greatest (terms ts))) ≡ list_all (λ t. is_empty (form t)) ts
maximum_empty ts =
    let sh = have_shapes (terms ts) in
    greatest_empty AnyLeaf (flat_map operands_of (forms (terms ts))) (all_operands_shaped AnyLeaf no_maxima (forms (terms ts)) sh).0
    ∙ all_operands_empty AnyLeaf no_maxima (forms (terms ts)) sh ∙ all_forms ts
