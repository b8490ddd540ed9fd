-- How bounds are read as forms.
use Rattle.std.proofs.Common.{ℕ, ◌≡◌, ◌<◌, ◌==◌, Bool, true, false, List, [], ◌∷◌, ◌++◌, length, get_or, map, refl, sym, ◌∙◌, ap, subst, arith}
use Rattle.std.specs.Prelude.{All, ◌&&◌}
use Rattle.std.specs.List.{remove}
use Rattle.std.specs.Global.{Vec}
use Rattle.std.proofs.lemmas.List.{map_push, append_assoc}
use Rattle.std.proofs.lemmas.List.Elements.{All-head, All-tail}
use Rattle.bound_terms.specs.declared.bound.Bound.{Bound}
use Rattle.bound_terms.specs.declared.bound.Bound.TheVariants.{Const, Sum, Max}
use Rattle.bound_terms.specs.Terms.{Term, Number, Floor, Total, Product, Greatest, Power, Geometric, terms}
use Rattle.bound_terms.specs.Bounds.{term_of, terms_of}
use Rattle.bound_forms.specs.Monomials.{Monomial, Form}
use Rattle.bound_forms.specs.Maxima.{monomial_by, monomial_of, form_of, operands_by, operands_of}
use Rattle.bound_forms.specs.Coded.{coded, coded_form}
use Rattle.bound_forms.specs.Answered.{coded_forms}
use Rattle.bound_forms.specs.inside.Pruning.{IsLow, parts_of, is_maximum, maximum_operands, is_alone}
use Rattle.bound_forms.proofs.Shapes.{listed_terms}
use Rattle.bound_forms.proofs.Views.{number_term, sum_term, maximum_term}

-- ---- monomials
pub read_monomial : (items rest : List Bound) (n : ℕ) (m : ℕ × List Bound) → 0 < length items → Const n ≡ get_or items 0 (Const n) → rest ≡ remove items 0 → m ≡ (n, rest) → coded m ≡ monomial_by (terms_of items)
read_monomial [] rest n m some is left made = absurd (omega (arith, some))
read_monomial (b ∷ bs) rest n m some is left made =
    let first : term_of b ≡ Number n = ap term_of (sym is) ∙ number_term n in
    ap coded (made ∙ ap (λ (xs : List Bound). (n, xs)) left)
    ∙ ap (λ (xs : List Term). let k : Monomial = record { coefficient = n; atoms = xs } in k) (sym (listed_terms (map term_of bs)))
    ∙ ap (λ t. monomial_by (terms (t ∷ map term_of bs))) (sym first)

pub monomial_more : (form now : List (ℕ × List Bound)) (m : ℕ × List Bound) (part : Bound) (before rest : List Bound) (all : Form) → before ≡ part ∷ rest → coded m ≡ monomial_of (term_of part) → now ≡ form ++ m ∷ []
    → (coded_form form ++ map monomial_of (map term_of before) ≡ all) × All IsLow (map monomial_of (map term_of before))
    → (coded_form now ++ map monomial_of (map term_of rest) ≡ all) × All IsLow (map monomial_of (map term_of rest))
monomial_more form now m part before rest all split is pushed was =
    let R = map monomial_of (map term_of rest) in (
      ap (λ xs. coded_form xs ++ R) pushed ∙ ap (λ y. y ++ R) (map_push coded form m) ∙ append_assoc (coded_form form) (coded m ∷ []) R ∙ ap (λ x. coded_form form ++ x ∷ R) is
          ∙ ap (λ bs. coded_form form ++ map monomial_of (map term_of bs)) (sym split) ∙ was.0,
      All-tail IsLow (monomial_of (term_of part)) R (subst (λ bs. All IsLow (map monomial_of (map term_of bs))) split was.1),
    )

-- ---- forms
pub sum_read : (b : Bound) (parts : Vec Bound) → b ≡ Sum parts → form_of (term_of b) ≡ map monomial_of (map term_of parts.items)
sum_read b parts is = ap (λ x. form_of (term_of x)) is ∙ ap form_of (sum_term parts) ∙ ap (map monomial_of) (listed_terms (map term_of parts.items))

pub maximum_read : (b : Bound) (parts : Vec Bound) → b ≡ Max parts → parts_of (term_of b) ≡ map form_of (map term_of parts.items)
maximum_read b parts is = ap (λ x. parts_of (term_of x)) is ∙ ap parts_of (maximum_term parts) ∙ ap (map form_of) (listed_terms (map term_of parts.items))

abbrev Made : Type 0
Made = Vec (ℕ × List Bound)

abbrev form_at : Made → Form
form_at f = coded_form f.items

pub low_first : (part : Bound) (before rest : List Bound) → before ≡ part ∷ rest → All (All IsLow) (map form_of (map term_of before)) → All IsLow (form_of (term_of part))
low_first part before rest split low = All-head (All IsLow) (form_of (term_of part)) (map form_of (map term_of rest)) (subst (λ bs. All (All IsLow) (map form_of (map term_of bs))) split low)

pub form_more : (forms now : List Made) (f : Made) (part : Bound) (before rest : List Bound) (all : List Form) → before ≡ part ∷ rest → coded_form f.items ≡ form_of (term_of part) → now ≡ forms ++ f ∷ []
    → (coded_forms forms ++ map form_of (map term_of before) ≡ all) × All (All IsLow) (map form_of (map term_of before))
    → (coded_forms now ++ map form_of (map term_of rest) ≡ all) × All (All IsLow) (map form_of (map term_of rest))
form_more forms now f part before rest all split is pushed was =
    let R = map form_of (map term_of rest) in (
      ap (λ xs. coded_forms xs ++ R) pushed ∙ ap (λ y. y ++ R) (map_push form_at forms f) ∙ append_assoc (coded_forms forms) (form_at f ∷ []) R ∙ ap (λ x. coded_forms forms ++ x ∷ R) is
          ∙ ap (λ bs. coded_forms forms ++ map form_of (map term_of bs)) (sym split) ∙ was.0,
      All-tail (All IsLow) (form_of (term_of part)) R (subst (λ bs. All (All IsLow) (map form_of (map term_of bs))) split was.1),
    )

-- ---- maxima that are only atoms
one_operands : (t : Term) → maximum_operands (t ∷ []) ≡ parts_of t
one_operands (Number n) = refl
one_operands (Floor n) = refl
one_operands (Total ts) = refl
one_operands (Product ts) = refl
one_operands (Greatest ts) = refl
one_operands (Power b n) = refl
one_operands (Geometric b n) = refl

two_no_maximum : (a b : Term) (rest : List Term) → is_maximum (a ∷ b ∷ rest) ≡ false
two_no_maximum (Number n) b rest = refl
two_no_maximum (Floor n) b rest = refl
two_no_maximum (Total ts) b rest = refl
two_no_maximum (Product ts) b rest = refl
two_no_maximum (Greatest ts) b rest = refl
two_no_maximum (Power c n) b rest = refl
two_no_maximum (Geometric c n) b rest = refl

pushed_no_maximum : (r : Term) (rs : List Term) (t : Term) → is_maximum (r ∷ (rs ++ t ∷ [])) ≡ false
pushed_no_maximum r [] t = two_no_maximum r t []
pushed_no_maximum r (s ∷ rs) t = two_no_maximum r s (rs ++ t ∷ [])

last_by : (rest : List Term) (t : Term) → is_maximum (rest ++ t ∷ []) ≡ true → maximum_operands (rest ++ t ∷ []) ≡ parts_of t
last_by [] t h = one_operands t
last_by (r ∷ rs) t h = let n = pushed_no_maximum r rs t in absurd (cc)

pub last_atom : (items rest : List Bound) (atom : Bound) → items ≡ rest ++ atom ∷ [] → is_maximum (map term_of items) ≡ true → maximum_operands (map term_of items) ≡ parts_of (term_of atom)
last_atom items rest atom is h =
    let e : map term_of items ≡ map term_of rest ++ term_of atom ∷ [] = ap (map term_of) is ∙ map_push term_of rest atom in
    ap maximum_operands e ∙ last_by (map term_of rest) (term_of atom) (ap is_maximum (sym e) ∙ h)

pub no_atom : (items : List Bound) → length items ≡ 0 → is_maximum (map term_of items) ≡ true → ⊥
no_atom [] e h = absurd (cc)
no_atom (b ∷ bs) e h = absurd (omega (arith, e))

maximum_by : (atoms : List Term) (p : Form) → is_maximum atoms ≡ true → operands_by true atoms p ≡ maximum_operands atoms
maximum_by [] p h = absurd (cc)
maximum_by (Number n ∷ []) p h = absurd (cc)
maximum_by (Floor n ∷ []) p h = absurd (cc)
maximum_by (Total ts ∷ []) p h = absurd (cc)
maximum_by (Product ts ∷ []) p h = absurd (cc)
maximum_by (Greatest ts ∷ []) p h = refl
maximum_by (Power c n ∷ []) p h = absurd (cc)
maximum_by (Geometric c n ∷ []) p h = absurd (cc)
maximum_by (a ∷ b ∷ rest) p h = let n = two_no_maximum a b rest in absurd (cc)

alone_by : (b : Bool) (atoms : List Term) (p : Form) → (b && is_maximum atoms) ≡ true → (is_maximum atoms ≡ true) × (operands_by b atoms p ≡ maximum_operands atoms)
alone_by true atoms p h = (h, maximum_by atoms p h)
alone_by false atoms p h = absurd (cc)

last_is : (rest : Form) (m : Monomial) → is_alone (rest ++ m ∷ []) ≡ true → (is_maximum m.atoms ≡ true) × (operands_of (rest ++ m ∷ []) ≡ maximum_operands m.atoms)
last_is [] m h = alone_by (m.coefficient == 1) m.atoms (m ∷ []) h
last_is (r ∷ []) m h = absurd (cc)
last_is (r ∷ s ∷ rs) m h = absurd (cc)

pub last_monomial : (items rest : List (ℕ × List Bound)) (m : ℕ × List Bound) → items ≡ rest ++ m ∷ [] → is_alone (coded_form items) ≡ true → (is_maximum (map term_of m.1) ≡ true) × (operands_of (coded_form items) ≡ maximum_operands (map term_of m.1))
last_monomial items rest m is h =
    let e : coded_form items ≡ coded_form rest ++ coded m ∷ [] = ap coded_form is ∙ map_push coded rest m in
    let w = last_is (coded_form rest) (coded m) (ap is_alone (sym e) ∙ h) in
    (w.0, ap operands_of e ∙ w.1)

pub no_monomial : (items : List (ℕ × List Bound)) → length items ≡ 0 → is_alone (coded_form items) ≡ true → ⊥
no_monomial [] e h = absurd (cc)
no_monomial (m ∷ ms) e h = absurd (omega (arith, e))

stays_by : (b : Bool) (atoms : List Term) (p : Form) → (b && is_maximum atoms) ≡ false → operands_by b atoms p ≡ p ∷ []
stays_by false atoms p h = refl
stays_by true [] p h = refl
stays_by true (Number n ∷ []) p h = refl
stays_by true (Floor n ∷ []) p h = refl
stays_by true (Total ts ∷ []) p h = refl
stays_by true (Product ts ∷ []) p h = refl
stays_by true (Greatest ts ∷ []) p h = absurd (cc)
stays_by true (Power c n ∷ []) p h = refl
stays_by true (Geometric c n ∷ []) p h = refl
stays_by true (Number n ∷ b ∷ rest) p h = refl
stays_by true (Floor n ∷ b ∷ rest) p h = refl
stays_by true (Total ts ∷ b ∷ rest) p h = refl
stays_by true (Product ts ∷ b ∷ rest) p h = refl
stays_by true (Greatest ts ∷ b ∷ rest) p h = refl
stays_by true (Power c n ∷ b ∷ rest) p h = refl
stays_by true (Geometric c n ∷ b ∷ rest) p h = refl

pub stays : (p : Form) → is_alone p ≡ false → operands_of p ≡ p ∷ []
stays [] h = refl
stays (m ∷ []) h = stays_by (m.coefficient == 1) m.atoms (m ∷ []) h
stays (m ∷ n ∷ p) h = refl

-- the same of what the program makes: the atoms of the only monomial
pub last_atoms : (items rest : List (ℕ × List Bound)) (m : ℕ × List Bound) (atoms : List Bound) → items ≡ rest ++ m ∷ [] → true ≡ is_alone (coded_form items) → atoms ≡ m.1 → (is_maximum (map term_of atoms) ≡ true) × (operands_of (coded_form items) ≡ maximum_operands (map term_of atoms))
last_atoms items rest m atoms is alone are =
    let w = last_monomial items rest m is (sym alone) in
    (ap (λ (bs : List Bound). is_maximum (map term_of bs)) are ∙ w.0, w.1 ∙ ap (λ (bs : List Bound). maximum_operands (map term_of bs)) (sym are))
