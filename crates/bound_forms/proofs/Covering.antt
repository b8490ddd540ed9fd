-- What one walk over two forms in order tells of their coefficients.
use Rattle.std.proofs.Common.{ℕ, zero, suc, ◌≡◌, ◌<◌, ◌≤◌, ◌+◌, Bool, true, false, List, [], ◌∷◌, length, drop, get_or, refl, sym, ◌∙◌, ap, subst, arith}
use Rattle.std.specs.Prelude.{nat_le, ◌&&◌, ◌==◌}
use Rattle.std.specs.Ordering.{ordering_reverse, ordering_index}
use Rattle.std.specs.declared.cmp.Ordering.{Ordering}
use Rattle.std.specs.declared.cmp.Ordering.TheVariants.{Less, Equal, Greater}
use Rattle.std.proofs.lemmas.Bool.{le-leb, lt-leb, both_ways}
use Rattle.std.proofs.lemmas.List.{drop_more}
use Rattle.bound_terms.specs.Terms.{Term}
use Rattle.bound_terms.specs.declared.bound.Bound.{Bound}
use Rattle.bound_forms.specs.Monomials.{Monomial, Form, atoms_order}
use Rattle.bound_forms.specs.Normal.{Rising}
use Rattle.bound_forms.specs.Maxima.{coefficient_by, coefficient_in, covers}
use Rattle.bound_forms.specs.Coded.{coded, coded_form}
use Rattle.bound_forms.proofs.Rising.{First, first, behind, atoms_order_total}
use Rattle.bound_forms.proofs.Comparing.{further, above}

-- a monomial that goes before all of a form doesn't count for it
passed : (a : Monomial) (q p : Form) → First a.atoms p → Rising p → covers (a ∷ q) p ≡ covers q p
passed a q [] f r = refl
passed a q (m ∷ ms) f r =
    ap (λ o. nat_le m.coefficient (coefficient_by o a.coefficient (coefficient_in q m.atoms)) && covers (a ∷ q) ms) f
    ∙ ap (λ b. nat_le m.coefficient (coefficient_in q m.atoms) && b) (passed a q ms (further a.atoms m ms f (first m ms r)) (behind m ms r))

pub dropped : (q : List (ℕ × List Bound)) (j : ℕ) → Rising (coded_form q) → Rising (coded_form (drop j q))
dropped [] zero r = tt
dropped [] (suc j) r = tt
dropped (m ∷ q) zero r = r
dropped (m ∷ q) (suc j) r = dropped q j (behind (coded m) (coded_form q) r)

split : {X : Type 0} (q : List X) (j : ℕ) (n : X) → j < length q → n ≡ get_or q j n → drop j q ≡ n ∷ drop (j + 1) q
split q j n h is = drop_more q j n h ∙ ap (λ x. x ∷ drop (j + 1) q) (sym is)

-- ---- what tests of orders say
pub is_less : (o : Ordering) (b : Bool) → b ≡ (ordering_index o == 0) → b ≡ true → o ≡ Less
is_less Less b e h = refl
is_less Equal b e h = absurd (both_ways b e h)
is_less Greater b e h = absurd (both_ways b e h)

pub not_less : (o : Ordering) (b : Bool) → b ≡ (ordering_index o == 0) → b ≡ false → ¬ (o ≡ Less)
not_less Less b e h g = both_ways b h e
not_less Equal b e h g = absurd (cc)
not_less Greater b e h g = absurd (cc)

pub not_equal : (o : Ordering) (b : Bool) → b ≡ (ordering_index o == 1) → b ≡ false → ¬ (o ≡ Equal)
not_equal Less b e h g = absurd (cc)
not_equal Equal b e h g = both_ways b h e
not_equal Greater b e h g = absurd (cc)

-- ---- the walk to a place
pub walked : (q : List (ℕ × List Bound)) (j : ℕ) (n m : ℕ × List Bound) (ms : Form) (all : Bool) → j < length q → n ≡ get_or q j n → atoms_order (coded n).atoms (coded m).atoms ≡ Less → Rising (coded m ∷ ms) → covers (coded_form (drop j q)) (coded m ∷ ms) ≡ all → covers (coded_form (drop (j + 1) q)) (coded m ∷ ms) ≡ all
walked q j n m ms all h is less r was =
    sym (passed (coded n) (coded_form (drop (j + 1) q)) (coded m ∷ ms) less r) ∙ ap (λ xs. covers (coded_form xs) (coded m ∷ ms)) (sym (split q j n h is)) ∙ was

first_of : (q : List (ℕ × List Bound)) (j : ℕ) (n : ℕ × List Bound) (a : Monomial) (rest : Form) → j < length q → n ≡ get_or q j n → coded_form (drop j q) ≡ a ∷ rest → coded n ≡ a
first_of q j n a rest h is e = heads (sym (ap coded_form (split q j n h is)) ∙ e)
  where
    heads : {xs ys : Form} {x y : Monomial} → x ∷ xs ≡ y ∷ ys → x ≡ y
    heads g = cc

pub stands : (q : List (ℕ × List Bound)) (j : ℕ) (n m : ℕ × List Bound) → j < length q → n ≡ get_or q j n → ¬ (atoms_order (coded n).atoms (coded m).atoms ≡ Less) → (a : Monomial) (rest : Form) → coded_form (drop j q) ≡ a ∷ rest → ¬ (atoms_order a.atoms (coded m).atoms ≡ Less)
stands q j n m h is other a rest e less = other (ap (λ b. atoms_order b.atoms (coded m).atoms) (first_of q j n a rest h is e) ∙ less)

pub none_stands : (q : List (ℕ × List Bound)) (j : ℕ) (xs : List Term) → length q ≤ j → (a : Monomial) (rest : Form) → coded_form (drop j q) ≡ a ∷ rest → ¬ (atoms_order a.atoms xs ≡ Less)
none_stands [] zero xs h a rest e = absurd (cc)
none_stands [] (suc j) xs h a rest e = absurd (cc)
none_stands (n ∷ q) zero xs h a rest e = absurd (omega (arith, h))
none_stands (n ∷ q) (suc j) xs h a rest e = none_stands q j xs (omega (arith, h)) a rest e

-- ---- the coefficient there
pub found : (q : List (ℕ × List Bound)) (j : ℕ) (n m : ℕ × List Bound) → j < length q → n ≡ get_or q j n → atoms_order (coded n).atoms (coded m).atoms ≡ Equal → n.0 ≡ coefficient_in (coded_form (drop j q)) (coded m).atoms
found q j n m h is same =
    sym (ap (λ o. coefficient_by o n.0 (coefficient_in (coded_form (drop (j + 1) q)) (coded m).atoms)) same) ∙ ap (λ xs. coefficient_in (coded_form xs) (coded m).atoms) (sym (split q j n h is))

neither : (o : Ordering) → ¬ (o ≡ Less) → ¬ (o ≡ Equal) → o ≡ Greater
neither Less h k = absurd (h refl)
neither Equal h k = absurd (k refl)
neither Greater h k = refl

missing : (r : Form) (xs : List Term) → Rising r → ((a : Monomial) (rest : Form) → r ≡ a ∷ rest → ¬ (atoms_order a.atoms xs ≡ Less)) → ((a : Monomial) (rest : Form) → r ≡ a ∷ rest → ¬ (atoms_order a.atoms xs ≡ Equal)) → 0 ≡ coefficient_in r xs
missing [] xs rise less equal = refl
missing (a ∷ rest) xs rise less equal =
    let later : atoms_order a.atoms xs ≡ Greater = neither (atoms_order a.atoms xs) (less a rest refl) (equal a rest refl) in
    sym (above xs (a ∷ rest) (atoms_order_total.antisymm xs a.atoms ∙ ap ordering_reverse later) rise)

pub not_found : (q : List (ℕ × List Bound)) (j : ℕ) (n m : ℕ × List Bound) → j < length q → n ≡ get_or q j n → ¬ (atoms_order (coded n).atoms (coded m).atoms ≡ Equal) → Rising (coded_form (drop j q)) → ((a : Monomial) (rest : Form) → coded_form (drop j q) ≡ a ∷ rest → ¬ (atoms_order a.atoms (coded m).atoms ≡ Less)) → 0 ≡ coefficient_in (coded_form (drop j q)) (coded m).atoms
not_found q j n m h is other rise less =
    missing (coded_form (drop j q)) (coded m).atoms rise less (λ a rest e same. other (ap (λ b. atoms_order b.atoms (coded m).atoms) (first_of q j n a rest h is e) ∙ same))

pub past_end : (q : List (ℕ × List Bound)) (j : ℕ) (xs : List Term) → length q ≤ j → 0 ≡ coefficient_in (coded_form (drop j q)) xs
past_end [] zero xs h = refl
past_end [] (suc j) xs h = refl
past_end (n ∷ q) zero xs h = absurd (omega (arith, h))
past_end (n ∷ q) (suc j) xs h = past_end q j xs (omega (arith, h))

-- ---- one monomial more is covered, or isn't
pub covered : (q p : List (ℕ × List Bound)) (j k i c : ℕ) (m : ℕ × List Bound) (all : Bool) → i < length p → m ≡ get_or p i m
    → ((ms : Form) → Rising (coded m ∷ ms) → covers (coded_form (drop k q)) (coded m ∷ ms) ≡ covers (coded_form (drop j q)) (coded m ∷ ms))
    → Rising (coded_form p) → c ≡ coefficient_in (coded_form (drop k q)) (coded m).atoms → m.0 ≤ c
    → covers (coded_form (drop j q)) (coded_form (drop i p)) ≡ all → covers (coded_form (drop k q)) (coded_form (drop (i + 1) p)) ≡ all
covered q p j k i c m all h is same rise coefficient enough was =
    let ms = coded_form (drop (i + 1) p) in
    let at : drop i p ≡ m ∷ drop (i + 1) p = split p i m h is in
    let rising : Rising (coded m ∷ ms) = subst (λ xs. Rising (coded_form xs)) at (dropped p i rise) in
    sym (ap (λ b. b && covers (coded_form (drop k q)) ms) (ap (nat_le m.0) (sym coefficient) ∙ le-leb m.0 c enough)) ∙ same ms rising ∙ ap (λ xs. covers (coded_form (drop j q)) (coded_form xs)) (sym at) ∙ was

pub uncovered : (q p : List (ℕ × List Bound)) (j k i c : ℕ) (m : ℕ × List Bound) (all : Bool) → i < length p → m ≡ get_or p i m
    → ((ms : Form) → Rising (coded m ∷ ms) → covers (coded_form (drop k q)) (coded m ∷ ms) ≡ covers (coded_form (drop j q)) (coded m ∷ ms))
    → Rising (coded_form p) → c ≡ coefficient_in (coded_form (drop k q)) (coded m).atoms → c < m.0
    → covers (coded_form (drop j q)) (coded_form (drop i p)) ≡ all → false ≡ all
uncovered q p j k i c m all h is same rise coefficient less was =
    let ms = coded_form (drop (i + 1) p) in
    let at : drop i p ≡ m ∷ drop (i + 1) p = split p i m h is in
    let rising : Rising (coded m ∷ ms) = subst (λ xs. Rising (coded_form xs)) at (dropped p i rise) in
    sym (ap (λ b. b && covers (coded_form (drop k q)) ms) (ap (nat_le m.0) (sym coefficient) ∙ lt-leb m.0 c less)) ∙ same ms rising ∙ ap (λ xs. covers (coded_form (drop j q)) (coded_form xs)) (sym at) ∙ was
