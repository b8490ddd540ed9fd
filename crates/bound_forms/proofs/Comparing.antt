-- Forms by their coefficients: which covers which, and that an operand that isn't kept is covered by one that is.
use Rattle.std.proofs.Common.{ℕ, ◌≡◌, ◌≤◌, Bool, true, false, List, [], ◌∷◌, ◌++◌, refl, sym, ◌∙◌, ap, subst, arith, ◌⊎◌, inl, inr, ⊎_elim}
use Rattle.std.specs.Prelude.{nat_le, ◌&&◌, ◌||◌, not, All, if◌then◌else◌}
use Rattle.std.specs.List.{list_any}
use Rattle.std.specs.Ordering.{ordering_reverse}
use Rattle.std.specs.declared.cmp.Ordering.{Ordering}
use Rattle.std.specs.declared.cmp.Ordering.TheVariants.{Less, Equal, Greater}
use Rattle.std.proofs.lemmas.Bool.{le-leb, leb-true, and_parts, and_from, or_cases, or_left, or_right, not-true, cases_Bool, both_ways}
use Rattle.std.proofs.lemmas.List.Elements.{All-tail}
use Rattle.std.proofs.lemmas.List.Folds.{Any-from_list_any, list_any-append, list_any_at}
use Rattle.bound_terms.specs.Terms.{Term}
use Rattle.bound_forms.specs.Monomials.{Monomial, Form, atoms_order}
use Rattle.bound_forms.specs.Normal.{Rising}
use Rattle.bound_forms.specs.Maxima.{coefficient_by, coefficient_in, covers, is_needless, pruned}
use Rattle.bound_forms.proofs.Rising.{First, first, behind, same_first, atoms_order_total}

reversed : (o : Ordering) → o ≡ ordering_reverse o → o ≡ Equal
reversed Less h = absurd (cc)
reversed Equal h = refl
reversed Greater h = absurd (cc)

pub same_atoms : (xs : List Term) → atoms_order xs xs ≡ Equal
same_atoms xs = reversed (atoms_order xs xs) (atoms_order_total.antisymm xs xs)

pub turned : (xs ys : List Term) → atoms_order xs ys ≡ Equal → atoms_order ys xs ≡ Equal
turned xs ys e = atoms_order_total.antisymm ys xs ∙ ap ordering_reverse e

-- ---- coefficients
pub further : (xs : List Term) (m : Monomial) (p : Form) → atoms_order xs m.atoms ≡ Less → First m.atoms p → First xs p
further xs m [] h f = tt
further xs m (n ∷ p) h f = atoms_order_total.trans xs m.atoms n.atoms h f

-- what goes before all of a form isn't there
pub above : (xs : List Term) (q : Form) → First xs q → Rising q → coefficient_in q xs ≡ 0
above xs [] f r = refl
above xs (n ∷ q) f r =
    ap (λ o. coefficient_by o n.coefficient (coefficient_in q xs)) (atoms_order_total.antisymm n.atoms xs ∙ ap ordering_reverse f)
    ∙ above xs q (further xs n q f (first n q r)) (behind n q r)

pub coefficient_same : (q : Form) (xs ys : List Term) → atoms_order xs ys ≡ Equal → coefficient_in q xs ≡ coefficient_in q ys
coefficient_same [] xs ys e = refl
coefficient_same (n ∷ q) xs ys e =
    let same : atoms_order n.atoms xs ≡ atoms_order n.atoms ys = atoms_order_total.antisymm n.atoms xs ∙ ap ordering_reverse (atoms_order_total.congr xs ys n.atoms e) ∙ sym (atoms_order_total.antisymm n.atoms ys) in
    ap (λ o. coefficient_by o n.coefficient (coefficient_in q xs)) same ∙ ap (coefficient_by (atoms_order n.atoms ys) n.coefficient) (coefficient_same q xs ys e)

bounded_by : (o : Ordering) (c d k : ℕ) → (o ≡ Equal → c ≤ k) → d ≤ k → coefficient_by o c d ≤ k
bounded_by Less c d k h g = g
bounded_by Equal c d k h g = h refl
bounded_by Greater c d k h g = g

-- what covers a form has at least its coefficients everywhere
pub covered : (q p : Form) → covers q p ≡ true → (xs : List Term) → coefficient_in p xs ≤ coefficient_in q xs
covered q [] h xs = omega arith
covered q (m ∷ ms) h xs =
    let parts = and_parts (nat_le m.coefficient (coefficient_in q m.atoms)) (covers q ms) h in
    bounded_by (atoms_order m.atoms xs) m.coefficient (coefficient_in ms xs) (coefficient_in q xs)
    (λ e. omega (arith, leb-true m.coefficient (coefficient_in q m.atoms) parts.0, coefficient_same q m.atoms xs e))
    (covered q ms parts.1 xs)

later_by : (o : Ordering) (c d k : ℕ) → coefficient_by o c d ≤ k → (o ≡ Equal → d ≡ 0) → d ≤ k
later_by Less c d k h g = h
later_by Equal c d k h g = omega (arith, g refl)
later_by Greater c d k h g = h

-- and what has them covers it
pub covers_all : (q p : Form) → Rising p → ((xs : List Term) → coefficient_in p xs ≤ coefficient_in q xs) → covers q p ≡ true
covers_all q [] r h = refl
covers_all q (m ∷ ms) r h =
    let own : coefficient_in (m ∷ ms) m.atoms ≡ m.coefficient = ap (λ o. coefficient_by o m.coefficient (coefficient_in ms m.atoms)) (same_atoms m.atoms) in
    let here : m.coefficient ≤ coefficient_in q m.atoms = omega (arith, h m.atoms, own) in
    and_from (nat_le m.coefficient (coefficient_in q m.atoms)) (covers q ms) (le-leb m.coefficient (coefficient_in q m.atoms) here)
    (covers_all q ms (behind m ms r) (λ xs. later_by (atoms_order m.atoms xs) m.coefficient (coefficient_in ms xs) (coefficient_in q xs) (h xs)
    (λ e. above xs ms (same_first xs m.atoms ms (turned m.atoms xs e) (first m ms r)) (behind m ms r))))

pub covers_itself : (p : Form) → Rising p → covers p p ≡ true
covers_itself p r = covers_all p p r (λ xs. omega arith)

pub covers_along : (q r p : Form) → Rising p → covers q r ≡ true → covers r p ≡ true → covers q p ≡ true
covers_along q r p rise h g = covers_all q p rise (λ xs. omega (arith, covered q r h xs, covered r p g xs))

-- ---- what is kept
-- some form of several covers p
abbrev pub some_covers : List Form → Form → Bool
some_covers qs p = list_any (λ q. covers q p) qs

pub some_along : (qs : List Form) (r p : Form) → Rising p → covers r p ≡ true → some_covers qs r ≡ true → some_covers qs p ≡ true
some_along [] r p rise g h = h
some_along (q ∷ qs) r p rise g h =
    ⊎_elim (λ a. or_left (covers q p) (some_covers qs p) (covers_along q r p rise a g)) (λ b. or_right (covers q p) (some_covers qs p) (some_along qs r p rise g b)) (or_cases (covers q r) (some_covers qs r) h)

some_pushed : (before : List Form) (q p : Form) → some_covers (before ++ q ∷ []) p ≡ true → (some_covers before p ≡ true) ⊎ (covers q p ≡ true)
some_pushed before q p h =
    ⊎_elim inl (λ b. ⊎_elim inr (λ n. absurd (cc)) (or_cases (covers q p) false b)) (or_cases (some_covers before p) (covers q p || false) (sym (list_any-append (λ r. covers r p) before (q ∷ [])) ∙ h))

-- what the kept ones are, where the first is looked at
next_by : (b : Bool) (q : Form) (rest : List Form) (p : Form) → some_covers rest p ≡ true → some_covers (if b then rest else q ∷ rest) p ≡ true
next_by true q rest p h = h
next_by false q rest p h = or_right (covers q p) (some_covers rest p) h

first_by : (b : Bool) (q : Form) (rest : List Form) (p : Form) → b ≡ false → covers q p ≡ true → some_covers (if b then rest else q ∷ rest) p ≡ true
first_by true q rest p e h = absurd (cc)
first_by false q rest p e h = or_left (covers q p) (some_covers rest p) h

abbrev Kept : List Form → List Form → Form → Type 0
Kept before ps p = (some_covers (pruned before ps) p ≡ true) ⊎ (some_covers before p ≡ true)

abbrev Later : List Form → Form → List Form → Type 0
Later before q qs = (r : Form) → Rising r → some_covers qs r ≡ true → Kept (before ++ q ∷ []) qs r

exceeded : (before : List Form) (q : Form) (qs : List Form) → All Rising qs → Later before q qs → list_any (λ r. covers r q && not (covers q r)) qs ≡ true
    → (p : Form) → Rising p → covers q p ≡ true → (some_covers (pruned (before ++ q ∷ []) qs) p ≡ true) ⊎ (some_covers before p ≡ true)
exceeded before q qs rise later h p rp g =
    let w = Any-from_list_any (λ r. covers r q && not (covers q r)) qs h in
    let r = w.1 in
    let rr : Rising r = subst Rising w.3 (rise w.0 r w.2) in
    let parts = and_parts (covers r q) (not (covers q r)) w.4 in
    let there : some_covers qs r ≡ true = list_any_at (λ x. covers x r) qs w.0 r w.2 (ap (λ x. covers x r) w.3 ∙ covers_itself r rr) in
    let along : covers r p ≡ true = covers_along r q p rp parts.0 g in
    ⊎_elim (λ a. inl (some_along (pruned (before ++ q ∷ []) qs) r p rp along a))
    (λ b. ⊎_elim (λ c. inr (some_along before r p rp along c)) (λ c. absurd (both_ways (covers q r) (not-true (covers q r) parts.1) c)) (some_pushed before q r b))
    (later r rr there)

own : (before : List Form) (q : Form) (qs : List Form) → All Rising qs → Later before q qs → (p : Form) → Rising p → covers q p ≡ true → Kept before (q ∷ qs) p
own before q qs rise later p rp g =
    let rest = pruned (before ++ q ∷ []) qs in
    ⊎_elim (λ e. ⊎_elim (λ b. inr (some_along before q p rp g b)) (λ b. ⊎_elim (λ l. inl (next_by (is_needless before q qs) q rest p l)) inr (exceeded before q qs rise later b p rp g))
    (or_cases (some_covers before q) (list_any (λ r. covers r q && not (covers q r)) qs) e))
    (λ e. inl (first_by (is_needless before q qs) q rest p e g))
    (cases_Bool (is_needless before q qs))

pub kept_covers : (before ps : List Form) → All Rising ps → (p : Form) → Rising p → some_covers ps p ≡ true → Kept before ps p
kept_covers before [] rise p rp h = absurd (cc)
kept_covers before (q ∷ qs) rise p rp h =
    let rest = pruned (before ++ q ∷ []) qs in
    let rises : All Rising qs = All-tail Rising q qs rise in
    let later : Later before q qs = kept_covers (before ++ q ∷ []) qs rises in
    ⊎_elim (own before q qs rises later p rp)
    (λ g. ⊎_elim (λ l. inl (next_by (is_needless before q qs) q rest p l)) (λ b. ⊎_elim inr (own before q qs rises later p rp) (some_pushed before q p b)) (later p rp g))
    (or_cases (covers q p) (some_covers qs p) h)
