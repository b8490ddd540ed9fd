-- The steps of the loops over a line.
use Rattle.std.specs.Prelude.{◌≡◌, ◌≢◌, ℕ, ◌+◌, ◌<◌, ◌≤◌, Bool, true, false, nat_eq, pos, List, length, set, get_or, Result, Ok, Err}
use Rattle.std.proofs.Common.{arith, inl, inr, refl, sym, ap, ◌∙◌, subst}
use Rattle.std.proofs.lemmas.Bool.{cases_eq, eqb-true, eq-eqb, false_from_ne_true}
use Rattle.std.proofs.lemmas.List.{get_or-set_same, get_or-set_other, get_or_default, length-set}
use Rattle.q128.specs.Fraction.{Fraction, whole}
use Rattle.q128.specs.declared.q.TooWide.{TooWide}
use Rattle.lp_lines.specs.Numbers.{place_of}
use Rattle.lp_lines.specs.inside.Lines.{divided, solved_number, rest_number, solved_unless, rest_unless, IsSolvedLine, FailsSolving, IsRestLine, FailsRest, here, other}

-- ---- one place on
pub made_more : (f : ℕ → Result Fraction TooWide) (xs : List Fraction) (p : ℕ) (y : Fraction) → p < length xs → ((u : ℕ) → u < p → f u ≡ Ok (place_of xs u)) → f p ≡ Ok y → (u : ℕ) → u < p + 1 → f u ≡ Ok (place_of (set xs p y) u)
made_more f xs p y lt before now u within = elim (cases_eq u p) [
  | inl same ↦ subst (λ n. f n ≡ Ok (place_of (set xs p y) n)) (sym same) (now ∙ ap Ok (sym (get_or-set_same xs p y (whole (pos 0)) lt)))
  | inr apart ↦ before u (omega arith) ∙ ap Ok (sym (get_or-set_other xs p u y (whole (pos 0)) apart))
]

pub left_less : (xs old : List Fraction) (p : ℕ) (y : Fraction) → ((u : ℕ) → p ≤ u → place_of xs u ≡ place_of old u) → (u : ℕ) → p + 1 ≤ u → place_of (set xs p y) u ≡ place_of old u
left_less xs old p y left u past = get_or-set_other xs p u y (whole (pos 0)) (λ same. absurd (omega arith)) ∙ left u (omega arith)

pub place_is : (xs : List Fraction) (p : ℕ) (x : Fraction) → p < length xs → x ≡ get_or xs p x → x ≡ place_of xs p
place_is xs p x lt e = e ∙ get_or_default xs p x (whole (pos 0)) lt

pub differs : (a b : ℕ) → a ≢ b → nat_eq a b ≡ false
differs a b h = false_from_ne_true (nat_eq a b) (λ t. h (eqb-true a b t))

-- ---- the line that is solved
solved_past : (b : Bool) (k q : Fraction) (r : Result Fraction TooWide) → b ≡ false → solved_unless b k q ≡ r → solved_number k q ≡ r
unfolding solved_unless
solved_past true k q r e h = absurd (cc)
solved_past false k q r e h = h

solved_fails : (b : Bool) (k q : Fraction) (e : TooWide) → solved_unless b k q ≡ Err e → (b ≡ false) × (solved_number k q ≡ Err e)
unfolding solved_unless
solved_fails true k q e h = absurd (cc)
solved_fails false k q e h = (refl, h)

pub line_solved : (column : ℕ) (before now : List Fraction) (k y : Fraction) → column < length before → length now ≡ length before → k ≡ place_of before column → divided (whole (pos 1)) k ≡ Ok y → ((u : ℕ) → u < length before → solved_unless (nat_eq u column) k (place_of before u) ≡ Ok (place_of now u)) → IsSolvedLine column before (set now column y)
line_solved column before now k y lt size is inverse made = record {
  size = length-set now column y ∙ size;
  here = ap (divided (whole (pos 1))) (sym is) ∙ inverse ∙ ap Ok (sym (get_or-set_same now column y (whole (pos 0)) (omega arith)));
  others = λ p within apart. ap (λ z. solved_number z (place_of before p)) (sym is) ∙ solved_past (nat_eq p column) k (place_of before p) (Ok (place_of now p)) (differs p column apart) (made p within) ∙ ap Ok (sym (get_or-set_other now column p y (whole (pos 0)) apart));
}

pub solving_fails : (column : ℕ) (before : List Fraction) (k : Fraction) (p : ℕ) (e : TooWide) → p < length before → k ≡ place_of before column → solved_unless (nat_eq p column) k (place_of before p) ≡ Err e → FailsSolving column before e
solving_fails column before k p e lt is h =
    let past = solved_fails (nat_eq p column) k (place_of before p) e h in
    other p lt (λ same. absurd (apart same past.0)) (ap (λ z. solved_number z (place_of before p)) (sym is) ∙ past.1)
  where
    apart : p ≡ column → nat_eq p column ≡ false → ⊥
    apart same not = let yes : nat_eq p column ≡ true = eq-eqb p column same in absurd (cc)

pub inverse_fails : (column : ℕ) (before : List Fraction) (k : Fraction) (e : TooWide) → k ≡ place_of before column → divided (whole (pos 1)) k ≡ Err e → FailsSolving column before e
inverse_fails column before k e is h = here (ap (divided (whole (pos 1))) (sym is) ∙ h)

-- ---- a line into which it is put
rest_past : (b : Bool) (s own q : Fraction) (r : Result Fraction TooWide) → b ≡ false → rest_unless b s own q ≡ r → rest_number s own q ≡ r
unfolding rest_unless
rest_past true s own q r e h = absurd (cc)
rest_past false s own q r e h = h

rest_fails : (b : Bool) (s own q : Fraction) (e : TooWide) → rest_unless b s own q ≡ Err e → (b ≡ false) × (rest_number s own q ≡ Err e)
unfolding rest_unless
rest_fails true s own q e h = absurd (cc)
rest_fails false s own q e h = (refl, h)

pub line_put : (column : ℕ) (pivot before now : List Fraction) (s : Fraction) → column < length before → length now ≡ length before → divided (place_of before column) (place_of pivot column) ≡ Ok s → ((u : ℕ) → u < length before → rest_unless (nat_eq u column) s (place_of before u) (place_of pivot u) ≡ Ok (place_of now u)) → IsRestLine column pivot before (set now column s)
line_put column pivot before now s lt size shared made = record {
  size = length-set now column s ∙ size;
  here = shared ∙ ap Ok (sym at);
  others = λ p within apart. ap (λ z. rest_number z (place_of before p) (place_of pivot p)) at ∙ rest_past (nat_eq p column) s (place_of before p) (place_of pivot p) (Ok (place_of now p)) (differs p column apart) (made p within) ∙ ap Ok (sym (get_or-set_other now column p s (whole (pos 0)) apart));
}
  where
    at : place_of (set now column s) column ≡ s
    at = get_or-set_same now column s (whole (pos 0)) (omega arith)

pub putting_fails : (column : ℕ) (pivot before : List Fraction) (s : Fraction) (p : ℕ) (e : TooWide) → p < length before → divided (place_of before column) (place_of pivot column) ≡ Ok s → rest_unless (nat_eq p column) s (place_of before p) (place_of pivot p) ≡ Err e → FailsRest column pivot before e
putting_fails column pivot before s p e lt shared h =
    let past = rest_fails (nat_eq p column) s (place_of before p) (place_of pivot p) e h in
    other s p shared lt (λ same. absurd (apart same past.0)) past.1
  where
    apart : p ≡ column → nat_eq p column ≡ false → ⊥
    apart same not = let yes : nat_eq p column ≡ true = eq-eqb p column same in absurd (cc)

pub differ_so : (a b : ℕ) → nat_eq a b ≡ false → a ≢ b
differ_so a b e same = let yes : nat_eq a b ≡ true = eq-eqb a b same in absurd (cc)
