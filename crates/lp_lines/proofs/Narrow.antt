-- Where the table's pivot comes to its end, none of the numbers of the pivot is too wide.
use Rattle.std.specs.Prelude.{◌≡◌, ◌≢◌, ℕ, ◌<◌, pos, List, length, Option, Some, None}
use Rattle.std.proofs.Common.{arith, sym, ap, ◌∙◌, subst}
use Rattle.q128.specs.Fraction.{Fraction, whole}
use Rattle.q128.specs.Rule.{sub_rule, mul_rule, div_rule, inverse_rule}
use Rattle.q128.specs.declared.q.TooWide.{TooWide}
use Rattle.lin_rows.specs.Linear.{Linear}
use Rattle.solver_paths.specs.Making.{rule_of, IsTooWide, Place, number_at, IsOther, IsBeside, PivotMakes, inverse, quotient, opposite, share, product, rest, IsNarrow}
use Rattle.lp_lines.specs.Numbers.{IsNumber, place_of}
use Rattle.lp_lines.specs.inside.Lines.{IsNext, put, stays}
use Rattle.lp_lines.specs.Tables.{Tableau, line_at, place_in, number_out, number_in, dictionary_of, IsTableau, HasPivotAt}
use Rattle.lp_lines.specs.inside.Moves.{IsPivotedAt}
use Rattle.lp_lines.proofs.Before.{index, number_is, pivot_is, pivot_line_is, share_is, index_within, index_other, line_within, line_other}
use Rattle.lp_lines.proofs.Steps.{NarrowSolved, NarrowRest, is_zero, divided_is, inverse_of, solved_narrow, rest_narrow}
use Rattle.lp_lines.proofs.Zeros.{none_times, none_over_it, less_none}

not_none : (o : Option Fraction) (y : Fraction) → o ≡ Some y → o ≡ None → ⊥
not_none o y e f = absurd (cc)

one_answer : (o : Option Fraction) (x y : Fraction) → o ≡ Some x → o ≡ Some y → x ≡ y
one_answer o x y e f = cc

next_divides : (column : ℕ) (pivot before after : List Fraction) → IsNext column pivot before after → IsNumber (place_of before column) → (h : Fraction) → inverse_rule (place_of pivot column) ≡ Some h → div_rule (place_of before column) (place_of pivot column) ≡ Some (place_of after column)
next_divides column pivot before after (put r) n h one = divided_is (place_of before column) (place_of pivot column) (place_of after column) r.here
next_divides column pivot before after (stays none kept) n h one =
    let zero : place_of before column ≡ whole (pos 0) = is_zero (place_of before column) n none in
    ap (λ z. div_rule z (place_of pivot column)) zero ∙ none_over_it (place_of pivot column) h one ∙ ap (λ (z : Fraction). Some z) (sym zero ∙ ap (λ xs. place_of xs column) (sym kept))

next_narrow : (column : ℕ) (pivot before after : List Fraction) (i : ℕ) → IsNext column pivot before after → ((j : ℕ) → IsNumber (place_of before j)) → IsNumber (place_of pivot i) → i < length before → i ≢ column → NarrowRest (place_of after column) (place_of before i) (place_of pivot i) (place_of after i)
next_narrow column pivot before after i (put r) numbers n within other = rest_narrow (place_of after column) (place_of before i) (place_of pivot i) (place_of after i) (numbers i) n (r.others i within other)
next_narrow column pivot before after i (stays none kept) numbers n within other =
    let zero : place_of after column ≡ whole (pos 0) = ap (λ xs. place_of xs column) kept ∙ is_zero (place_of before column) (numbers column) none in
    record {
      product = whole (pos 0);
      times = ap (λ z. mul_rule z (place_of pivot i)) zero ∙ none_times (place_of pivot i);
      less = less_none (place_of before i) (numbers i) ∙ ap (λ (z : Fraction). Some z) (ap (λ xs. place_of xs i) (sym kept));
    }

module _ {rows : List Linear} {t u : Tableau} {line column : ℕ} (is : IsTableau rows t) (has : HasPivotAt line column t) (p : IsPivotedAt line column t u) where
  abbrev r : ℕ
  r = number_out t line

  abbrev c : ℕ
  c = number_in t column

  abbrev k : Fraction
  k = place_of (line_at t line) column

  abbrev k_of : Fraction
  k_of = (dictionary_of t).coefficient r c

  inverse_is : div_rule (whole (pos 1)) k_of ≡ Some (place_of (line_at u line) column)
  inverse_is = ap (div_rule (whole (pos 1))) (pivot_is is has) ∙ divided_is (whole (pos 1)) k (place_of (line_at u line) column) p.solved.here

  solved_at : (q : Place) → IsOther t.chosen c q → NarrowSolved k_of (number_at (dictionary_of t) r q) (place_of (line_at u line) (index t.chosen q))
  solved_at q o =
      let i = index t.chosen q in
      let one = inverse_of (whole (pos 1)) k (place_of (line_at u line) column) p.solved.here in
      let long = has.widths line has.line_within in
      subst (λ z. NarrowSolved z (number_at (dictionary_of t) r q) (place_of (line_at u line) i)) (sym (pivot_is is has))
      (subst (λ z. NarrowSolved k z (place_of (line_at u line) i)) (sym (pivot_line_is is has q))
      (solved_narrow k (place_of (line_at t line) i) (place_of (line_at u line) i) (is.numbers line i) one.0 one.1 (p.solved.others i (omega (arith, long, index_within is has q o)) (index_other is has q o))))

  divides_at : (n : ℕ) → IsBeside rows t.chosen r n → div_rule ((dictionary_of t).coefficient n c) k_of ≡ Some (place_of (line_at u (place_in t.outside n)) column)
  divides_at n b =
      let h = place_in t.outside n in
      let one = inverse_of (whole (pos 1)) k (place_of (line_at u line) column) p.solved.here in
      ap (div_rule ((dictionary_of t).coefficient n c)) (pivot_is is has) ∙ ap (λ z. div_rule z k) (share_is is has n)
      ∙ next_divides column (line_at t line) (line_at t h) (line_at u h) (p.others h (line_within is has n b) (line_other is has n b)) (is.numbers h column) one.0 one.1

  rest_at : (n : ℕ) (q : Place) → IsBeside rows t.chosen r n → IsOther t.chosen c q → NarrowRest (place_of (line_at u (place_in t.outside n)) column) (number_at (dictionary_of t) n q) (number_at (dictionary_of t) r q) (place_of (line_at u (place_in t.outside n)) (index t.chosen q))
  rest_at n q b o =
      let h = place_in t.outside n in
      let i = index t.chosen q in
      let long = has.widths h (line_within is has n b) in
      subst (λ z. NarrowRest (place_of (line_at u h) column) z (number_at (dictionary_of t) r q) (place_of (line_at u h) i)) (sym (number_is t n q))
      (subst (λ z. NarrowRest (place_of (line_at u h) column) (place_of (line_at t h) i) z (place_of (line_at u h) i)) (sym (pivot_line_is is has q))
      (next_narrow column (line_at t line) (line_at t h) (line_at u h) i (p.others h (line_within is has n b) (line_other is has n b)) (is.numbers h) (is.numbers line i) (omega (arith, long, index_within is has q o)) (index_other is has q o)))

  -- the rule's answer where the operation is known
  abbrev none_at : TooWide → Type 0
  none_at w = rule_of w.op w.a w.b ≡ None

  fits : (w : TooWide) → PivotMakes rows t.chosen (dictionary_of t) r c w → IsTooWide w → ⊥
  fits w (inverse e) none = not_none (div_rule (whole (pos 1)) k_of) (place_of (line_at u line) column) inverse_is (subst none_at e none)
  fits w (quotient q o e) none =
      let s = solved_at q o in
      not_none (div_rule (number_at (dictionary_of t) r q) k_of) s.share s.quotient (subst none_at e none)
  fits w (opposite q x o made e) none =
      let s = solved_at q o in
      let same : x ≡ s.share = one_answer (div_rule (number_at (dictionary_of t) r q) k_of) x s.share made s.quotient in
      not_none (sub_rule (whole (pos 0)) s.share) (place_of (line_at u line) (index t.chosen q)) s.opposite (subst (λ z. sub_rule (whole (pos 0)) z ≡ None) same (subst none_at e none))
  fits w (share n b e) none = not_none (div_rule ((dictionary_of t).coefficient n c) k_of) (place_of (line_at u (place_in t.outside n)) column) (divides_at n b) (subst none_at e none)
  fits w (product n s q b o made e) none =
      let y = place_of (line_at u (place_in t.outside n)) column in
      let same : s ≡ y = one_answer (div_rule ((dictionary_of t).coefficient n c) k_of) s y made (divides_at n b) in
      let m = rest_at n q b o in
      not_none (mul_rule y (number_at (dictionary_of t) r q)) m.product m.times (subst (λ z. mul_rule z (number_at (dictionary_of t) r q) ≡ None) same (subst none_at e none))
  fits w (rest n s x q b o made multiplied e) none =
      let y = place_of (line_at u (place_in t.outside n)) column in
      let same : s ≡ y = one_answer (div_rule ((dictionary_of t).coefficient n c) k_of) s y made (divides_at n b) in
      let m = rest_at n q b o in
      let also : x ≡ m.product = one_answer (mul_rule y (number_at (dictionary_of t) r q)) x m.product (subst (λ z. mul_rule z (number_at (dictionary_of t) r q) ≡ Some x) same multiplied) m.times in
      not_none (sub_rule (number_at (dictionary_of t) n q) m.product) (place_of (line_at u (place_in t.outside n)) (index t.chosen q)) m.less (subst (λ z. sub_rule (number_at (dictionary_of t) n q) z ≡ None) also (subst none_at e none))

  pub narrow_pivot : IsNarrow rows t.chosen (dictionary_of t) r c
  narrow_pivot = record { each = fits }
