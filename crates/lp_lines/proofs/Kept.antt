-- A pivot of the table keeps what it is: the dictionary of its choice.
use Rattle.std.specs.Prelude.{◌≡◌, ◌≢◌, ℕ, suc, ◌<◌, ◌≤◌, pos, List, [], length, set, Contains}
use Rattle.std.proofs.Common.{arith, inl, inr, sym, ap, ◌∙◌, subst, lit<}
use Rattle.std.proofs.lemmas.Bool.{cases_eq, cases_lt}
use Rattle.std.proofs.lemmas.List.{length-set, get_or_past}
use Rattle.std.proofs.lemmas.List.Elements.{All-contains}
use Rattle.q128.specs.Fraction.{Fraction, whole, IsSame, negative, plus, times}
use Rattle.fraction_laws.proofs.Same.{Same, same, ◌∘◌, sums, no_more, of_none}
use Rattle.lin_rows.specs.Linear.{Linear}
use Rattle.solver_paths.specs.Choices.{number_count, IsOut, IsDictionary}
use Rattle.solver_paths.specs.Pivots.{replaced}
use Rattle.solver_paths.specs.Making.{Place, Constant, Of, number_at, IsOther, IsBeside}
use Rattle.solver_paths.specs.Dictionaries.{IsPivoted}
use Rattle.solver_paths.proofs.Pivoting.{pivots_keep}
use Rattle.solver_paths.proofs.Chosen.{replaced_had, replaced_has, replaced_keeps, replaced_lost}
use Rattle.lp_lines.specs.Numbers.{IsNumber, place_of}
use Rattle.lp_lines.specs.inside.Lines.{IsSolvedLine, IsRestLine, IsNext, put, stays}
use Rattle.lp_lines.specs.Tables.{Tableau, line_at, AreApart, place_in, number_out, number_in, dictionary_of, IsTableau, HasPivotAt}
use Rattle.lp_lines.specs.inside.Moves.{IsPivotedAt}
use Rattle.lp_lines.proofs.Places.{set_apart, set_place, kept_place, set_replaces, set_has, set_keeps, set_had}
use Rattle.lp_lines.proofs.Before.{index, number_is, chosen_apart, entering_out, leaving_chosen, leaving_new, pivot_is, pivot_line_is, share_is, index_within, index_other, line_within, line_other}
use Rattle.lp_lines.proofs.Exact.{quotient_is, solved_exact, rest_exact}
use Rattle.lp_lines.proofs.Fitting.{whole_number, number_lowest}
use Rattle.lp_lines.proofs.Steps.{is_zero, solved_narrow, rest_narrow, inverse_of, divided_number, solved_keeps, rest_keeps}

zero_number : IsNumber (whole (pos 0))
zero_number = whole_number (pos 0) (lit< tt)

one_number : IsNumber (whole (pos 1))
one_number = whole_number (pos 1) (lit< tt)

-- ---- the numbers of a line after the pivot
past_line : (xs : List Fraction) (p : ℕ) → length xs ≤ p → IsNumber (place_of xs p)
past_line xs p le = subst IsNumber (sym (get_or_past xs p (whole (pos 0)) le)) zero_number

solved_numbers : (column : ℕ) (before after : List Fraction) → column < length before → IsSolvedLine column before after → ((p : ℕ) → IsNumber (place_of before p)) → (p : ℕ) → IsNumber (place_of after p)
solved_numbers column before after within s numbers p = elim (cases_lt p (length before)) [
  | inr le ↦ past_line after p (omega (arith, s.size))
  | inl lt ↦ elim (cases_eq p column) [
    | inl here ↦ subst (λ i. IsNumber (place_of after i)) (sym here) (divided_number (whole (pos 1)) (place_of before column) (place_of after column) one_number (numbers column) s.here)
    | inr other ↦
        let inverse = inverse_of (whole (pos 1)) (place_of before column) (place_of after column) s.here in
        solved_keeps (place_of before column) (place_of before p) (place_of after p) (numbers column) (numbers p) zero_number
        (solved_narrow (place_of before column) (place_of before p) (place_of after p) (numbers p) inverse.0 inverse.1 (s.others p lt other))
  ]
]

rest_numbers : (column : ℕ) (pivot before after : List Fraction) → IsRestLine column pivot before after → ((p : ℕ) → IsNumber (place_of pivot p)) → ((p : ℕ) → IsNumber (place_of before p)) → (p : ℕ) → IsNumber (place_of after p)
rest_numbers column pivot before after r pivots numbers p =
    let share = divided_number (place_of before column) (place_of pivot column) (place_of after column) (numbers column) (pivots column) r.here in
    elim (cases_lt p (length before)) [
      | inr le ↦ past_line after p (omega (arith, r.size))
      | inl lt ↦ elim (cases_eq p column) [
        | inl here ↦ subst (λ i. IsNumber (place_of after i)) (sym here) share
        | inr other ↦
            rest_keeps (place_of after column) (place_of before p) (place_of pivot p) (place_of after p) share (numbers p) (pivots p)
            (rest_narrow (place_of after column) (place_of before p) (place_of pivot p) (place_of after p) (numbers p) (pivots p) (r.others p lt other))
      ]
    ]

next_numbers : (column : ℕ) (pivot before after : List Fraction) → IsNext column pivot before after → ((p : ℕ) → IsNumber (place_of pivot p)) → ((p : ℕ) → IsNumber (place_of before p)) → (p : ℕ) → IsNumber (place_of after p)
next_numbers column pivot before after (put r) pivots numbers p = rest_numbers column pivot before after r pivots numbers p
next_numbers column pivot before after (stays none same) pivots numbers p = subst (λ xs. IsNumber (place_of xs p)) (sym same) (numbers p)

next_size : (column : ℕ) (pivot before after : List Fraction) → IsNext column pivot before after → length after ≡ length before
next_size column pivot before after (put r) = r.size
next_size column pivot before after (stays none same) = ap (λ (xs : List Fraction). length xs) same

-- ---- its equations
next_share : (column : ℕ) (pivot before after : List Fraction) → IsNext column pivot before after → ((p : ℕ) → IsNumber (place_of before p)) → Same (times (place_of after column) (place_of pivot column)) (place_of before column)
next_share column pivot before after (put r) numbers = quotient_is (place_of before column) (place_of pivot column) (place_of after column) r.here
next_share column pivot before after (stays none kept) numbers =
    let zero : place_of before column ≡ whole (pos 0) = is_zero (place_of before column) (numbers column) none in
    subst (λ xs. Same (times (place_of xs column) (place_of pivot column)) (place_of before column)) (sym kept)
    (subst (λ z. Same (times z (place_of pivot column)) z) (sym zero) (of_none (place_of pivot column)))

next_rest : (column : ℕ) (pivot before after : List Fraction) (p : ℕ) → IsNext column pivot before after → ((p : ℕ) → IsNumber (place_of before p)) → p < length before → p ≢ column → Same (plus (place_of after p) (times (place_of after column) (place_of pivot p))) (place_of before p)
next_rest column pivot before after p (put r) numbers within other = rest_exact (place_of after column) (place_of before p) (place_of pivot p) (place_of after p) (r.others p within other)
next_rest column pivot before after p (stays none kept) numbers within other =
    let zero : place_of before column ≡ whole (pos 0) = is_zero (place_of before column) (numbers column) none in
    subst (λ xs. Same (plus (place_of xs p) (times (place_of xs column) (place_of pivot p))) (place_of before p)) (sym kept)
    (subst (λ z. Same (plus (place_of before p) (times z (place_of pivot p))) (place_of before p)) (sym zero) (sums same (of_none (place_of pivot p)) ∘ no_more (place_of before p)))

-- ---- the table
module _ {rows : List Linear} {t u : Tableau} {line column : ℕ} (is : IsTableau rows t) (has : HasPivotAt line column t) (p : IsPivotedAt line column t u) where
  abbrev r : ℕ
  r = number_out t line

  abbrev c : ℕ
  c = number_in t column

  chosen_is : u.chosen ≡ set t.chosen column r
  chosen_is = p.chosen

  outside_is : u.outside ≡ set t.outside line c
  outside_is = p.outside

  width : length u.chosen ≡ length t.chosen
  width = ap (λ (xs : List ℕ). length xs) chosen_is ∙ length-set t.chosen column r

  pub choice_after : u.chosen ≡ replaced r c t.chosen
  choice_after = chosen_is ∙ set_replaces t.chosen column r (chosen_apart is has) has.column_within

  line_after : place_in u.outside c ≡ line
  line_after = subst (λ xs. place_in xs c ≡ line) (sym outside_is) (set_place t.outside line c is.apart (leaving_new is has) has.outside_within)

  column_after : place_in u.chosen r ≡ column
  column_after = subst (λ xs. place_in xs r ≡ column) (sym chosen_is) (set_place t.chosen column r (chosen_apart is has) (entering_out is has).apart has.column_within)

  index_after : (q : Place) → IsOther t.chosen c q → index u.chosen q ≡ index t.chosen q
  unfolding index
  index_after Constant o = width
  index_after (Of s) o = subst (λ xs. place_in xs s ≡ place_in t.chosen s) (sym chosen_is) (kept_place t.chosen column r s (chosen_apart is has) (entering_out is has).apart has.column_within o.0 o.1)

  beside_after : (n : ℕ) → IsBeside rows t.chosen r n → place_in u.outside n ≡ place_in t.outside n
  beside_after n b = subst (λ xs. place_in xs n ≡ place_in t.outside n) (sym outside_is) (kept_place t.outside line c n is.apart (leaving_new is has) has.outside_within ((is.outside n).0 b.out) b.other)

  abbrev k : Fraction
  k = place_of (line_at t line) column

  -- the numbers, by lines and columns
  solved_at : (q : Place) → IsOther t.chosen c q → number_at (dictionary_of u) c q ≡ place_of (line_at u line) (index t.chosen q)
  solved_at q o = number_is u c q ∙ ap (λ h. place_of (line_at u h) (index u.chosen q)) line_after ∙ ap (place_of (line_at u line)) (index_after q o)

  rest_at : (n : ℕ) (q : Place) → IsBeside rows t.chosen r n → IsOther t.chosen c q → number_at (dictionary_of u) n q ≡ place_of (line_at u (place_in t.outside n)) (index t.chosen q)
  rest_at n q b o = number_is u n q ∙ ap (λ h. place_of (line_at u h) (index u.chosen q)) (beside_after n b) ∙ ap (place_of (line_at u (place_in t.outside n))) (index_after q o)

  share_at : (n : ℕ) → IsBeside rows t.chosen r n → (dictionary_of u).coefficient n r ≡ place_of (line_at u (place_in t.outside n)) column
  share_at n b = ap (λ h. place_of (line_at u h) (place_in u.chosen r)) (beside_after n b) ∙ ap (place_of (line_at u (place_in t.outside n))) column_after

  next_at : (n : ℕ) → IsBeside rows t.chosen r n → IsNext column (line_at t line) (line_at t (place_in t.outside n)) (line_at u (place_in t.outside n))
  next_at n b = p.others (place_in t.outside n) (line_within is has n b) (line_other is has n b)

  unit : IsSame (times ((dictionary_of u).coefficient c r) ((dictionary_of t).coefficient r c)) (whole (pos 1))
  unit =
      let z = place_of (line_at u line) column in
      let at : (dictionary_of u).coefficient c r ≡ z = ap (λ h. place_of (line_at u h) (place_in u.chosen r)) line_after ∙ ap (place_of (line_at u line)) column_after in
      subst (λ y. IsSame (times y ((dictionary_of t).coefficient r c)) (whole (pos 1))) (sym at)
      (subst (λ y. IsSame (times z y) (whole (pos 1))) (sym (pivot_is is has)) (quotient_is (whole (pos 1)) k z p.solved.here).is)

  solved : (q : Place) → IsOther t.chosen c q → IsSame (times (number_at (dictionary_of u) c q) ((dictionary_of t).coefficient r c)) (negative (number_at (dictionary_of t) r q))
  solved q o =
      let i = index t.chosen q in
      let long = has.widths line has.line_within in
      let exact = solved_exact k (place_of (line_at t line) i) (place_of (line_at u line) i) (p.solved.others i (omega (arith, long, index_within is has q o)) (index_other is has q o)) in
      subst (λ y. IsSame (times y ((dictionary_of t).coefficient r c)) (negative (number_at (dictionary_of t) r q))) (sym (solved_at q o))
      (subst (λ y. IsSame (times (place_of (line_at u line) i) y) (negative (number_at (dictionary_of t) r q))) (sym (pivot_is is has))
      (subst (λ y. IsSame (times (place_of (line_at u line) i) k) (negative y)) (sym (pivot_line_is is has q)) exact.is))

  shares : (n : ℕ) → IsBeside rows t.chosen r n → IsSame (times ((dictionary_of u).coefficient n r) ((dictionary_of t).coefficient r c)) ((dictionary_of t).coefficient n c)
  shares n b =
      let h = place_in t.outside n in
      subst (λ y. IsSame (times y ((dictionary_of t).coefficient r c)) ((dictionary_of t).coefficient n c)) (sym (share_at n b))
      (subst (λ y. IsSame (times (place_of (line_at u h) column) y) ((dictionary_of t).coefficient n c)) (sym (pivot_is is has))
      (subst (λ y. IsSame (times (place_of (line_at u h) column) k) y) (sym (share_is is has n)) (next_share column (line_at t line) (line_at t h) (line_at u h) (next_at n b) (is.numbers h)).is))

  rests : (n : ℕ) (q : Place) → IsBeside rows t.chosen r n → IsOther t.chosen c q → IsSame (plus (number_at (dictionary_of u) n q) (times ((dictionary_of u).coefficient n r) (number_at (dictionary_of t) r q))) (number_at (dictionary_of t) n q)
  rests n q b o =
      let h = place_in t.outside n in
      let i = index t.chosen q in
      let long = has.widths h (line_within is has n b) in
      let exact = next_rest column (line_at t line) (line_at t h) (line_at u h) i (next_at n b) (is.numbers h) (omega (arith, long, index_within is has q o)) (index_other is has q o) in
      subst (λ y. IsSame (plus y (times ((dictionary_of u).coefficient n r) (number_at (dictionary_of t) r q))) (number_at (dictionary_of t) n q)) (sym (rest_at n q b o))
      (subst (λ y. IsSame (plus (place_of (line_at u h) i) (times y (number_at (dictionary_of t) r q))) (number_at (dictionary_of t) n q)) (sym (share_at n b))
      (subst (λ y. IsSame (plus (place_of (line_at u h) i) (times (place_of (line_at u h) column) y)) (number_at (dictionary_of t) n q)) (sym (pivot_line_is is has q))
      (subst (λ y. IsSame (plus (place_of (line_at u h) i) (times (place_of (line_at u h) column) (place_of (line_at t line) i))) y) (sym (number_is t n q)) exact.is)))

  numbers_after : (h i : ℕ) → IsNumber (place_of (line_at u h) i)
  numbers_after h i = elim (cases_lt h (length t.lines)) [
    | inr le ↦ subst (λ xs. IsNumber (place_of xs i)) (sym (get_or_past u.lines h [] (omega (arith, p.size)))) (past_line [] i (omega arith))
    | inl lt ↦ elim (cases_eq h line) [
      | inl here ↦ subst (λ g. IsNumber (place_of (line_at u g) i)) (sym here) (solved_numbers column (line_at t line) (line_at u line) (omega (arith, has.column_within, has.widths line has.line_within)) p.solved (is.numbers line) i)
      | inr other ↦ next_numbers column (line_at t line) (line_at t h) (line_at u h) (p.others h lt other) (is.numbers line) (is.numbers h) i
    ]
  ]

  pivoted : IsPivoted rows t.chosen (dictionary_of t) r c (dictionary_of u)
  pivoted = record {
    unit = unit;
    solved = solved;
    shares = shares;
    rests = rests;
    constants = λ n. number_lowest ((dictionary_of u).constant n) (numbers_after (place_in u.outside n) (length u.chosen));
    coefficients = λ n s. number_lowest ((dictionary_of u).coefficient n s) (numbers_after (place_in u.outside n) (place_in u.chosen s));
  }

  dictionary_after : IsDictionary rows u.chosen (dictionary_of u)
  dictionary_after = subst (λ cs. IsDictionary rows cs (dictionary_of u)) (sym choice_after) (pivots_keep rows t.chosen (dictionary_of t) (dictionary_of u) r c is.dictionary (entering_out is has) (leaving_chosen is has) pivoted)

  widths_after : (h : ℕ) → h < length u.lines → length (line_at u h) ≡ suc (length u.chosen)
  widths_after h within =
      let lt : h < length t.lines = omega (arith, p.size) in
      elim (cases_eq h line) [
        | inl here ↦ subst (λ g. length (line_at u g) ≡ suc (length u.chosen)) (sym here) (omega (arith, p.solved.size, has.widths line has.line_within, width))
        | inr other ↦ omega (arith, next_size column (line_at t line) (line_at t h) (line_at u h) (p.others h lt other), has.widths h lt, width)
      ]

  -- the numbers outside
  apart_numbers : c ≢ r
  apart_numbers e = (entering_out is has).apart (subst (Contains t.chosen) e (leaving_chosen is has))

  leaves_out : IsOut rows u.chosen c
  leaves_out = record {
    within = All-contains (λ (n : ℕ). n < number_count rows) t.chosen c is.dictionary.below (leaving_chosen is has);
    apart = λ h. replaced_lost r c t.chosen apart_numbers (subst (λ cs. Contains cs c) choice_after h);
  }

  stays_out : (n : ℕ) → IsOut rows t.chosen n → n ≢ r → IsOut rows u.chosen n
  stays_out n out other = record {
    within = out.within;
    apart = λ h. elim (replaced_had r c n t.chosen (subst (λ cs. Contains cs n) choice_after h)) [ inl e ↦ other e | inr both ↦ out.apart both.0 ];
  }

  out_listed : (n : ℕ) → IsOut rows u.chosen n → Contains (set t.outside line c) n
  out_listed n out = elim (cases_eq n c) [
    | inl same ↦ subst (Contains (set t.outside line c)) (sym same) (set_has t.outside line c has.outside_within)
    | inr other ↦
        let before : IsOut rows t.chosen n = record {
          within = out.within;
          apart = λ h. out.apart (subst (λ cs. Contains cs n) (sym choice_after) (replaced_keeps r c n t.chosen other h));
        } in
        let apart : n ≢ r = λ e. out.apart (subst (λ cs. Contains cs n) (sym choice_after) (subst (Contains (replaced r c t.chosen)) (sym e) (replaced_has r c t.chosen (leaving_chosen is has)))) in
        set_keeps t.outside line c n ((is.outside n).0 before) apart
  ]

  listed_out : (n : ℕ) → Contains (set t.outside line c) n → IsOut rows u.chosen n
  listed_out n there = elim (set_had t.outside line c n is.apart has.outside_within there) [
    | inl same ↦ subst (IsOut rows u.chosen) (sym same) leaves_out
    | inr both ↦ stays_out n ((is.outside n).1 both.0) both.1
  ]

  pub tableau_after : IsTableau rows u
  tableau_after = record {
    lines = omega (arith, p.size, is.lines, ap (λ (xs : List ℕ). length xs) outside_is, length-set t.outside line c);
    widths = widths_after;
    apart = subst AreApart (sym outside_is) (set_apart t.outside line c is.apart (leaving_new is has) has.outside_within);
    outside = λ n. (λ out. subst (λ xs. Contains xs n) (sym outside_is) (out_listed n out), λ there. listed_out n (subst (λ xs. Contains xs n) outside_is there));
    numbers = numbers_after;
    dictionary = dictionary_after;
  }
