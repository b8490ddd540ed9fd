-- The multipliers of a stuck choice contradict the rows.
use Rattle.std.specs.Prelude.{◌≡◌, ◌≢◌, ◌⊎◌, ℕ, zero, suc, ◌+◌, ◌-◌, ◌<◌, ◌≤◌, false, if◌then◌else◌, ◌*◌, ℤ, pos, negsuc, neg_ℤ, ◌*ℤ◌, ◌≤ℤ◌, nat_eq, List, [], ◌∷◌, length, Option, Some, None, AllPairs, Contains}
use Rattle.std.specs.List.{IsDistinct}
use Rattle.std.proofs.Common.{arith, inl, inr, refl, sym, ap, ◌∙◌, subst}
use Rattle.std.proofs.lemmas.Bool.{cases_lt, cases_eq, eq-eqb}
use Rattle.std.proofs.lemmas.Int.{ints}
use Rattle.std.proofs.lemmas.List.{get_or_past}
use Rattle.std.proofs.lemmas.List.Elements.{All-contains, recursion_from_All}
use Rattle.q128.specs.Fraction.{Fraction, whole, IsSame, plus, negative, times}
use Rattle.q128.specs.Rule.{sub_rule}
use Rattle.q128.specs.declared.q.TooWide.{TooWide}
use Rattle.q128.specs.declared.q.QOp.TheVariants.{Sub}
use Rattle.q128.proofs.Exact.{sub-exact}
use Rattle.q128.proofs.Ordered.{minus_is}
use Rattle.common_laws.proofs.Members.{contains_head, contains_tail, contains_cases, contains_none}
use Rattle.common_laws.proofs.Orders.{head_before, tail_pairs}
use Rattle.fraction_laws.proofs.Signs.{signs_agree}
use Rattle.fraction_laws.proofs.Same.{Same, same, back, ◌∘◌, sums, products, negatives, regroup, no_more, none_more, opposed, of_none, by_none, share_out, negative_left, once, take_away}
use Rattle.lin_rows.specs.Linear.{Linear, coefficient_of, row_at}
use Rattle.lin_rows.specs.Proving.{Multipliers, sum_coefficient, sum_constant, Contradicts}
use Rattle.lin_rows.proofs.Totals.{room_everywhere}
use Rattle.lin_rows.proofs.LongestRows.{longest_room}
use Rattle.solver_paths.specs.Choices.{variable_count, number_count, row_number, row_of, first_choice, IsRow, Solves, Dictionary, expressed, IsDictionary}
use Rattle.solver_paths.specs.Pivots.{IsStuck}
use Rattle.solver_paths.specs.Making.{IsTooWide}
use Rattle.solver_paths.specs.Dictionaries.{rows_dictionary}
use Rattle.solver_paths.specs.Certificates.{IsFactor, own, chosen, IsFarkas, CertificateMakes, opposite}
use Rattle.solver_paths.proofs.Basics.{at_zeros}
use Rattle.solver_paths.proofs.Clashes.{none_of_variable, low_of_row}
use Rattle.solver_paths.proofs.Unique.{unit_at, at_unit, filled, filled_out, filled_expresses}
use Rattle.solver_paths.proofs.Totals.{total, expressed_total, rest_of, rest_there, rest_past, taken, total_each}
use Rattle.solver_paths.proofs.Pivoting.{all_members, differs}
use Rattle.solver_paths.proofs.Starting.{rows_start, range_has, row_is_out}
use Rattle.solver_paths.proofs.Points.{Before, rising_pairs, row_at_place}

-- the number of the row that a multiplier names
abbrev pub number_of : ℕ → ℕ × Fraction → ℕ
number_of first p = first + (p.0 - 1)

-- the values of the rows times their factors
pub weighted : ℕ → Multipliers → (ℕ → Fraction) → Fraction
weighted first [] x = whole (pos 0)
weighted first (p ∷ m) x = plus (times p.1 (x (number_of first p))) (weighted first m x)

-- ---- as a sum over other numbers
pub record Matches (first : ℕ) (m : Multipliers) (x f : ℕ → Fraction) (ys : List ℕ) : Type 0 where
  each : (p : ℕ × Fraction) → Contains m p → Contains ys (number_of first p) × Same (times p.1 (x (number_of first p))) (f (number_of first p))
  rest : (n : ℕ) → Contains ys n → Same (f n) (whole (pos 0)) ⊎ ((p : ℕ × Fraction) × Contains m p × (number_of first p ≡ n))
  rising : AllPairs Before m
  low : (p : ℕ × Fraction) → Contains m p → 0 < p.0

all_none : (f : ℕ → Fraction) (ys : List ℕ) → ((n : ℕ) → Contains ys n → Same (f n) (whole (pos 0))) → Same (total f ys (whole (pos 0))) (whole (pos 0))
unfolding total
all_none f [] none = same
all_none f (y ∷ ys) none = sums (none y (contains_head y ys)) (all_none f ys (λ n h. none n (contains_tail y ys n h))) ∘ no_more (whole (pos 0))

later_number : (first : ℕ) (a b : ℕ × Fraction) → 0 < a.0 → Before a b → number_of first b ≡ number_of first a → ⊥
later_number first a b low lt e = omega arith

matches_tail : (first : ℕ) (p : ℕ × Fraction) (m : Multipliers) (x f : ℕ → Fraction) (ys : List ℕ) → Matches first (p ∷ m) x f ys → Matches first m x (rest_of f (number_of first p)) ys
matches_tail first p m x f ys h = record {
  each = λ q there.
      let all = h.each q (contains_tail p m q there) in
      let apart = later_number first p q (h.low p (contains_head p m)) (head_before Before p m q h.rising there) in
      (all.0, subst (Same (times q.1 (x (number_of first q)))) (sym (rest_past f (number_of first p) (number_of first q) (differs (number_of first q) (number_of first p) apart))) all.1);
  rest = λ n there. elim (cases_eq n (number_of first p)) [
    | inl at ↦ inl (subst (λ z. Same z (whole (pos 0))) (sym (ap (rest_of f (number_of first p)) at ∙ rest_there f (number_of first p))) same)
    | inr apart ↦
        let past : rest_of f (number_of first p) n ≡ f n = rest_past f (number_of first p) n (differs n (number_of first p) apart) in
        elim (h.rest n there) [
          | inl none ↦ inl (subst (λ z. Same z (whole (pos 0))) (sym past) none)
          | inr found ↦ elim (contains_cases p m found.0 found.1) [
            | inl is ↦ absurd (apart (sym found.2 ∙ ap (number_of first) (sym is)))
            | inr later ↦ inr (found.0, later, found.2)
          ]
        ]
  ];
  rising = tail_pairs Before p m h.rising;
  low = λ q there. h.low q (contains_tail p m q there);
}

pub matched : (first : ℕ) (m : Multipliers) (x f : ℕ → Fraction) (ys : List ℕ) → IsDistinct nat_eq ys → Matches first m x f ys → Same (weighted first m x) (total f ys (whole (pos 0)))
unfolding weighted
matched first [] x f ys distinct h = back (all_none f ys none)
  where
    none : (n : ℕ) → Contains ys n → Same (f n) (whole (pos 0))
    none n there = elim (h.rest n there) [ inl e ↦ e | inr found ↦ absurd (contains_none found.0 found.1) ]
matched first (p ∷ m) x f ys distinct h =
    let here = h.each p (contains_head p m) in
    sums here.1 (matched first m x (rest_of f (number_of first p)) ys distinct (matches_tail first p m x f ys h)) ∘ back (taken f ys (number_of first p) (whole (pos 0)) distinct here.0)

-- ---- what the rows are worth together at each solution
pub opposed_total : (f : ℕ → Fraction) (cs : List ℕ) (z : Fraction) → Same (plus (total f cs z) (total (λ s. negative (f s)) cs (whole (pos 0)))) z
unfolding total
opposed_total f [] z = no_more z
opposed_total f (c ∷ cs) z = regroup (f c) (total f cs z) (negative (f c)) (total (λ s. negative (f s)) cs (whole (pos 0))) ∘ sums (opposed (f c)) (opposed_total f cs z) ∘ none_more z

-- ---- the factors that the stuck choice gives
same_none : (y : Fraction) → y.num ≡ pos 0 → Same y (whole (pos 0))
same_none y e = record { is = ap (λ n. n *ℤ pos 1) e ∙ none (suc y.den_less_one) }
  where
    none : (d : ℕ) → pos 0 *ℤ pos 1 ≡ pos 0 *ℤ pos d
    none d = ap pos (is d)
      where
        is : (d : ℕ) → 0 * 1 ≡ 0 * d
        is d = omega arith

opposite_of : (k q : Fraction) → sub_rule (whole (pos 0)) k ≡ Some q → Same q (negative k)
opposite_of k q made =
    let exact : Same q (plus (whole (pos 0)) (negative k)) = record { is = subst (IsSame q) (minus_is (whole (pos 0)) k) (sub-exact (whole (pos 0)) k q made) } in
    exact ∘ none_more (negative k)

none_or_some : (z : ℤ) → (z ≡ pos 0) ⊎ (z ≢ pos 0)
none_or_some (pos zero) = inl refl
none_or_some (pos (suc n)) = inr (λ e. absurd (cc))
none_or_some (negsuc n) = inr (λ e. absurd (cc))

made_or_not : (o : Option Fraction) → ((q : Fraction) × (o ≡ Some q)) ⊎ (o ≡ None)
made_or_not (Some q) = inl (q, refl)
made_or_not None = inr refl

module _ {rows : List Linear} {choice : List ℕ} {d : Dictionary} {r : ℕ} {m : Multipliers} (is : IsDictionary rows choice d) (stuck : IsStuck rows choice d r) (farkas : IsFarkas rows choice d r m) (certified : (w : TooWide) → CertificateMakes rows choice d w → IsTooWide w → ⊥) where
  factor_of : (p : ℕ × Fraction) → Contains m p → IsFactor rows choice d r (number_of (variable_count rows) p) p.1
  factor_of p there =
      let low = All-contains (λ (q : ℕ × Fraction). (0 < q.0) × (q.0 ≤ length rows)) m p farkas.numbers.each there in
      let k = p.0 - 1 in
      let row : IsRow rows (variable_count rows + k) = row_at_place rows k (omega (arith, low.0, low.1)) in
      let number : row_number rows (variable_count rows + k) ≡ p.0 = omega (arith, low.0) in
      (farkas.each (variable_count rows + k) p.1 row).0 (subst (Contains m) (sym (ap (λ (n : ℕ). (n, p.1)) number)) there)

  -- what r and the chosen numbers bring
  brings : (ℕ → Fraction) → ℕ → Fraction
  brings x n = if nat_eq n r then x r else negative (times (d.coefficient r n) (x n))

  brings_own : (x : ℕ → Fraction) → brings x r ≡ x r
  unfolding brings
  brings_own x = ap (λ b. if b then x r else negative (times (d.coefficient r r) (x r))) (eq-eqb r r refl)

  brings_chosen : (x : ℕ → Fraction) (n : ℕ) → Contains choice n → brings x n ≡ negative (times (d.coefficient r n) (x n))
  unfolding brings
  brings_chosen x n there = ap (λ b. if b then x r else negative (times (d.coefficient r n) (x n))) (differs n r (λ e. stuck.worst.out.apart (subst (Contains choice) e there)))

  brought : (x : ℕ → Fraction) (n : ℕ) (q : Fraction) → IsFactor rows choice d r n q → Contains (r ∷ choice) n × Same (times q (x n)) (brings x n)
  brought x n q (own at one) =
      (subst (Contains (r ∷ choice)) (sym at) (contains_head r choice), subst (λ k. Same (times q (x k)) (brings x k)) (sym at) (subst (λ z. Same (times z (x r)) (brings x r)) (sym one) (subst (Same (times (whole (pos 1)) (x r))) (sym (brings_own x)) (once (x r)))))
  brought x n q (chosen there some made) =
      (contains_tail r choice n there, subst (Same (times q (x n))) (sym (brings_chosen x n there)) (products (opposite_of (d.coefficient r n) q made) same ∘ negative_left (d.coefficient r n) (x n)))

  own_found : (p : ℕ × Fraction) × Contains m p × (number_of (variable_count rows) p ≡ r)
  own_found =
      let past = stuck.worst.row.past_variables in
      ((row_number rows r, whole (pos 1)), (farkas.each r (whole (pos 1)) stuck.worst.row).1 (own refl refl), omega (arith, past))

  row_found : (n : ℕ) → IsRow rows n → Contains choice n → (d.coefficient r n).num ≢ pos 0 → (p : ℕ × Fraction) × Contains m p × (number_of (variable_count rows) p ≡ n)
  row_found n row there some = elim (made_or_not (sub_rule (whole (pos 0)) (d.coefficient r n))) [
    | inl made ↦ let past = row.past_variables in ((row_number rows n, made.0), (farkas.each n made.0 row).1 (chosen there some made.1), omega (arith, past))
    | inr none ↦ absurd (certified (record { a = whole (pos 0); b = d.coefficient r n; op = Sub }) (opposite r n stuck row there refl) none)
  ]

  chosen_found : (x : ℕ → Fraction) (n : ℕ) → Contains choice n → Same (brings x n) (whole (pos 0)) ⊎ ((p : ℕ × Fraction) × Contains m p × (number_of (variable_count rows) p ≡ n))
  chosen_found x n there = elim (none_or_some (d.coefficient r n).num) [
    | inl none ↦ inl (nothing_brought none)
    | inr some ↦ elim (cases_lt n (variable_count rows)) [
      | inl lt ↦ absurd (some (none_of_variable rows (d.coefficient r n) n (stuck.none n there) lt))
      | inr le ↦ inr (row_found n (record { past_variables = le; within = All-contains (λ (k : ℕ). k < number_count rows) choice n is.below there }) there some)
    ]
  ]
    where
      nothing_brought : (d.coefficient r n).num ≡ pos 0 → Same (brings x n) (whole (pos 0))
      nothing_brought none = subst (λ z. Same z (whole (pos 0))) (sym (brings_chosen x n there)) (negatives (products (same_none (d.coefficient r n) none) same ∘ of_none (x n)))

  all_distinct : IsDistinct nat_eq (r ∷ choice)
  unfolding IsDistinct
  all_distinct = (recursion_from_All (λ y. nat_eq r y ≡ false) choice (all_members (λ y. nat_eq r y ≡ false) choice (λ y h. differs r y (λ e. stuck.worst.out.apart (subst (Contains choice) (sym e) h)))), is.distinct)

  matching : (x : ℕ → Fraction) → Matches (variable_count rows) m x (brings x) (r ∷ choice)
  matching x = record {
    each = λ p there. brought x (number_of (variable_count rows) p) p.1 (factor_of p there);
    rest = λ n there. elim (contains_cases r choice n there) [
      | inl at ↦ inr (own_found.0, own_found.1, own_found.2 ∙ at)
      | inr later ↦ chosen_found x n later
    ];
    rising = rising_pairs m farkas.rising;
    low = λ p there. (All-contains (λ (q : ℕ × Fraction). (0 < q.0) × (q.0 ≤ length rows)) m p farkas.numbers.each there).0;
  }

  worth : (x : ℕ → Fraction) → Solves rows x → Same (weighted (variable_count rows) m x) (d.constant r)
  unfolding total
  worth x solves =
      let terms = λ (s : ℕ). times (d.coefficient r s) (x s) in
      let chosen_total : total (brings x) choice (whole (pos 0)) ≡ total (λ s. negative (terms s)) choice (whole (pos 0)) = total_each (brings x) (λ s. negative (terms s)) choice (whole (pos 0)) (brings_chosen x) in
      let row : Same (x r) (total terms choice (d.constant r)) = record { is = subst (IsSame (x r)) (expressed_total d choice x r) (((is.same x).0 solves).each r stuck.worst.out) } in
      let all : Same (plus (brings x r) (total (brings x) choice (whole (pos 0)))) (d.constant r) =
      subst (λ z. Same (plus z (total (brings x) choice (whole (pos 0)))) (d.constant r)) (sym (brings_own x))
      (subst (λ z. Same (plus (x r) z) (d.constant r)) (sym chosen_total) (sums row same ∘ opposed_total terms choice (d.constant r))) in
      matched (variable_count rows) m x (brings x) (r ∷ choice) all_distinct (matching x) ∘ all

  -- ---- their sum
  row_of_number : (p : ℕ × Fraction) → 0 < p.0 → row_of rows (number_of (variable_count rows) p) ≡ row_at rows p.0
  row_of_number p low = ap (row_at rows) (omega (arith, low))

  sums_constants : (k : Multipliers) (x : ℕ → Fraction) → ((p : ℕ × Fraction) → Contains k p → Same (x (number_of (variable_count rows) p)) (whole (row_at rows p.0).constant)) → Same (weighted (variable_count rows) k x) (sum_constant rows k)
  unfolding weighted
  sums_constants [] x each = same
  sums_constants (p ∷ k) x each = sums (products same (each p (contains_head p k))) (sums_constants k x (λ q h. each q (contains_tail p k q h)))

  sums_both : (k : Multipliers) (x : ℕ → Fraction) (v : ℕ) → ((p : ℕ × Fraction) → Contains k p → Same (x (number_of (variable_count rows) p)) (plus (whole (coefficient_of (row_at rows p.0) v)) (whole (row_at rows p.0).constant))) → Same (weighted (variable_count rows) k x) (plus (sum_coefficient rows k v) (sum_constant rows k))
  unfolding weighted
  sums_both [] x v each = back (no_more (whole (pos 0)))
  sums_both (p ∷ k) x v each =
      let a = whole (coefficient_of (row_at rows p.0) v) in
      let b = whole (row_at rows p.0).constant in
      sums (products same (each p (contains_head p k)) ∘ share_out p.1 a b) (sums_both k x v (λ q h. each q (contains_tail p k q h))) ∘ regroup (times p.1 a) (times p.1 b) (sum_coefficient rows k v) (sum_constant rows k)

  -- each row's value, where the variables have the values y
  rows_at : (ℕ → Fraction) → ℕ → Fraction
  rows_at y = filled (first_choice rows) (rows_dictionary rows) y

  rows_solve : (y : ℕ → Fraction) → Solves rows (rows_at y)
  unfolding rows_at
  rows_solve y = ((rows_start rows).same (rows_at y)).1 (filled_expresses rows (first_choice rows) (rows_dictionary rows) y)

  row_value : (y : ℕ → Fraction) (p : ℕ × Fraction) → Contains m p → rows_at y (number_of (variable_count rows) p) ≡ expressed (rows_dictionary rows) (first_choice rows) y (number_of (variable_count rows) p)
  unfolding rows_at
  row_value y p there =
      let low = All-contains (λ (q : ℕ × Fraction). (0 < q.0) × (q.0 ≤ length rows)) m p farkas.numbers.each there in
      let row : IsRow rows (variable_count rows + (p.0 - 1)) = row_at_place rows (p.0 - 1) (omega (arith, low.0, low.1)) in
      filled_out (first_choice rows) (rows_dictionary rows) y (number_of (variable_count rows) p) (row_is_out rows (number_of (variable_count rows) p) row).apart

  pub constant_is : Same (sum_constant rows m) (d.constant r)
  constant_is =
      let y = λ (n : ℕ). whole (pos 0) in
      let each : (p : ℕ × Fraction) → Contains m p → Same (rows_at y (number_of (variable_count rows) p)) (whole (row_at rows p.0).constant) =
      λ p there.
      let low = All-contains (λ (q : ℕ × Fraction). (0 < q.0) × (q.0 ≤ length rows)) m p farkas.numbers.each there in
      let n = number_of (variable_count rows) p in
      let value : Same (expressed (rows_dictionary rows) (first_choice rows) y n) (whole (row_of rows n).constant) = record { is = at_zeros (rows_dictionary rows) (first_choice rows) y n (λ c h. refl) } in
      subst (λ z. Same z (whole (row_at rows p.0).constant)) (sym (row_value y p there)) (subst (λ (l : Linear). Same (expressed (rows_dictionary rows) (first_choice rows) y n) (whole l.constant)) (row_of_number p low.0) value) in
      back (sums_constants m (rows_at y) each) ∘ worth (rows_at y) (rows_solve y)

  inside_none : (v : ℕ) → v < variable_count rows → Same (sum_coefficient rows m v) (whole (pos 0))
  inside_none v lt =
      let y = unit_at v in
      let each : (p : ℕ × Fraction) → Contains m p → Same (rows_at y (number_of (variable_count rows) p)) (plus (whole (coefficient_of (row_at rows p.0) v)) (whole (row_at rows p.0).constant)) =
      λ p there.
      let low = All-contains (λ (q : ℕ × Fraction). (0 < q.0) × (q.0 ≤ length rows)) m p farkas.numbers.each there in
      let n = number_of (variable_count rows) p in
      let value : Same (expressed (rows_dictionary rows) (first_choice rows) y n) (plus (whole (coefficient_of (row_of rows n) v)) (whole (row_of rows n).constant)) = record { is = at_unit (rows_dictionary rows) (first_choice rows) v n (rows_start rows).distinct (range_has (variable_count rows) v lt) } in
      subst (λ z. Same z (plus (whole (coefficient_of (row_at rows p.0) v)) (whole (row_at rows p.0).constant))) (sym (row_value y p there)) (subst (λ (l : Linear). Same (expressed (rows_dictionary rows) (first_choice rows) y n) (plus (whole (coefficient_of l v)) (whole l.constant))) (row_of_number p low.0) value) in
      let total_is : Same (plus (sum_coefficient rows m v) (sum_constant rows m)) (d.constant r) = back (sums_both m (rows_at y) v each) ∘ worth (rows_at y) (rows_solve y) in
      take_away (sum_constant rows m) (total_is ∘ back constant_is ∘ back (none_more (sum_constant rows m)))

  past_none : (k : Multipliers) (v : ℕ) → variable_count rows ≤ v → Same (sum_coefficient rows k v) (whole (pos 0))
  past_none [] v past = same
  past_none (p ∷ k) v past =
      let room = room_everywhere rows (variable_count rows) p.0 (longest_room rows (variable_count rows) refl) in
      let none : coefficient_of (row_at rows p.0) v ≡ pos 0 = get_or_past (row_at rows p.0).coefficients v (pos 0) (omega (arith, room)) in
      subst (λ c. Same (plus (times p.1 (whole c)) (sum_coefficient rows k v)) (whole (pos 0))) (sym none) (sums (by_none p.1) (past_none k v past) ∘ no_more (whole (pos 0)))

  factor_high : (n : ℕ) (q : Fraction) → IsRow rows n → IsFactor rows choice d r n q → pos 0 ≤ℤ q.num
  factor_high n q row (own at one) = subst (λ z. pos 0 ≤ℤ z.num) (sym one) (omega (arith, ints))
  factor_high n q row (chosen there some made) =
      let low = low_of_row rows (d.coefficient r n) n (stuck.none n there) row in
      (signs_agree q (negative (d.coefficient r n))).not_negative (opposite_of (d.coefficient r n) q made).is (turned_high (d.coefficient r n).num low)
    where
      turned_high : (z : ℤ) → z ≤ℤ pos 0 → pos 0 ≤ℤ neg_ℤ z
      turned_high z low = omega (arith, ints)

  pub contradicts : Contradicts rows m
  contradicts = record {
    numbers = farkas.numbers;
    not_negative = all_members (λ (p : ℕ × Fraction). pos 0 ≤ℤ p.1.num) m high;
    coefficients = λ v. none v (cases_lt v (variable_count rows));
    constant = (signs_agree (sum_constant rows m) (d.constant r)).negative constant_is.is stuck.worst.negative;
  }
    where
      high : (p : ℕ × Fraction) → Contains m p → pos 0 ≤ℤ p.1.num
      high p there =
          let low = All-contains (λ (q : ℕ × Fraction). (0 < q.0) × (q.0 ≤ length rows)) m p farkas.numbers.each there in
          factor_high (number_of (variable_count rows) p) p.1 (row_at_place rows (p.0 - 1) (omega (arith, low.0, low.1))) (factor_of p there)

      none : (v : ℕ) → (v < variable_count rows) ⊎ (variable_count rows ≤ v) → IsSame (sum_coefficient rows m v) (whole (pos 0))
      none v (inl lt) = (inside_none v lt).is
      none v (inr past) = (past_none m v past).is
