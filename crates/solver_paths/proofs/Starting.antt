-- The rows are the dictionary of the first choice.
use Rattle.std.specs.Prelude.{◌≡◌, ℕ, zero, suc, ◌+◌, ◌<◌, ◌≤◌, false, pos, ℤ, nat_eq, List, map, Contains}
use Rattle.std.specs.List.{IsDistinct, range_with_len}
use Rattle.std.proofs.Common.{arith, inl, inr, sym, ap, ◌∙◌, subst}
use Rattle.std.proofs.Math.Nat.{eq-one_of_dvd-one}
use Rattle.std.proofs.lemmas.Bool.{cases_lt}
use Rattle.std.proofs.lemmas.List.FromFn.{length-range_with_len, get_or-range_with_len}
use Rattle.std.proofs.lemmas.List.Elements.{recursion_from_All}
use Rattle.q128.specs.Fraction.{Fraction, whole, IsLowest, plus, times}
use Rattle.fraction_laws.proofs.Same.{Same, same, back, ◌∘◌, sums, associate, none_more, by_one}
use Rattle.lin_rows.specs.Linear.{Linear, coefficient_of}
use Rattle.lin_rows.specs.Points.{dot, value_at}
use Rattle.solver_paths.specs.Choices.{variable_count, number_count, row_of, first_choice, IsRow, IsOut, Dictionary, expressed, IsDictionary}
use Rattle.solver_paths.specs.Dictionaries.{rows_dictionary}
use Rattle.solver_paths.proofs.Pivoting.{all_members, differs}

-- ---- the first choice
pub in_range : (i k n : ℕ) → Contains (range_with_len i k) n → (i ≤ n) × (n < i + k)
in_range i k n h =
    let size = length-range_with_len i k in
    let lt : h.0 < k = omega (arith, h.1) in
    let is = get_or-range_with_len i k h.0 n lt in
    (omega (arith, h.2), omega (arith, h.2))

pub range_has : (k n : ℕ) → n < k → Contains (range_with_len 0 k) n
range_has k n lt = (n, omega (arith, length-range_with_len 0 k), omega (arith, get_or-range_with_len 0 k n n lt))

distinct_range : (i k : ℕ) → IsDistinct nat_eq (range_with_len i k)
unfolding IsDistinct
distinct_range i zero = tt
distinct_range i (suc k) = (
  recursion_from_All (λ y. nat_eq i y ≡ false) (range_with_len (i + 1) k) (all_members (λ y. nat_eq i y ≡ false) (range_with_len (i + 1) k) (λ y h. differs i y (above y (in_range (i + 1) k y h).0))),
  distinct_range (i + 1) k,
)
  where
    above : (y : ℕ) → i + 1 ≤ y → i ≡ y → ⊥
    above y le e = omega arith

-- the numbers outside are the rows
pub out_is_row : (rows : List Linear) (n : ℕ) → IsOut rows (first_choice rows) n → IsRow rows n
out_is_row rows n o = elim (cases_lt n (variable_count rows)) [
  | inl lt ↦ absurd (o.apart (range_has (variable_count rows) n lt))
  | inr le ↦ record { past_variables = le; within = o.within }
]

pub row_is_out : (rows : List Linear) (n : ℕ) → IsRow rows n → IsOut rows (first_choice rows) n
row_is_out rows n r = record { within = r.within; apart = λ h. let lt = (in_range 0 (variable_count rows) n h).1 in let le = r.past_variables in omega arith }

-- ---- their expressions
whole_lowest : (z : ℤ) → IsLowest (whole z)
whole_lowest z = record { lowest = λ d p q. eq-one_of_dvd-one q }

spelt : (d : Dictionary) (n : ℕ) (x f : ℕ → Fraction) (i k : ℕ) → ((j : ℕ) → f j ≡ d.coefficient n (i + j)) → Same (expressed d (range_with_len i k) x n) (plus (dot f (map x (range_with_len i k))) (d.constant n))
spelt d n x f i zero e = back (none_more (d.constant n))
spelt d n x f i (suc k) e =
    let vs = map x (range_with_len (i + 1) k) in
    let first : d.coefficient n i ≡ f zero = ap (d.coefficient n) (here i) ∙ sym (e zero) in
    let rest = spelt d n x (λ j. f (suc j)) (i + 1) k (λ j. e (suc j) ∙ ap (d.coefficient n) (next i j)) in
    subst (λ a. Same (plus (times a (x i)) (expressed d (range_with_len (i + 1) k) x n)) (plus (plus (times (f zero) (x i)) (dot (λ j. f (suc j)) vs)) (d.constant n))) (sym first)
    (sums same rest ∘ back (associate (times (f zero) (x i)) (dot (λ j. f (suc j)) vs) (d.constant n)))
  where
    here : (i : ℕ) → i ≡ i + zero
    here i = omega arith

    next : (i j : ℕ) → i + suc j ≡ i + 1 + j
    next i j = omega arith

rows_spelt : (rows : List Linear) (x : ℕ → Fraction) (n : ℕ) → Same (expressed (rows_dictionary rows) (first_choice rows) x n) (value_at (row_of rows n) (whole (pos 1)) (map x (first_choice rows)))
rows_spelt rows x n =
    let l = row_of rows n in
    spelt (rows_dictionary rows) n x (λ j. whole (coefficient_of l j)) 0 (variable_count rows) (λ j. ap (λ (i : ℕ). whole (coefficient_of l i)) (omega arith))
    ∘ sums {x = dot (λ j. whole (coefficient_of l j)) (map x (first_choice rows))} same (back (by_one (whole l.constant)))

pub rows_start : (rows : List Linear) → IsDictionary rows (first_choice rows) (rows_dictionary rows)
rows_start rows = record {
  size = length-range_with_len 0 (variable_count rows);
  distinct = distinct_range 0 (variable_count rows);
  below = all_members (λ (n : ℕ). n < number_count rows) (first_choice rows) (λ n h. within n (in_range 0 (variable_count rows) n h).1);
  constants = λ n. whole_lowest (row_of rows n).constant;
  coefficients = λ n c. whole_lowest (coefficient_of (row_of rows n) c);
  same = λ x. (
    λ solves. record { each = λ n o. let h : Same (x n) (value_at (row_of rows n) (whole (pos 1)) (map x (first_choice rows))) = record { is = solves.each n (out_is_row rows n o) } in (h ∘ back (rows_spelt rows x n)).is },
    λ expresses. record { each = λ n r. let h : Same (x n) (expressed (rows_dictionary rows) (first_choice rows) x n) = record { is = expresses.each n (row_is_out rows n r) } in (h ∘ rows_spelt rows x n).is },
  );
}
  where
    within : (n : ℕ) → n < 0 + variable_count rows → n < number_count rows
    within n lt = omega arith
