-- Each match is a sum of the rows of places whose digits are the goal's.
use Rattle.std.specs.Prelude.{◌≡◌, ◌⊎◌, ℕ, suc, ◌+◌, ◌-◌, ◌*◌, ◌/◌, ◌%◌, ◌==◌, ◌<◌, ◌≤◌, ℤ, pos, ◌+ℤ◌, ◌*ℤ◌, ◌≤ℤ◌, Bool, true, false, if◌then◌else◌, List, [], ◌∷◌, length, max, Option, Some, Ok}
use Rattle.std.proofs.Common.{arith, refl, sym, ap, ◌∙◌, subst, get_or, ⊎_elim, inl, inr}
use Rattle.std.proofs.lemmas.Int.{ints}
use Rattle.q128.specs.Fraction.{Fraction, whole, den_of, IsSame, IsAtMost, IsLowest, plus, times}
use Rattle.q128.proofs.Field.{same_trans}
use Rattle.q128.proofs.Ring.{*ℤ-mono}
use Rattle.q128.proofs.Order.{lowest-unique, IsQ-lowest}
use Rattle.q128.proofs.Lowest.{IsQ-whole}
use Rattle.lin_rows.specs.Linear.{Linear, coefficient_of, row_at}
use Rattle.lin_rows.specs.Proving.{Multipliers, sum_coefficient, IsSum}
use Rattle.lin_rows.specs.Combining.{Combination, zeros, rows_added}
use Rattle.lin_rows.specs.Rows.{longest_of}
use Rattle.lin_rows.proofs.Totals.{sum_is}
use Rattle.lin_rows.proofs.LongestRows.{longest_room}
use Rattle.small_sums.specs.declared.term.Terms.{Terms}
use Rattle.small_sums.specs.declared.term.Terms.TheVariants.{Zero, One, Two}
use Rattle.small_sums.specs.declared.term.Sum.{Sum}
use Rattle.small_sums.specs.Sums.{IsFactor, IsMatch}
use Rattle.small_sums.specs.Terms.{term_of, multipliers_of}
use Rattle.small_sums.specs.Keys.{digits}
use Rattle.small_sums.specs.Places.{term_at, digits_at}
use Rattle.small_sums.specs.inside.Search.{constant_sum, Covers, CoversTerms, IsSearched}
use Rattle.small_sums.proofs.Digits.{spread, digits_spread, spread_same, spread_sum, times_spread}

-- ---- coefficients of a match
-- each coefficient of the sum is the goal's
pub match_coefficient : (rows : List Linear) (goal : Linear) (m : Multipliers) (s : Combination) → IsMatch rows goal m s → (v : ℕ) → IsSame (sum_coefficient rows m v) (whole (coefficient_of goal v))
match_coefficient rows goal m s h v =
    let is : IsSum rows m s.coefficients s.constant = sum_is rows (longest_of rows) m s (longest_room rows (longest_of rows) refl) h.small.counts in
    same_trans (sum_coefficient rows m v) (get_or s.coefficients v (whole (pos 0))) (whole (coefficient_of goal v)) (sym (is.coefficient v)) (h.same.each v)

one_same : (a c g : ℤ) → IsSame (plus (times (whole a) (whole c)) (whole (pos 0))) (whole g) → g ≡ a *ℤ c
one_same a c g e = omega (arith, ints, e)

two_same : (a c b d g : ℤ) → IsSame (plus (times (whole a) (whole c)) (plus (times (whole b) (whole d)) (whole (pos 0)))) (whole g) → g ≡ a *ℤ c +ℤ b *ℤ d
two_same a c b d g e = omega (arith, ints, e)

-- ---- the place of a row and its factor
-- how often the row of a place is taken
times_at : ℕ → ℤ
times_at place = if place % 2 == 1 then pos 2 else pos 1

times_cases : (place : ℕ) (b : Bool) → (place % 2 == 1) ≡ b → (times_at place ≡ pos 1) ⊎ (times_at place ≡ pos 2)
unfolding times_at
times_cases place true e = inr (ap (λ (b : Bool). if b then pos 2 else pos 1) e)
times_cases place false e = inl (ap (λ (b : Bool). if b then pos 2 else pos 1) e)

pub record Place (count : ℕ) (p : ℕ × Fraction) : Type 0 where
  pub place : ℕ
  pub within : place < 2 * count
  pub half : place / 2 + 1 ≡ p.0
  pub is : term_of (term_at place) ≡ p

once_at : (count n : ℕ) → 0 < n → n ≤ count → Place count (n, whole (pos 1))
once_at count n low high =
    let place = 2 * (n - 1) in
    let half : place / 2 + 1 ≡ n = omega arith in
    let even : place % 2 ≡ 0 = omega arith in
    record { place = place; within = omega arith; half = half; is = rw (half, even) refl }

twice_at : (count n : ℕ) → 0 < n → n ≤ count → Place count (n, whole (pos 2))
twice_at count n low high =
    let place = 2 * (n - 1) + 1 in
    let half : place / 2 + 1 ≡ n = omega arith in
    let odd : place % 2 ≡ 1 = omega arith in
    record { place = place; within = omega arith; half = half; is = rw (half, odd) refl }

pub place_at : (count n : ℕ) (q : Fraction) → IsFactor q → 0 < n → n ≤ count → Place count (n, q)
place_at count n q f low high = ⊎_elim
    (λ e. subst (λ (r : Fraction). Place count (n, r)) (sym e) (once_at count n low high))
    (λ e. subst (λ (r : Fraction). Place count (n, r)) (sym e) (twice_at count n low high)) f

-- ---- digits of a match
module _ (rows : List Linear) (goal : Linear) where
  digits_of_place : (place n : ℕ) → length (row_at rows (place / 2 + 1)).coefficients ≤ n → digits_at rows place ≡ spread (λ v. times_at place *ℤ coefficient_of (row_at rows (place / 2 + 1)) v) n
  unfolding times_at
  digits_of_place place n h =
      let l = row_at rows (place / 2 + 1) in
      ap (λ z. times_at place *ℤ z) (digits_spread l.coefficients n h) ∙ sym (times_spread (times_at place) (coefficient_of l) n (times_cases place (place % 2 == 1) refl))

  pub one_digits : (place : ℕ) (s : Combination) → IsMatch rows goal (multipliers_of (One (term_at place))) s → digits goal.coefficients ≡ digits_at rows place
  unfolding times_at
  one_digits place s h =
      let l = row_at rows (place / 2 + 1) in
      let n = max (length goal.coefficients) (length l.coefficients) in
      let each : (v : ℕ) → coefficient_of goal v ≡ times_at place *ℤ coefficient_of l v = λ v. one_same (times_at place) (coefficient_of l v) (coefficient_of goal v) (match_coefficient rows goal (multipliers_of (One (term_at place))) s h v) in
      digits_spread goal.coefficients n (omega arith) ∙ spread_same (coefficient_of goal) (λ v. times_at place *ℤ coefficient_of l v) n each ∙ sym (digits_of_place place n (omega arith))

  pub two_digits : (front place : ℕ) (s : Combination) → IsMatch rows goal (multipliers_of (Two (term_at front) (term_at place))) s → digits goal.coefficients ≡ digits_at rows front +ℤ digits_at rows place
  unfolding times_at
  two_digits front place s h =
      let k = row_at rows (front / 2 + 1) in
      let l = row_at rows (place / 2 + 1) in
      let n = max (length goal.coefficients) (max (length k.coefficients) (length l.coefficients)) in
      let each : (v : ℕ) → coefficient_of goal v ≡ times_at front *ℤ coefficient_of k v +ℤ times_at place *ℤ coefficient_of l v = λ v. two_same (times_at front) (coefficient_of k v) (times_at place) (coefficient_of l v) (coefficient_of goal v) (match_coefficient rows goal (multipliers_of (Two (term_at front) (term_at place))) s h v) in
      digits_spread goal.coefficients n (omega arith)
      ∙ spread_sum (λ v. times_at front *ℤ coefficient_of k v) (λ v. times_at place *ℤ coefficient_of l v) (coefficient_of goal) n each
      ∙ ap (λ z. z +ℤ spread (λ v. times_at place *ℤ coefficient_of l v) n) (sym (digits_of_place front n (omega arith)))
      ∙ ap (λ z. digits_at rows front +ℤ z) (sym (digits_of_place place n (omega arith)))

  -- ---- each match is covered
  module _ (best : Option Sum) (n : ℕ) (all : 2 * length rows ≤ n) (searched : IsSearched rows goal best n) where
    one_covered : (p : ℕ × Fraction) (s : Combination) → Place (length rows) p → IsMatch rows goal (p ∷ []) s → Covers best s.constant
    one_covered p s at h =
        let moved : IsMatch rows goal (multipliers_of (One (term_at at.place))) s = subst (λ (q : ℕ × Fraction). IsMatch rows goal (q ∷ []) s) (sym at.is) h in
        (searched.one at.place at.within (one_digits at.place s moved)).each s moved

    two_covered : (p q : ℕ × Fraction) (s : Combination) → Place (length rows) p → Place (length rows) q → p.0 < q.0 → IsMatch rows goal (p ∷ q ∷ []) s → Covers best s.constant
    two_covered p q s at to lt h =
        let first : IsMatch rows goal (term_of (term_at at.place) ∷ q ∷ []) s = subst (λ (r : ℕ × Fraction). IsMatch rows goal (r ∷ q ∷ []) s) (sym at.is) h in
        let moved : IsMatch rows goal (multipliers_of (Two (term_at at.place) (term_at to.place))) s = subst (λ (r : ℕ × Fraction). IsMatch rows goal (term_of (term_at at.place) ∷ r ∷ []) s) (sym to.is) first in
        let front : at.place < n = omega (arith, at.within, all) in
        let behind : at.place / 2 < to.place / 2 = omega (arith, at.half, to.half, lt) in
        ((searched.two at.place front).each to.place to.within (two_digits at.place to.place s moved) (Two (term_at at.place) (term_at to.place)) (behind, refl)).each s moved

    pub all_covered : (m : Multipliers) (s : Combination) → IsMatch rows goal m s → Covers best s.constant
    all_covered [] s h = searched.zero.each s h
    all_covered ((i, a) ∷ []) s h =
        let low = h.small.numbers.each 0 (i, a) (omega arith) in
        let factor = h.small.factors 0 (i, a) (omega arith) in
        one_covered (i, a) s (place_at (length rows) i a factor low.0 low.1) h
    all_covered ((i, a) ∷ (j, b) ∷ []) s h =
        let low = h.small.numbers.each 0 (i, a) (omega arith) in
        let high = h.small.numbers.each 1 (i, a) (omega arith) in
        let factor = h.small.factors 0 (i, a) (omega arith) in
        let other = h.small.factors 1 (i, a) (omega arith) in
        let rising = h.small.rising 0 (omega arith) in
        two_covered (i, a) (j, b) s (place_at (length rows) i a factor low.0 low.1) (place_at (length rows) j b other high.0 high.1) rising h
    all_covered (p ∷ q ∷ r ∷ m) s h = absurd (let few = h.small.few in omega (arith, few))

-- ---- the constant of a sum is whole
one_whole : (x : Fraction) (a c : ℤ) → IsSame x (plus (times (whole a) (whole c)) (whole (pos 0))) → IsSame x (whole (a *ℤ c))
one_whole x a c e = e ∙ ap (λ z. z *ℤ den_of x) (as_one a c)
  where
    as_one : (a c : ℤ) → (plus (times (whole a) (whole c)) (whole (pos 0))).num ≡ a *ℤ c
    as_one a c = omega (arith, ints)

two_whole : (x : Fraction) (a c b d : ℤ) → IsSame x (plus (times (whole a) (whole c)) (plus (times (whole b) (whole d)) (whole (pos 0)))) → IsSame x (whole (a *ℤ c +ℤ b *ℤ d))
two_whole x a c b d e = e ∙ ap (λ z. z *ℤ den_of x) (as_two a c b d)
  where
    as_two : (a c b d : ℤ) → (plus (times (whole a) (whole c)) (plus (times (whole b) (whole d)) (whole (pos 0)))).num ≡ a *ℤ c +ℤ b *ℤ d
    as_two a c b d = omega (arith, ints)

whole_lowest : (z : ℤ) → IsLowest (whole z)
whole_lowest z = IsQ-lowest z 1 (IsQ-whole z)

pub is_whole : (x : Fraction) (z : ℤ) → IsLowest x → IsSame x (whole z) → whole x.num ≡ x
is_whole x z low e = let is : x ≡ whole z = lowest-unique x (whole z) low (whole_lowest z) e in ap (λ (y : Fraction). whole y.num) is ∙ sym is

pub whole_constant : (rows : List Linear) (terms : Terms) (s : Combination) → rows_added rows (zeros (longest_of rows)) (multipliers_of terms) ≡ Ok s → IsLowest s.constant → whole s.constant.num ≡ s.constant
whole_constant rows Zero s e low =
    let is : IsSum rows (multipliers_of Zero) s.coefficients s.constant = sum_is rows (longest_of rows) (multipliers_of Zero) s (longest_room rows (longest_of rows) refl) e in
    is_whole s.constant (pos 0) low is.constant_is
whole_constant rows (One a) s e low =
    let is : IsSum rows (multipliers_of (One a)) s.coefficients s.constant = sum_is rows (longest_of rows) (multipliers_of (One a)) s (longest_room rows (longest_of rows) refl) e in
    is_whole s.constant _ low (one_whole s.constant (if a.twice then pos 2 else pos 1) (row_at rows a.number).constant is.constant_is)
whole_constant rows (Two a b) s e low =
    let is : IsSum rows (multipliers_of (Two a b)) s.coefficients s.constant = sum_is rows (longest_of rows) (multipliers_of (Two a b)) s (longest_room rows (longest_of rows) refl) e in
    is_whole s.constant _ low (two_whole s.constant (if a.twice then pos 2 else pos 1) (row_at rows a.number).constant (if b.twice then pos 2 else pos 1) (row_at rows b.number).constant is.constant_is)

-- the constant of a match, and what that covers
match_constant : (rows : List Linear) (goal : Linear) (terms : Terms) (s : Combination) → IsMatch rows goal (multipliers_of terms) s → IsSame s.constant (whole (constant_sum rows terms))
match_constant rows goal Zero s h =
    let is : IsSum rows (multipliers_of Zero) s.coefficients s.constant = sum_is rows (longest_of rows) (multipliers_of Zero) s (longest_room rows (longest_of rows) refl) h.small.counts in
    is.constant_is
match_constant rows goal (One a) s h =
    let is : IsSum rows (multipliers_of (One a)) s.coefficients s.constant = sum_is rows (longest_of rows) (multipliers_of (One a)) s (longest_room rows (longest_of rows) refl) h.small.counts in
    one_whole s.constant (if a.twice then pos 2 else pos 1) (row_at rows a.number).constant is.constant_is
match_constant rows goal (Two a b) s h =
    let is : IsSum rows (multipliers_of (Two a b)) s.coefficients s.constant = sum_is rows (longest_of rows) (multipliers_of (Two a b)) s (longest_room rows (longest_of rows) refl) h.small.counts in
    two_whole s.constant (if a.twice then pos 2 else pos 1) (row_at rows a.number).constant (if b.twice then pos 2 else pos 1) (row_at rows b.number).constant is.constant_is

below_same : (f z : ℤ) (x : Fraction) → f ≤ℤ z → IsSame x (whole z) → IsAtMost (whole f) x
below_same f z x le e = subst (λ (y : ℤ). (f *ℤ den_of x) ≤ℤ y) (sym e) (*ℤ-mono f z (suc x.den_less_one) le)

pub no_better : (rows : List Linear) (terms : Terms) (best : Option Sum) (f : Sum) (z : ℤ) → best ≡ Some f → z ≡ constant_sum rows terms → f.constant ≤ℤ z → (goal : Linear) → CoversTerms rows goal best terms
no_better rows terms best f z e is le goal = record {
  each = λ s h. subst (λ (b : Option Sum). Covers b s.constant) (sym e) (below_same f.constant (constant_sum rows terms) s.constant (subst (λ (y : ℤ). f.constant ≤ℤ y) is le) (match_constant rows goal terms s h));
}
