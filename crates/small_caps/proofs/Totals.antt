-- Sums of the rows of places.
use Rattle.std.specs.Prelude.{◌≡◌, ◌≢◌, ◌⊎◌, ℕ, ◌+◌, ◌/◌, ◌%◌, ◌==◌, ◌≤◌, ℤ, pos, ◌+ℤ◌, ◌-ℤ◌, ◌*ℤ◌, Bool, true, false, if◌then◌else◌, List, [], ◌∷◌, length, max, Contains, Ok}
use Rattle.std.specs.Ordering.{int_eq}
use Rattle.std.proofs.Common.{arith, refl, sym, ap, ◌∙◌, subst, get_or, ⊎_elim, inl, inr}
use Rattle.std.proofs.lemmas.Int.{ints}
use Rattle.std.proofs.lemmas.Bool.Decides.{Decides-int_eq}
use Rattle.q128.specs.Fraction.{Fraction, whole, IsSame, plus, times}
use Rattle.q128.proofs.Field.{same_trans, same_refl, plus-same}
use Rattle.lin_rows.specs.Linear.{Linear, coefficient_of, row_at}
use Rattle.lin_rows.specs.Proving.{sum_coefficient, sum_constant, IsSum}
use Rattle.lin_rows.specs.Combining.{Combination, zeros, rows_added}
use Rattle.lin_rows.specs.Rows.{longest_of}
use Rattle.lin_rows.proofs.Totals.{sum_is, room_everywhere}
use Rattle.lin_rows.proofs.LongestRows.{longest_room}
use Rattle.small_sums.specs.Keys.{digits}
use Rattle.small_sums.specs.Places.{digits_at}
use Rattle.small_sums.proofs.Digits.{spread, digits_spread, spread_sum, times_spread}
use Rattle.small_cert.specs.Small.{IsMultiple}
use Rattle.small_caps.specs.Caps.{IsCapBy}
use Rattle.small_caps.specs.inside.Entries.{IsMasked, AreMasked}
use Rattle.small_caps.specs.inside.Numbers.{IsWholeSum}
use Rattle.small_caps.specs.inside.Picks.{multipliers_at}
use Rattle.small_caps.specs.inside.Search.{digits_sum}
use Rattle.small_caps.proofs.Masks.{contains_or}
use Rattle.small_caps.proofs.Candidates.{excess_at, same_number}

-- how often the row of a place is taken
abbrev times_in : ℕ → ℤ
times_in place = if place % 2 == 1 then pos 2 else pos 1

-- a coefficient of the sum, and its constant
abbrev pub coefficient_sum : List Linear → List ℕ → ℕ → ℤ
coefficient_sum rows [] v = pos 0
coefficient_sum rows (p ∷ ps) v = times_in p *ℤ coefficient_of (row_at rows (p / 2 + 1)) v +ℤ coefficient_sum rows ps v

abbrev constant_sum : List Linear → List ℕ → ℤ
constant_sum rows [] = pos 0
constant_sum rows (p ∷ ps) = times_in p *ℤ (row_at rows (p / 2 + 1)).constant +ℤ constant_sum rows ps

as_sum : (a c r : ℤ) → IsSame (plus (times (whole a) (whole c)) (whole r)) (whole (a *ℤ c +ℤ r))
as_sum a c r = omega (arith, ints)

more_total : (a c r : ℤ) (x : Fraction) → IsSame x (whole r) → IsSame (plus (times (whole a) (whole c)) x) (whole (a *ℤ c +ℤ r))
more_total a c r x e =
    same_trans (plus (times (whole a) (whole c)) x) (plus (times (whole a) (whole c)) (whole r)) (whole (a *ℤ c +ℤ r))
    (plus-same (times (whole a) (whole c)) (times (whole a) (whole c)) x (whole r) (same_refl (times (whole a) (whole c))) e) (as_sum a c r)

zero_total : IsSame (whole (pos 0)) (whole (pos 0))
zero_total = refl

coefficient_total : (rows : List Linear) (ps : List ℕ) (v : ℕ) → IsSame (sum_coefficient rows (multipliers_at ps) v) (whole (coefficient_sum rows ps v))
coefficient_total rows [] v = zero_total
coefficient_total rows (p ∷ ps) v = more_total (times_in p) (coefficient_of (row_at rows (p / 2 + 1)) v) (coefficient_sum rows ps v) (sum_coefficient rows (multipliers_at ps) v) (coefficient_total rows ps v)

constant_total : (rows : List Linear) (ps : List ℕ) → IsSame (sum_constant rows (multipliers_at ps)) (whole (constant_sum rows ps))
constant_total rows [] = zero_total
constant_total rows (p ∷ ps) = more_total (times_in p) (row_at rows (p / 2 + 1)).constant (constant_sum rows ps) (sum_constant rows (multipliers_at ps)) (constant_total rows ps)

-- a sum that was made is whole
module _ (rows : List Linear) (ps : List ℕ) (s : Combination) (counts : rows_added rows (zeros (longest_of rows)) (multipliers_at ps) ≡ Ok s) where
  made : IsSum rows (multipliers_at ps) s.coefficients s.constant
  made = sum_is rows (longest_of rows) (multipliers_at ps) s (longest_room rows (longest_of rows) refl) counts

  pub coefficient_is : (v : ℕ) → IsSame (get_or s.coefficients v (whole (pos 0))) (whole (coefficient_sum rows ps v))
  coefficient_is v = same_trans (get_or s.coefficients v (whole (pos 0))) (sum_coefficient rows (multipliers_at ps) v) (whole (coefficient_sum rows ps v)) (made.coefficient v) (coefficient_total rows ps v)

  constant_is : IsSame s.constant (whole (constant_sum rows ps))
  constant_is = same_trans s.constant (sum_constant rows (multipliers_at ps)) (whole (constant_sum rows ps)) made.constant_is (constant_total rows ps)

  pub whole_sum : IsWholeSum s
  whole_sum = record { coefficients = λ v. (coefficient_sum rows ps v, coefficient_is v); constant = (constant_sum rows ps, constant_is) }

-- ---- the digits of a sum
none_spread : (n : ℕ) → spread (λ v. pos 0) n ≡ pos 0
none_spread n = nothing (spread (λ v. pos 0) n) (spread_sum (λ v. pos 0) (λ v. pos 0) (λ v. pos 0) n (λ i. refl))
  where
    nothing : (z : ℤ) → z ≡ z +ℤ z → z ≡ pos 0
    nothing z e = omega (arith, ints, e)

times_cases : (b : Bool) → ((if b then pos 2 else pos 1) ≡ pos 1) ⊎ ((if b then pos 2 else pos 1) ≡ pos 2)
times_cases true = inr refl
times_cases false = inl refl

place_digits : (rows : List Linear) (p n : ℕ) → length (row_at rows (p / 2 + 1)).coefficients ≤ n → digits_at rows p ≡ spread (λ v. times_in p *ℤ coefficient_of (row_at rows (p / 2 + 1)) v) n
place_digits rows p n h =
    let l = row_at rows (p / 2 + 1) in
    ap (λ z. times_in p *ℤ z) (digits_spread l.coefficients n h) ∙ sym (times_spread (times_in p) (coefficient_of l) n (times_cases (p % 2 == 1)))

sum_digits : (rows : List Linear) (ps : List ℕ) (n : ℕ) → longest_of rows ≤ n → spread (coefficient_sum rows ps) n ≡ digits_sum rows ps
sum_digits rows [] n h = none_spread n
sum_digits rows (p ∷ ps) n h =
    let l = row_at rows (p / 2 + 1) in
    let long : length l.coefficients ≤ n = within (room_everywhere rows (longest_of rows) (p / 2 + 1) (longest_room rows (longest_of rows) refl)) h in
    spread_sum (λ v. times_in p *ℤ coefficient_of l v) (coefficient_sum rows ps) (coefficient_sum rows (p ∷ ps)) n (λ i. refl)
    ∙ ap (λ z. z +ℤ spread (coefficient_sum rows ps) n) (sym (place_digits rows p n long)) ∙ ap (λ z. digits_at rows p +ℤ z) (sum_digits rows ps n h)
  where
    within : {a b d : ℕ} → a ≤ b → b ≤ d → a ≤ d
    within h k = omega (arith, h, k)

-- ---- without entry sizes
masked_none : (entry : List ℕ) (rows masked : List Linear) (ps : List ℕ) (v : ℕ) → AreMasked entry rows masked → Contains entry v → coefficient_sum masked ps v ≡ pos 0
masked_none entry rows masked [] v are h = refl
masked_none entry rows masked (p ∷ ps) v are h =
    ap (λ (z : ℤ). times_in p *ℤ z +ℤ coefficient_sum masked ps v) (((are.each (p / 2 + 1)).each v).inside h) ∙ ap (λ (z : ℤ). times_in p *ℤ pos 0 +ℤ z) (masked_none entry rows masked ps v are h) ∙ nothing (times_in p)
  where
    nothing : (t : ℤ) → t *ℤ pos 0 +ℤ pos 0 ≡ pos 0
    nothing t = omega (arith, ints)

masked_same : (entry : List ℕ) (rows masked : List Linear) (ps : List ℕ) (v : ℕ) → AreMasked entry rows masked → (Contains entry v → ⊥) → coefficient_sum masked ps v ≡ coefficient_sum rows ps v
masked_same entry rows masked [] v are h = refl
masked_same entry rows masked (p ∷ ps) v are h =
    ap (λ (z : ℤ). times_in p *ℤ z +ℤ coefficient_sum masked ps v) (((are.each (p / 2 + 1)).each v).outside h) ∙ ap (λ (z : ℤ). times_in p *ℤ coefficient_of (row_at rows (p / 2 + 1)) v +ℤ z) (masked_same entry rows masked ps v are h)

zero_by : (z : ℤ) (b : Bool) → int_eq z (pos 0) ≡ b → (z ≢ pos 0 → ⊥) → z ≡ pos 0
zero_by z true e h = (Decides-int_eq z (pos 0)).0 e
zero_by z false e h = absurd (h (λ q. let t : int_eq z (pos 0) ≡ true = (Decides-int_eq z (pos 0)).1 q in absurd cc))

none_inside : (k c o : ℤ) → c ≡ pos 0 → o ≡ pos 0 → c +ℤ k *ℤ o ≡ pos 0
none_inside k c o e f = ap (λ (z : ℤ). z +ℤ k *ℤ o) e ∙ ap (λ (z : ℤ). pos 0 +ℤ k *ℤ z) f ∙ nothing k
  where
    nothing : (k : ℤ) → pos 0 +ℤ k *ℤ pos 0 ≡ pos 0
    nothing k = omega (arith, ints)

once_left : (l : ℤ) → pos 1 *ℤ (pos 0 -ℤ l) +ℤ pos 1 *ℤ l ≡ pos 0
once_left l = omega (arith, ints)

twice_left : (l : ℤ) → pos 2 *ℤ (pos 0 -ℤ l) +ℤ pos 2 *ℤ l ≡ pos 0
twice_left l = omega (arith, ints)

none_left : (k l : ℤ) → IsMultiple k → k *ℤ (pos 0 -ℤ l) +ℤ k *ℤ l ≡ pos 0
none_left k l (inl e) = subst (λ (k : ℤ). k *ℤ (pos 0 -ℤ l) +ℤ k *ℤ l ≡ pos 0) (sym e) (once_left l)
none_left k l (inr e) = subst (λ (k : ℤ). k *ℤ (pos 0 -ℤ l) +ℤ k *ℤ l ≡ pos 0) (sym e) (twice_left l)

none_outside : (k c o l w : ℤ) → IsMultiple k → c ≡ k *ℤ (w -ℤ l) → w ≡ pos 0 → o ≡ l → c +ℤ k *ℤ o ≡ pos 0
none_outside k c o l w multiple e f g = ap (λ (z : ℤ). z +ℤ k *ℤ o) e ∙ ap (λ (z : ℤ). k *ℤ (z -ℤ l) +ℤ k *ℤ o) f ∙ ap (λ (z : ℤ). k *ℤ (pos 0 -ℤ l) +ℤ k *ℤ z) g ∙ none_left k l multiple

pub cap_sum : (rows : List Linear) (l : Linear) (entry : List ℕ) (k : ℤ) (ps : List ℕ) (w : Linear) → IsCapBy rows l entry w (multipliers_at ps) k → (v : ℕ) → coefficient_sum rows ps v ≡ k *ℤ (coefficient_of w v -ℤ coefficient_of l v)
cap_sum rows l entry k ps w h v =
    same_number (get_or h.sum.coefficients v (whole (pos 0))) (coefficient_sum rows ps v) (k *ℤ (coefficient_of w v -ℤ coefficient_of l v)) (coefficient_is rows ps h.sum h.small.counts v)
    (subst (λ (z : ℤ). IsSame (get_or h.sum.coefficients v (whole (pos 0))) (whole z)) (excess_at w l k v) (h.cap.same.each v))

module _ (rows masked : List Linear) (l own : Linear) (entry : List ℕ) (k : ℤ) (ps : List ℕ) (w : Linear) (are : AreMasked entry rows masked) (is : IsMasked entry l own) (h : IsCapBy rows l entry w (multipliers_at ps) k) where
  none_at : (v : ℕ) → coefficient_sum masked ps v +ℤ k *ℤ coefficient_of own v ≡ pos 0
  none_at v = ⊎_elim
      (λ there. none_inside k (coefficient_sum masked ps v) (coefficient_of own v) (masked_none entry rows masked ps v are there) ((is.each v).inside there))
      (λ out. none_outside k (coefficient_sum masked ps v) (coefficient_of own v) (coefficient_of l v) (coefficient_of w v) h.multiple (masked_same entry rows masked ps v are out ∙ cap_sum rows l entry k ps w h v)
      (zero_by (coefficient_of w v) (int_eq (coefficient_of w v) (pos 0)) refl (λ ne. out (h.cap.over.each v ne))) ((is.each v).outside out))
      (contains_or entry v)

  -- the digits of the rows and of the expression cancel each other
  pub digits_cancel : digits_sum masked ps +ℤ k *ℤ digits own.coefficients ≡ pos 0
  digits_cancel =
      let n = max (longest_of masked) (length own.coefficients) in
      let both : spread (λ v. pos 0) n ≡ spread (coefficient_sum masked ps) n +ℤ spread (λ v. k *ℤ coefficient_of own v) n = spread_sum (coefficient_sum masked ps) (λ v. k *ℤ coefficient_of own v) (λ v. pos 0) n (λ i. sym (none_at i)) in
      let first : spread (coefficient_sum masked ps) n ≡ digits_sum masked ps = sum_digits masked ps n (omega arith) in
      let second : spread (λ v. k *ℤ coefficient_of own v) n ≡ k *ℤ digits own.coefficients = times_spread k (coefficient_of own) n h.multiple ∙ ap (λ z. k *ℤ z) (sym (digits_spread own.coefficients n (omega arith))) in
      ap (λ z. z +ℤ k *ℤ digits own.coefficients) (sym first) ∙ ap (λ z. spread (coefficient_sum masked ps) n +ℤ z) (sym second) ∙ sym both ∙ none_spread n
