-- The point of a choice that meets all rows, and the multipliers of one that is stuck.
use Rattle.std.specs.Prelude.{◌≡◌, ℕ, suc, ◌+◌, ◌-◌, ◌<◌, ◌≤◌, pos, ◌≤ℤ◌, List, length, map, get_or, AllPairs, Contains}
use Rattle.std.proofs.Common.{arith, inl, inr, sym, ap, ◌∙◌, subst}
use Rattle.std.proofs.lemmas.Int.{ints}
use Rattle.std.proofs.lemmas.List.{get_or_default, get_or-map, length-map}
use Rattle.std.proofs.lemmas.List.Elements.{All-contains}
use Rattle.q128.specs.Fraction.{Fraction, whole, IsSame}
use Rattle.fraction_laws.proofs.Signs.{signs_agree}
use Rattle.common_laws.proofs.Orders.{one_list}
use Rattle.lin_rows.specs.Linear.{Linear, nothing, row_at}
use Rattle.lin_rows.specs.Points.{value_at, HoldsAt, RowsHoldAt}
use Rattle.lin_rows.specs.Proving.{Multipliers}
use Rattle.solver_paths.specs.Choices.{variable_count, row_number, row_of, IsRow, Dictionary, IsDictionary, basic_value}
use Rattle.solver_paths.specs.Pivots.{MeetsAll}
use Rattle.solver_paths.specs.Certificates.{coordinates_of, IsFarkas}
use Rattle.solver_paths.proofs.Chosen.{chosen_or_not}
use Rattle.solver_paths.proofs.Basics.{basic_chosen, basic_out, basic_solves}

-- ---- the point
basic_met : (rows : List Linear) (choice : List ℕ) (d : Dictionary) (n : ℕ) → MeetsAll rows choice d → IsRow rows n → pos 0 ≤ℤ (basic_value choice d n).num
basic_met rows choice d n meets row = elim (chosen_or_not choice n) [
  | inl has ↦ subst (λ z. pos 0 ≤ℤ z.num) (sym (basic_chosen choice d n has)) (omega (arith, ints))
  | inr lacks ↦ subst (λ z. pos 0 ≤ℤ z.num) (sym (basic_out choice d n lacks)) ((meets.each n).met row (record { within = row.within; apart = lacks }))
]

-- the number of the k-th row
pub row_at_place : (rows : List Linear) (k : ℕ) → k < length rows → IsRow rows (variable_count rows + k)
row_at_place rows k lt = record { past_variables = omega arith; within = omega arith }

pub number_is : (rows : List Linear) (k : ℕ) → row_number rows (variable_count rows + k) ≡ suc k
number_is rows k = omega arith

pub point_holds : (rows : List Linear) (choice : List ℕ) (d : Dictionary) → IsDictionary rows choice d → MeetsAll rows choice d → RowsHoldAt rows (whole (pos 1)) (coordinates_of rows choice d)
point_holds rows choice d is meets = record { each = each }
  where
    each : (k : ℕ) (l : Linear) → k < length rows → HoldsAt (get_or rows k l) (whole (pos 1)) (coordinates_of rows choice d)
    each k l lt =
        let n = variable_count rows + k in
        let row = row_at_place rows k lt in
        let there : row_of rows n ≡ get_or rows k l = ap (row_at rows) (number_is rows k) ∙ ap (λ (i : ℕ). get_or rows i nothing) (back k) ∙ get_or_default rows k nothing l lt in
        let value = value_at (row_of rows n) (whole (pos 1)) (coordinates_of rows choice d) in
        let same : IsSame (basic_value choice d n) value = (basic_solves rows choice d is).each n row in
        let high : pos 0 ≤ℤ value.num = (signs_agree value (basic_value choice d n)).not_negative (sym same) (basic_met rows choice d n meets row) in
        subst (λ (e : Linear). HoldsAt e (whole (pos 1)) (coordinates_of rows choice d)) there (record { not_negative = high })
      where
        back : (k : ℕ) → suc k - 1 ≡ k
        back k = omega arith

-- ---- the multipliers are one list
abbrev pub Before : ℕ × Fraction → ℕ × Fraction → Type 0
Before p q = p.0 < q.0

pub rising_pairs : (m : Multipliers) → AllPairs (λ (a b : ℕ). a < b) (map (λ (p : ℕ × Fraction). p.0) m) → AllPairs Before m
rising_pairs m up = λ i j d lt within.
    let first = λ (p : ℕ × Fraction). p.0 in
    let size : length (map first m) ≡ length m = length-map m first in
    let at : (k : ℕ) → k < length m → get_or (map first m) k d.0 ≡ (get_or m k d).0 = λ k low. get_or-map first m k d d.0 low in
    subst (λ n. n < (get_or m j d).0) (at i (omega arith)) (subst (λ n. get_or (map first m) i d.0 < n) (at j within) (up i j d.0 lt (omega arith)))

pub one_farkas : (rows : List Linear) (choice : List ℕ) (d : Dictionary) (r : ℕ) (m k : Multipliers) → IsFarkas rows choice d r m → IsFarkas rows choice d r k → m ≡ k
one_farkas rows choice d r m k f g = one_list Before (λ a b less more. omega (arith, less, more)) m k (rising_pairs m f.rising) (rising_pairs k g.rising) (λ u. (through m k f g u, through k m g f u))
  where
    through : (a b : Multipliers) → IsFarkas rows choice d r a → IsFarkas rows choice d r b → (u : ℕ × Fraction) → Contains a u → Contains b u
    through a b fa fb u there =
        let low = All-contains (λ (p : ℕ × Fraction). (0 < p.0) × (p.0 ≤ length rows)) a u fa.numbers.each there in
        let k = u.0 - 1 in
        let row : IsRow rows (variable_count rows + k) = row_at_place rows k (omega (arith, low.0, low.1)) in
        let is : row_number rows (variable_count rows + k) ≡ u.0 = omega (arith, low.0) in
        let spelt : (row_number rows (variable_count rows + k), u.1) ≡ u = ap (λ (n : ℕ). (n, u.1)) is in
        subst (Contains b) spelt ((fb.each (variable_count rows + k) u.1 row).1 ((fa.each (variable_count rows + k) u.1 row).0 (subst (Contains a) (sym spelt) there)))
