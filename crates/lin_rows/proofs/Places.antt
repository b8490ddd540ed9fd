-- The places of a sum: room for rows, and the coefficients that it has.
use Rattle.std.specs.Prelude.{ℕ, All, ◌+◌, ◌<◌, ◌≤◌, ◌≡◌, ℤ, pos, List, length}
use Rattle.std.proofs.Common.{arith, refl, sym, ◌∙◌, subst, get_or, ⊎_elim}
use Rattle.std.proofs.lemmas.Bool.{cases_lt}
use Rattle.std.proofs.lemmas.List.{get_or_default, get_or_past}
use Rattle.std.proofs.lemmas.List.Elements.{All-map, All-from_get_or}
use Rattle.q128.specs.Fraction.{Fraction, whole, IsSame}
use Rattle.lin_rows.specs.declared.row.Row.{Row}
use Rattle.lin_rows.specs.Linear.{Linear, coefficient_of}
use Rattle.lin_rows.specs.Rows.{lins, HaveRoom}
use Rattle.lin_rows.specs.Combining.{Combination, HasCoefficients}
use Rattle.lin_rows.proofs.Terms.{room_at}

pub room_made : (rows : List Row) (places : ℕ) → All (λ (row : Row). length row.lin.coefficients ≤ places) rows → HaveRoom places (lins rows)
room_made rows places each = record { each = All-map (λ (l : Linear). length l.coefficients ≤ places) (λ (row : Row). row.lin) rows each }

pub room_known : (rows : List Row) (places : ℕ) (row : Row) → HaveRoom places (lins rows) → All (λ (r : Row). length r.lin.coefficients ≤ places) rows
room_known rows places row room =
    All-from_get_or (λ (r : Row). length r.lin.coefficients ≤ places) rows row (λ i h. room_at rows places i (get_or rows i row) h (get_or_default rows i row (get_or rows i row) h) room.each)

-- one more coefficient is the same
pub same_more : (xs : List Fraction) (l : Linear) (i : ℕ) (x : Fraction) → i < length xs → x ≡ get_or xs i x → IsSame x (whole (coefficient_of l i))
    → ((v : ℕ) → v < i → IsSame (get_or xs v (whole (pos 0))) (whole (coefficient_of l v)))
    → (v : ℕ) → v < i + 1 → IsSame (get_or xs v (whole (pos 0))) (whole (coefficient_of l v))
same_more xs l i x h read same before v k = ⊎_elim (λ less. before v less) (λ not_less. last (omega (arith, k, not_less))) (cases_lt v i)
  where
    here : x ≡ get_or xs i (whole (pos 0))
    here = read ∙ get_or_default xs i x (whole (pos 0)) h

    last : v ≡ i → IsSame (get_or xs v (whole (pos 0))) (whole (coefficient_of l v))
    last e = subst (λ (n : ℕ). IsSame (get_or xs n (whole (pos 0))) (whole (coefficient_of l n))) (sym e) (subst (λ (y : Fraction). IsSame y (whole (coefficient_of l i))) here same)

-- all are
pub same_everywhere : (s : Combination) (l : Linear) (i : ℕ) → length s.coefficients ≤ i → length l.coefficients ≤ length s.coefficients
    → ((v : ℕ) → v < i → IsSame (get_or s.coefficients v (whole (pos 0))) (whole (coefficient_of l v))) → HasCoefficients s l
same_everywhere s l i end long before = record { each = λ v. ⊎_elim (λ less. before v less) (λ not_less. past v (omega (arith, not_less, end))) (cases_lt v i) }
  where
    zero_same : IsSame (whole (pos 0)) (whole (pos 0))
    zero_same = refl

    past : (v : ℕ) → length s.coefficients ≤ v → IsSame (get_or s.coefficients v (whole (pos 0))) (whole (coefficient_of l v))
    past v h =
        subst (λ (y : Fraction). IsSame y (whole (coefficient_of l v))) (sym (get_or_past s.coefficients v (whole (pos 0)) h))
        (subst (λ (n : ℤ). IsSame (whole (pos 0)) (whole n)) (sym (get_or_past l.coefficients v (pos 0) (omega (arith, long, h)))) zero_same)
