-- Expressions without their coefficients of entry sizes.
use Rattle.std.specs.Prelude.{◌≡◌, ◌≢◌, ◌⊎◌, ℕ, zero, suc, ◌+◌, ◌-◌, ◌<◌, ◌≤◌, ℤ, pos, List, [], ◌∷◌, ◌++◌, length, Contains, Result, Ok, Err, IfOk}
use Rattle.std.proofs.Common.{arith, refl, sym, ap, ◌∙◌, subst, get_or, ⊎_elim, inl, inr}
use Rattle.std.proofs.lemmas.Bool.{cases_lt, cases_eq}
use Rattle.std.proofs.lemmas.List.{get_or_past, get_or_append_left, get_or_push, length-map, map-append}
use Rattle.lin_rows.specs.Linear.{Linear, coefficient_of, nothing}
use Rattle.lin_rows.specs.declared.row.Row.{Row}
use Rattle.lin_rows.specs.Rows.{lins}
use Rattle.lin_rows.proofs.Terms.{lin_at}
use Rattle.small_caps.specs.Caps.{IsOver}
use Rattle.small_caps.specs.inside.Entries.{IsMaskedAt, IsMasked, AreMasked}

-- ---- over entry sizes alone
pub over_to : (entry : List ℕ) (l : Linear) (n : ℕ) → length l.coefficients ≤ n → ((v : ℕ) → v < n → coefficient_of l v ≢ pos 0 → Contains entry v) → IsOver entry l
over_to entry l n long h = record { each = λ v ne. ⊎_elim (λ lt. h v lt ne) (λ le. absurd (ne (get_or_past l.coefficients v (pos 0) (omega (arith, long, le))))) (cases_lt v n) }

-- ---- one of a list or not
pub contains_or : (xs : List ℕ) (v : ℕ) → Contains xs v ⊎ (Contains xs v → ⊥)
contains_or [] v = inr (λ h. absurd (omega (arith, h.1)))
contains_or (x ∷ xs) v = ⊎_elim
    (λ e. inl (0, omega arith, e))
    (λ ne. ⊎_elim (λ h. inl (suc h.0, omega (arith, h.1), h.2)) (λ none. inr (λ h. neither x xs v ne none h.0 h.1 h.2)) (contains_or xs v))
    (cases_eq x v)
  where
    neither : (x : ℕ) (xs : List ℕ) (v : ℕ) → x ≢ v → (Contains xs v → ⊥) → (k : ℕ) → k < length (x ∷ xs) → get_or (x ∷ xs) k v ≡ v → ⊥
    neither x xs v ne none zero lt e = ne e
    neither x xs v ne none (suc k) lt e = none (k, omega (arith, lt), e)

-- ---- one coefficient after another
pub masked_more : (entry : List ℕ) (l : Linear) (list : List ℤ) (v : ℕ) (x : ℤ) → length list ≡ v → ((i : ℕ) → i < v → IsMaskedAt entry i (coefficient_of l i) (get_or list i (pos 0))) → IsMaskedAt entry v (coefficient_of l v) x
    → (i : ℕ) → i < v + 1 → IsMaskedAt entry i (coefficient_of l i) (get_or (list ++ x ∷ []) i (pos 0))
masked_more entry l list v x long before here i lt = ⊎_elim
    (λ (less : i < v). subst (λ (z : ℤ). IsMaskedAt entry i (coefficient_of l i) z) (sym (get_or_append_left list (x ∷ []) (pos 0) i (omega (arith, long, less)))) (before i less))
    (λ le.
    let same : i ≡ v = omega (arith, lt, le) in
    subst (λ (k : ℕ). IsMaskedAt entry k (coefficient_of l k) (get_or (list ++ x ∷ []) k (pos 0))) (sym same)
    (subst (λ (z : ℤ). IsMaskedAt entry v (coefficient_of l v) z) (sym (get_or_push list x (pos 0) v long)) here))
    (cases_lt i v)

pub masked_all : (entry : List ℕ) (l masked : Linear) (list : List ℤ) (n : ℕ) → length list ≡ n → length l.coefficients ≤ n → masked.coefficients ≡ list → ((i : ℕ) → i < n → IsMaskedAt entry i (coefficient_of l i) (get_or list i (pos 0))) → IsMasked entry l masked
masked_all entry l masked list n long short is each = record {
  each = λ v. subst (λ (xs : List ℤ). IsMaskedAt entry v (coefficient_of l v) (get_or xs v (pos 0))) (sym is) (⊎_elim (each v) (past v) (cases_lt v n));
}
  where
    past : (v : ℕ) → n ≤ v → IsMaskedAt entry v (coefficient_of l v) (get_or list v (pos 0))
    past v le =
        let first = get_or_past list v (pos 0) (omega (arith, long, le)) in
        let second = get_or_past l.coefficients v (pos 0) (omega (arith, short, le)) in
        record { inside = λ h. first; outside = λ h. first ∙ sym second }

-- ---- one row after another
pub masked_row : (entry : List ℕ) (rows made : List Linear) (i : ℕ) (x : Linear) → length made ≡ i → ((n : ℕ) → n < i → IsMasked entry (get_or rows n nothing) (get_or made n nothing)) → IsMasked entry (get_or rows i nothing) x
    → (n : ℕ) → n < i + 1 → IsMasked entry (get_or rows n nothing) (get_or (made ++ x ∷ []) n nothing)
masked_row entry rows made i x long before here n lt = ⊎_elim
    (λ (less : n < i). subst (λ (l : Linear). IsMasked entry (get_or rows n nothing) l) (sym (get_or_append_left made (x ∷ []) nothing n (omega (arith, long, less)))) (before n less))
    (λ le.
    let same : n ≡ i = omega (arith, lt, le) in
    subst (λ (k : ℕ). IsMasked entry (get_or rows k nothing) (get_or (made ++ x ∷ []) k nothing)) (sym same)
    (subst (λ (l : Linear). IsMasked entry (get_or rows i nothing) l) (sym (get_or_push made x nothing i long)) here))
    (cases_lt n i)

nothing_masked : (entry : List ℕ) → IsMasked entry nothing nothing
nothing_masked entry = record { each = λ v. record { inside = λ h. get_or_past [] v (pos 0) (omega arith); outside = λ h. refl } }

pub masked_rows_all : (entry : List ℕ) (rows made : List Linear) (n : ℕ) → length rows ≤ n → n ≤ length rows → length made ≡ n → ((i : ℕ) → i < n → IsMasked entry (get_or rows i nothing) (get_or made i nothing)) → AreMasked entry rows made
masked_rows_all entry rows made n low high long each = record {
  count = omega (arith, low, high, long);
  each = λ k. ⊎_elim (each (k - 1)) (λ le.
      subst (λ (l : Linear). IsMasked entry (get_or rows (k - 1) nothing) l) (sym (get_or_past made (k - 1) nothing (omega (arith, long, le))))
      (subst (λ (l : Linear). IsMasked entry l nothing) (sym (get_or_past rows (k - 1) nothing (omega (arith, low, le)))) (nothing_masked entry))) (cases_lt (k - 1) n);
}

-- ---- the same with what the code makes
pub masked_ok : {E : Type 0} (r : Result Linear E) (f : Linear) (P : Linear → Type 0) → P f → IfOk r (λ l. l ≡ f) → IfOk r P
masked_ok (Ok l) f P p e = subst P (sym e) p
masked_ok (Err x) f P p e = tt

pub row_pushed : (entry : List ℕ) (rows : List Row) (made now : List Row) (i : ℕ) (row : Row) (lin : Linear) → i < length rows → row ≡ get_or rows i row → length made ≡ i → now ≡ made ++ record { lin = lin } ∷ [] → IsMasked entry row.lin lin
    → ((n : ℕ) → n < i → IsMasked entry (get_or (lins rows) n nothing) (get_or (lins made) n nothing)) → (n : ℕ) → n < i + 1 → IsMasked entry (get_or (lins rows) n nothing) (get_or (lins now) n nothing)
row_pushed entry rows made now i row lin inside read long pushed masked before n lt =
    let here : get_or (lins rows) i nothing ≡ row.lin = lin_at rows i row nothing inside read in
    let first : IsMasked entry (get_or (lins rows) i nothing) lin = subst (λ (l : Linear). IsMasked entry l lin) (sym here) masked in
    let all : lins now ≡ lins made ++ lin ∷ [] = ap lins pushed ∙ map-append (λ (r : Row). r.lin) made (record { lin = lin } ∷ []) in
    subst (λ (xs : List Linear). IsMasked entry (get_or (lins rows) n nothing) (get_or xs n nothing)) (sym all)
    (masked_row entry (lins rows) (lins made) i lin (length-map made (λ (r : Row). r.lin) ∙ long) before first n lt)
