-- Steps of the loops that add terms.
use Rattle.std.specs.Prelude.{ℕ, zero, suc, All, ◌+◌, ◌<◌, ◌≤◌, ◌≡◌, ◌⊎◌, min, ℤ, pos, List, [], ◌∷◌, ◌++◌, length, replicate, Result, Ok, Err}
use Rattle.std.proofs.Common.{arith, refl, sym, ap, ◌∙◌, subst, get_or, drop, take, set, ⊎_elim, inl, inr}
use Rattle.std.proofs.lemmas.Bool.{cases_lt}
use Rattle.std.proofs.lemmas.List.Elements.{All-get_or}
use Rattle.std.proofs.lemmas.List.{length-map, drop_more, drop_all, take_more_set, drop-set-lt, take-append-drop, replicate_more}
use Rattle.q128.specs.Fraction.{Fraction}
use Rattle.q128.specs.declared.q.TooWide.{TooWide}
use Rattle.lin_rows.specs.Combining.{◌>>=◌, Combination, term_added, terms_added, places_added, row_added, rows_added}
use Rattle.lin_rows.specs.declared.row.Row.{Row}
use Rattle.lin_rows.specs.Linear.{Linear, row_at}
use Rattle.lin_rows.specs.Rows.{lins}
use Rattle.lin_rows.specs.Proving.{Multipliers}

pub terms_added_more : (x : Fraction) (cs : List ℤ) (v : List Fraction) (i : ℕ) (c : ℤ) (q : Fraction) → i < length cs → i < length v →
    terms_added x (drop i cs) (drop i v) ≡ (term_added x (get_or v i q) (get_or cs i c) >>= λ y. terms_added y (drop (i + 1) cs) (drop (i + 1) v))
unfolding terms_added
terms_added_more x cs v i c q h k = rw (drop_more cs i c h, drop_more v i q k) refl

pub terms_ok : (x : Fraction) (cs : List ℤ) (v : List Fraction) (i : ℕ) (c : ℤ) (q y : Fraction) (r all : Result Fraction TooWide) → i < length cs → i < length v → c ≡ get_or cs i (pos 0) → q ≡ get_or v i q → r ≡ term_added x q c → r ≡ Ok y → terms_added x (drop i cs) (drop i v) ≡ all → terms_added y (drop (i + 1) cs) (drop (i + 1) v) ≡ all
terms_ok x cs v i c q y r all h k read_c read_q called was f =
    let e : term_added x (get_or v i q) (get_or cs i (pos 0)) ≡ Ok y = ap (λ z. term_added x z (get_or cs i (pos 0))) (sym read_q) ∙ ap (term_added x q) (sym read_c) ∙ sym called ∙ was in
    ap (λ s. s >>= λ z. terms_added z (drop (i + 1) cs) (drop (i + 1) v)) (sym e) ∙ sym (terms_added_more x cs v i (pos 0) q h k) ∙ f

pub terms_err : (x : Fraction) (cs : List ℤ) (v : List Fraction) (i : ℕ) (c : ℤ) (q : Fraction) (e : TooWide) (r all : Result Fraction TooWide) → i < length cs → i < length v → c ≡ get_or cs i (pos 0) → q ≡ get_or v i q → r ≡ term_added x q c → r ≡ Err e → terms_added x (drop i cs) (drop i v) ≡ all → Err e ≡ all
terms_err x cs v i c q e r all h k read_c read_q called was f =
    let g : term_added x (get_or v i q) (get_or cs i (pos 0)) ≡ Err e = ap (λ z. term_added x z (get_or cs i (pos 0))) (sym read_q) ∙ ap (term_added x q) (sym read_c) ∙ sym called ∙ was in
    ap (λ s. s >>= λ z. terms_added z (drop (i + 1) cs) (drop (i + 1) v)) (sym g) ∙ sym (terms_added_more x cs v i (pos 0) q h k) ∙ f

no_terms : (x : Fraction) (cs : List ℤ) (v : List Fraction) → (cs ≡ []) ⊎ (v ≡ []) → terms_added x cs v ≡ Ok x
unfolding terms_added
no_terms x [] v h = refl
no_terms x (c ∷ cs) [] h = refl
no_terms x (c ∷ cs) (q ∷ v) h = ⊎_elim (λ e. absurd (cc)) (λ e. absurd (cc)) h

pub terms_end : (x : Fraction) (cs : List ℤ) (v : List Fraction) (i : ℕ) (all : Result Fraction TooWide) → min (length cs) (length v) ≤ i → terms_added x (drop i cs) (drop i v) ≡ all → Ok x ≡ all
terms_end x cs v i all h f = sym (no_terms x (drop i cs) (drop i v) (⊎_elim (λ k. inl (drop_all i cs k)) (λ k. inr (drop_all i v k)) one)) ∙ f
  where
    one : (length cs ≤ i) ⊎ (length v ≤ i)
    one = ⊎_elim (λ k. inr (omega arith)) (λ k. inl k) (cases_lt i (length cs))

-- ---- places
places_added_more : (xs : List Fraction) (q : Fraction) (cs : List ℤ) (i : ℕ) (x : Fraction) (c : ℤ) → i < length cs → i < length xs →
    places_added (take i xs) (drop i xs) q (drop i cs) ≡ (term_added (get_or xs i x) q (get_or cs i c) >>= λ y. places_added (take i xs ++ y ∷ []) (drop (i + 1) xs) q (drop (i + 1) cs))
unfolding places_added
places_added_more xs q cs i x c h k = rw (drop_more cs i c h, drop_more xs i x k) refl

pub places_ok : (xs : List Fraction) (q : Fraction) (cs : List ℤ) (i : ℕ) (x y : Fraction) (all : Result (List Fraction) TooWide) → i < length cs → i < length xs → x ≡ get_or xs i x → term_added x q (get_or cs i (pos 0)) ≡ Ok y → places_added (take i xs) (drop i xs) q (drop i cs) ≡ all → places_added (take (i + 1) (set xs i y)) (drop (i + 1) (set xs i y)) q (drop (i + 1) cs) ≡ all
places_ok xs q cs i x y all h k read was f =
    rw (take_more_set xs i y k, drop-set-lt (i + 1) xs i y (omega arith))
    (ap (λ s. s >>= λ z. places_added (take i xs ++ z ∷ []) (drop (i + 1) xs) q (drop (i + 1) cs)) (sym (ap (λ z. term_added z q (get_or cs i (pos 0))) (sym read) ∙ was)) ∙ sym (places_added_more xs q cs i x (pos 0) h k) ∙ f)

pub places_err : (xs : List Fraction) (q : Fraction) (cs : List ℤ) (i : ℕ) (x : Fraction) (e : TooWide) (all : Result (List Fraction) TooWide) → i < length cs → i < length xs → x ≡ get_or xs i x → term_added x q (get_or cs i (pos 0)) ≡ Err e → places_added (take i xs) (drop i xs) q (drop i cs) ≡ all → all ≡ Err e
places_err xs q cs i x e all h k read was f =
    sym f ∙ places_added_more xs q cs i x (pos 0) h k ∙ ap (λ s. s >>= λ z. places_added (take i xs ++ z ∷ []) (drop (i + 1) xs) q (drop (i + 1) cs)) (ap (λ z. term_added z q (get_or cs i (pos 0))) (sym read) ∙ was)

no_places : (done xs : List Fraction) (q : Fraction) (cs : List ℤ) → cs ≡ [] → places_added done xs q cs ≡ Ok (done ++ xs)
unfolding places_added
no_places done xs q cs e = rw e refl

pub places_end : (xs : List Fraction) (q : Fraction) (cs : List ℤ) (i : ℕ) (all : Result (List Fraction) TooWide) → length cs ≤ i → places_added (take i xs) (drop i xs) q (drop i cs) ≡ all → all ≡ Ok xs
places_end xs q cs i all h f = sym f ∙ no_places (take i xs) (drop i xs) q (drop i cs) (drop_all i cs h) ∙ ap (λ (ys : List Fraction). Ok ys) (take-append-drop i xs)

-- ---- zeros
pub clear_more : (xs : List Fraction) (i : ℕ) (z : Fraction) → i < length xs → take i xs ≡ replicate i z → take (i + 1) (set xs i z) ≡ replicate (i + 1) z
clear_more xs i z h e = take_more_set xs i z h ∙ ap (λ ys. ys ++ z ∷ []) e ∙ replicate_more i z

-- ---- rows
rows_added_more : (rows : List Linear) (s : Combination) (m : Multipliers) (i : ℕ) (p : ℕ × Fraction) → i < length m →
    rows_added rows s (drop i m) ≡ (row_added s (get_or m i p).1 (row_at rows (get_or m i p).0) >>= λ t. rows_added rows t (drop (i + 1) m))
unfolding rows_added
rows_added_more rows s m i p h = rw (drop_more m i p h) refl

pub rows_ok : (rows : List Linear) (s t : Combination) (m : Multipliers) (i : ℕ) (p : ℕ × Fraction) (all : Result Combination TooWide) → i < length m → p ≡ get_or m i p → row_added s p.1 (row_at rows p.0) ≡ Ok t → rows_added rows s (drop i m) ≡ all → rows_added rows t (drop (i + 1) m) ≡ all
rows_ok rows s t m i p all h read was f =
    ap (λ r. r >>= λ t. rows_added rows t (drop (i + 1) m)) (sym (ap (λ (z : ℕ × Fraction). row_added s z.1 (row_at rows z.0)) (sym read) ∙ was)) ∙ sym (rows_added_more rows s m i p h) ∙ f

pub rows_err : (rows : List Linear) (s : Combination) (m : Multipliers) (i : ℕ) (p : ℕ × Fraction) (e : TooWide) (all : Result Combination TooWide) → i < length m → p ≡ get_or m i p → row_added s p.1 (row_at rows p.0) ≡ Err e → rows_added rows s (drop i m) ≡ all → all ≡ Err e
rows_err rows s m i p e all h read was f =
    sym f ∙ rows_added_more rows s m i p h ∙ ap (λ r. r >>= λ t. rows_added rows t (drop (i + 1) m)) (ap (λ (z : ℕ × Fraction). row_added s z.1 (row_at rows z.0)) (sym read) ∙ was)

no_rows : (rows : List Linear) (s : Combination) (m : Multipliers) → m ≡ [] → rows_added rows s m ≡ Ok s
unfolding rows_added
no_rows rows s m e = rw e refl

pub rows_end : (rows : List Linear) (s : Combination) (m : Multipliers) (i : ℕ) (all : Result Combination TooWide) → length m ≤ i → rows_added rows s (drop i m) ≡ all → all ≡ Ok s
rows_end rows s m i all h f = sym f ∙ no_rows rows s (drop i m) (drop_all i m h)

-- the expression of a row
pub lin_at : (rows : List Row) (k : ℕ) (row : Row) (l : Linear) → k < length rows → row ≡ get_or rows k row → get_or (lins rows) k l ≡ row.lin
lin_at [] k row l h is = absurd (omega (arith, h))
lin_at (r ∷ rows) zero row l h is = ap (λ (x : Row). x.lin) (sym is)
lin_at (r ∷ rows) (suc k) row l h is = lin_at rows k row l (omega (arith, h)) is

pub room_at : (rows : List Row) (places k : ℕ) (row : Row) → k < length rows → row ≡ get_or rows k row → All (λ (l : Linear). length l.coefficients ≤ places) (lins rows) → length row.lin.coefficients ≤ places
room_at rows places k row h is each =
    subst (λ (l : Linear). length l.coefficients ≤ places) (lin_at rows k row row.lin h is)
    (All-get_or (λ (l : Linear). length l.coefficients ≤ places) (lins rows) k row.lin (omega (arith, h, length-map rows (λ (r : Row). r.lin))) each)
