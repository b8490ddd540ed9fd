-- What the sums of rows, made one term after another, are.
use Rattle.std.specs.Prelude.{ℕ, zero, suc, ◌-◌, ◌<◌, ◌≤◌, ◌≡◌, ℤ, pos, ◌*ℤ◌, ◌≤ℤ◌, List, [], ◌∷◌, ◌++◌, length, replicate, Result, Ok}
use Rattle.std.proofs.Common.{arith, refl, sym, ap, ◌∙◌, subst, get_or, ⊎_elim}
use Rattle.std.proofs.lemmas.Bool.{cases_lt}
use Rattle.std.proofs.lemmas.List.{append_assoc, get_or-replicate, get_or_past, length-replicate}
use Rattle.q128.specs.Fraction.{Fraction, den_of, whole, IsSame, IsAtMost, plus, times}
use Rattle.q128.specs.declared.q.TooWide.{TooWide}
use Rattle.q128.proofs.Ring.{*ℤ-swap, *ℤ-mono, *ℤ-mono_back}
use Rattle.q128.proofs.Field.{same_trans, plus-same, plus_assoc, times-zero, plus-zero, zero-plus}
use Rattle.lin_rows.specs.Linear.{Linear, coefficient_of, row_at}
use Rattle.lin_rows.specs.Proving.{Multipliers, AreRowNumbers, sum_coefficient, sum_constant, NotNegative, IsSum, Reaches}
use Rattle.lin_rows.specs.Combining.{◌>>=◌, Combination, zeros, term_added, places_added, row_added, rows_added, IsUnder}
use Rattle.lin_rows.specs.Rows.{HaveRoom}
use Rattle.lin_rows.proofs.Meaning.{bind-ok, term_made}

nil : Fraction
nil = whole (pos 0)

unchanged : (x q : Fraction) → IsSame x (plus x (times q (whole (pos 0))))
unchanged x q = sym (same_trans (plus x (times q (whole (pos 0)))) (plus x (whole (pos 0))) x (plus-same x x (times q (whole (pos 0))) (whole (pos 0)) refl (times-zero q)) (plus-zero x))

record Placed (done xs : List Fraction) (q : Fraction) (cs : List ℤ) (ys : List Fraction) : Type 0 where
  zs : List Fraction
  is : ys ≡ done ++ zs
  long : length zs ≡ length xs
  each : (v : ℕ) → IsSame (get_or zs v (whole (pos 0))) (plus (get_or xs v (whole (pos 0))) (times q (whole (get_or cs v (pos 0)))))

each_place : (x y : Fraction) (xs zs : List Fraction) (q : Fraction) (c : ℤ) (cs : List ℤ) → IsSame y (plus x (times q (whole c))) → ((v : ℕ) → IsSame (get_or zs v (whole (pos 0))) (plus (get_or xs v (whole (pos 0))) (times q (whole (get_or cs v (pos 0)))))) → (v : ℕ) → IsSame (get_or (y ∷ zs) v (whole (pos 0))) (plus (get_or (x ∷ xs) v (whole (pos 0))) (times q (whole (get_or (c ∷ cs) v (pos 0)))))
each_place x y xs zs q c cs e f zero = e
each_place x y xs zs q c cs e f (suc v) = f v

placed : (done xs : List Fraction) (q : Fraction) (cs : List ℤ) (ys : List Fraction) → length cs ≤ length xs → places_added done xs q cs ≡ Ok ys → Placed done xs q cs ys
unfolding places_added
placed done xs q [] ys h e = let f : ys ≡ done ++ xs = cc in record { zs = xs; is = f; long = refl; each = λ v. unchanged (get_or xs v (whole (pos 0))) q }
placed done [] q (c ∷ cs) ys h e = absurd (omega arith)
placed done (x ∷ xs) q (c ∷ cs) ys h e =
    let y = bind-ok (term_added x q c) (λ y. places_added (done ++ y ∷ []) xs q cs) ys e in
    let r = placed (done ++ y.x ∷ []) xs q cs ys (omega arith) y.then_is in
    record {
      zs = y.x ∷ r.zs;
      is = r.is ∙ append_assoc done (y.x ∷ []) r.zs;
      long = ap suc r.long;
      each = each_place x y.x xs r.zs q c cs (term_made x y.x q c y.was) r.each;
    }

-- the sum with a row more
record RowMade (s : Combination) (q : Fraction) (l : Linear) (t : Combination) : Type 0 where
  long : length t.coefficients ≡ length s.coefficients
  each : (v : ℕ) → IsSame (get_or t.coefficients v (whole (pos 0))) (plus (get_or s.coefficients v (whole (pos 0))) (times q (whole (coefficient_of l v))))
  constant : IsSame t.constant (plus s.constant (times q (whole l.constant)))

row_record : (s t : Combination) (q : Fraction) (l : Linear) (ys : List Fraction) (k : Fraction) → Placed [] s.coefficients q l.coefficients ys → IsSame k (plus s.constant (times q (whole l.constant))) → t ≡ record { coefficients = ys; constant = k } → RowMade s q l t
row_record s t q l ys k p e f = rw f (record {
  long = ap length p.is ∙ p.long;
  each = λ v. subst (λ (zs : List Fraction). IsSame (get_or zs v (whole (pos 0))) (plus (get_or s.coefficients v (whole (pos 0))) (times q (whole (coefficient_of l v))))) (sym p.is) (p.each v);
  constant = e;
})

row_made : (s t : Combination) (q : Fraction) (l : Linear) → length l.coefficients ≤ length s.coefficients → row_added s q l ≡ Ok t → RowMade s q l t
unfolding row_added
row_made s t q l h e =
    let last : List Fraction → Fraction → Result Combination TooWide = λ places constant. Ok (record { coefficients = places; constant = constant }) in
    let first : List Fraction → Result Combination TooWide = λ places. term_added s.constant q l.constant >>= last places in
    let p = bind-ok (places_added [] s.coefficients q l.coefficients) first t e in
    let k = bind-ok (term_added s.constant q l.constant) (last p.x) t p.then_is in
    row_record s t q l p.x k.x (placed [] s.coefficients q l.coefficients p.x h p.was) (term_made s.constant k.x q l.constant k.was) (cc (k.then_is))

pub row_long : (s t : Combination) (q : Fraction) (l : Linear) → length l.coefficients ≤ length s.coefficients → row_added s q l ≡ Ok t → length t.coefficients ≡ length s.coefficients
row_long s t q l h e = (row_made s t q l h e).long

-- the sum with all rows
record RowsMade (rows : List Linear) (s : Combination) (m : Multipliers) (t : Combination) : Type 0 where
  long : length t.coefficients ≡ length s.coefficients
  each : (v : ℕ) → IsSame (get_or t.coefficients v (whole (pos 0))) (plus (get_or s.coefficients v (whole (pos 0))) (sum_coefficient rows m v))
  constant : IsSame t.constant (plus s.constant (sum_constant rows m))

chain : (t u s a b : Fraction) → IsSame t (plus u b) → IsSame u (plus s a) → IsSame t (plus s (plus a b))
chain t u s a b e f = same_trans t (plus u b) (plus s (plus a b)) e (same_trans (plus u b) (plus (plus s a) b) (plus s (plus a b)) (plus-same u (plus s a) b b f refl) (plus_assoc s a b))

rows_made : (rows : List Linear) (s t : Combination) (m : Multipliers) → ((n : ℕ) → length (row_at rows n).coefficients ≤ length s.coefficients) → rows_added rows s m ≡ Ok t → RowsMade rows s m t
unfolding rows_added
rows_made rows s t [] h e =
    let f : t ≡ s = cc in
    rw f (record { long = refl; each = λ v. sym (plus-zero (get_or s.coefficients v (whole (pos 0)))); constant = sym (plus-zero s.constant) })
rows_made rows s t (p ∷ m) h e =
    let u = bind-ok (row_added s p.1 (row_at rows p.0)) (λ next. rows_added rows next m) t e in
    let r = row_made s u.x p.1 (row_at rows p.0) (h p.0) u.was in
    let rest = rows_made rows u.x t m (λ n. subst (λ (k : ℕ). length (row_at rows n).coefficients ≤ k) (sym r.long) (h n)) u.then_is in
    record {
      long = rest.long ∙ r.long;
      each = λ v. chain (get_or t.coefficients v (whole (pos 0))) (get_or u.x.coefficients v (whole (pos 0))) (get_or s.coefficients v (whole (pos 0))) (times p.1 (whole (coefficient_of (row_at rows p.0) v))) (sum_coefficient rows m v) (rest.each v) (r.each v);
      constant = chain t.constant u.x.constant s.constant (times p.1 (whole (row_at rows p.0).constant)) (sum_constant rows m) rest.constant r.constant;
    }

pub room_everywhere : (rows : List Linear) (places n : ℕ) → HaveRoom places rows → length (row_at rows n).coefficients ≤ places
room_everywhere rows places n h = ⊎_elim (λ (k : n - 1 < length rows). h.each (n - 1) (record { coefficients = []; constant = pos 0 }) k) (λ k. rw (get_or_past rows (n - 1) (record { coefficients = []; constant = pos 0 }) k) (omega arith)) (cases_lt (n - 1) (length rows))

at_zeros : (n v : ℕ) → get_or (replicate n (whole (pos 0))) v (whole (pos 0)) ≡ whole (pos 0)
at_zeros n v = ⊎_elim (λ k. get_or-replicate n v (whole (pos 0)) (whole (pos 0)) k) (λ k. get_or_past (replicate n (whole (pos 0))) v (whole (pos 0)) (subst (λ (l : ℕ). l ≤ v) (sym (length-replicate n (whole (pos 0)))) k)) (cases_lt v n)

pub sum_is : (rows : List Linear) (n : ℕ) (m : Multipliers) (t : Combination) → HaveRoom n rows → rows_added rows (zeros n) m ≡ Ok t → IsSum rows m t.coefficients t.constant
sum_is rows n m t h e =
    let r = rows_made rows (zeros n) t m (λ k. subst (λ (l : ℕ). length (row_at rows k).coefficients ≤ l) (sym (length-replicate n (whole (pos 0)))) (room_everywhere rows n k h)) e in
    record {
      coefficient = λ v. same_trans (get_or t.coefficients v (whole (pos 0))) (plus (whole (pos 0)) (sum_coefficient rows m v)) (sum_coefficient rows m v)
          (subst (λ (x : Fraction). IsSame (get_or t.coefficients v (whole (pos 0))) (plus x (sum_coefficient rows m v))) (at_zeros n v) (r.each v)) (zero-plus (sum_coefficient rows m v));
      constant_is = same_trans t.constant (plus (whole (pos 0)) (sum_constant rows m)) (sum_constant rows m) r.constant (zero-plus (sum_constant rows m));
    }

-- ---- the goal
at_most-same : (x x' y : Fraction) → IsSame x x' → IsAtMost x y → IsAtMost x' y
at_most-same x x' y e h =
    let left : (x.num *ℤ den_of y) *ℤ den_of x' ≡ (x'.num *ℤ den_of y) *ℤ den_of x = *ℤ-swap x.num (den_of y) (den_of x') ∙ ap (λ z. z *ℤ den_of y) e ∙ *ℤ-swap x'.num (den_of x) (den_of y) in
    let right : (y.num *ℤ den_of x) *ℤ den_of x' ≡ (y.num *ℤ den_of x') *ℤ den_of x = *ℤ-swap y.num (den_of x) (den_of x') in
    let raised : ((x.num *ℤ den_of y) *ℤ den_of x') ≤ℤ ((y.num *ℤ den_of x) *ℤ den_of x') = *ℤ-mono (x.num *ℤ den_of y) (y.num *ℤ den_of x) (suc x'.den_less_one) h in
    *ℤ-mono_back (x'.num *ℤ den_of y) (y.num *ℤ den_of x') x.den_less_one (subst (λ z. ((x'.num *ℤ den_of y) *ℤ den_of x) ≤ℤ z) right (subst (λ z. z ≤ℤ ((y.num *ℤ den_of x) *ℤ den_of x')) left raised))

pub reaches_there : (rows : List Linear) (m : Multipliers) (goal : Linear) (t : Combination) → AreRowNumbers (length rows) m → IsSum rows m t.coefficients t.constant → NotNegative m → IsUnder t goal → Reaches rows m goal
reaches_there rows m goal t are s h u = record {
  numbers = are;
  not_negative = h;
  coefficients = λ v. same_trans (sum_coefficient rows m v) (get_or t.coefficients v (whole (pos 0))) (whole (coefficient_of goal v)) (sym (s.coefficient v)) (u.coefficients.each v);
  constant = at_most-same t.constant (sum_constant rows m) (whole goal.constant) s.constant_is u.constant;
}

pub reaches_back : (rows : List Linear) (m : Multipliers) (goal : Linear) (t : Combination) → IsSum rows m t.coefficients t.constant → Reaches rows m goal → IsUnder t goal
reaches_back rows m goal t s r = record {
  coefficients = record { each = λ v. same_trans (get_or t.coefficients v (whole (pos 0))) (sum_coefficient rows m v) (whole (coefficient_of goal v)) (s.coefficient v) (r.coefficients v) };
  constant = at_most-same (sum_constant rows m) t.constant (whole goal.constant) (sym s.constant_is) r.constant;
}
