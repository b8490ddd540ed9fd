-- More places than the rows need change nothing.
use Rattle.std.specs.Prelude.{◌≡◌, ℕ, ℤ, ◌+◌, ◌≤◌, pos, List, [], ◌∷◌, ◌++◌, length, replicate, Result, Ok, Err}
use Rattle.std.proofs.Common.{arith, refl, sym, ap, ◌∙◌, subst}
use Rattle.std.proofs.lemmas.List.{append_assoc, length-replicate, replicate-append-replicate}
use Rattle.q128.specs.Fraction.{Fraction, whole}
use Rattle.q128.specs.declared.q.TooWide.{TooWide}
use Rattle.lin_rows.specs.Linear.{Linear, row_at}
use Rattle.lin_rows.specs.Proving.{Multipliers}
use Rattle.lin_rows.specs.Combining.{◌>>=◌, Combination, zeros, term_added, places_added, row_added, rows_added}
use Rattle.lin_rows.specs.Laws.{widened, RoomIsFree}
use Rattle.lin_rows.proofs.Totals.{row_long, room_everywhere}

-- what is made with more places, where f adds them
abbrev more : {A B : Type 0} → (A → B) → Result A TooWide → Result B TooWide
more f (Ok x) = Ok (f x)
more f (Err e) = Err e

abbrev widen : List Fraction → Combination → Combination
widen zs s = record { coefficients = s.coefficients ++ zs; constant = s.constant }

more_then : {A B C D : Type 0} (r : Result A TooWide) (h : A → C) (f : A → Result B TooWide) (g : C → Result D TooWide) (k : B → D) → ((x : A) → r ≡ Ok x → g (h x) ≡ more k (f x)) → (more h r >>= g) ≡ more k (r >>= f)
more_then (Ok x) h f g k each = each x refl
more_then (Err e) h f g k each = refl

more_bind : {A B D : Type 0} (r : Result A TooWide) (f : A → Result B TooWide) (g : A → Result D TooWide) (k : B → D) → ((x : A) → g x ≡ more k (f x)) → (r >>= g) ≡ more k (r >>= f)
more_bind (Ok x) f g k each = each x
more_bind (Err e) f g k each = refl

places_more : (done xs zs : List Fraction) (q : Fraction) (cs : List ℤ) → length cs ≤ length xs → places_added done (xs ++ zs) q cs ≡ more (λ ys. ys ++ zs) (places_added done xs q cs)
unfolding places_added
places_more done xs zs q [] h = ap (λ (ys : List Fraction). Ok ys) (sym (append_assoc done xs zs))
places_more done [] zs q (c ∷ cs) h = absurd (omega arith)
places_more done (x ∷ xs) zs q (c ∷ cs) h =
    more_bind (term_added x q c) (λ y. places_added (done ++ y ∷ []) xs q cs) (λ y. places_added (done ++ y ∷ []) (xs ++ zs) q cs) (λ ys. ys ++ zs) (λ y. places_more (done ++ y ∷ []) xs zs q cs (omega arith))

row_more : (s : Combination) (zs : List Fraction) (q : Fraction) (l : Linear) → length l.coefficients ≤ length s.coefficients → row_added (widen zs s) q l ≡ more (widen zs) (row_added s q l)
unfolding row_added
row_more s zs q l h =
    let made : List Fraction → Fraction → Result Combination TooWide = λ places constant. Ok (record { coefficients = places; constant = constant }) in
    let last : List Fraction → Result Combination TooWide = λ places. term_added s.constant q l.constant >>= made places in
    ap (λ r. r >>= last) (places_more [] s.coefficients zs q l.coefficients h)
    ∙ more_then (places_added [] s.coefficients q l.coefficients) (λ ys. ys ++ zs) last last (widen zs) (λ places was. more_bind (term_added s.constant q l.constant) (made places) (made (places ++ zs)) (widen zs) (λ constant. refl))

rows_more : (rows : List Linear) (s : Combination) (zs : List Fraction) (m : Multipliers) → ((n : ℕ) → length (row_at rows n).coefficients ≤ length s.coefficients) → rows_added rows (widen zs s) m ≡ more (widen zs) (rows_added rows s m)
unfolding rows_added
rows_more rows s zs [] h = refl
rows_more rows s zs (p ∷ m) h =
    let l = row_at rows p.0 in
    let rest : Combination → Result Combination TooWide = λ next. rows_added rows next m in
    ap (λ r. r >>= rest) (row_more s zs p.1 l (h p.0))
    ∙ more_then (row_added s p.1 l) (widen zs) rest rest (widen zs) (λ t was. rows_more rows t zs m (λ n. subst (λ (k : ℕ). length (row_at rows n).coefficients ≤ k) (sym (row_long s t p.1 l (h p.0) was)) (h n)))

more_is : (k : ℕ) (r : Result Combination TooWide) → more (widen (replicate k (whole (pos 0)))) r ≡ widened k r
more_is k (Ok s) = refl
more_is k (Err e) = refl

wider_zeros : (n k : ℕ) → zeros (n + k) ≡ widen (replicate k (whole (pos 0))) (zeros n)
wider_zeros n k = ap (λ (xs : List Fraction). record { coefficients = xs; constant = whole (pos 0) }) (sym (replicate-append-replicate n k (whole (pos 0))))

pub room_is_free : RoomIsFree
room_is_free rows m n k room =
    ap (λ (s : Combination). rows_added rows s m) (wider_zeros n k)
    ∙ rows_more rows (zeros n) (replicate k (whole (pos 0))) m (λ i. subst (λ (l : ℕ). length (row_at rows i).coefficients ≤ l) (sym (length-replicate n (whole (pos 0)))) (room_everywhere rows n i room))
    ∙ more_is k (rows_added rows (zeros n) m)
