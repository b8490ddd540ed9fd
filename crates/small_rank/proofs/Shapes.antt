-- Functions of at most two sizes: what their lists of terms look like, and that these tell them apart.
use Rattle.std.specs.Prelude.{◌≡◌, ◌⊎◌, ℕ, suc, ◌+◌, ◌<◌, ◌≤◌, ℤ, pos, negsuc, Bool, true, false, List, [], ◌∷◌, ◌++◌, length, map, All, if◌then◌else◌}
use Rattle.std.specs.Ordering.{int_eq}
use Rattle.std.proofs.Common.{arith, refl, sym, ap, ◌∙◌, subst}
use Rattle.std.proofs.lemmas.Bool.Decides.{Decides-int_eq}
use Rattle.lin_rows.specs.Linear.{Linear}
use Rattle.small_cert.specs.Order.{terms_from, terms_of, rank_of}
use Rattle.small_rank.specs.Ranking.{IsFunction}
use Rattle.small_rank.specs.inside.Search.{IsSign}

abbrev pub Term : Type 0
Term = ℕ × ℤ

abbrev pub key_in : List Term → List ℕ
key_in ts = length ts ∷ (map (λ (t : Term). t.0) ts ++ map (λ (t : Term). rank_of t.1) ts)

-- ---- lists of terms
first_or : List Term → Term → Term
first_or [] d = d
first_or (t ∷ ts) d = t

rest_of : List Term → List Term
rest_of [] = []
rest_of (t ∷ ts) = ts

heads : (a b : Term) (ts us : List Term) → a ∷ ts ≡ b ∷ us → a ≡ b
unfolding first_or
heads a b ts us e = ap (λ (ts : List Term). first_or ts a) e

tails : (a b : Term) (ts us : List Term) → a ∷ ts ≡ b ∷ us → ts ≡ us
unfolding rest_of
tails a b ts us e = ap rest_of e

none_some : {A : Type 0} (t : Term) (ts : List Term) → [] ≡ t ∷ ts → A
none_some t ts e = absurd (omega (arith, ap (λ (ts : List Term). length ts) e))

-- the first term and what is behind it
pub record Behind (v n : ℕ) (t : Term) (ts : List Term) : Type 0 where
  low : v ≤ t.0
  high : t.0 < v + n
  coefficients : List ℤ
  terms : ts ≡ terms_from (suc t.0) coefficients
  long : suc t.0 + length coefficients ≡ v + n

moved : (v n : ℕ) → suc v + n ≡ v + suc n
moved v n = omega arith

behind_by : (v : ℕ) (x : ℤ) (xs : List ℤ) (t : Term) (ts : List Term) (b : Bool) → (terms_from (suc v) xs ≡ t ∷ ts → Behind (suc v) (length xs) t ts) → (if b then terms_from (suc v) xs else (v, x) ∷ terms_from (suc v) xs) ≡ t ∷ ts → Behind v (suc (length xs)) t ts
behind_by v x xs t ts true more e = let h = more e in record { low = omega (arith, h.low); high = omega (arith, h.high); coefficients = h.coefficients; terms = h.terms; long = h.long ∙ moved v (length xs) }
behind_by v x xs t ts false more e = subst (λ (t : Term). Behind v (suc (length xs)) t ts) (heads (v, x) t (terms_from (suc v) xs) ts e)
    (record { low = omega arith; high = omega arith; coefficients = xs; terms = sym (tails (v, x) t (terms_from (suc v) xs) ts e); long = moved v (length xs) })

behind : (v : ℕ) (xs : List ℤ) (t : Term) (ts : List Term) → terms_from v xs ≡ t ∷ ts → Behind v (length xs) t ts
behind v [] t ts e = none_some t ts e
behind v (x ∷ xs) t ts e = behind_by v x xs t ts (int_eq x (pos 0)) (λ h. behind (suc v) xs t ts h) e

-- ---- the shapes
pub data Shape (n : ℕ) : List Term → Type 0 where
  none : Shape n []
  one : (i : ℕ) (a : ℤ) → i < n → IsSign a → Shape n ((i, a) ∷ [])
  two : (i j : ℕ) (a b : ℤ) → i < j → j < n → IsSign a → IsSign b → Shape n ((i, a) ∷ (j, b) ∷ [])

shape_of : (cs : List ℤ) (ts : List Term) → terms_from 0 cs ≡ ts → length ts ≤ 2 → All (λ (t : Term). (t.1 ≡ pos 1) ⊎ (t.1 ≡ negsuc 0)) ts → Shape (length cs) ts
shape_of cs [] e few units = none
shape_of cs (t ∷ []) e few units = let h = behind 0 cs t [] e in one t.0 t.1 (omega (arith, h.high)) (units 0 t (omega arith))
shape_of cs (t ∷ u ∷ []) e few units =
    let h = behind 0 cs t (u ∷ []) e in
    let k = behind (suc t.0) h.coefficients u [] (sym h.terms) in
    two t.0 u.0 t.1 u.1 (omega (arith, k.low)) (omega (arith, k.high, h.long)) (units 0 t (omega arith)) (units 1 t (omega arith))
shape_of cs (t ∷ u ∷ w ∷ ts) e few units = absurd (omega (arith, few))

pub function_shape : (n : ℕ) (g : Linear) → IsFunction n g → Shape n (terms_of g)
function_shape n g h = subst (λ (m : ℕ). Shape m (terms_of g)) h.sizes (shape_of g.coefficients (terms_of g) refl h.few h.units)

-- ---- equal terms, equal lists
join : (x y : ℤ) (xs ys : List ℤ) → x ≡ y → xs ≡ ys → x ∷ xs ≡ y ∷ ys
join x y xs ys e k = ap (λ (z : ℤ). z ∷ xs) e ∙ ap (λ (zs : List ℤ). y ∷ zs) k

same_by : (v : ℕ) (x y : ℤ) (xs ys : List ℤ) (b c : Bool) → int_eq x (pos 0) ≡ b → int_eq y (pos 0) ≡ c → (terms_from (suc v) xs ≡ terms_from (suc v) ys → xs ≡ ys)
    → (if b then terms_from (suc v) xs else (v, x) ∷ terms_from (suc v) xs) ≡ (if c then terms_from (suc v) ys else (v, y) ∷ terms_from (suc v) ys) → x ∷ xs ≡ y ∷ ys
same_by v x y xs ys true true bx cy more e = join x y xs ys ((Decides-int_eq x (pos 0)).0 bx ∙ sym ((Decides-int_eq y (pos 0)).0 cy)) (more e)
same_by v x y xs ys true false bx cy more e = absurd (omega (arith, (behind (suc v) xs (v, y) (terms_from (suc v) ys) e).low))
same_by v x y xs ys false true bx cy more e = absurd (omega (arith, (behind (suc v) ys (v, x) (terms_from (suc v) xs) (sym e)).low))
same_by v x y xs ys false false bx cy more e = join x y xs ys (ap (λ (t : Term). t.1) (heads (v, x) (v, y) (terms_from (suc v) xs) (terms_from (suc v) ys) e)) (more (tails (v, x) (v, y) (terms_from (suc v) xs) (terms_from (suc v) ys) e))

same_lists : (v : ℕ) (xs ys : List ℤ) → length xs ≡ length ys → terms_from v xs ≡ terms_from v ys → xs ≡ ys
same_lists v [] [] long e = refl
same_lists v [] (y ∷ ys) long e = absurd (omega (arith, long))
same_lists v (x ∷ xs) [] long e = absurd (omega (arith, long))
same_lists v (x ∷ xs) (y ∷ ys) long e = same_by v x y xs ys (int_eq x (pos 0)) (int_eq y (pos 0)) refl refl (same_lists (suc v) xs ys (shorter (length xs) (length ys) long)) e
  where
    shorter : (m n : ℕ) → suc m ≡ suc n → m ≡ n
    shorter m n e = omega (arith, e)

pub same_function : (n : ℕ) (f g : Linear) → IsFunction n f → IsFunction n g → terms_of f ≡ terms_of g → f ≡ g
same_function n f g h k e =
    let coefficients : f.coefficients ≡ g.coefficients = same_lists 0 f.coefficients g.coefficients (h.sizes ∙ sym k.sizes) e in
    ap (λ (cs : List ℤ). record { coefficients = cs; constant = f.constant }) coefficients ∙ ap (λ (z : ℤ). record { coefficients = g.coefficients; constant = z }) (h.constant ∙ sym k.constant)
