-- Sums of coefficients times values of variables, and how the made sums change them.
use Rattle.std.proofs.Common.{◌≡◌, ◌≢◌, ℕ, zero, suc, ◌+◌, ◌<◌, ◌≤◌, ◌^◌, nat_lt, Bool, true, false, ℤ, pos, negsuc, ◌+ℤ◌, ◌-ℤ◌, ◌*ℤ◌, List, [], ◌∷◌, ◌++◌, length, replicate, get_or, set, Option, Some, None, if◌then◌else◌, refl, sym, ap, ◌∙◌, subst, arith}
use Rattle.std.specs.Prelude.{unsigned_abs}
use Rattle.std.proofs.lemmas.Int.{ints}
use Rattle.q128.specs.Rule.{◌>>=◌}
use Rattle.q128.proofs.Ring.{*ℤ_assoc, +ℤ-*ℤ, *ℤ-+ℤ}
use Rattle.lin_rows.specs.Linear.{Linear, coefficient_of}
use Rattle.lin_rows.specs.Points.{whole_sum, whole_value}
use Rattle.lin_rows.proofs.Expressions.{whole_sum-zero}
use Rattle.relation_runs.specs.Leading.{variable}
use Rattle.base_relations.specs.Substitution.{limited, number_added, places_added, lin_added, variable_added}

-- ---- what came of a step that made something
pub bound_some : {A B : Type 0} (o : Option A) (f : A → Option B) (b : B) → (o >>= f) ≡ Some b → (a : A) × (o ≡ Some a) × (f a ≡ Some b)
bound_some None f b e = absurd (let g : ⊥ = cc in g)
bound_some (Some a) f b e = (a, refl, e)

pub same_some : {A : Type 0} (x y : A) → Some x ≡ Some y → x ≡ y
same_some x y e = cc

-- ---- the sum of coefficients times the values of variables from i on
abbrev pub listed_sum : List ℤ → (ℕ → ℤ) → ℕ → ℤ
listed_sum [] x i = pos 0
listed_sum (c ∷ cs) x i = c *ℤ x i +ℤ listed_sum cs x (suc i)

abbrev pub listed_value : Linear → (ℕ → ℤ) → ℤ
listed_value l x = listed_sum l.coefficients x 0 +ℤ l.constant

pub listed_shift : (cs : List ℤ) (x : ℕ → ℤ) (i : ℕ) → listed_sum cs x (suc i) ≡ listed_sum cs (λ k. x (suc k)) i
listed_shift [] x i = refl
listed_shift (c ∷ cs) x i = ap (λ s. c *ℤ x (suc i) +ℤ s) (listed_shift cs x (suc i))

pub nothing_times : (z : ℤ) → pos 0 *ℤ z ≡ pos 0
nothing_times (pos n) = omega (arith, ints)
nothing_times (negsuc n) = omega (arith, ints)

times_nothing : (c : ℤ) → c *ℤ pos 0 ≡ pos 0
times_nothing c = omega (arith, ints)

add_nothings : (a b : ℤ) → a ≡ pos 0 → b ≡ pos 0 → a +ℤ b ≡ pos 0
add_nothings a b e f = omega (arith, ints)

listed_none : (cs : List ℤ) (i : ℕ) → listed_sum cs (variable []) i ≡ pos 0
listed_none [] i = refl
listed_none (c ∷ cs) i = add_nothings (c *ℤ pos 0) (listed_sum cs (variable []) (suc i)) (times_nothing c) (listed_none cs (suc i))

whole_listed : (cs zs : List ℤ) → whole_sum (λ i. get_or cs i (pos 0)) zs ≡ listed_sum cs (variable zs) 0
whole_listed [] zs = whole_sum-zero zs
whole_listed (c ∷ cs) [] = sym (listed_none (c ∷ cs) 0)
whole_listed (c ∷ cs) (z ∷ zs) = ap (λ s. c *ℤ z +ℤ s) (whole_listed cs zs ∙ sym (listed_shift cs (variable (z ∷ zs)) 0))

-- the value of an expression
pub value_is : (l : Linear) (zs : List ℤ) → whole_value l zs ≡ listed_value l (variable zs)
value_is l zs = ap (λ s. s +ℤ l.constant) (whole_listed l.coefficients zs)

pub listed_zeros : (n : ℕ) (x : ℕ → ℤ) (i : ℕ) → listed_sum (replicate n (pos 0)) x i ≡ pos 0
listed_zeros zero x i = refl
listed_zeros (suc n) x i = add_nothings (pos 0 *ℤ x i) (listed_sum (replicate n (pos 0)) x (suc i)) (nothing_times (x i)) (listed_zeros n x (suc i))

pub zeros_length : (n : ℕ) → length (replicate n (pos 0)) ≡ n
zeros_length zero = refl
zeros_length (suc n) = ap suc (zeros_length n)

pub zeros_at : (n u : ℕ) → get_or (replicate n (pos 0)) u (pos 0) ≡ pos 0
zeros_at zero u = refl
zeros_at (suc n) zero = refl
zeros_at (suc n) (suc u) = zeros_at n u

-- ---- one place
set_sum_at : (c y z S T k : ℤ) → T ≡ S → y *ℤ z +ℤ T ≡ (c *ℤ z +ℤ S) +ℤ (y -ℤ c) *ℤ z
set_sum_at c y z S T k e =
    let d : (y -ℤ c) *ℤ z +ℤ c *ℤ z ≡ ((y -ℤ c) +ℤ c) *ℤ z = sym (+ℤ-*ℤ (y -ℤ c) c z) in
    let f : (y -ℤ c) +ℤ c ≡ y = omega (arith, ints) in
    let g : (y -ℤ c) *ℤ z +ℤ c *ℤ z ≡ y *ℤ z = d ∙ ap (λ a. a *ℤ z) f in
    omega (arith, ints)

behind_sum : (h S T D : ℤ) → T ≡ S +ℤ D → h +ℤ T ≡ (h +ℤ S) +ℤ D
behind_sum h S T D e = omega (arith, ints)

pub set_sum : (xs : List ℤ) (u : ℕ) (y : ℤ) (x : ℕ → ℤ) (i : ℕ) → u < length xs → listed_sum (set xs u y) x i ≡ listed_sum xs x i +ℤ (y -ℤ get_or xs u (pos 0)) *ℤ x (i + u)
set_sum [] u y x i low = absurd (omega arith)
set_sum (c ∷ xs) zero y x i low =
    subst (λ k. y *ℤ x i +ℤ listed_sum xs x (suc i) ≡ (c *ℤ x i +ℤ listed_sum xs x (suc i)) +ℤ (y -ℤ c) *ℤ x k) (let e : i ≡ i + 0 = omega arith in e)
    (set_sum_at c y (x i) (listed_sum xs x (suc i)) (listed_sum xs x (suc i)) (pos 0) refl)
set_sum (c ∷ xs) (suc u) y x i low =
    behind_sum (c *ℤ x i) (listed_sum xs x (suc i)) (listed_sum (set xs u y) x (suc i)) ((y -ℤ get_or xs u (pos 0)) *ℤ x (i + suc u))
    (subst (λ k. listed_sum (set xs u y) x (suc i) ≡ listed_sum xs x (suc i) +ℤ (y -ℤ get_or xs u (pos 0)) *ℤ x k) (let e : suc i + u ≡ i + suc u = omega arith in e)
    (set_sum xs u y x (suc i) (omega arith)))

pub set_first : (xs : List ℤ) (u : ℕ) (y : ℤ) (x : ℕ → ℤ) → u < length xs → listed_sum (set xs u y) x 0 ≡ listed_sum xs x 0 +ℤ (y -ℤ get_or xs u (pos 0)) *ℤ x u
set_first xs u y x low = subst (λ k. listed_sum (set xs u y) x 0 ≡ listed_sum xs x 0 +ℤ (y -ℤ get_or xs u (pos 0)) *ℤ x k) (let e : 0 + u ≡ u = omega arith in e) (set_sum xs u y x 0 low)

pub set_length : (xs : List ℤ) (u : ℕ) (y : ℤ) → length (set xs u y) ≡ length xs
set_length [] u y = refl
set_length (c ∷ xs) zero y = refl
set_length (c ∷ xs) (suc u) y = ap suc (set_length xs u y)

pub set_apart : (xs : List ℤ) (u w : ℕ) (y : ℤ) → u ≢ w → get_or (set xs u y) w (pos 0) ≡ get_or xs w (pos 0)
set_apart [] u w y n = refl
set_apart (c ∷ xs) zero zero y n = absurd (n refl)
set_apart (c ∷ xs) zero (suc w) y n = refl
set_apart (c ∷ xs) (suc u) zero y n = refl
set_apart (c ∷ xs) (suc u) (suc w) y n = set_apart xs u w y (λ e. n (ap suc e))

-- ---- numbers within the limit
kept_or_none : (b : Bool) (z y : ℤ) → (if b then Some z else None) ≡ Some y → y ≡ z
kept_or_none true z y e = sym (same_some z y e)
kept_or_none false z y e = absurd (let g : ⊥ = cc in g)

pub limited_is : (z y : ℤ) → limited z ≡ Some y → y ≡ z
unfolding limited
limited_is z y e = kept_or_none (nat_lt (unsigned_abs z) (2 ^ 127)) z y e

pub added_is : (x c e y : ℤ) → number_added x c e ≡ Some y → y ≡ x +ℤ c *ℤ e
unfolding number_added
added_is x c e y h =
    let b = bound_some (limited (c *ℤ e)) (λ product. limited (x +ℤ product)) y h in
    limited_is (x +ℤ b.0) y b.2 ∙ ap (λ p. x +ℤ p) (limited_is (c *ℤ e) b.0 b.1)

-- ---- expressions that are added
-- the places with others added
pub record IsAdded (xs es ys : List ℤ) (c : ℤ) : Type 0 where
  pub size : length ys ≡ length xs
  pub sum : (x : ℕ → ℤ) (i : ℕ) → listed_sum ys x i ≡ listed_sum xs x i +ℤ c *ℤ listed_sum es x i

plus_zero_times : (S c : ℤ) → S ≡ S +ℤ c *ℤ pos 0
plus_zero_times S c = let e = times_nothing c in omega (arith, ints)

place_added : (p c e y X E S T z : ℤ) → y ≡ p +ℤ c *ℤ e → T ≡ S +ℤ c *ℤ E → y *ℤ z +ℤ T ≡ (p *ℤ z +ℤ S) +ℤ c *ℤ (e *ℤ z +ℤ E)
place_added p c e y X E S T z f g =
    let a : y *ℤ z ≡ p *ℤ z +ℤ (c *ℤ e) *ℤ z = ap (λ k. k *ℤ z) f ∙ +ℤ-*ℤ p (c *ℤ e) z in
    let b : (c *ℤ e) *ℤ z ≡ c *ℤ (e *ℤ z) = *ℤ_assoc c e z in
    let d : c *ℤ (e *ℤ z +ℤ E) ≡ c *ℤ (e *ℤ z) +ℤ c *ℤ E = *ℤ-+ℤ c (e *ℤ z) E in
    omega (arith, ints)

abbrev SomeAdded : List ℤ → List ℤ → List ℤ → List ℤ → ℤ → Type 0
SomeAdded done xs es all c = (ys : List ℤ) × (all ≡ done ++ ys) × IsAdded xs es ys c

no_more : (xs : List ℤ) → xs ++ [] ≡ xs
no_more [] = refl
no_more (x ∷ xs) = ap (λ ys. x ∷ ys) (no_more xs)

one_more : (done : List ℤ) (y : ℤ) (ys : List ℤ) → (done ++ y ∷ []) ++ ys ≡ done ++ y ∷ ys
one_more [] y ys = refl
one_more (d ∷ done) y ys = ap (λ zs. d ∷ zs) (one_more done y ys)

pub places_are : (done xs : List ℤ) (c : ℤ) (es all : List ℤ) → length es ≤ length xs → places_added done xs c es ≡ Some all → SomeAdded done xs es all c
unfolding places_added
places_are done xs c [] all low h = (xs, sym (same_some (done ++ xs) all h), record { size = refl; sum = λ x i. plus_zero_times (listed_sum xs x i) c })
places_are done [] c (e ∷ es) all low h = absurd (omega arith)
places_are done (p ∷ xs) c (e ∷ es) all low h =
    let b = bound_some (number_added p c e) (λ y. places_added (done ++ y ∷ []) xs c es) all h in
    let r = places_are (done ++ b.0 ∷ []) xs c es all (omega arith) b.2 in (
      b.0 ∷ r.0,
      r.1 ∙ one_more done b.0 r.0,
      record {
        size = ap suc r.2.size;
        sum = λ x i. place_added p c e b.0 (pos 0) (listed_sum es x (suc i)) (listed_sum xs x (suc i)) (listed_sum r.0 x (suc i)) (x i) (added_is p c e b.0 b.1) (r.2.sum x (suc i));
      },
    )

-- the sum with more: as many places, and so much worth
pub record Grows (n : ℕ) (sum next : Linear) (x : ℕ → ℤ) (more : ℤ) : Type 0 where
  pub size : length next.coefficients ≡ n
  pub value : listed_value next x ≡ listed_value sum x +ℤ more

lin_worth : (S k c E e T K : ℤ) → T ≡ S +ℤ c *ℤ E → K ≡ k +ℤ c *ℤ e → T +ℤ K ≡ (S +ℤ k) +ℤ c *ℤ (E +ℤ e)
lin_worth S k c E e T K f g = let d = *ℤ-+ℤ c E e in omega (arith, ints)

pub lin_added_is : (n : ℕ) (sum : Linear) (c : ℤ) (e next : Linear) (x : ℕ → ℤ) → length sum.coefficients ≡ n → length e.coefficients ≤ n → lin_added sum c e ≡ Some next → Grows n sum next x (c *ℤ listed_value e x)
unfolding lin_added
lin_added_is n sum c e next x size low h =
    let b = bound_some (places_added [] sum.coefficients c e.coefficients) _ next h in
    let d = bound_some (number_added sum.constant c e.constant) _ next b.2 in
    let is : record { coefficients = b.0; constant = d.0 } ≡ next = same_some _ next d.2 in
    let r = places_are [] sum.coefficients c e.coefficients b.0 (subst (λ k. length e.coefficients ≤ k) (sym size) low) b.1 in
    let same : b.0 ≡ r.0 = r.1 in
    subst (λ l. Grows n sum l x (c *ℤ listed_value e x)) is (record {
      size = ap (λ (ys : List ℤ). length ys) same ∙ r.2.size ∙ size;
      value = lin_worth (listed_sum sum.coefficients x 0) sum.constant c (listed_sum e.coefficients x 0) e.constant (listed_sum b.0 x 0) d.0 (ap (λ ys. listed_sum ys x 0) same ∙ r.2.sum x 0) (added_is sum.constant c e.constant d.0 d.1);
    })

variable_worth : (S k c p y z T : ℤ) → T ≡ S +ℤ (y -ℤ p) *ℤ z → y ≡ p +ℤ c *ℤ pos 1 → T +ℤ k ≡ (S +ℤ k) +ℤ c *ℤ z
variable_worth S k c p y z T e f =
    let one : c *ℤ pos 1 ≡ c = omega (arith, ints) in
    let d : y -ℤ p ≡ c = omega (arith, ints) in
    let g : (y -ℤ p) *ℤ z ≡ c *ℤ z = ap (λ a. a *ℤ z) d in
    omega (arith, ints)

pub variable_added_is : (n : ℕ) (sum : Linear) (c : ℤ) (u : ℕ) (next : Linear) (x : ℕ → ℤ) → length sum.coefficients ≡ n → u < n → variable_added sum c u ≡ Some next → Grows n sum next x (c *ℤ x u)
unfolding variable_added
variable_added_is n sum c u next x size low h =
    let b = bound_some (number_added (coefficient_of sum u) c (pos 1)) _ next h in
    let is : record { coefficients = set sum.coefficients u b.0; constant = sum.constant } ≡ next = same_some _ next b.2 in
    subst (λ l. Grows n sum l x (c *ℤ x u)) is (record {
      size = set_length sum.coefficients u b.0 ∙ size;
      value = variable_worth (listed_sum sum.coefficients x 0) sum.constant c (coefficient_of sum u) b.0 (x u) (listed_sum (set sum.coefficients u b.0) x 0)
          (set_first sum.coefficients u b.0 x (subst (λ k. u < k) (sym size) low)) (added_is (coefficient_of sum u) c (pos 1) b.0 b.1);
    })
