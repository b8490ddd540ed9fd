-- Expressions of a rule in a call's place, and of the rule that has the calls: their values are those of the expressions that
-- they come from, at the values of what stands for each variable.
use Rattle.std.proofs.Common.{◌≡◌, ◌≢◌, ℕ, suc, ◌+◌, ◌<◌, ◌≤◌, nat_lt, Bool, true, false, ℤ, pos, ◌+ℤ◌, ◌-ℤ◌, ◌*ℤ◌, List, [], ◌∷◌, length, replicate, get_or, set, Option, Some, None, if◌then◌else◌, refl, sym, ap, ◌∙◌, subst, arith}
use Rattle.std.specs.Ordering.{int_eq}
use Rattle.std.proofs.lemmas.Int.{ints}
use Rattle.std.proofs.lemmas.Bool.Decides.{Decides-int_eq}
use Rattle.lin_rows.specs.Linear.{Linear, nothing}
use Rattle.relations.specs.Scope.{is_bound, lin_bound}
use Rattle.relation_runs.proofs.Setting.{coefficient_bound}
use Rattle.base_relations.specs.Substitution.{zeros, limited, lin_added, variable_added, number_of, term_added, terms_added, lin_replaced, places_moved, lin_numbered}
use Rattle.unfolding_laws.proofs.Sums.{bound_some, same_some, nothing_times, listed_sum, listed_value, listed_zeros, zeros_length, zeros_at, set_first, set_length, set_apart, limited_is, Grows, lin_added_is, variable_added_is}

-- each variable from i on whose coefficient isn't 0
abbrev pub Named : (ℕ → Type 0) → ℕ → List ℤ → Type 0
Named P i [] = Unit {0}
Named P i (c ∷ cs) = (c ≢ pos 0 → P i) × Named P (suc i) cs

named_from : (P : ℕ → Type 0) (i : ℕ) (cs : List ℤ) → ((k : ℕ) → get_or cs k (pos 0) ≢ pos 0 → P (i + k)) → Named P i cs
named_from P i [] h = tt
named_from P i (c ∷ cs) h =
    (λ n. subst P (let e : i + 0 ≡ i = omega arith in e) (h 0 n), named_from P (suc i) cs (λ k n. subst P (let e : i + suc k ≡ suc i + k = omega arith in e) (h (suc k) n)))

-- the variables that an expression names are bound
pub named_bound : (sizes : ℕ) (made : List ℕ) (l : Linear) → lin_bound sizes made l ≡ true → Named (λ i. is_bound sizes made i ≡ true) 0 l.coefficients
named_bound sizes made l e = named_from (λ i. is_bound sizes made i ≡ true) 0 l.coefficients (λ k n. coefficient_bound sizes made 0 l.coefficients k e n)

pub named_more : (P Q : ℕ → Type 0) (i : ℕ) (cs : List ℤ) → ((k : ℕ) → P k → Q k) → Named P i cs → Named Q i cs
named_more P Q i [] more h = tt
named_more P Q i (c ∷ cs) more h = (λ n. more i (h.0 n), named_more P Q (suc i) cs more h.1)

by_zero : {A : Type 0} (c : ℤ) → (c ≡ pos 0 → A) → (c ≢ pos 0 → int_eq c (pos 0) ≡ false → A) → A
by_zero {A} c is isnt = at (int_eq c (pos 0)) refl
  where
    at : (b : Bool) → int_eq c (pos 0) ≡ b → A
    at true e = is ((Decides-int_eq c (pos 0)).0 e)
    at false e = isnt (λ same. let t = (Decides-int_eq c (pos 0)).1 same in let f : ⊥ = cc in absurd f) e

zero_is : (c : ℤ) → c ≡ pos 0 → int_eq c (pos 0) ≡ true
zero_is c e = (Decides-int_eq c (pos 0)).1 e

listed_head : (c x y S T : ℤ) → (c ≢ pos 0 → x ≡ y) → S ≡ T → c *ℤ x +ℤ S ≡ c *ℤ y +ℤ T
listed_head c x y S T h rest = by_zero c
    (λ e.
    let f : c *ℤ x ≡ pos 0 = ap (λ a. a *ℤ x) e ∙ nothing_times x in
    let g : c *ℤ y ≡ pos 0 = ap (λ a. a *ℤ y) e ∙ nothing_times y in
    omega (arith, ints))
    (λ n e. ap (λ a. c *ℤ a +ℤ S) (h n) ∙ ap (λ s. c *ℤ y +ℤ s) rest)

-- sums where the values of the named variables are the same
pub listed_same : (cs : List ℤ) (x y : ℕ → ℤ) (i : ℕ) → Named (λ k. x k ≡ y k) i cs → listed_sum cs x i ≡ listed_sum cs y i
listed_same [] x y i h = refl
listed_same (c ∷ cs) x y i h = listed_head c (x i) (y i) (listed_sum cs x (suc i)) (listed_sum cs y (suc i)) h.0 (listed_same cs x y (suc i) h.1)

-- ---- what stands for a variable
abbrev pub argument_or : List Linear → List (ℕ × ℕ) → (ℕ → ℤ) → ℕ → Bool → ℤ
argument_or args made x i true = listed_value (get_or args i nothing) x
argument_or args made x i false = x (number_of made i)

abbrev pub stands : Option (List Linear) → List (ℕ × ℕ) → (ℕ → ℤ) → ℕ → ℤ
stands None made x i = x (number_of made i)
stands (Some args) made x i = argument_or args made x i (nat_lt i (length args))

-- ---- in a call's place
-- over n variables: arguments have at most so many places, and numbers are lower
abbrev pub IsPlaced : List Linear → List (ℕ × ℕ) → ℕ → ℕ → Type 0
IsPlaced args made n i = nat_lt i (length args) ≡ false → number_of made i < n

abbrev pub AreShort : List Linear → ℕ → Type 0
AreShort args n = (i : ℕ) → length (get_or args i nothing).coefficients ≤ n

no_growth : (S c z : ℤ) → c ≡ pos 0 → S ≡ S +ℤ c *ℤ z
no_growth S c z e = let f : c *ℤ z ≡ pos 0 = ap (λ a. a *ℤ z) e ∙ nothing_times z in omega (arith, ints)

module _ (args : List Linear) (made : List (ℕ × ℕ)) (n : ℕ) (short : AreShort args n) (x : ℕ → ℤ) where
  one_term : (sum next : Linear) (i : ℕ) (c : ℤ) (b : Bool) → nat_lt i (length args) ≡ b → length sum.coefficients ≡ n → IsPlaced args made n i
      → (if b then lin_added sum c (get_or args i nothing) else variable_added sum c (number_of made i)) ≡ Some next → Grows n sum next x (c *ℤ argument_or args made x i b)
  one_term sum next i c true e size placed h = lin_added_is n sum c (get_or args i nothing) next x size (short i) h
  one_term sum next i c false e size placed h = variable_added_is n sum c (number_of made i) next x size (placed e) h

  term_is : (sum next : Linear) (i : ℕ) (c : ℤ) → length sum.coefficients ≡ n → (c ≢ pos 0 → IsPlaced args made n i) → term_added args made sum i c ≡ Some next → Grows n sum next x (c *ℤ stands (Some args) made x i)
  unfolding term_added
  term_is sum next i c size placed h = by_zero c
      (λ e. let is : sum ≡ next = same_some sum next (ap (λ (b : Bool). if b then Some sum else other) (sym (zero_is c e)) ∙ h) in
      record { size = ap (λ (l : Linear). length l.coefficients) (sym is) ∙ size; value = ap (λ (l : Linear). listed_value l x) (sym is) ∙ no_growth (listed_value sum x) c (stands (Some args) made x i) e })
      (λ k e. one_term sum next i c (nat_lt i (length args)) refl size (placed k) (ap (λ (b : Bool). if b then Some sum else other) (sym e) ∙ h))
    where
      other : Option Linear
      other = if nat_lt i (length args) then lin_added sum c (get_or args i nothing) else variable_added sum c (number_of made i)

  sum_on : (S N T a b : ℤ) → N ≡ S +ℤ a → T ≡ N +ℤ b → T ≡ S +ℤ (a +ℤ b)
  sum_on S N T a b e f = omega (arith, ints)

  sum_none : (S : ℤ) → S ≡ S +ℤ pos 0
  sum_none S = omega (arith, ints)

  terms_are : (sum all : Linear) (i : ℕ) (cs : List ℤ) → length sum.coefficients ≡ n → Named (IsPlaced args made n) i cs → terms_added args made sum i cs ≡ Some all → Grows n sum all x (listed_sum cs (stands (Some args) made x) i)
  unfolding terms_added
  terms_are sum all i [] size named h =
      let is : sum ≡ all = same_some sum all h in
      record { size = ap (λ (l : Linear). length l.coefficients) (sym is) ∙ size; value = ap (λ (l : Linear). listed_value l x) (sym is) ∙ sum_none (listed_value sum x) }
  terms_are sum all i (c ∷ cs) size named h =
      let b = bound_some (term_added args made sum i c) (λ next. terms_added args made next (suc i) cs) all h in
      let one = term_is sum b.0 i c size named.0 b.1 in
      let rest = terms_are b.0 all (suc i) cs one.size named.1 b.2 in
      record {
        size = rest.size;
        value = sum_on (listed_value sum x) (listed_value b.0 x) (listed_value all x) (c *ℤ stands (Some args) made x i) (listed_sum cs (stands (Some args) made x) (suc i)) one.value rest.value;
      }

  -- places and worth
  pub record IsWorth (l : Linear) (worth : ℤ) : Type 0 where
    pub size : length l.coefficients ≡ n
    pub value : listed_value l x ≡ worth

  with_constant : (Z S V k K : ℤ) → Z ≡ pos 0 → S +ℤ k ≡ (Z +ℤ pos 0) +ℤ V → S +ℤ (k +ℤ K) ≡ V +ℤ K
  with_constant Z S V k K e f = omega (arith, ints)

  pub replaced_is : (l all : Linear) → Named (IsPlaced args made n) 0 l.coefficients → lin_replaced args made n l ≡ Some all → IsWorth all (listed_value l (stands (Some args) made x))
  unfolding lin_replaced
  replaced_is l all named h =
      let b = bound_some (terms_added args made (zeros n) 0 l.coefficients) _ all h in
      let d = bound_some (limited (b.0.constant +ℤ l.constant)) _ all b.2 in
      let is : record { coefficients = b.0.coefficients; constant = d.0 } ≡ all = same_some _ all d.2 in
      let r = terms_are (zeros n) b.0 0 l.coefficients (zeros_length n) named b.1 in
      subst (λ k. IsWorth k (listed_value l (stands (Some args) made x))) is (record {
        size = r.size;
        value = ap (λ k. listed_sum b.0.coefficients x 0 +ℤ k) (limited_is (b.0.constant +ℤ l.constant) d.0 d.1)
            ∙ with_constant (listed_sum (replicate n (pos 0)) x 0) (listed_sum b.0.coefficients x 0) (listed_sum l.coefficients (stands (Some args) made x) 0) b.0.constant l.constant (listed_zeros n x 0) r.value;
      })

-- ---- in the rule that has the calls
module _ (made : List (ℕ × ℕ)) (n : ℕ) (IsHere : ℕ → Type 0) (low : (i : ℕ) → IsHere i → number_of made i < n)
    (apart : (i j : ℕ) → IsHere i → IsHere j → number_of made i ≡ number_of made j → i ≡ j) (x : ℕ → ℤ) where
  -- the places of the variables from i on are free
  abbrev AreFree : List ℤ → ℕ → Type 0
  AreFree xs i = (k : ℕ) → i ≤ k → IsHere k → get_or xs (number_of made k) (pos 0) ≡ pos 0

  record IsMoved (xs ys : List ℤ) (worth : ℤ) : Type 0 where
    size : length ys ≡ length xs
    value : listed_sum ys x 0 ≡ listed_sum xs x 0 +ℤ worth

  set_free : (S T c p z : ℤ) → T ≡ S +ℤ (c -ℤ p) *ℤ z → p ≡ pos 0 → T ≡ S +ℤ c *ℤ z
  set_free S T c p z e f =
      let d : c -ℤ p ≡ c = omega (arith, ints) in
      let g : (c -ℤ p) *ℤ z ≡ c *ℤ z = ap (λ a. a *ℤ z) d in
      omega (arith, ints)

  sum_moved : (S N T a b : ℤ) → N ≡ S +ℤ a → T ≡ N +ℤ b → T ≡ S +ℤ (a +ℤ b)
  sum_moved S N T a b e f = omega (arith, ints)

  none_moved : (S : ℤ) → S ≡ S +ℤ pos 0
  none_moved S = omega (arith, ints)

  free_behind : (xs : List ℤ) (c : ℤ) (i : ℕ) → IsHere i → AreFree xs i → AreFree (set xs (number_of made i) c) (suc i)
  free_behind xs c i here free k high there =
      set_apart xs (number_of made i) (number_of made k) c (λ e. let same = apart i k here there e in let f : ⊥ = omega arith in f) ∙ free k (let l : i ≤ k = omega arith in l) there

  moved : (xs cs : List ℤ) (i : ℕ) → length xs ≡ n → AreFree xs i → Named IsHere i cs → IsMoved xs (places_moved made xs i cs) (listed_sum cs (λ k. x (number_of made k)) i)
  moved xs [] i size free named = record { size = refl; value = none_moved (listed_sum xs x 0) }
  moved xs (c ∷ cs) i size free named = by_zero c
      (λ e. subst (λ ys. IsMoved xs (places_moved made ys (suc i) cs) (listed_sum (c ∷ cs) (λ k. x (number_of made k)) i)) (ap (λ (b : Bool). if b then xs else set xs (number_of made i) c) (sym (zero_is c e)))
      (let r = moved xs cs (suc i) size (λ k high. free k (let l : i ≤ k = omega arith in l)) named.1 in
      record {
        size = r.size;
        value = sum_moved (listed_sum xs x 0) (listed_sum xs x 0) (listed_sum (places_moved made xs (suc i) cs) x 0) (c *ℤ x (number_of made i)) (listed_sum cs (λ k. x (number_of made k)) (suc i)) (no_growth (listed_sum xs x 0) c (x (number_of made i)) e) r.value;
      }))
      (λ n e. subst (λ ys. IsMoved xs (places_moved made ys (suc i) cs) (listed_sum (c ∷ cs) (λ k. x (number_of made k)) i)) (ap (λ (b : Bool). if b then xs else set xs (number_of made i) c) (sym e))
      (let here = named.0 n in
      let r = moved (set xs (number_of made i) c) cs (suc i) (set_length xs (number_of made i) c ∙ size) (free_behind xs c i here free) named.1 in
      record {
        size = r.size ∙ set_length xs (number_of made i) c;
        value = sum_moved (listed_sum xs x 0) (listed_sum (set xs (number_of made i) c) x 0) (listed_sum (places_moved made (set xs (number_of made i) c) (suc i) cs) x 0) (c *ℤ x (number_of made i)) (listed_sum cs (λ k. x (number_of made k)) (suc i))
            (set_free (listed_sum xs x 0) (listed_sum (set xs (number_of made i) c) x 0) c (get_or xs (number_of made i) (pos 0)) (x (number_of made i)) (set_first xs (number_of made i) c x (subst (λ k. number_of made i < k) (sym size) (low i here)))
            (free i (let l : i ≤ i = omega arith in l) here)) r.value;
      }))

  from_zeros : (Z S V k : ℤ) → Z ≡ pos 0 → S ≡ Z +ℤ V → S +ℤ k ≡ V +ℤ k
  from_zeros Z S V k e f = omega (arith, ints)

  pub numbered_size : (l : Linear) → Named IsHere 0 l.coefficients → length (lin_numbered made n l).coefficients ≡ n
  numbered_size l named = let r = moved (replicate n (pos 0)) l.coefficients 0 (zeros_length n) (λ k high here. zeros_at n (number_of made k)) named in r.size ∙ zeros_length n

  pub numbered_is : (l : Linear) → Named IsHere 0 l.coefficients → listed_value (lin_numbered made n l) x ≡ listed_value l (λ k. x (number_of made k))
  numbered_is l named =
      let r = moved (replicate n (pos 0)) l.coefficients 0 (zeros_length n) (λ k high here. zeros_at n (number_of made k)) named in
      from_zeros (listed_sum (replicate n (pos 0)) x 0) (listed_sum (places_moved made (replicate n (pos 0)) 0 l.coefficients) x 0) (listed_sum l.coefficients (λ k. x (number_of made k)) 0) l.constant (listed_zeros n x 0) r.value
