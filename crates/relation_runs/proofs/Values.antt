-- Values of expressions: they depend on the variables that are named alone.
use Rattle.std.proofs.Common.{◌≡◌, ◌≢◌, ℕ, zero, suc, ◌+◌, ◌-◌, ◌<◌, ◌≤◌, ℤ, pos, negsuc, ◌+ℤ◌, ◌*ℤ◌, ◌≤ℤ◌, List, [], ◌∷◌, ◌++◌, length, drop, refl, sym, ap, ◌∙◌, subst, arith}
use Rattle.std.proofs.lemmas.Int.{ints}
use Rattle.lin_rows.specs.Linear.{Linear, coefficient_of}
use Rattle.lin_rows.specs.Points.{whole_sum, whole_value, HoldsAtWhole}
use Rattle.lin_rows.specs.Transitions.{next_wholes}
use Rattle.relation_runs.specs.Leading.{variable}

zero_times : (x : ℤ) → pos 0 *ℤ x ≡ pos 0
zero_times x = omega (arith, ints)

times_zero : (c : ℤ) → c *ℤ pos 0 ≡ pos 0
times_zero c = omega (arith, ints)

no_zero : (n : ℕ) → pos (suc n) ≢ pos 0
no_zero n e = cc

no_negative : (n : ℕ) → negsuc n ≢ pos 0
no_negative n e = cc

times_same : (c x y : ℤ) → (c ≢ pos 0 → x ≡ y) → c *ℤ x ≡ c *ℤ y
times_same (pos zero) x y h = zero_times x ∙ sym (zero_times y)
times_same (pos (suc n)) x y h = ap (λ z. pos (suc n) *ℤ z) (h (no_zero n))
times_same (negsuc n) x y h = ap (λ z. negsuc n *ℤ z) (h (no_negative n))

nothing_added : (a b : ℤ) → a ≡ pos 0 → b ≡ pos 0 → pos 0 ≡ a +ℤ b
nothing_added a b p q = omega (arith, ints)

added_nothing : (a b : ℤ) → a ≡ pos 0 → b ≡ pos 0 → a +ℤ b ≡ pos 0
added_nothing a b p q = omega (arith, ints)

-- sums over two valuations that agree where the factor isn't 0
pub whole_sum_same : (f : ℕ → ℤ) (xs ys : List ℤ) → ((i : ℕ) → f i ≢ pos 0 → variable xs i ≡ variable ys i) → whole_sum f xs ≡ whole_sum f ys
whole_sum_same f [] [] same = refl
whole_sum_same f [] (y ∷ ys) same =
    let rest = whole_sum_same (λ i. f (suc i)) [] ys (λ i n. same (suc i) n) in
    let head : f 0 *ℤ y ≡ pos 0 = sym (times_same (f 0) (pos 0) y (same 0)) ∙ times_zero (f 0) in
    nothing_added (f 0 *ℤ y) (whole_sum (λ i. f (suc i)) ys) head (sym rest)
whole_sum_same f (x ∷ xs) [] same =
    let rest = whole_sum_same (λ i. f (suc i)) xs [] (λ i n. same (suc i) n) in
    let head : f 0 *ℤ x ≡ pos 0 = times_same (f 0) x (pos 0) (same 0) ∙ times_zero (f 0) in
    added_nothing (f 0 *ℤ x) (whole_sum (λ i. f (suc i)) xs) head rest
whole_sum_same f (x ∷ xs) (y ∷ ys) same =
    ap (λ a. a +ℤ whole_sum (λ i. f (suc i)) xs) (times_same (f 0) x y (same 0)) ∙ ap (λ b. f 0 *ℤ y +ℤ b) (whole_sum_same (λ i. f (suc i)) xs ys (λ i n. same (suc i) n))

-- the variables that an expression names have the same values
abbrev pub AgreesOn : Linear → List ℤ → List ℤ → Type 0
AgreesOn l xs ys = (i : ℕ) → coefficient_of l i ≢ pos 0 → variable xs i ≡ variable ys i

pub value_same : (l : Linear) (xs ys : List ℤ) → AgreesOn l xs ys → whole_value l xs ≡ whole_value l ys
value_same l xs ys same = ap (λ a. a +ℤ l.constant) (whole_sum_same (coefficient_of l) xs ys same)

pub holds_same : (l : Linear) (xs ys : List ℤ) → AgreesOn l xs ys → HoldsAtWhole l xs → HoldsAtWhole l ys
holds_same l xs ys same h = record { not_negative = subst (λ z. pos 0 ≤ℤ z) (value_same l xs ys same) h.not_negative }

-- and so do all of some expressions
abbrev pub AgreesOnAll : List Linear → List ℤ → List ℤ → Type 0
AgreesOnAll [] xs ys = Unit {0}
AgreesOnAll (l ∷ ls) xs ys = AgreesOn l xs ys × AgreesOnAll ls xs ys

pub values_same : (ls : List Linear) (xs ys : List ℤ) → AgreesOnAll ls xs ys → next_wholes ls xs ≡ next_wholes ls ys
values_same [] xs ys same = refl
values_same (l ∷ ls) xs ys same =
    ap (λ z. z ∷ next_wholes ls xs) (value_same l xs ys same.0) ∙ ap (λ zs. whole_value l ys ∷ zs) (values_same ls xs ys same.1)

-- ---- joined valuations
pub variable_left : (xs ys : List ℤ) (i : ℕ) → i < length xs → variable (xs ++ ys) i ≡ variable xs i
variable_left [] ys i low = absurd (let e : ⊥ = omega arith in e)
variable_left (x ∷ xs) ys zero low = refl
variable_left (x ∷ xs) ys (suc i) low = variable_left xs ys i (omega arith)

on_nothing : (v : List ℤ) → ((i : ℕ) → i < length v → pos 0 ≡ variable v i) → (i : ℕ) → variable (v ++ []) i ≡ pos 0
on_nothing [] same i = refl
on_nothing (x ∷ v) same zero = sym (same 0 (omega arith))
on_nothing (x ∷ v) same (suc i) = on_nothing v (λ k low. same (suc k) (omega arith)) i

-- a valuation whose first values are given
pub variable_joined : (v xs : List ℤ) → ((i : ℕ) → i < length v → variable xs i ≡ variable v i) → (i : ℕ) → variable (v ++ drop (length v) xs) i ≡ variable xs i
variable_joined [] xs same i = refl
variable_joined (x ∷ v) [] same zero = sym (same 0 (omega arith))
variable_joined (x ∷ v) [] same (suc i) = on_nothing v (λ k low. same (suc k) (omega arith)) i
variable_joined (x ∷ v) (y ∷ xs) same zero = sym (same 0 (omega arith))
variable_joined (x ∷ v) (y ∷ xs) same (suc i) = variable_joined v xs (λ k low. same (suc k) (omega arith)) i
