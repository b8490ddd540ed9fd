-- Values of expressions over joined lists of numbers.
use Rattle.std.specs.Prelude.{◌≡◌, ◌≢◌, ℕ, zero, suc, ◌<◌, ℤ, pos, negsuc, neg_ℤ, ◌+ℤ◌, ◌*ℤ◌, List, [], ◌∷◌, ◌++◌, length, map, replicate}
use Rattle.std.proofs.Common.{arith, refl, sym, ap, ◌∙◌, subst, get_or}
use Rattle.std.proofs.lemmas.Int.{ints}
use Rattle.q128.proofs.Ring.{neg_ℤ-*ℤ}
use Rattle.lin_rows.specs.Linear.{Linear, coefficient_of}
use Rattle.lin_rows.specs.Points.{whole_sum, whole_value}
use Rattle.lin_rows.specs.Transitions.{next_wholes}
use Rattle.lin_rows.proofs.Expressions.{whole_sum-zero}
use Rattle.rankings.specs.Templates.{shifted, first_variables}

-- the sum of a list of coefficients times numbers
abbrev pub sum_at : List ℤ → List ℤ → ℤ
sum_at c zs = whole_sum (λ i. get_or c i (pos 0)) zs

zero_front : (z s : ℤ) → pos 0 *ℤ z +ℤ s ≡ s
zero_front z s = omega (arith, ints)

pub sum_nothing : (zs : List ℤ) → sum_at [] zs ≡ pos 0
sum_nothing zs = whole_sum-zero zs

-- coefficients in two parts over numbers in two parts
pub sum_joined : (c d e x : List ℤ) → length c ≡ length e → sum_at (c ++ d) (e ++ x) ≡ sum_at c e +ℤ sum_at d x
sum_joined [] d [] x same = sym (start (sum_at d x))
  where
    start : (s : ℤ) → pos 0 +ℤ s ≡ s
    start s = omega (arith, ints)
sum_joined [] d (z ∷ e) x same = absurd (let f : ⊥ = omega (arith, same) in f)
sum_joined (k ∷ c) d [] x same = absurd (let f : ⊥ = omega (arith, same) in f)
sum_joined (k ∷ c) d (z ∷ e) x same = more (k *ℤ z) (sum_at c e) (sum_at d x) (sum_at (c ++ d) (e ++ x)) (sum_joined c d e x (omega (arith, same)))
  where
    more : (a p q s : ℤ) → s ≡ p +ℤ q → a +ℤ s ≡ (a +ℤ p) +ℤ q
    more a p q s is = omega (arith, ints, is)

-- numbers behind those that have a coefficient have no part
pub sum_front : (c x zs : List ℤ) → length c ≡ length x → sum_at c (x ++ zs) ≡ sum_at c x
sum_front [] [] zs same = sum_nothing zs
sum_front [] (z ∷ x) zs same = absurd (let f : ⊥ = omega (arith, same) in f)
sum_front (k ∷ c) [] zs same = absurd (let f : ⊥ = omega (arith, same) in f)
sum_front (k ∷ c) (z ∷ x) zs same = ap (λ s. k *ℤ z +ℤ s) (sum_front c x zs (omega (arith, same)))

pub sum_negative : (c e : List ℤ) → sum_at (map neg_ℤ c) e ≡ neg_ℤ (sum_at c e)
sum_negative [] e = sum_nothing e ∙ ap neg_ℤ (sym (sum_nothing e))
sum_negative (k ∷ c) [] = refl
sum_negative (k ∷ c) (z ∷ e) = more (neg_ℤ k *ℤ z) (k *ℤ z) (sum_at (map neg_ℤ c) e) (sum_at c e) (neg_ℤ-*ℤ k z) (sum_negative c e)
  where
    more : (a b p q : ℤ) → a ≡ neg_ℤ b → p ≡ neg_ℤ q → a +ℤ p ≡ neg_ℤ (b +ℤ q)
    more a b p q first rest = omega (arith, ints, first, rest)

-- ---- variables behind others
shifted_sum : (n : ℕ) (c e y : List ℤ) → length e ≡ n → sum_at (replicate n (pos 0) ++ c) (e ++ y) ≡ sum_at c y
shifted_sum zero c [] y len = refl
shifted_sum zero c (z ∷ e) y len = absurd (let f : ⊥ = omega (arith, len) in f)
shifted_sum (suc n) c [] y len = absurd (let f : ⊥ = omega (arith, len) in f)
shifted_sum (suc n) c (z ∷ e) y len = zero_front z (sum_at (replicate n (pos 0) ++ c) (e ++ y)) ∙ shifted_sum n c e y (omega (arith, len))

pub shifted_value : (n : ℕ) (l : Linear) (e y : List ℤ) → length e ≡ n → whole_value (shifted n l) (e ++ y) ≡ whole_value l y
shifted_value n l e y len = ap (λ s. s +ℤ l.constant) (shifted_sum n l.coefficients e y len)

pub shifted_values : (n : ℕ) (next : List Linear) (e y : List ℤ) → length e ≡ n → next_wholes (map (shifted n) next) (e ++ y) ≡ next_wholes next y
shifted_values n [] e y len = refl
shifted_values n (l ∷ next) e y len = ap (λ z. z ∷ next_wholes (map (shifted n) next) (e ++ y)) (shifted_value n l e y len) ∙ ap (λ zs. whole_value l y ∷ zs) (shifted_values n next e y len)

-- ---- the first variables
alone : (z : ℤ) (zs : List ℤ) → whole_value (record { coefficients = pos 1 ∷ []; constant = pos 0 }) (z ∷ zs) ≡ z
alone z zs = is z (sum_at [] zs) (sum_nothing zs)
  where
    is : (z s : ℤ) → s ≡ pos 0 → (pos 1 *ℤ z +ℤ s) +ℤ pos 0 ≡ z
    is z s none = omega (arith, ints, none)

pub first_values : (n : ℕ) (e y : List ℤ) → length e ≡ n → next_wholes (first_variables n) (e ++ y) ≡ e
first_values zero [] y len = refl
first_values zero (z ∷ e) y len = absurd (let f : ⊥ = omega (arith, len) in f)
first_values (suc n) [] y len = absurd (let f : ⊥ = omega (arith, len) in f)
first_values (suc n) (z ∷ e) y len =
    ap (λ x. x ∷ next_wholes (map (shifted 1) (first_variables n)) (z ∷ (e ++ y))) (alone z (e ++ y))
    ∙ ap (λ xs. z ∷ xs) (shifted_values 1 (first_variables n) (z ∷ []) (e ++ y) refl ∙ first_values n e y (omega (arith, len)))

pub next_joined : (es fs : List Linear) (zs : List ℤ) → next_wholes (es ++ fs) zs ≡ next_wholes es zs ++ next_wholes fs zs
next_joined [] fs zs = refl
next_joined (e ∷ es) fs zs = ap (λ xs. whole_value e zs ∷ xs) (next_joined es fs zs)

pub next_length : (next : List Linear) (zs : List ℤ) → length (next_wholes next zs) ≡ length next
next_length [] zs = refl
next_length (e ∷ next) zs = ap suc (next_length next zs)

-- ---- expressions over the first variables alone
unless_zero : (c : ℤ) → (c ≢ pos 0 → ⊥) → c ≡ pos 0
unless_zero (pos zero) h = refl
unless_zero (pos (suc n)) h = absurd (h (λ e. cc))
unless_zero (negsuc n) h = absurd (h (λ e. cc))

no_sum : (f : ℕ → ℤ) (zs : List ℤ) → ((i : ℕ) → f i ≡ pos 0) → whole_sum f zs ≡ pos 0
no_sum f [] none = refl
no_sum f (z ∷ zs) none = is (f 0) z (whole_sum (λ i. f (suc i)) zs) (none 0) (no_sum (λ i. f (suc i)) zs (λ i. none (suc i)))
  where
    is : (a z s : ℤ) → a ≡ pos 0 → s ≡ pos 0 → a *ℤ z +ℤ s ≡ pos 0
    is a z s first rest = subst (λ k. k *ℤ z +ℤ s ≡ pos 0) (sym first) (zero_front z s ∙ rest)

over_first : (f : ℕ → ℤ) (e y : List ℤ) → ((i : ℕ) → f i ≢ pos 0 → i < length e) → whole_sum f (e ++ y) ≡ whole_sum f e
over_first f [] y low = no_sum f y (λ i. unless_zero (f i) (λ n. let h = low i n in let g : ⊥ = omega (arith, h) in g))
over_first f (z ∷ e) y low = ap (λ s. f 0 *ℤ z +ℤ s) (over_first (λ i. f (suc i)) e y (λ i n. let h = low (suc i) n in omega (arith, h)))

pub value_over_first : (l : Linear) (e y : List ℤ) → ((i : ℕ) → coefficient_of l i ≢ pos 0 → i < length e) → whole_value l (e ++ y) ≡ whole_value l e
value_over_first l e y low = ap (λ s. s +ℤ l.constant) (over_first (coefficient_of l) e y low)
