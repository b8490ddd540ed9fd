-- The digits of a sum are the sum of the digits.
use Rattle.std.specs.Prelude.{◌≡◌, ◌⊎◌, ℕ, zero, suc, ◌≤◌, ℤ, pos, ◌+ℤ◌, ◌*ℤ◌, List, [], ◌∷◌, length}
use Rattle.std.proofs.Common.{arith, refl, sym, ap, get_or, ⊎_elim}
use Rattle.std.proofs.lemmas.Int.{ints}
use Rattle.small_sums.specs.Keys.{base, digits}

-- the same for coefficients as a function of their variables, up to n
pub spread : (ℕ → ℤ) → ℕ → ℤ
spread f zero = pos 0
spread f (suc n) = f 0 +ℤ base *ℤ spread (λ i. f (suc i)) n

spread_zero : (n : ℕ) → spread (λ i. pos 0) n ≡ pos 0
unfolding spread
spread_zero zero = refl
spread_zero (suc n) = let e = spread_zero n in omega (arith, ints, e)

pub digits_spread : (cs : List ℤ) (n : ℕ) → length cs ≤ n → digits cs ≡ spread (λ i. get_or cs i (pos 0)) n
unfolding spread
digits_spread [] n h = sym (spread_zero n)
digits_spread (c ∷ cs) zero h = absurd (omega arith)
digits_spread (c ∷ cs) (suc n) h = ap (λ z. c +ℤ base *ℤ z) (digits_spread cs n (omega arith))

pub spread_same : (f g : ℕ → ℤ) (n : ℕ) → ((i : ℕ) → f i ≡ g i) → spread f n ≡ spread g n
unfolding spread
spread_same f g zero e = refl
spread_same f g (suc n) e = let a = e 0 in let b = spread_same (λ i. f (suc i)) (λ i. g (suc i)) n (λ i. e (suc i)) in omega (arith, ints, a, b)

pub spread_sum : (f g h : ℕ → ℤ) (n : ℕ) → ((i : ℕ) → h i ≡ f i +ℤ g i) → spread h n ≡ spread f n +ℤ spread g n
unfolding spread
spread_sum f g h zero e = refl
spread_sum f g h (suc n) e = let a = e 0 in let b = spread_sum (λ i. f (suc i)) (λ i. g (suc i)) (λ i. h (suc i)) n (λ i. e (suc i)) in omega (arith, ints, a, b)

twice_spread : (f : ℕ → ℤ) (n : ℕ) → spread (λ i. pos 2 *ℤ f i) n ≡ pos 2 *ℤ spread f n
unfolding spread
twice_spread f zero = refl
twice_spread f (suc n) = let b = twice_spread (λ i. f (suc i)) n in omega (arith, ints, b)

once_spread : (f : ℕ → ℤ) (n : ℕ) → spread (λ i. pos 1 *ℤ f i) n ≡ pos 1 *ℤ spread f n
unfolding spread
once_spread f zero = refl
once_spread f (suc n) = let b = once_spread (λ i. f (suc i)) n in omega (arith, ints, b)

pub times_spread : (k : ℤ) (f : ℕ → ℤ) (n : ℕ) → (k ≡ pos 1) ⊎ (k ≡ pos 2) → spread (λ i. k *ℤ f i) n ≡ k *ℤ spread f n
times_spread k f n h = ⊎_elim (λ e. rw e (once_spread f n)) (λ e. rw e (twice_spread f n)) h
