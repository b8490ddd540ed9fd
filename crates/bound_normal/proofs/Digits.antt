-- Where a text of digits ends.
use Rattle.std.proofs.Common.{ℕ, ◌≡◌, ◌<◌, ◌^◌, List, [], ◌∷◌, ◌++◌, length, decimal, refl, sym, ◌∙◌, ap, subst, arith}
use Rattle.std.specs.Str.Parse.{AllDigits, digits_value}
use Rattle.std.specs.Char.{digit_value}
use Rattle.std.proofs.lemmas.Fmt.{decimal_is_IsNumeral_wide}

pub heads : {x y : ℕ} {xs ys : List ℕ} → x ∷ xs ≡ y ∷ ys → x ≡ y
heads e = cc

pub tails : {x y : ℕ} {xs ys : List ℕ} → x ∷ xs ≡ y ∷ ys → xs ≡ ys
tails e = cc

abbrev pub NoDigit : List ℕ → Type 0
NoDigit [] = Unit {0}
NoDigit (c ∷ r) = digit_value c < 10 → ⊥

digits_end : (y : ℕ) (v r s : List ℕ) → digit_value y < 10 → NoDigit r → r ≡ y ∷ (v ++ s) → ⊥
digits_end y v r s d none e = subst NoDigit e none d

pub span : (u v r s : List ℕ) → AllDigits 10 u → AllDigits 10 v → NoDigit r → NoDigit s → u ++ r ≡ v ++ s → (u ≡ v) × (r ≡ s)
span [] [] r s a b n m e = (refl, e)
span [] (y ∷ v) r s a b n m e = absurd (digits_end y v r s b.0 n e)
span (x ∷ u) [] r s a b n m e = absurd (digits_end x u s r a.0 m (sym e))
span (x ∷ u) (y ∷ v) r s a b n m e =
    let w = span u v r s a.1 b.1 n m (tails e) in
    (ap (λ h. h ∷ u) (heads e) ∙ ap (λ t. y ∷ t) w.0, w.1)

pub wide : (n : ℕ) → n < 2 ^ 128 → n < 10 ^ 64
wide n h = omega (arith, h)

pub all_digits : (n : ℕ) → n < 2 ^ 128 → AllDigits 10 (decimal n)
all_digits n h = (decimal_is_IsNumeral_wide n (wide n h)).0.1

pub some_digit : (n : ℕ) → n < 2 ^ 128 → 0 < length (decimal n)
some_digit n h = (decimal_is_IsNumeral_wide n (wide n h)).0.0

pub value_is : (n : ℕ) → n < 2 ^ 128 → digits_value 10 (decimal n) ≡ n
value_is n h = (decimal_is_IsNumeral_wide n (wide n h)).1

pub same_number : (m n : ℕ) → m < 2 ^ 128 → n < 2 ^ 128 → decimal m ≡ decimal n → m ≡ n
same_number m n h g e = sym (value_is m h) ∙ ap (digits_value 10) e ∙ value_is n g

-- a number and what follows it
pub number_reads : (m n : ℕ) (r s : List ℕ) → m < 2 ^ 128 → n < 2 ^ 128 → NoDigit r → NoDigit s → decimal m ++ r ≡ decimal n ++ s → (m ≡ n) × (r ≡ s)
number_reads m n r s h g a b e =
    let w = span (decimal m) (decimal n) r s (all_digits m h) (all_digits n g) a b e in
    (same_number m n h g w.0, w.1)

-- ---- a sign that doesn't stand in a text
abbrev pub Without : ℕ → List ℕ → Type 0
Without c [] = Unit {0}
Without c (x ∷ u) = (x ≡ c → ⊥) × Without c u

pub until : (c : ℕ) (u v r s : List ℕ) → Without c u → Without c v → u ++ c ∷ r ≡ v ++ c ∷ s → (u ≡ v) × (r ≡ s)
until c [] [] r s a b e = (refl, tails e)
until c [] (y ∷ v) r s a b e = absurd (b.0 (sym (heads e)))
until c (x ∷ u) [] r s a b e = absurd (a.0 (heads e))
until c (x ∷ u) (y ∷ v) r s a b e =
    let w = until c u v r s a.1 b.1 (tails e) in
    (ap (λ h. h ∷ u) (heads e) ∙ ap (λ t. y ∷ t) w.0, w.1)

pub digits_without : (c : ℕ) (u : List ℕ) → (digit_value c < 10 → ⊥) → AllDigits 10 u → Without c u
digits_without c [] h a = tt
digits_without c (x ∷ u) h a = (λ e. h (subst (λ k. digit_value k < 10) e a.0), digits_without c u h a.1)

pub without-append : (c : ℕ) (u v : List ℕ) → Without c u → Without c v → Without c (u ++ v)
without-append c [] v a b = b
without-append c (x ∷ u) v a b = (a.0, without-append c u v a.1 b)

-- ---- texts up to a space or the end
abbrev pub IsTail : List ℕ → Type 0
IsTail [] = Unit {0}
IsTail (c ∷ r) = c ≡ 32

pub to_space : (u v r s : List ℕ) → Without 32 u → Without 32 v → IsTail r → IsTail s → u ++ r ≡ v ++ s → (u ≡ v) × (r ≡ s)
to_space [] [] r s a b t z e = (refl, e)
to_space [] (y ∷ v) r s a b t z e = absurd (b.0 (subst IsTail e t))
to_space (x ∷ u) [] r s a b t z e = absurd (a.0 (subst IsTail (sym e) z))
to_space (x ∷ u) (y ∷ v) r s a b t z e =
    let w = to_space u v r s a.1 b.1 t z (tails e) in
    (ap (λ h. h ∷ u) (heads e) ∙ ap (λ t. y ∷ t) w.0, w.1)
