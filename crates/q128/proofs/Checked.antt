use Rattle.std.specs.Prelude.{ℕ, ◌<◌, ◌≤◌, ◌^◌, ◌≡◌, ℤ, FitsSigned, Option, Some, None}
use Rattle.std.specs.Int.{w128}
use Rattle.std.specs.Int.Signed.{mag}
use Rattle.std.specs.Option.{SomeIff}
use Rattle.std.proofs.Common.{refl, sym, ap, ◌∙◌, ⊎_elim, subst}
use Rattle.std.proofs.lemmas.Bool.{cases_lt, lt-ltb, le-ltb}
use Rattle.q128.specs.Rule.{narrow, narrow_natural}

fits : (z : ℤ) → mag z < 2 ^ 127 → FitsSigned w128 z
fits z h = record { sfits = h }

pub is_some : (z : ℤ) → mag z < 2 ^ 127 → narrow z ≡ Some z
unfolding narrow
is_some z h = rw (lt-ltb _ _ h) refl

pub is_none : (z : ℤ) → 2 ^ 127 ≤ mag z → narrow z ≡ None
unfolding narrow
is_none z h = rw (le-ltb _ _ h) refl

-- the library's checked operations answer what `narrow` does
pub narrow_iff : (z : ℤ) (o : Option ℤ) → SomeIff o (FitsSigned w128 z) z → o ≡ narrow z
narrow_iff z None not_fits = ⊎_elim (λ h. absurd (not_fits (fits z h))) (λ h. sym (is_none z h)) (cases_lt (mag z) (2 ^ 127))
narrow_iff z (Some x) does_fit = ap (λ (k : ℤ). Some k) does_fit.1 ∙ sym (is_some z (does_fit.0).sfits)

-- what came out of `narrow` is what went in
pub narrow-some : (z x : ℤ) → narrow z ≡ Some x → x ≡ z
narrow-some z x e = ⊎_elim (λ h. cc (is_some z h)) (λ h. cc (is_none z h)) (cases_lt (mag z) (2 ^ 127))

pub narrow_natural-some : (n m : ℕ) → narrow_natural n ≡ Some m → (m ≡ n) × (m < 2 ^ 127)
unfolding narrow_natural
narrow_natural-some n m e = ⊎_elim (λ (h : n < 2 ^ 127). is h (rw (lt-ltb n (2 ^ 127) h) at e)) (λ h. is_not (rw (le-ltb n (2 ^ 127) h) at e)) (cases_lt n (2 ^ 127))
  where
    is : n < 2 ^ 127 → Some n ≡ Some m → (m ≡ n) × (m < 2 ^ 127)
    is h f = let g : m ≡ n = cc in (g, subst (λ k. k < 2 ^ 127) (sym g) h)

    is_not : ◌≡◌ {A = Option ℕ} None (Some m) → (m ≡ n) × (m < 2 ^ 127)
    is_not f = cc

pub narrow_natural-is : (n : ℕ) → n < 2 ^ 127 → narrow_natural n ≡ Some n
unfolding narrow_natural
narrow_natural-is n h = rw (lt-ltb n (2 ^ 127) h) refl
