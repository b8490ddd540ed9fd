-- Lists without the zeros at their ends.
use Rattle.std.proofs.Common.{ℕ, zero, suc, ◌≡◌, ◌≤◌, ◌<◌, List, [], ◌∷◌, ◌++◌, length, take, map, ◌^◌, get_or, refl, sym, ◌∙◌, ap, arith, ⊎_elim}
use Rattle.std.specs.Prelude.{◌==◌, Bool, false, ℤ, pos, negsuc, if◌then◌else◌}
use Rattle.std.proofs.lemmas.List.{length-map, length-take}
use Rattle.std.proofs.lemmas.Bool.Decides.{eqb_tells}
use Rattle.bound_forms.specs.Lowest.{onto_trimmed, trimmed}

trimmed-zero : (cs : List ℤ) → trimmed (cs ++ pos 0 ∷ []) ≡ trimmed cs
trimmed-zero [] = refl
trimmed-zero (c ∷ cs) = ap (onto_trimmed c) (trimmed-zero cs)

kept_in_front : (d : ℤ) (ds : List ℤ) (c : ℤ) → onto_trimmed d (ds ++ c ∷ []) ≡ d ∷ ds ++ c ∷ []
kept_in_front d [] c = refl
kept_in_front d (e ∷ ds) c = refl

pub apart : (a b : ℕ) → (a ≡ b → ⊥) → (a == b) ≡ false
apart a b h = ⊎_elim (λ p. absurd (h p.1)) (λ p. p.0) (eqb_tells a b)

trimmed-end : (cs : List ℤ) (c : ℤ) → (c ≡ pos 0 → ⊥) → trimmed (cs ++ c ∷ []) ≡ cs ++ c ∷ []
trimmed-end [] (pos zero) h = absurd (h refl)
trimmed-end [] (pos (suc n)) h = ap (λ (b : Bool). if b then [] else pos (suc n) ∷ []) (apart (suc n) 0 (omega arith))
trimmed-end [] (negsuc n) h = ap (λ (b : Bool). if b then [] else negsuc n ∷ []) (apart (suc n) 0 (omega arith))
trimmed-end (d ∷ ds) c h = ap (onto_trimmed d) (trimmed-end ds c h) ∙ kept_in_front d ds c

taken : (cs : List ℤ) (n : ℕ) → n < length cs → take (suc n) cs ≡ take n cs ++ get_or cs n (pos 0) ∷ []
taken [] n h = absurd (omega (arith, h))
taken (c ∷ cs) zero h = refl
taken (c ∷ cs) (suc n) h = ap (λ ds. c ∷ ds) (taken cs n (omega (arith, h)))

-- one zero less
pub shorter : (cs : List ℤ) (n m : ℕ) → m ≡ suc n → m ≤ length cs → get_or cs n (pos 0) ≡ pos 0 → trimmed (take m cs) ≡ trimmed cs → trimmed (take n cs) ≡ trimmed cs
shorter cs n m e h is was =
    sym (trimmed-zero (take n cs)) ∙ ap (λ c. trimmed (take n cs ++ c ∷ [])) (sym is) ∙ ap trimmed (sym (taken cs n (omega (arith, e, h)))) ∙ ap (λ k. trimmed (take k cs)) (sym e) ∙ was

-- no zero at the end
pub whole : (cs : List ℤ) (n m : ℕ) → m ≡ suc n → m ≤ length cs → (get_or cs n (pos 0) ≡ pos 0 → ⊥) → trimmed (take m cs) ≡ trimmed cs → take m cs ≡ trimmed cs
whole cs n m e h some was =
    ap (λ k. take k cs) e ∙ taken cs n (omega (arith, e, h)) ∙ sym (trimmed-end (take n cs) (get_or cs n (pos 0)) some) ∙ ap trimmed (sym (taken cs n (omega (arith, e, h)))) ∙ ap (λ k. trimmed (take k cs)) (sym e) ∙ was

pub none_left : (cs : List ℤ) (m : ℕ) → m ≡ 0 → trimmed (take m cs) ≡ trimmed cs → take m cs ≡ trimmed cs
none_left cs m e was = ap (λ k. take k cs) e ∙ ap (λ k. trimmed (take k cs)) (sym e) ∙ was

-- as many as are taken
pub short : (cs ds : List ℤ) (n : ℕ) (f : ℤ → ℤ) → ds ≡ map f (take n cs) → n < 2 ^ 32 → length ds < 2 ^ 32
short cs ds n f e h = omega (arith, h, ap length e, length-map (take n cs) f, length-take n cs)
