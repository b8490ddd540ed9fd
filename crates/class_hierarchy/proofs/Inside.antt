-- What stands above a class is there.
use Rattle.std.proofs.Common.{◌≡◌, inl, inr, ℕ, zero, suc, ◌<◌, true, List, [], ◌∷◌, length, Option, Some, None, refl, nat_eq}
use Rattle.std.specs.List.{list_any, flat_map}
use Rattle.std.proofs.lemmas.Bool.{eqb-true, or_cases}
use Rattle.common_laws.proofs.Numbers.{head_listed, tail_listed}
use Rattle.common_laws.proofs.Tests.{any_either}
use Rattle.class_hierarchy.specs.World.{World, superclass, interfaces, line, line_from, above, above_by, superinterfaces}
use Rattle.class_hierarchy.proofs.Cycles.{superclass_below, interfaces_below}

-- each number is one of a class
abbrev pub AreClasses : World → List ℕ → Type 0
AreClasses w cs = (d : ℕ) → list_any (nat_eq d) cs ≡ true → d < length w

pub more_below : (w : World) (c : ℕ) (cs : List ℕ) → c < length w → AreClasses w cs → AreClasses w (c ∷ cs)
more_below w c cs h k d e =
    elim (or_cases (nat_eq d c) (list_any (nat_eq d) cs) e) [
      | inl same ↦ rw (eqb-true d c same) h
      | inr later ↦ k d later
    ]

pub none_below : (w : World) → AreClasses w []
none_below w d e = absurd cc

pub flat_below : (w : World) (f : ℕ → List ℕ) → ((x : ℕ) → x < length w → AreClasses w (f x)) → (xs : List ℕ) → AreClasses w xs → AreClasses w (flat_map f xs)
flat_below w f h [] k = none_below w
flat_below w f h (x ∷ xs) k = λ d e.
    elim (any_either (nat_eq d) (f x) (flat_map f xs) e) [
      | inl left ↦ h x (k x (head_listed x xs)) d left
      | inr right ↦ flat_below w f h xs (λ b i. k b (tail_listed b x xs i)) d right
    ]

pub line_below : (w : World) (n : ℕ) (o : Option ℕ) → ((i : ℕ) → o ≡ Some i → i < length w) → AreClasses w (line_from w n o)
unfolding line_from
line_below w zero o h = none_below w
line_below w (suc n) None h = none_below w
line_below w (suc n) (Some c) h = more_below w c (line_from w n (superclass w c)) (h c refl) (line_below w n (superclass w c) (superclass_below w c))

pub above_below : (w : World) (n c : ℕ) → AreClasses w (above_by w n c)
unfolding above_by
above_below w zero c = none_below w
above_below w (suc n) c = flat_below w (λ i. i ∷ above_by w n i) (λ x h. more_below w x (above_by w n x) h (above_below w n x)) (interfaces w c) (interfaces_below w c)

pub line_inside : (w : World) (c : ℕ) → c < length w → AreClasses w (line w c)
line_inside w c h = line_below w (length w) (Some c) (λ i e. let same : c ≡ i = cc in rw (← same) h)

pub superinterfaces_inside : (w : World) (c : ℕ) → c < length w → AreClasses w (superinterfaces w c)
unfolding superinterfaces
superinterfaces_inside w c h = flat_below w (above w) (λ x k. above_below w (length w) x) (line w c) (line_inside w c h)
