-- Classes that lead back to themselves.
use Rattle.std.proofs.Common.{◌≡◌, inl, inr, ℕ, ◌<◌, true, List, [], ◌∷◌, length, Option, Some, None, refl, sym, nat_eq}
use Rattle.std.specs.Prelude.{IfSome}
use Rattle.std.specs.Option.{option_and_then, option_to_list}
use Rattle.std.specs.List.{list_any, filter_map, cons_option}
use Rattle.std.proofs.lemmas.Bool.{eqb-true, or_cases}
use Rattle.std.proofs.lemmas.List.Quantifiers.{position-Some}
use Rattle.common_laws.proofs.Numbers.{one_listed}
use Rattle.common_laws.proofs.Tests.{any_either}
use Rattle.class_hierarchy.specs.World.{World, object_class, is_named, number_of, class_at, superclass, interfaces}
use Rattle.class_hierarchy.specs.Building.{LeadsTo, supers}
use Rattle.class_hierarchy.specs.Building.LeadsTo.{once, through}

pub number_below : (w : World) (name : List ℕ) (i : ℕ) → number_of w name ≡ Some i → i < length w
unfolding number_of
number_below w name i e = (position-Some (is_named name) w i object_class e).0

pub number_bound : (w : World) (name : List ℕ) (o : Option ℕ) → o ≡ number_of w name → IfSome o (λ c. c < length w)
number_bound w name None e = tt
number_bound w name (Some i) e = number_below w name i (sym e)

listed_below : (n : ℕ) (o : Option ℕ) → ((i : ℕ) → o ≡ Some i → i < n) → (d : ℕ) → list_any (nat_eq d) (option_to_list o) ≡ true → d < n
listed_below n None h d e = absurd cc
listed_below n (Some i) h d e = rw (one_listed d i e) (h i refl)

named_below : (w : World) (o : Option (List ℕ)) (i : ℕ) → option_and_then (number_of w) o ≡ Some i → i < length w
named_below w None i e = absurd cc
named_below w (Some name) i e = number_below w name i e

pub superclass_below : (w : World) (c i : ℕ) → superclass w c ≡ Some i → i < length w
unfolding superclass
superclass_below w c i e = named_below w (class_at w c).super_name i e

one_below : (w : World) (o : Option ℕ) (rest : List ℕ) → ((i : ℕ) → o ≡ Some i → i < length w) → ((d : ℕ) → list_any (nat_eq d) rest ≡ true → d < length w) → (d : ℕ) → list_any (nat_eq d) (cons_option o rest) ≡ true → d < length w
one_below w None rest h k d e = k d e
one_below w (Some i) rest h k d e =
    elim (or_cases (nat_eq d i) (list_any (nat_eq d) rest) e) [
      | inl same ↦ rw (eqb-true d i same) (h i refl)
      | inr later ↦ k d later
    ]

names_below : (w : World) (names : List (List ℕ)) (d : ℕ) → list_any (nat_eq d) (filter_map (number_of w) names) ≡ true → d < length w
names_below w [] d e = absurd cc
names_below w (name ∷ names) d e = one_below w (number_of w name) (filter_map (number_of w) names) (number_below w name) (names_below w names) d e

pub interfaces_below : (w : World) (c d : ℕ) → list_any (nat_eq d) (interfaces w c) ≡ true → d < length w
unfolding interfaces
interfaces_below w c d e = names_below w (class_at w c).interfaces d e

pub supers_below : (w : World) (c d : ℕ) → list_any (nat_eq d) (supers w c) ≡ true → d < length w
unfolding supers
supers_below w c d e =
    elim (any_either (nat_eq d) (option_to_list (superclass w c)) (interfaces w c) e) [
      | inl left ↦ listed_below (length w) (superclass w c) (superclass_below w c) d left
      | inr right ↦ interfaces_below w c d right
    ]

pub no_step : (w : World) (c d e : ℕ) → supers w c ≡ [] → LeadsTo (supers w) c e → ⊥
no_step w c d e none (once {d = b} h) = let never : list_any (nat_eq b) [] ≡ true = rw none at h in cc
no_step w c d e none (through {d = b} h more) = let never : list_any (nat_eq b) [] ≡ true = rw none at h in cc
