-- The type of a name.
use Rattle.std.proofs.Common.{◌≡◌, ℕ, ◌-◌, Bool, true, false, List, [], ◌∷◌, ◌++◌, length, take, refl, ◌∙◌, ap, arith}
use Rattle.std.specs.Prelude.{not}
use Rattle.std.proofs.lemmas.List.{length-append, take-append-le, take_all}
use Rattle.std.proofs.lemmas.Bool.Decides.{nat_tests}
use Rattle.descriptors.specs.Texts.{is_array, is_class, is_reference, name_of}
use Rattle.object_steps.specs.Classes.{type_named}

cut_last : (name : List ℕ) → take (length (name ++ 59 ∷ []) - 1) (name ++ 59 ∷ []) ≡ name
cut_last name =
    let long : length (name ++ 59 ∷ []) - 1 ≡ length name = omega (arith, length-append name (59 ∷ [])) in
    ap (λ (n : ℕ). take n (name ++ 59 ∷ [])) long ∙ take-append-le (length name) name (59 ∷ []) (omega arith) ∙ take_all (length name) name (omega arith)

named_by : (name : List ℕ) (array : Bool) → is_array name ≡ array → name_of (type_named name) ≡ name
named_by name true is = rw (is, is) refl
named_by name false is = rw is (cut_last name)

-- the name of its type is the name itself
pub name_of-named : (name : List ℕ) → name_of (type_named name) ≡ name
name_of-named name = named_by name (is_array name) refl

no_class : (name : List ℕ) → is_array name ≡ true → is_class name ≡ false
no_class [] is = refl
no_class (b ∷ name) is = grind (arith, nat_tests)

class_by : (name : List ℕ) (array : Bool) → is_array name ≡ array → is_class (type_named name) ≡ not array
class_by name true is = rw is (no_class name is)
class_by name false is = rw is refl

pub is_class-named : (name : List ℕ) → is_class (type_named name) ≡ not (is_array name)
is_class-named name = class_by name (is_array name) refl

reference_by : (name : List ℕ) (array : Bool) → is_array name ≡ array → is_reference (type_named name) ≡ true
reference_by name true is = rw (is, is) refl
reference_by name false is = rw is refl

pub is_reference-named : (name : List ℕ) → is_reference (type_named name) ≡ true
is_reference-named name = reference_by name (is_array name) refl

pub ruleset names = (name_of-named, is_class-named, is_reference-named)
