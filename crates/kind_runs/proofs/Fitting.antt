-- Types of elements that fit one another.
use Rattle.std.proofs.Common.{◌≡◌, inl, inr, ℕ, ◌&&◌, Bool, true, false, List, [], ◌∷◌, ◌++◌, length, drop, refl, sym, ap, subst, ◌∙◌, Option, Some, None, nat_eq}
use Rattle.std.specs.Prelude.{if◌then◌else◌}
use Rattle.std.specs.Option.{option_map_or}
use Rattle.std.specs.Str.{bytes_eq}
use Rattle.std.proofs.lemmas.Bool.{and_parts, or_cases, eqb-true}
use Rattle.std.proofs.lemmas.Slice.Eq.{bytes_eq-Decides}
use Rattle.descriptors.specs.Grammar.{FieldType, Base, Object, Array, IsFieldDescriptor, HasForm, is_class_name, is_name_byte, type_text, is_base_letter}
use Rattle.descriptors.specs.Texts.{is_array, is_reference, name_of}
use Rattle.class_hierarchy.specs.World.{World, number_of, is_below}
use Rattle.world.specs.Instances.{class_instance, is_object_of, is_instance, is_instance_by, is_array_of, are_elements_of}
use Rattle.world.proofs.Instancing.{plain_by, array_tests}
use Rattle.object_steps.proofs.Names.{name_of-named}
use Rattle.kind_runs.specs.Meaning.{FitsElements, same, of_class, of_array, NamesNoArray}

-- what fits is kept by what fits that
pub fits_through : {a b c : List ℕ} → FitsElements a b → FitsElements b c → FitsElements a c
fits_through same second = second
fits_through (of_class plain one other) same = of_class plain one other
fits_through (of_class plain one other) (of_class p q last) = of_class plain one last
fits_through (of_class plain one other) (of_array more) = of_class plain one refl
fits_through (of_array first) same = of_array first
fits_through (of_array first) (of_class p q last) = absurd cc
fits_through (of_array first) (of_array second) = of_array (fits_through first second)

-- ---- instances

-- an array's descriptor begins so
pub array_text : (type : List ℕ) → is_array type ≡ true → type ≡ 91 ∷ drop 1 type
array_text [] is = absurd cc
array_text (b ∷ type) is = ap (λ (x : ℕ). x ∷ type) (eqb-true b 91 is)

-- no class is an instance of an array
no_object_of : (w : World) (c : ℕ) (d : List ℕ) (o : Option ℕ) → NamesNoArray w → is_array d ≡ true → number_of w d ≡ o → option_map_or (is_below w c) o false ≡ true → ⊥
no_object_of w c d None plain is at e = cc
no_object_of w c d (Some k) plain is at e = let not_one = plain d k at in cc

no_instance_at : (w : World) (d : List ℕ) (o : Option ℕ) → NamesNoArray w → is_array d ≡ true → option_map_or (λ (c : ℕ). is_object_of w c d) o false ≡ true → ⊥
no_instance_at w d None plain is e = cc
no_instance_at w d (Some c) plain is e = no_object_of w c d (number_of w d) plain is refl e

no_class_instance : (w : World) (n d : List ℕ) → NamesNoArray w → is_array d ≡ true → class_instance w n d ≡ true → ⊥
unfolding class_instance
no_class_instance w n d plain is e = no_instance_at w d (number_of w n) plain is e

-- ---- names in descriptors

first_byte : (b : ℕ) (rest : List ℕ) → is_class_name (b ∷ rest) ≡ true → is_name_byte b ≡ true
first_byte b [] is = is
first_byte b (c ∷ rest) is = (and_parts (is_name_byte b) (if nat_eq c 47 then is_class_name rest else is_class_name (c ∷ rest)) is).0

no_bracket_by : (b : ℕ) (is_bracket : Bool) → nat_eq b 91 ≡ is_bracket → is_name_byte b ≡ true → nat_eq b 91 ≡ false
no_bracket_by b true e is = absurd (let at : b ≡ 91 = eqb-true b 91 e in let not_one : is_name_byte 91 ≡ true = rw at at is in cc)
no_bracket_by b false e is = e

plain_name : (name : List ℕ) → is_class_name name ≡ true → is_array name ≡ false
plain_name [] is = absurd cc
plain_name (b ∷ rest) is = no_bracket_by b (nat_eq b 91) refl (first_byte b rest is)

-- ---- elements of arrays that are instances

-- what follows where the known type is an array's
abbrev InstanceFits : World → List ℕ → List ℕ → Type 0
InstanceFits w known type = is_reference type ≡ true → is_instance_by w (length type) (name_of type) (91 ∷ known) ≡ true → FitsElements (91 ∷ known) type

no_letter : (l : ℕ) → is_base_letter l ≡ true → is_reference (l ∷ []) ≡ true → ⊥
no_letter l form is =
    elim (or_cases (nat_eq l 91) (nat_eq l 76) is) [
      | inl bracket ↦ (let at : l ≡ 91 = eqb-true l 91 bracket in let never : is_base_letter 91 ≡ true = rw at at form in cc)
      | inr class ↦ (let at : l ≡ 76 = eqb-true l 76 class in let never : is_base_letter 76 ≡ true = rw at at form in cc)
    ]

object_instance : (w : World) (name known : List ℕ) → NamesNoArray w → is_array name ≡ false → is_instance_by w (length (76 ∷ name ++ 59 ∷ [])) (name_of (76 ∷ name ++ 59 ∷ [])) (91 ∷ known) ≡ true → ⊥
object_instance w name known plain bare is =
    let named : name_of (76 ∷ name ++ 59 ∷ []) ≡ name = rw bare at (name_of-named name) in
    no_class_instance w name (91 ∷ known) plain refl (sym (plain_by w (length (76 ∷ name ++ 59 ∷ [])) name (91 ∷ known) bare) ∙ ap (λ (n : List ℕ). is_instance_by w (length (76 ∷ name ++ 59 ∷ [])) n (91 ∷ known)) (sym named) ∙ is)

array_instance : (w : World) (element known : List ℕ) → is_instance_by w (length (91 ∷ element)) (91 ∷ element) (91 ∷ known) ≡ true → are_elements_of w element known ≡ true
unfolding is_instance
array_instance w element known is = sym (array_tests w element (91 ∷ known)) ∙ is

known_by : (w : World) (type known : List ℕ) → ((rest : List ℕ) → known ≡ 91 ∷ rest → InstanceFits w rest type) → (array : Bool) → is_array known ≡ array → is_reference type ≡ true → is_reference known ≡ true
    → is_instance_by w (length type) (name_of type) (name_of known) ≡ true → FitsElements known type
known_by w type known each false bare one other is = of_class bare other one
known_by w type known each true begins one other is =
    let text : known ≡ 91 ∷ drop 1 known = array_text known begins in
    subst (λ (k : List ℕ). FitsElements k type) (sym text)
    (each (drop 1 known) text one (subst (λ (k : List ℕ). is_instance_by w (length type) (name_of type) (name_of k) ≡ true) text is))

elements_by : (w : World) (type known : List ℕ) → are_elements_of w type known ≡ true → ((rest : List ℕ) → known ≡ 91 ∷ rest → InstanceFits w rest type) → FitsElements known type
elements_by w type known is each =
    elim (or_cases (bytes_eq known type) (is_reference type && (is_reference known && is_instance_by w (length type) (name_of type) (name_of known))) is) [
      | inl equal ↦ subst (λ (t : List ℕ). FitsElements known t) ((bytes_eq-Decides known type).0 equal) same
      | inr both ↦
          let one = and_parts (is_reference type) (is_reference known && is_instance_by w (length type) (name_of type) (name_of known)) both in
          let two = and_parts (is_reference known) (is_instance_by w (length type) (name_of type) (name_of known)) one.1 in
          known_by w type known each (is_array known) refl one.0 two.0 two.1
    ]

elements_of_type : (w : World) (type : FieldType) (known : List ℕ) → NamesNoArray w → HasForm type → are_elements_of w (type_text type) known ≡ true → FitsElements known (type_text type)
elements_of_type w (Base letter) known plain form is = elements_by w (letter ∷ []) known is (λ rest text reference instance. absurd (no_letter letter form reference))
elements_of_type w (Object name) known plain form is =
    elements_by w (76 ∷ name ++ 59 ∷ []) known is (λ rest text reference instance. absurd (object_instance w name rest plain (plain_name name form) instance))
elements_of_type w (Array element) known plain form is =
    elements_by w (91 ∷ type_text element) known is
    (λ rest text reference instance. of_array (elements_of_type w element rest plain form (array_instance w (type_text element) rest instance)))

described_element : (w : World) (type known : List ℕ) (whole : FieldType) → NamesNoArray w → (91 ∷ type) ≡ type_text whole → HasForm whole → are_elements_of w type known ≡ true → FitsElements known type
described_element w type known (Base letter) plain parts form is = absurd (let at : letter ≡ 91 = cc in let never : is_base_letter 91 ≡ true = rw at at form in cc)
described_element w type known (Object name) plain parts form is = absurd (let never : true ≡ false = ap is_array parts in cc)
described_element w type known (Array element) plain parts form is =
    let text : type_text element ≡ type = cc in
    subst (λ (t : List ℕ). FitsElements known t) text (elements_of_type w element known plain form (subst (λ (t : List ℕ). are_elements_of w t known ≡ true) (sym text) is))

-- an array of such elements is an instance of an array of the known ones
pub instance_fits : (w : World) (type known : List ℕ) → NamesNoArray w → IsFieldDescriptor (91 ∷ type) → is_array_of w type (91 ∷ known) ≡ true → FitsElements known type
instance_fits w type known plain described is = described_element w type known described.type plain described.parts described.fits.0 (sym (array_tests w type (91 ∷ known)) ∙ is)
