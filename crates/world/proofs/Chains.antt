-- Instances are what chains of names lead to.
use Rattle.std.proofs.Common.{◌≡◌, ◌⊎◌, inl, inr, ℕ, zero, suc, ◌+◌, ◌-◌, ◌<◌, ◌≤◌, Bool, true, false, ◌||◌, ◌&&◌, List, [], ◌∷◌, length, take, drop, Option, Some, None, arith, refl, sym, ap, subst, ◌∙◌, IsTrue, ◌↔◌}
use Rattle.std.specs.Prelude.{◌==◌, if◌then◌else◌}
use Rattle.std.specs.Option.{option_map_or}
use Rattle.std.specs.Str.{bytes_eq}
use Rattle.std.proofs.lemmas.Bool.{or_cases, or_left, or_right}
use Rattle.std.proofs.lemmas.Slice.Eq.{bytes_eq-Decides}
use Rattle.class_hierarchy.specs.World.{World, object_name, number_of, is_below}
use Rattle.class_hierarchy.specs.Building.{IsWellBuilt}
use Rattle.class_hierarchy.specs.Instances.{IsInstance}
use Rattle.class_hierarchy.proofs.Cycles.{number_below}
use Rattle.class_hierarchy.proofs.Instances.{instance_below}
use Rattle.descriptors.specs.Texts.{is_array, is_reference, name_of}
use Rattle.world.specs.Instances.{elements_of, on_elements, is_object_of, class_instance, is_instance, is_instance_by, IsInstanceOf}
use Rattle.world.specs.Instances as chain
use Rattle.world.proofs.Instancing.{plain_by, array_by}

-- ---- classes

class_chain : (w : World) → IsWellBuilt w → (a b : List ℕ) (o p : Option ℕ) → is_array a ≡ false → number_of w a ≡ o → number_of w b ≡ p
    → option_map_or (λ c. option_map_or (is_below w c) p false) o false ≡ true → IsInstanceOf w a b
class_chain w built a b None p plain one other h = absurd cc
class_chain w built a b (Some c) None plain one other h = absurd cc
class_chain w built a b (Some c) (Some d) plain one other h =
    chain.of_class plain one other ((instance_below w built c d (number_below w a c one)).0 h)

plain_chain : (w : World) → IsWellBuilt w → (a b : List ℕ) → is_array a ≡ false → class_instance w a b ≡ true → IsInstanceOf w a b
unfolding class_instance
plain_chain w built a b plain h = class_chain w built a b (number_of w a) (number_of w b) plain refl refl h

chain_class : (w : World) → IsWellBuilt w → (a b : List ℕ) (c d : ℕ) → number_of w a ≡ Some c → number_of w b ≡ Some d → IsInstance w c d → class_instance w a b ≡ true
unfolding class_instance
chain_class w built a b c d one other h = rw (one, other) ((instance_below w built c d (number_below w a c one)).1 h)

-- ---- names of elements

taken_few : (n : ℕ) (xs : List ℕ) → length (take n xs) ≤ length xs
taken_few zero xs = omega arith
taken_few (suc n) [] = omega arith
taken_few (suc n) (x ∷ xs) = let rest : length (take n xs) ≤ length xs = taken_few n xs in omega arith

name_few : (xs : List ℕ) → length (name_of xs) ≤ length xs
name_few [] = omega arith
name_few (x ∷ xs) = elim (x == 91) as (λ (b : Bool). length (if b then x ∷ xs else take (length xs - 1) xs) ≤ length (x ∷ xs)) [
  | true ↦ omega arith
  | false ↦ let few : length (take (length xs - 1) xs) ≤ length xs = taken_few (length xs - 1) xs in omega arith
]

-- ---- arrays

abbrev Chains : World → ℕ → Type 0
Chains w n = (a b : List ℕ) → length a ≤ n → is_instance_by w n a b ≡ true → IsInstanceOf w a b

elements_chain : (w : World) (n : ℕ) → Chains w n → (x y : ℕ) (a b : List ℕ) (p r s : Bool) → (x == 91) ≡ true → (y == 91) ≡ p → is_reference a ≡ r → is_reference b ≡ s
    → length (x ∷ a) ≤ suc n → on_elements (is_instance_by w n) (if p && (r && s) then Some (name_of a, name_of b) else None) ≡ true → IsInstanceOf w (x ∷ a) (y ∷ b)
elements_chain w n more x y a b true true true array other one two few h =
    let short : length (name_of a) ≤ n = omega (arith, name_few a) in
    chain.of_elements array other one two (more (name_of a) (name_of b) short h)
elements_chain w n more x y a b true true false array other one two few h = absurd cc
elements_chain w n more x y a b true false s array other one two few h = absurd cc
elements_chain w n more x y a b false r s array other one two few h = absurd cc

within_chain : (w : World) (n : ℕ) → Chains w n → (x : ℕ) (a b : List ℕ) → (x == 91) ≡ true → length (x ∷ a) ≤ suc n
    → on_elements (is_instance_by w n) (elements_of (x ∷ a) b) ≡ true → IsInstanceOf w (x ∷ a) b
within_chain w n more x a [] array few h = absurd cc
within_chain w n more x a (y ∷ b) array few h = elements_chain w n more x y a b (y == 91) (is_reference a) (is_reference b) array refl refl refl few h

array_chain : (w : World) (n : ℕ) → Chains w n → (x : ℕ) (a b : List ℕ) → (x == 91) ≡ true → length (x ∷ a) ≤ suc n
    → ((bytes_eq b object_name || bytes_eq b (x ∷ a)) || on_elements (is_instance_by w n) (elements_of (x ∷ a) b)) ≡ true → IsInstanceOf w (x ∷ a) b
array_chain w n more x a b array few h = elim (or_cases (bytes_eq b object_name || bytes_eq b (x ∷ a)) (on_elements (is_instance_by w n) (elements_of (x ∷ a) b)) h) [
  | inl own ↦ elim (or_cases (bytes_eq b object_name) (bytes_eq b (x ∷ a)) own) [
    | inl object ↦ subst (λ (l : List ℕ). IsInstanceOf w (x ∷ a) l) (sym ((bytes_eq-Decides b object_name).0 object)) (chain.of_object array)
    | inr itself ↦ subst (λ (l : List ℕ). IsInstanceOf w (x ∷ a) l) (sym ((bytes_eq-Decides b (x ∷ a)).0 itself)) (chain.of_itself array)
  ]
  | inr elements ↦ within_chain w n more x a b array few elements
]

some_chain : (w : World) → IsWellBuilt w → (n : ℕ) → Chains w n → (x : ℕ) (a b : List ℕ) (test : Bool) → (x == 91) ≡ test → length (x ∷ a) ≤ suc n
    → is_instance_by w (suc n) (x ∷ a) b ≡ true → IsInstanceOf w (x ∷ a) b
some_chain w built n more x a b true array few h = array_chain w n more x a b array few (sym (array_by w n (x ∷ a) b array) ∙ h)
some_chain w built n more x a b false plain few h = plain_chain w built (x ∷ a) b plain (sym (plain_by w (suc n) (x ∷ a) b plain) ∙ h)

instance_chains : (w : World) → IsWellBuilt w → (n : ℕ) → Chains w n
instance_chains w built n [] b few h = plain_chain w built [] b refl (sym (plain_by w n [] b refl) ∙ h)
instance_chains w built zero (x ∷ a) b few h = absurd (omega arith)
instance_chains w built (suc n) (x ∷ a) b few h = some_chain w built n (instance_chains w built n) x a b (x == 91) refl few h

-- ---- chains are found

abbrev IsFound : World → List ℕ → List ℕ → Type 0
IsFound w a b = (n : ℕ) → length a ≤ n → is_instance_by w n a b ≡ true

no_empty : (w : World) (a : List ℕ) (n : ℕ) → is_array a ≡ true → length a ≤ n → (k : ℕ) × (n ≡ suc k)
no_empty w [] n array few = absurd cc
no_empty w (x ∷ a) zero array few = absurd (omega arith)
no_empty w (x ∷ a) (suc k) array few = (k, refl)

own_found : (w : World) (a b : List ℕ) → is_array a ≡ true → (bytes_eq b object_name || bytes_eq b a) ≡ true → IsFound w a b
own_found w a b array own n few =
    let at = no_empty w a n array few in
    let found : is_instance_by w (suc at.0) a b ≡ true = array_by w at.0 a b array ∙ or_left (bytes_eq b object_name || bytes_eq b a) (on_elements (is_instance_by w at.0) (elements_of a b)) own in
    subst (λ (k : ℕ). is_instance_by w k a b ≡ true) (sym at.1) found

elements_are : (a b : List ℕ) → is_array b ≡ true → is_reference (drop 1 a) ≡ true → is_reference (drop 1 b) ≡ true → elements_of a b ≡ Some (name_of (drop 1 a), name_of (drop 1 b))
elements_are a b other one two = rw (other, one, two) refl

fewer : (a : List ℕ) (k : ℕ) → is_array a ≡ true → length a ≤ suc k → length (name_of (drop 1 a)) ≤ k
fewer [] k array few = absurd cc
fewer (x ∷ a) k array few = omega (arith, name_few a)

found_inside : (w : World) (a b : List ℕ) → is_array a ≡ true → is_array b ≡ true → is_reference (drop 1 a) ≡ true → is_reference (drop 1 b) ≡ true
    → IsFound w (name_of (drop 1 a)) (name_of (drop 1 b)) → IsFound w a b
found_inside w a b array other one two inside n few =
    let at = no_empty w a n array few in
    let short : length (name_of (drop 1 a)) ≤ at.0 = fewer a at.0 array (subst (λ (k : ℕ). length a ≤ k) at.1 few) in
    let elements : on_elements (is_instance_by w at.0) (elements_of a b) ≡ true = ap (on_elements (is_instance_by w at.0)) (elements_are a b other one two) ∙ inside at.0 short in
    let found : is_instance_by w (suc at.0) a b ≡ true = array_by w at.0 a b array ∙ or_right (bytes_eq b object_name || bytes_eq b a) (on_elements (is_instance_by w at.0) (elements_of a b)) elements in
    subst (λ (k : ℕ). is_instance_by w k a b ≡ true) (sym at.1) found

itself_eq : (a : List ℕ) → bytes_eq a a ≡ true
itself_eq a = (bytes_eq-Decides a a).1 refl

chain_found : (w : World) → IsWellBuilt w → (a b : List ℕ) → IsInstanceOf w a b → IsFound w a b
chain_found w built a b (chain.of_class {c = c} {d = d} plain one other h) n few = plain_by w n a b plain ∙ chain_class w built a b c d one other h
chain_found w built a b (chain.of_object array) n few =
    own_found w a object_name array (or_left (bytes_eq object_name object_name) (bytes_eq object_name a) (itself_eq object_name)) n few
chain_found w built a b (chain.of_itself array) n few = own_found w a a array (or_right (bytes_eq a object_name) (bytes_eq a a) (itself_eq a)) n few
chain_found w built a b (chain.of_elements array other one two more) n few =
    found_inside w a b array other one two (chain_found w built (name_of (drop 1 a)) (name_of (drop 1 b)) more) n few

pub instance_chain : (w : World) → IsWellBuilt w → (a b : List ℕ) → IsTrue (is_instance w a b) ↔ IsInstanceOf w a b
unfolding is_instance
instance_chain w built a b = (instance_chains w built (length a) a b (omega arith), λ h. chain_found w built a b h (length a) (omega arith))
