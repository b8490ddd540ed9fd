-- Instances by the names of classes and the descriptors of arrays.
use Rattle.std.specs.Prelude.{◌≡◌, true, ℕ, zero, suc, ◌-◌, ◌==◌, ◌&&◌, ◌||◌, Bool, false, List, [], ◌∷◌, length, take, drop, Option, Some, None, if◌then◌else◌}
use Rattle.std.specs.Option.{option_map_or}
use Rattle.std.specs.Str.{bytes_eq}
use Rattle.descriptors.specs.Texts.{is_array, is_class, is_reference, name_of}
use Rattle.class_hierarchy.specs.World.{World, object_name, number_of, is_below}
use Rattle.class_hierarchy.specs.Instances.{IsInstance}

-- an object of the class with this number is one of the class of this name; none is where no class has the name
abbrev pub is_object_of : World → ℕ → List ℕ → Bool
is_object_of w c name = option_map_or (is_below w c) (number_of w name) false

-- of two classes of the world
unfoldable pub class_instance : World → List ℕ → List ℕ → Bool
class_instance w a b = option_map_or (λ c. is_object_of w c b) (number_of w a) false

-- the names of the elements of two arrays, where both are references
abbrev pub elements_of : List ℕ → List ℕ → Option (List ℕ × List ℕ)
elements_of a b = if is_array b && (is_reference (drop 1 a) && is_reference (drop 1 b)) then Some (name_of (drop 1 a), name_of (drop 1 b)) else None

abbrev pub on_elements : (List ℕ → List ℕ → Bool) → Option (List ℕ × List ℕ) → Bool
on_elements test None = false
on_elements test (Some names) = test names.0 names.1

-- An array is an instance of Object and of its own descriptor, and one of references also of each array of
-- references of which its elements are instances. At most n brackets are taken off.
unfoldable pub is_instance_by : World → ℕ → List ℕ → List ℕ → Bool
is_instance_by w zero a b = class_instance w a b
is_instance_by w (suc n) a b =
    if is_array a
    then (bytes_eq b object_name || bytes_eq b a) || on_elements (is_instance_by w n) (elements_of a b)
    else class_instance w a b

-- whether an object of a, a class's name or an array's descriptor, is an instance of b
unfoldable pub is_instance : World → List ℕ → List ℕ → Bool
is_instance w a b = is_instance_by w (length a) a b

-- an array of elements of this type is an instance of b
abbrev pub is_array_of : World → List ℕ → List ℕ → Bool
is_array_of w element b = is_instance w (91 ∷ element) b

-- the one type of elements is the other, or both are references and each of the one is an instance of the other
abbrev pub are_elements_of : World → List ℕ → List ℕ → Bool
are_elements_of w element other =
    bytes_eq other element || (is_reference element && (is_reference other && is_instance_by w (length element) (name_of element) (name_of other)))

-- ---- by the descriptors of types (JVMS 4.3.2)

-- an object of the class with this number is of the type
abbrev pub is_object_of_type : World → ℕ → List ℕ → Bool
is_object_of_type w c type = is_class type && is_object_of w c (name_of type)

-- an array of elements of the one type is of the other
abbrev pub is_array_of_type : World → List ℕ → List ℕ → Bool
is_array_of_type w element type = is_reference type && is_array_of w element (name_of type)

-- ---- by chains of names

-- An object of a, a class's name or an array's descriptor, is an instance of b. Of a class: where a chain of names leads
-- from it to b. Of an array: always of Object and of its own descriptor, and where its elements are references, of each
-- array of references of which they are instances (JVMS 6.5.instanceof).
pub data IsInstanceOf (w : World) : List ℕ → List ℕ → Type 0 where
  of_class : {a b : List ℕ} {c d : ℕ} → is_array a ≡ false → number_of w a ≡ Some c → number_of w b ≡ Some d → IsInstance w c d → IsInstanceOf w a b
  of_object : {a : List ℕ} → is_array a ≡ true → IsInstanceOf w a object_name
  of_itself : {a : List ℕ} → is_array a ≡ true → IsInstanceOf w a a
  of_elements :
      {a b : List ℕ}
      → is_array a ≡ true
      → is_array b ≡ true
      → is_reference (drop 1 a) ≡ true
      → is_reference (drop 1 b) ≡ true
      → IsInstanceOf w (name_of (drop 1 a)) (name_of (drop 1 b))
      → IsInstanceOf w a b
