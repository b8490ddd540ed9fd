-- What the pieces of a descriptor are.
use Rattle.std.specs.Prelude.{◌≡◌, ◌||◌, false, List, ◌∷◌, ◌++◌, ℕ, map, Option, IfSome, sum_by}
use Rattle.std.specs.Option.{option_map_or}
use Rattle.std.specs.List.{concat, list_any, AllByRecursion}
use Rattle.descriptors.specs.Grammar.{FieldType, HasForm, IsMethodText, type_text, result_text, method_text, dimensions, words_of, is_float}
use Rattle.descriptors.specs.Pieces.{parameters_of, result_of}
use Rattle.descriptors.specs.Texts.{text_dimensions, words_of_all, names_float}

-- a method descriptor is `(`, its parameters joined, `)` and its result
abbrev pub MethodTextsAreJoined : Type 0
MethodTextsAreJoined = (desc : List ℕ) → IsMethodText desc → desc ≡ 40 ∷ concat (parameters_of desc) ++ 41 ∷ result_of desc

-- what a method descriptor is made of
pub record IsCut (parameters : List FieldType) (returned : Option FieldType) (desc : List ℕ) : Type 0 where
  pub parameters_are : parameters_of desc ≡ map type_text parameters
  pub result_is : result_of desc ≡ result_text returned
  pub words_are : words_of_all (parameters_of desc) ≡ sum_by words_of parameters
  pub dimensions_are : map text_dimensions (parameters_of desc) ≡ map dimensions parameters
  pub floats_are : names_float desc ≡ (list_any is_float parameters || option_map_or is_float returned false)

-- the descriptor of these parameters and this result is cut into them
abbrev pub TypesAreFound : Type 0
TypesAreFound =
    (parameters : List FieldType) (returned : Option FieldType) → AllByRecursion HasForm parameters → IfSome returned HasForm
    → IsCut parameters returned (method_text parameters returned)
