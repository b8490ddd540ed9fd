-- The classes and arrays that instructions name (JVMS 4.4.1, 5.4.3.1).
use Rattle.std.specs.Prelude.{ℕ, List, [], ◌∷◌, ◌++◌, Option, Some, None, Result, Ok, Err, if◌then◌else◌}
use Rattle.op_table.specs.declared.construct.Construct.{Construct}
use Rattle.op_table.specs.declared.construct.Construct.TheVariants as constructs
use Rattle.descriptors.specs.Texts.{is_array}
use Rattle.class_hierarchy.specs.World.{World}
use Rattle.linking.specs.Told.{unless}
use Rattle.linking.specs.References.{against_class}
use Rattle.linking.specs.Members.{known}

-- the name of a Class entry, where nothing stands against it
abbrev pub class_known : World → Option (List ℕ) → Result (List ℕ) Construct
class_known w None = Err constructs.Constant
class_known w (Some name) = unless (unless (Ok name) (known w name)) (against_class (Some name))

-- the type of this name, which of an array is its own type (JVMS 4.3.2)
abbrev pub type_named : List ℕ → List ℕ
type_named name = if is_array name then name else 76 ∷ name ++ 59 ∷ []
