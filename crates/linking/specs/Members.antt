-- What a field instruction and the index of a class mean (JVMS 5.4.3.1, 5.4.3.2, 6.5).
use Rattle.std.specs.Prelude.{ℕ, ◌==◌, Bool, false, List, [], ◌∷◌, Option, Some, None, Result, Ok, Err, true, is_some, if◌then◌else◌, slice_get}
use Rattle.std.specs.Option.{option_map_or}
use Rattle.class_reader.specs.Flags.{is_static}
use Rattle.op_table.specs.declared.construct.Construct.{Construct}
use Rattle.op_table.specs.declared.construct.Construct.TheVariants as constructs
use Rattle.world.specs.declared.member.MemberId.{MemberId}
use Rattle.class_hierarchy.specs.World.{World, class_at, number_of, is_instantiable}
use Rattle.descriptors.specs.Texts.{is_array, is_class, name_of}
use Rattle.world.specs.Resolution.{resolved_field}
use Rattle.linking.specs.Told.{told, then_by, unless}
use Rattle.linking.specs.References.{Reference, against_field}
use Rattle.linking.specs.Calls.{is_same}

-- ---- fields (JVMS 5.4.3.2)

-- the field is static exactly where the instruction is
abbrev pub is_field_for : World → Bool → MemberId → Bool
is_field_for w static m = option_map_or (λ field. is_same (is_static field.flags) static) (slice_get (class_at w m.class).fields m.member) false

abbrev pub fits_field : World → Bool → MemberId → Result MemberId Construct
fits_field w static m = if is_field_for w static m then Ok m else Err constructs.Incompatible

-- the field that a name and a descriptor mean in the class of this name; an array class has none
unfoldable pub field_meant : World → Bool → List ℕ → List ℕ → List ℕ → Result MemberId Construct
field_meant w static class name desc =
    if is_array class then Err constructs.MissingClass else then_by (fits_field w static) (told (resolved_field w class name desc))

abbrev pub field_to : World → Bool → Option Reference → Result MemberId Construct
field_to w static None = Err constructs.Constant
field_to w static (Some (tag, class, name, desc)) = field_meant w static class name desc

-- the same by a member reference, where nothing stands against it
unfoldable pub field_by : World → Bool → Option Reference → Result MemberId Construct
field_by w static reference = unless (field_to w static reference) (against_field static reference)

-- ---- classes (JVMS 5.4.3.1)

abbrev pub instantiable : World → Option ℕ → Result ℕ Construct
instantiable w None = Err constructs.MissingClass
instantiable w (Some c) = if is_instantiable w c then Ok c else Err constructs.Incompatible

-- the class of this name, of which objects can be made; an array isn't made so
unfoldable pub made_of : World → List ℕ → Result ℕ Construct
made_of w name = if is_array name then Err constructs.MissingClass else instantiable w (number_of w name)

-- the same by the name of a Class entry
abbrev pub made_by : World → Option (List ℕ) → Result ℕ Construct
made_by w None = Err constructs.Constant
made_by w (Some name) = made_of w name

-- the type behind the brackets of a descriptor (JVMS 4.3.2)
abbrev pub innermost : List ℕ → List ℕ
innermost [] = []
innermost (b ∷ text) = if b == 91 then innermost text else b ∷ text

-- a class of the world, or an array of which the elements behind all brackets aren't of a class that isn't one
unfoldable pub is_known : World → List ℕ → Bool
is_known w name =
    if is_array name
    then (if is_class (innermost name) then is_some (number_of w (name_of (innermost name))) else true)
    else is_some (number_of w name)

-- the class or the array of this name
abbrev pub known : World → List ℕ → Option Construct
known w name = if is_known w name then None else Some constructs.MissingClass
