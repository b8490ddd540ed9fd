-- What stands against a reference to a member or a class before names are looked up.
use Rattle.std.specs.Prelude.{ℕ, not, ◌==◌, ◌||◌, ◌&&◌, Bool, true, false, List, [], ◌∷◌, Option, Some, None, if◌then◌else◌}
use Rattle.op_table.specs.declared.construct.Construct.{Construct}
use Rattle.op_table.specs.declared.construct.Construct.TheVariants as constructs
use Rattle.descriptors.specs.Texts.{is_array, is_reference, names_float}
use Rattle.linking.specs.Told.{construct_if}

-- what a member reference names: its tag, which isn't looked at, a class, a name and a descriptor (JVMS 4.4.2)
abbrev pub Reference : Type 0
Reference = ℕ × List ℕ × List ℕ × List ℕ

-- of a call; a class's name that is an array's begins with a bracket (JVMS 4.4.1)
abbrev pub against_call : Option Reference → Option Construct
against_call None = Some constructs.Constant
against_call (Some (tag, class, name, desc)) =
    if names_float desc then Some constructs.Float else construct_if (is_array class) constructs.ArrayMethod

-- of a field instruction, for a static field or not; a static field of reference type isn't analysed
abbrev pub against_field : Bool → Option Reference → Option Construct
against_field static None = Some constructs.Constant
against_field static (Some (tag, class, name, desc)) =
    if names_float desc then Some constructs.Float else construct_if (static && is_reference desc) constructs.StaticRef

-- of the class or the array that a Class entry names
abbrev pub against_class : Option (List ℕ) → Option Construct
against_class None = Some constructs.Constant
against_class (Some name) = construct_if (is_array name && names_float name) constructs.Float
