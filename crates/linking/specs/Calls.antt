-- What a call means, which methods it can run, or why that can't be told (JVMS 5.4.3.3, 5.4.6, 6.5).
use Rattle.std.specs.Prelude.{ℕ, not, nat_eq, ◌&&◌, Bool, true, false, List, [], ◌∷◌, Option, Some, None, Result, Ok, Err, codes, if◌then◌else◌}
use Rattle.std.specs.List.{list_any}
use Rattle.std.specs.Str.{bytes_eq}
use Rattle.class_reader.specs.declared.class.Method.{Method}
use Rattle.class_reader.specs.Flags.{is_static, is_native, is_abstract, is_interface}
use Rattle.op_table.specs.declared.acts.Call.{Call}
use Rattle.op_table.specs.declared.acts.Call.TheVariants.{Special, Static}
use Rattle.op_table.specs.declared.construct.Construct.{Construct}
use Rattle.op_table.specs.declared.construct.Construct.TheVariants as constructs
use Rattle.world.specs.declared.member.MemberId.{MemberId}
use Rattle.class_hierarchy.specs.World.{World, class_at, number_of, is_below}
use Rattle.world.specs.Resolution.{method_from, resolved_method}
use Rattle.world.specs.Selection.{method_of}
use Rattle.linking.specs.declared.calls.Meant.{Meant}
use Rattle.linking.specs.Told.{told, then_by, unless}
use Rattle.linking.specs.References.{Reference, against_call}
use Rattle.linking.specs.TargetList.{targets_of}

-- ---- the method that a name means (JVMS 5.4.3.3)

abbrev pub is_same : Bool → Bool → Bool
is_same true b = b
is_same false b = not b

abbrev pub is_static_call : Call → Bool
is_static_call Static = true
is_static_call call = false

-- the method, where it is static exactly where the call is
abbrev pub fits : World → Call → MemberId → Result MemberId Construct
fits w call m = if is_same (is_static (method_of w m).flags) (is_static_call call) then Ok m else Err constructs.Incompatible

-- a method, by a call that names this class
abbrev pub of_class : ℕ → MemberId → Result Meant Construct
of_class c m = Ok (record { class = c; method = m })

abbrev pub meant_in : World → Call → List ℕ → List ℕ → Option ℕ → Result Meant Construct
meant_in w call name desc None = Err constructs.MissingClass
meant_in w call name desc (Some c) = then_by (of_class c) (then_by (fits w call) (told (method_from w name desc c)))

-- the class that a call names, and the method that the name and the descriptor mean there
unfoldable pub meant : World → Call → List ℕ → List ℕ → List ℕ → Result Meant Construct
meant w call class name desc = meant_in w call name desc (number_of w class)

abbrev pub meant_to : World → Call → Option Reference → Result Meant Construct
meant_to w call None = Err constructs.Constant
meant_to w call (Some (tag, class, name, desc)) = meant w call class name desc

-- the same by a member reference, where nothing stands against it
unfoldable pub meant_by : World → Call → Option Reference → Result Meant Construct
meant_by w call reference = unless (meant_to w call reference) (against_call reference)

-- ---- the second look-up (JVMS 6.5.invokespecial)

-- the name of constructors (JVMS 2.9.1)
abbrev pub is_constructor : Method → Bool
is_constructor method = bytes_eq method.name (codes "<init>")

-- an invokespecial of a method of a proper superclass, but not of a constructor; a class above the current one that is
-- no interface is a superclass
abbrev pub is_super_call : World → ℕ → Meant → Bool
is_super_call w current m =
    not (is_constructor (method_of w m.method))
    && (is_below w current m.class && not (nat_eq m.class current))
    && not (is_interface (class_at w m.class).flags)

-- the method of this name and descriptor, from the direct superclass of the current class on
abbrev pub from_superclass : World → Method → Option (List ℕ) → Result MemberId Construct
from_superclass w method None = Err constructs.MissingMember
from_superclass w method (Some name) = told (resolved_method w name method.name method.desc)

abbrev pub found : World → ℕ → Call → Meant → Result MemberId Construct
found w current Special m =
    if is_super_call w current m
    then from_superclass w (method_of w m.method) (class_at w current).super_name
    else Ok m.method
found w current call m = Ok m.method

-- the method that a call in the current class looks up, which is static exactly where the call is
unfoldable pub looked_up : World → ℕ → Call → Meant → Result MemberId Construct
looked_up w current call m = then_by (fits w call) (found w current call m)

-- ---- both

abbrev pub linked_from : World → ℕ → Call → Meant → Result Meant Construct
linked_from w current call m = then_by (of_class m.class) (looked_up w current call m)

-- the class that a call in the current class names, and the method that is looked up
unfoldable pub linked : World → ℕ → Call → List ℕ → List ℕ → List ℕ → Result Meant Construct
linked w current call class name desc = then_by (linked_from w current call) (meant w call class name desc)

-- ---- the methods that can run

-- none of them is native
abbrev pub none_native : World → List MemberId → Result (List MemberId) Construct
none_native w ts = if list_any (λ t. is_native (method_of w t).flags) ts then Err constructs.Native else Ok ts

abbrev pub with_code : World → MemberId → Result (List MemberId) Construct
with_code w m = if is_abstract (method_of w m).flags then Err constructs.AbstractTarget else Ok (m ∷ [])

-- the method itself, or the ones that receivers' classes select
abbrev pub dispatched : World → Call → Meant → Result (List MemberId) Construct
dispatched w Special m = with_code w m.method
dispatched w Static m = with_code w m.method
dispatched w call m = told (targets_of w m.class m.method)

-- the methods that a call can run, once it is linked
abbrev pub run_by : World → Call → Meant → Result (List MemberId) Construct
run_by w call m = then_by (none_native w) (dispatched w call m)

-- the methods that a call in the current class can run, where a class, a name and a descriptor are named
unfoldable pub called : World → ℕ → Call → List ℕ → List ℕ → List ℕ → Result (List MemberId) Construct
called w current call class name desc = then_by (run_by w call) (linked w current call class name desc)

abbrev pub called_by : World → ℕ → Call → Option Reference → Result (List MemberId) Construct
called_by w current call None = Err constructs.Constant
called_by w current call (Some (tag, class, name, desc)) = called w current call class name desc
