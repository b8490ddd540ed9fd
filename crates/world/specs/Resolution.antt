-- Which field or method a name means (after JVMS 5.4.3.2 and 5.4.3.3).
use Rattle.std.specs.Prelude.{ℕ, Bool, false, List, [], ◌∷◌, Option, Some, None, Result, Ok, Err, is_some, nat_eq, not, ◌&&◌, if◌then◌else◌, slice_get, find}
use Rattle.std.specs.Option.{option_map, option_and_then, option_map_or, option_or, ok_or}
use Rattle.std.specs.List.{list_any, position}
use Rattle.std.specs.Str.{bytes_eq}
use Rattle.class_reader.specs.declared.class.Field.{Field}
use Rattle.class_reader.specs.declared.class.Method.{Method}
use Rattle.world.specs.declared.member.MemberId.{MemberId}
use Rattle.world.specs.declared.fault.ResolveFault.{ResolveFault}
use Rattle.world.specs.declared.fault.ResolveFault.TheVariants.{MissingClass, MissingMember, Ambiguous}
use Rattle.world.specs.declared.access.MethodKind.{MethodKind}
use Rattle.world.specs.declared.access.MethodKind.TheVariants as kinds
use Rattle.world.specs.Access.{has_kind}
use Rattle.class_hierarchy.specs.World.{World, class_at, number_of, line, above, superinterfaces, ancestors}

-- the first answer of classes in this order
abbrev pub first_of : {A : Type 0} → (ℕ → Option A) → List ℕ → Option A
first_of f [] = None
first_of f (c ∷ cs) = option_or (f c) (first_of f cs)

-- what is asked of a class, where it is there
abbrev pub in_class : {A : Type 0} → Option ℕ → (ℕ → Result A ResolveFault) → Result A ResolveFault
in_class None ask = Err MissingClass
in_class (Some c) ask = ask c

-- ---- members

abbrev pub member : ℕ → ℕ → MemberId
member class place = record { class = class; member = place }

abbrev pub is_field : List ℕ → List ℕ → Field → Bool
is_field name desc field = bytes_eq field.name name && bytes_eq field.desc desc

abbrev pub is_method : List ℕ → List ℕ → Method → Bool
is_method name desc method = bytes_eq method.name name && bytes_eq method.desc desc

-- the field of the class with this name and descriptor
unfoldable pub field_in : World → List ℕ → List ℕ → ℕ → Option MemberId
field_in w name desc c = option_map (member c) (position (is_field name desc) (class_at w c).fields)

-- the place, where the method there is of the kind
abbrev pub of_kind : MethodKind → List Method → ℕ → Option ℕ
of_kind kind methods place = if option_map_or (λ method. has_kind kind method.flags) (slice_get methods place) false then Some place else None

-- the method of the class with this name and descriptor, where it is of the kind
unfoldable pub method_in : World → List ℕ → List ℕ → MethodKind → ℕ → Option MemberId
method_in w name desc kind c =
    option_map
    (member c)
    (option_and_then (of_kind kind (class_at w c).methods) (position (is_method name desc) (class_at w c).methods))

-- ---- fields

-- the first field in the class, its superinterfaces by its own names, and then the same of the superclass
unfoldable pub field_from : World → List ℕ → List ℕ → ℕ → Result MemberId ResolveFault
field_from w name desc c = ok_or (first_of (field_in w name desc) (ancestors w c)) MissingMember

unfoldable pub resolved_field : World → List ℕ → List ℕ → List ℕ → Result MemberId ResolveFault
resolved_field w class name desc = in_class (number_of w class) (field_from w name desc)

-- ---- methods

-- a default method of this name and descriptor
abbrev pub has_default : World → List ℕ → List ℕ → ℕ → Bool
has_default w name desc c = is_some (method_in w name desc kinds.Default c)

-- such a method of a subinterface overrides the interface's
abbrev pub is_overridden : World → List ℕ → List ℕ → List ℕ → ℕ → Bool
is_overridden w name desc among d = list_any (λ e. has_default w name desc e && list_any (nat_eq d) (above w e)) among

abbrev pub is_most_specific : World → List ℕ → List ℕ → List ℕ → ℕ → Bool
is_most_specific w name desc among d = has_default w name desc d && not (is_overridden w name desc among d)

-- the answer on the first class that passes: Ambiguous where another passes too
abbrev pub alone : (ℕ → Bool) → List ℕ → (ℕ → Option MemberId) → Result MemberId ResolveFault → Option ℕ → Result MemberId ResolveFault
alone passes among answer otherwise None = otherwise
alone passes among answer otherwise (Some d) = if list_any (λ e. passes e && not (nat_eq d e)) among then Err Ambiguous else ok_or (answer d) MissingMember

-- the only class that passes, if one does
abbrev pub only : (ℕ → Bool) → List ℕ → (ℕ → Option MemberId) → Result MemberId ResolveFault → Result MemberId ResolveFault
only passes among answer otherwise = alone passes among answer otherwise (find passes among)

-- the only default method that no other overrides; where there is none, the first method that isn't private or static
unfoldable pub interface_method : World → List ℕ → List ℕ → List ℕ → Result MemberId ResolveFault
interface_method w name desc among =
    only
    (is_most_specific w name desc among)
    among
    (method_in w name desc kinds.Default)
    (ok_or (first_of (method_in w name desc kinds.Inherited) among) MissingMember)

abbrev pub or_interface : Option MemberId → Result MemberId ResolveFault → Result MemberId ResolveFault
or_interface None otherwise = otherwise
or_interface (Some m) otherwise = Ok m

-- the first method in the class and its superclasses; else one of the superinterfaces
unfoldable pub method_from : World → List ℕ → List ℕ → ℕ → Result MemberId ResolveFault
method_from w name desc c = or_interface (first_of (method_in w name desc kinds.Any) (line w c)) (interface_method w name desc (superinterfaces w c))

unfoldable pub resolved_method : World → List ℕ → List ℕ → List ℕ → Result MemberId ResolveFault
resolved_method w class name desc = in_class (number_of w class) (method_from w name desc)
