-- Which method runs on a receiver (after JVMS 5.4.6).
use Rattle.std.specs.Prelude.{ℕ, Bool, List, [], ◌∷◌, Result, Ok, Err, is_some, nat_eq, not, ◌&&◌, if◌then◌else◌, slice_index_or}
use Rattle.std.specs.List.{list_any}
use Rattle.std.specs.Str.{bytes_eq}
use Rattle.class_reader.specs.declared.class.Method.{Method}
use Rattle.world.specs.declared.member.MemberId.{MemberId}
use Rattle.world.specs.declared.fault.ResolveFault.{ResolveFault}
use Rattle.world.specs.declared.fault.ResolveFault.TheVariants.{MissingMember, PackageOverride, AbstractTarget, NotInstance}
use Rattle.world.specs.declared.access.MethodKind.TheVariants as kinds
use Rattle.class_reader.specs.Flags.{is_private}
use Rattle.world.specs.Access.{is_no_target}
use Rattle.class_hierarchy.specs.World.{World, constructor, class_at, number_of, line, superinterfaces, is_below}
use Rattle.world.specs.Resolution.{first_of, in_class, method_in, has_default, only, or_interface}

-- the method with this number
abbrev pub method_of : World → MemberId → Method
method_of w m = slice_index_or (class_at w m.class).methods m.member constructor

-- ---- packages (JVMS 5.3)

-- what stands before the last slash, with it
abbrev pub package_of : List ℕ → List ℕ
package_of [] = []
package_of (x ∷ xs) = if list_any (nat_eq 47) (x ∷ xs) then x ∷ package_of xs else []

abbrev pub same_package : World → ℕ → ℕ → Bool
same_package w c d = bytes_eq (package_of (class_at w c).name) (package_of (class_at w d).name)

-- one of the classes declares the method for its package alone, and one of another package declares it too
unfoldable pub meets_package : World → List ℕ → List ℕ → List ℕ → Bool
meets_package w name desc among =
    list_any
    (λ d. is_some (method_in w name desc kinds.Package d) && list_any (λ e. is_some (method_in w name desc kinds.Any e) && not (same_package w d e)) among)
    among

-- ---- the method

-- the only default method among the interfaces
unfoldable pub only_default : World → List ℕ → List ℕ → List ℕ → Result MemberId ResolveFault
only_default w name desc among = only (has_default w name desc) among (method_in w name desc kinds.Default) (Err MissingMember)

-- the first inherited method of this name and descriptor up the superclasses, else the only default method
unfoldable pub inherited : World → List ℕ → List ℕ → ℕ → Result MemberId ResolveFault
inherited w name desc r = or_interface (first_of (method_in w name desc kinds.Inherited) (line w r)) (only_default w name desc (superinterfaces w r))

-- a private method is itself what runs
abbrev pub chosen : World → ℕ → MemberId → Method → Result MemberId ResolveFault
chosen w r m method = if is_private method.flags then Ok m else inherited w method.name method.desc r

-- the methods of the receiver's classes meet across packages
abbrev pub is_package_override : World → ℕ → Method → Bool
is_package_override w r method = not (is_private method.flags) && meets_package w method.name method.desc (line w r)

-- what was chosen, where nothing speaks against it
abbrev pub allowed : World → ℕ → MemberId → Result MemberId ResolveFault → Result MemberId ResolveFault
allowed w r m (Err fault) = Err fault
allowed w r m (Ok s) =
    if is_package_override w r (method_of w m)
    then Err PackageOverride
    else
    if is_no_target (method_of w s).flags
    then Err AbstractTarget
    else if is_below w r m.class then Ok s else Err NotInstance

unfoldable pub selected_by : World → MemberId → ℕ → Result MemberId ResolveFault
selected_by w m r = allowed w r m (chosen w r m (method_of w m))

-- the method that a call of m runs on an object of this class
unfoldable pub selected : World → List ℕ → MemberId → Result MemberId ResolveFault
selected w receiver m = in_class (number_of w receiver) (selected_by w m)
