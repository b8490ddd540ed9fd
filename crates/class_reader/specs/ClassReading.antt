-- A class file, read from left to right and past faults.
use Rattle.std.specs.Prelude.{◌&&◌, ◌||◌, not, ℕ, Bool, true, false, List, [], ◌∷◌, ◌++◌, length, Option, Some, None, nat_le, ◌==◌, if◌then◌else◌, codes}
use Rattle.std.specs.List.{list_any}
use Rattle.std.specs.Str.{bytes_eq}
use Rattle.class_pool.specs.declared.constant.Constant.{Constant}
use Rattle.class_pool.specs.declared.fault.PoolFault.TheVariants.{BadIndex}
use Rattle.class_pool.specs.Place.{Place}
use Rattle.class_pool.specs.Pool.{utf8_at, class_name_at}
use Rattle.class_reader.specs.declared.class.Field.{Field}
use Rattle.class_reader.specs.declared.class.Method.{Method}
use Rattle.class_reader.specs.declared.class.Code.{Code}
use Rattle.class_reader.specs.declared.class.Handler.{Handler}
use Rattle.class_reader.specs.declared.fault.ClassFault.{ClassFault}
use Rattle.class_reader.specs.declared.fault.ClassFault.TheVariants.{Magic, Version, Pool, BadDesc, BadCode, Repeated}
use Rattle.class_reader.specs.Met.{Met, done, with_faults, behind, ◌>>=◌, num_at, bytes_at, times, pushed, counted_at, times_at}
use Rattle.class_reader.specs.Flags.{is_static, is_native, is_abstract}
use Rattle.descriptors.specs.Tests.{describes, is_field}

-- ---- magic and versions

abbrev pub fault_if : Bool → ClassFault → List ClassFault
fault_if true fault = fault ∷ []
fault_if false fault = []

-- the minor and the major version (JVMS 4.1), of which the latter counts
unfoldable pub versions_at : Place → Met (ℕ × Place)
versions_at place = do
  minor ← num_at 2 place
  major ← num_at 2 minor.1
  with_faults (fault_if (not (nat_le 45 major.0 && nat_le major.0 65)) (Version minor.1.at)) major

-- magic, and the versions
unfoldable pub head_at : Place → Met (ℕ × Place)
head_at place = do
  magic ← num_at 4 place
  behind (fault_if (not (magic.0 == 0xcafebabe)) (Magic place.at)) (versions_at magic.1)

-- ---- indices

-- the fault of an index at this offset that names nothing
abbrev pub index_faults : {A : Type 0} → ℕ → ℕ → Option A → List ClassFault
index_faults at index None = Pool (BadIndex at index) ∷ []
index_faults at index (Some x) = []

-- an index, and what it names
unfoldable pub index_at : (ℕ → Option (List ℕ)) → Place → Met (Option (List ℕ) × Place)
index_at names place = do
  index ← num_at 2 place
  with_faults (index_faults place.at index.0 (names index.0)) (names index.0, index.1)

-- what stands for a text that isn't there
abbrev pub or_empty : Option (List ℕ) → List ℕ
or_empty None = []
or_empty (Some text) = text

-- the name that the index names
unfoldable pub name_at : (ℕ → Option (List ℕ)) → Place → Met (List ℕ × Place)
name_at names place = do
  name ← index_at names place
  done (or_empty name.0, name.1)

-- ---- attributes

-- an attribute as it stands in the file: the offset of its name's index, its name, and its bytes (JVMS 4.7)
pub record Stored : Type 0 where
  pub at : ℕ
  pub name : Option (List ℕ)
  pub body : Place

unfoldable pub attribute_at : List (Option Constant) → Place → Met (Stored × Place)
attribute_at pool place = do
  name ← index_at (utf8_at pool) place
  len ← num_at 4 name.1
  body ← bytes_at len.0 len.1
  done (record { at = place.at; name = name.0; body = record { at = len.1.at; rest = body.0 } }, body.1)

-- an attribute that isn't looked at
unfoldable pub skipped_at : List (Option Constant) → Place → Met Place
skipped_at pool place = do
  attribute ← attribute_at pool place
  done attribute.1

-- ---- code

-- the index of the class that is caught; 0 catches everything
abbrev pub catch_faults : List (Option Constant) → ℕ → ℕ → List ClassFault
catch_faults pool at index = if index == 0 then [] else index_faults at index (class_name_at pool index)

abbrev pub catch_of : List (Option Constant) → ℕ → Option (List ℕ)
catch_of pool index = if index == 0 then None else class_name_at pool index

unfoldable pub catch_at : List (Option Constant) → Place → Met (Option (List ℕ) × Place)
catch_at pool place = do
  index ← num_at 2 place
  with_faults (catch_faults pool place.at index.0) (catch_of pool index.0, index.1)

-- an entry of an exception table
unfoldable pub handler_at : List (Option Constant) → Place → Met (Handler × Place)
handler_at pool place = do
  start ← num_at 2 place
  end ← num_at 2 start.1
  handler ← num_at 2 end.1
  catch ← catch_at pool handler.1
  done (record { start = start.0; end = end.0; handler = handler.0; catch = catch.0 }, catch.1)

-- the instructions behind their count
unfoldable pub instructions_at : Place → Met (List ℕ × Place)
instructions_at place = do
  len ← num_at 4 place
  bytes_at len.0 len.1

-- what a Code attribute holds (JVMS 4.7.3)
unfoldable pub code_at : List (Option Constant) → Place → Met (Code × Place)
code_at pool place = do
  stack ← num_at 2 place
  locals ← num_at 2 stack.1
  bytes ← instructions_at locals.1
  handlers ← counted_at (handler_at pool) bytes.1
  last ← times_at (skipped_at pool) handlers.1
  done (record { max_stack = stack.0; max_locals = locals.0; bytes = bytes.0; handlers = handlers.0 }, last)

-- the parts fill the attribute, and there are 1 to 65,535 bytes of instructions
abbrev pub is_filled : Option (Code × Place) → Bool
is_filled None = false
is_filled (Some code) = length code.1.rest == 0 && (nat_le 1 (length code.0.bytes) && nat_le (length code.0.bytes) 65535)

abbrev pub code_in : Option (Code × Place) → Option Code
code_in None = None
code_in (Some code) = Some code.0

-- the code in an attribute, where it is one; what is faulty in it counts only then
abbrev pub judged : ℕ → Met (Code × Place) → Met (Option Code)
judged at met = if is_filled met.value then with_faults met.faults (code_in met.value) else with_faults (BadCode at ∷ []) None

-- ---- the attributes of a method

-- whether an attribute Code was met, and its code, where it is one
pub record Given : Type 0 where
  pub met : Bool
  pub code : Option Code

abbrev pub is_code : Option (List ℕ) → Bool
is_code None = false
is_code (Some name) = bytes_eq name (codes "Code")

-- a Code attribute is looked into where it is the first, and where the method may have code
unfoldable pub given_at : Bool → List (Option Constant) → Bool → Stored → Met (Option Code)
given_at allowed pool met attribute =
    if allowed && not met then judged attribute.at (code_at pool attribute.body)
    else with_faults (BadCode attribute.at ∷ []) None

abbrev pub keeps_code : Option Code → Option Code → Option Code
keeps_code None code = code
keeps_code (Some first) code = Some first

-- what is known of the method's code behind an attribute
unfoldable pub given_with : Bool → List (Option Constant) → Given → Stored → Met Given
given_with allowed pool given attribute =
    if is_code attribute.name then (do
      code ← given_at allowed pool given.met attribute
      done (record { met = true; code = keeps_code given.code code }))
    else done given

unfoldable pub method_attribute_at : Bool → List (Option Constant) → Given × Place → Met (Given × Place)
method_attribute_at allowed pool s = do
  attribute ← attribute_at pool s.1
  given ← given_with allowed pool s.0 attribute.0
  done (given, attribute.1)

-- ---- fields and methods

-- the flags of a member, the indices of its name and descriptor, and what they name
pub record Head : Type 0 where
  pub flags : ℕ
  pub name : Option (List ℕ)
  pub desc : Option (List ℕ)

-- the names and descriptors of the members before
abbrev pub Members : Type 0
Members = List (List ℕ × List ℕ)

-- a descriptor that isn't one
abbrev pub descriptor_faults : (List ℕ → Bool) → ℕ → Option (List ℕ) → List ClassFault
descriptor_faults is_descriptor at None = []
descriptor_faults is_descriptor at (Some text) = fault_if (not (is_descriptor text)) (BadDesc at)

unfoldable pub descriptor_at : (List ℕ → Bool) → List (Option Constant) → Place → Met (Option (List ℕ) × Place)
descriptor_at is_descriptor pool place = do
  text ← index_at (utf8_at pool) place
  with_faults (descriptor_faults is_descriptor place.at text.0) text

abbrev pub is_pair : List ℕ → List ℕ → List ℕ × List ℕ → Bool
is_pair name desc other = bytes_eq other.0 name && bytes_eq other.1 desc

-- whether a member before has the name and the descriptor; one whose index is faulty has none
abbrev pub is_repeated : Members → Option (List ℕ) → Option (List ℕ) → Bool
is_repeated before (Some name) (Some desc) = list_any (is_pair name desc) before
is_repeated before name desc = false

abbrev pub with_member : Members → Option (List ℕ) → Option (List ℕ) → Members
with_member before (Some name) (Some desc) = before ++ (name, desc) ∷ []
with_member before name desc = before

-- flags, name and descriptor, behind other members (JVMS 4.5, 4.6)
unfoldable pub member_at : (ℕ → List ℕ → Bool) → List (Option Constant) → Members × Place → Met (Head × Members × Place)
member_at is_descriptor pool s = do
  flags ← num_at 2 s.1
  name ← index_at (utf8_at pool) flags.1
  desc ← descriptor_at (is_descriptor flags.0) pool name.1
  with_faults (fault_if (is_repeated s.0 name.0 desc.0) (Repeated s.1.at)) (record { flags = flags.0; name = name.0; desc = desc.0 }, with_member s.0 name.0 desc.0, desc.1)

unfoldable pub field_at : List (Option Constant) → Members × Place → Met (Field × (Members × Place))
field_at pool s = do
  member ← member_at (λ flags. is_field) pool s
  next ← times_at (skipped_at pool) member.2
  done (record { flags = member.0.flags; name = or_empty member.0.name; desc = or_empty member.0.desc }, (member.1, next))

-- a method with these flags has code
abbrev pub has_code : ℕ → Bool
has_code flags = not (is_native flags || is_abstract flags)

-- the attributes of a method whose flags stand at this offset
unfoldable pub code_given_at : ℕ → Bool → List (Option Constant) → Place → Met (Option Code × Place)
code_given_at at allowed pool place = do
  count ← num_at 2 place
  given ← times (method_attribute_at allowed pool) count.0 (record { met = false; code = None }, count.1)
  with_faults (fault_if (allowed && not given.0.met) (BadCode at)) (given.0.code, given.1)

unfoldable pub method_at : List (Option Constant) → Members × Place → Met (Method × (Members × Place))
method_at pool s = do
  member ← member_at (λ flags. describes (is_static flags)) pool s
  code ← code_given_at s.1.at (has_code member.0.flags) pool member.2
  done (record { flags = member.0.flags; name = or_empty member.0.name; desc = or_empty member.0.desc; code = code.0 }, (member.1, code.1))

-- a count, and so many members
unfoldable pub members_at : {A : Type 0} → (Members × Place → Met (A × (Members × Place))) → Place → Met (List A × Place)
members_at {A = A} read place = do
  count ← num_at 2 place
  all ← times (pushed {A = A} {S = Members × Place} read) count.0 ([], ([], count.1))
  done (all.0, all.1.1)

-- ---- the class

-- what stands behind the pool
pub record Rest : Type 0 where
  pub flags : ℕ
  pub name : List ℕ
  pub super_name : List ℕ
  pub interfaces : List (List ℕ)
  pub fields : List Field
  pub methods : List Method

-- flags, this class and the superclass
unfoldable pub names_at : List (Option Constant) → Place → Met ((ℕ × List ℕ × List ℕ) × Place)
names_at pool place = do
  flags ← num_at 2 place
  name ← name_at (class_name_at pool) flags.1
  super_name ← name_at (class_name_at pool) name.1
  done ((flags.0, name.0, super_name.0), super_name.1)

-- what stands behind the pool (JVMS 4.1)
unfoldable pub rest_at : List (Option Constant) → Place → Met (Rest × Place)
rest_at pool place = do
  names ← names_at pool place
  interfaces ← counted_at (name_at (class_name_at pool)) names.1
  fields ← members_at (field_at pool) interfaces.1
  methods ← members_at (method_at pool) fields.1
  last ← times_at (skipped_at pool) methods.1
  done (record { flags = names.0.0; name = names.0.1; super_name = names.0.2; interfaces = interfaces.0; fields = fields.0; methods = methods.0 }, last)
