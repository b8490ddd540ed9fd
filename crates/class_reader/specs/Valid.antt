-- What every class that was read is: a record of the grammar, but for the sizes of its counts.
use Rattle.std.specs.Prelude.{◌≡◌, ◌≢◌, ◌||◌, not, ℕ, ◌<◌, ◌≤◌, ◌^◌, List, length, Option, Some, None, IsTrue, codes}
use Rattle.std.specs.List.{AllByRecursion}
use Rattle.class_pool.specs.declared.constant.Constant.{Constant}
use Rattle.class_pool.specs.Pool.{IsConstant, laid_out, IsLinkedSlot, utf8_at, class_name_at}
use Rattle.class_reader.specs.declared.class.ClassRecord.{ClassRecord}
use Rattle.class_reader.specs.declared.class.Field.{Field}
use Rattle.class_reader.specs.declared.class.Method.{Method}
use Rattle.class_reader.specs.declared.class.Code.{Code}
use Rattle.class_reader.specs.declared.class.Handler.{Handler}
use Rattle.class_reader.specs.Flags.{is_static, is_native, is_abstract}
use Rattle.descriptors.specs.Grammar.{IsFieldDescriptor, IsMethodDescriptor}
use Rattle.class_reader.specs.ClassFile.{AreDistinct, field_pairs, method_pairs}

-- some bytes are the entry (JVMS 4.4)
abbrev pub HasBytes : Constant → Type 0
HasBytes entry = (bytes : List ℕ) × IsConstant bytes entry

-- entries by index, each of which names what it must
pub record IsValidPool (pool : List (Option Constant)) : Type 0 where
  pub entries : List Constant
  pub laid : pool ≡ laid_out entries
  pub each : AllByRecursion HasBytes entries
  pub linked : AllByRecursion (IsLinkedSlot pool) pool

-- an index of two bytes names x
abbrev pub HasIndex : (ℕ → Option (List ℕ)) → List ℕ → Type 0
HasIndex names x = (index : ℕ) × (index < 2 ^ 16) × (names index ≡ Some x)

-- the class that is caught, or everything
abbrev pub IsValidCatch : List (Option Constant) → Option (List ℕ) → Type 0
IsValidCatch pool None = Unit {0}
IsValidCatch pool (Some class) = HasIndex (class_name_at pool) class

-- an entry of an exception table (JVMS 4.7.3)
pub record IsValidHandler (pool : List (Option Constant)) (handler : Handler) : Type 0 where
  pub start_fits : handler.start < 2 ^ 16
  pub end_fits : handler.end < 2 ^ 16
  pub handler_fits : handler.handler < 2 ^ 16
  pub catches : IsValidCatch pool handler.catch

-- what a Code attribute holds, and the name that it has (JVMS 4.7.3)
pub record IsValidCode (pool : List (Option Constant)) (code : Code) : Type 0 where
  pub named : HasIndex (utf8_at pool) (codes "Code")
  pub stack_fits : code.max_stack < 2 ^ 16
  pub locals_fit : code.max_locals < 2 ^ 16
  pub not_empty : 1 ≤ length code.bytes
  pub short : length code.bytes ≤ 65535
  pub are_handlers : AllByRecursion (IsValidHandler pool) code.handlers

-- a native or an abstract method has no code, and each other one has (JVMS 4.7.3)
abbrev pub HasValidCode : List (Option Constant) → ℕ → Option Code → Type 0
HasValidCode pool flags None = IsTrue (is_native flags || is_abstract flags)
HasValidCode pool flags (Some code) = IsTrue (not (is_native flags || is_abstract flags)) × IsValidCode pool code

-- JVMS 4.5
pub record IsValidField (pool : List (Option Constant)) (field : Field) : Type 0 where
  pub flags_fit : field.flags < 2 ^ 16
  pub named : HasIndex (utf8_at pool) field.name
  pub described : HasIndex (utf8_at pool) field.desc
  pub descriptor : IsFieldDescriptor field.desc

-- JVMS 4.6
pub record IsValidMethod (pool : List (Option Constant)) (method : Method) : Type 0 where
  pub flags_fit : method.flags < 2 ^ 16
  pub named : HasIndex (utf8_at pool) method.name
  pub described : HasIndex (utf8_at pool) method.desc
  pub descriptor : IsMethodDescriptor (is_static method.flags) method.desc
  pub has_code : HasValidCode pool method.flags method.code

-- JVMS 4.1. How many entries, interfaces, fields, methods and handlers there are isn't bounded here.
pub record IsClass (class : ClassRecord) : Type 0 where
  pub super_class : List ℕ
  pub version : (45 ≤ class.major) × (class.major ≤ 65)
  pub flags_fit : class.flags < 2 ^ 16
  pub is_pool : IsValidPool class.pool
  pub named : HasIndex (class_name_at class.pool) class.name
  pub below : HasIndex (class_name_at class.pool) super_class × (class.super_name ≡ Some super_class)
  pub are_interfaces : AllByRecursion (HasIndex (class_name_at class.pool)) class.interfaces
  pub are_fields : AllByRecursion (IsValidField class.pool) class.fields
  pub are_methods : AllByRecursion (IsValidMethod class.pool) class.methods
  pub distinct_fields : AreDistinct (field_pairs class.fields)
  pub distinct_methods : AreDistinct (method_pairs class.methods)
  pub not_built_in : class.name ≢ codes "java/lang/Object"
