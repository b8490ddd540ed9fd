-- The class file format (JVMS 4).
use Rattle.std.specs.Prelude.{◌≡◌, ◌≢◌, ◌||◌, not, ℕ, ◌<◌, ◌≤◌, ◌^◌, List, [], ◌∷◌, ◌++◌, length, Option, Some, None, IsTrue, codes, if◌then◌else◌}
use Rattle.std.specs.List.{AllByRecursion}
use Rattle.std.specs.Str.{bytes_eq}
use Rattle.byteorder.specs.Endian.{big_bytes}
use Rattle.class_pool.specs.declared.constant.Constant.{Constant}
use Rattle.class_pool.specs.Pool.{IsPool, utf8_at, class_name_at}
use Rattle.class_pool.specs.Pieces.{Counted}
use Rattle.class_reader.specs.declared.class.ClassRecord.{ClassRecord}
use Rattle.class_reader.specs.declared.class.Field.{Field}
use Rattle.class_reader.specs.declared.class.Method.{Method}
use Rattle.class_reader.specs.declared.class.Code.{Code}
use Rattle.class_reader.specs.declared.class.Handler.{Handler}
use Rattle.class_reader.specs.Flags.{is_static, is_native, is_abstract}
use Rattle.descriptors.specs.Grammar.{IsFieldDescriptor, IsMethodDescriptor}

-- the two bytes are an index that names x
abbrev pub IsIndex : {A : Type 0} → (ℕ → Option A) → List ℕ → A → Type 0
IsIndex names bytes x = (index : ℕ) × (index < 2 ^ 16) × (bytes ≡ big_bytes 2 index) × (names index ≡ Some x)

-- ---- attributes

-- an attribute's name and bytes
pub record Attribute : Type 0 where
  pub name : List ℕ
  pub body : List ℕ

-- the index of its name, a length of four bytes, and so many (JVMS 4.7)
pub record IsAttribute (pool : List (Option Constant)) (bytes : List ℕ) (attribute : Attribute) : Type 0 where
  pub index : List ℕ
  pub named : IsIndex (utf8_at pool) index attribute.name
  pub short : length attribute.body < 2 ^ 32
  pub parts : bytes ≡ index ++ (big_bytes 4 (length attribute.body) ++ attribute.body)

-- a count of two bytes, and so many attributes
abbrev pub AreAttributes : List (Option Constant) → List ℕ → Type 0
AreAttributes pool bytes = (attributes : List Attribute) × Counted (IsAttribute pool) bytes attributes

-- ---- code

-- the index of the class that is caught, or 0, which catches everything
abbrev pub IsCatch : List (Option Constant) → List ℕ → Option (List ℕ) → Type 0
IsCatch pool bytes None = bytes ≡ big_bytes 2 0
IsCatch pool bytes (Some class) = IsIndex (class_name_at pool) bytes class

-- an entry of an exception table (JVMS 4.7.3)
pub record IsHandler (pool : List (Option Constant)) (bytes : List ℕ) (handler : Handler) : Type 0 where
  pub catch : List ℕ
  pub start_fits : handler.start < 2 ^ 16
  pub end_fits : handler.end < 2 ^ 16
  pub handler_fits : handler.handler < 2 ^ 16
  pub catches : IsCatch pool catch handler.catch
  pub parts : bytes ≡ big_bytes 2 handler.start ++ (big_bytes 2 handler.end ++ (big_bytes 2 handler.handler ++ catch))

-- what a Code attribute holds (JVMS 4.7.3)
pub record IsCode (pool : List (Option Constant)) (bytes : List ℕ) (code : Code) : Type 0 where
  pub handlers : List ℕ
  pub attributes : List ℕ
  pub stack_fits : code.max_stack < 2 ^ 16
  pub locals_fit : code.max_locals < 2 ^ 16
  pub not_empty : 1 ≤ length code.bytes
  pub short : length code.bytes ≤ 65535
  pub are_handlers : Counted (IsHandler pool) handlers code.handlers
  pub are_attributes : AreAttributes pool attributes
  pub parts : bytes ≡ big_bytes 2 code.max_stack ++ (big_bytes 2 code.max_locals ++ (big_bytes 4 (length code.bytes) ++ (code.bytes ++ (handlers ++ attributes))))

-- the bytes of the attributes with the name Code
abbrev pub codes_of : List Attribute → List (List ℕ)
codes_of [] = []
codes_of (attribute ∷ attributes) = if bytes_eq attribute.name (codes "Code") then attribute.body ∷ codes_of attributes else codes_of attributes

-- a native or an abstract method has no Code, and each other one has one (JVMS 4.7.3)
abbrev pub HasCode : List (Option Constant) → ℕ → List Attribute → Option Code → Type 0
HasCode pool flags attributes None = IsTrue (is_native flags || is_abstract flags) × (codes_of attributes ≡ [])
HasCode pool flags attributes (Some code) = IsTrue (not (is_native flags || is_abstract flags)) × ((body : List ℕ) × (codes_of attributes ≡ body ∷ []) × IsCode pool body code)

-- ---- fields and methods

-- flags, the indices of the name and the descriptor, and attributes (JVMS 4.5)
pub record IsField (pool : List (Option Constant)) (bytes : List ℕ) (field : Field) : Type 0 where
  pub name : List ℕ
  pub desc : List ℕ
  pub attributes : List ℕ
  pub flags_fit : field.flags < 2 ^ 16
  pub named : IsIndex (utf8_at pool) name field.name
  pub described : IsIndex (utf8_at pool) desc field.desc
  pub descriptor : IsFieldDescriptor field.desc
  pub are_attributes : AreAttributes pool attributes
  pub parts : bytes ≡ big_bytes 2 field.flags ++ (name ++ (desc ++ attributes))

-- the same (JVMS 4.6), with the code in an attribute
pub record IsMethod (pool : List (Option Constant)) (bytes : List ℕ) (method : Method) : Type 0 where
  pub name : List ℕ
  pub desc : List ℕ
  pub attributes : List ℕ
  pub stored : List Attribute
  pub flags_fit : method.flags < 2 ^ 16
  pub named : IsIndex (utf8_at pool) name method.name
  pub described : IsIndex (utf8_at pool) desc method.desc
  pub descriptor : IsMethodDescriptor (is_static method.flags) method.desc
  pub are_attributes : Counted (IsAttribute pool) attributes stored
  pub has_code : HasCode pool method.flags stored method.code
  pub parts : bytes ≡ big_bytes 2 method.flags ++ (name ++ (desc ++ attributes))

-- no element is the same as a later one
abbrev pub AreDistinct : {A : Type 0} → List A → Type 0
AreDistinct [] = Unit {0}
AreDistinct (x ∷ xs) = AllByRecursion (λ y. x ≢ y) xs × AreDistinct xs

abbrev pub field_pairs : List Field → List (List ℕ × List ℕ)
field_pairs [] = []
field_pairs (field ∷ fields) = (field.name, field.desc) ∷ field_pairs fields

abbrev pub method_pairs : List Method → List (List ℕ × List ℕ)
method_pairs [] = []
method_pairs (method ∷ methods) = (method.name, method.desc) ∷ method_pairs methods

-- ---- the class

-- magic, versions, pool, flags, this class, superclass, interfaces, fields, methods, attributes (JVMS 4.1)
pub record IsClassFile (bytes : List ℕ) (class : ClassRecord) : Type 0 where
  pub minor : ℕ
  pub pool : List ℕ
  pub this : List ℕ
  pub super : List ℕ
  pub super_class : List ℕ
  pub interfaces : List ℕ
  pub fields : List ℕ
  pub methods : List ℕ
  pub attributes : List ℕ
  pub minor_fits : minor < 2 ^ 16
  pub version : (45 ≤ class.major) × (class.major ≤ 65)
  pub flags_fit : class.flags < 2 ^ 16
  pub is_pool : IsPool pool class.pool
  pub named : IsIndex (class_name_at class.pool) this class.name
  pub below : IsIndex (class_name_at class.pool) super super_class × (class.super_name ≡ Some super_class)
  pub are_interfaces : Counted (IsIndex (class_name_at class.pool)) interfaces class.interfaces
  pub are_fields : Counted (IsField class.pool) fields class.fields
  pub are_methods : Counted (IsMethod class.pool) methods class.methods
  pub are_attributes : AreAttributes class.pool attributes
  -- no two fields have one name and descriptor, and no two methods (JVMS 4.5, 4.6)
  pub distinct_fields : AreDistinct (field_pairs class.fields)
  pub distinct_methods : AreDistinct (method_pairs class.methods)
  pub not_built_in : class.name ≢ codes "java/lang/Object"
  pub parts : bytes ≡ 202 ∷ 254 ∷ 186 ∷ 190 ∷ big_bytes 2 minor ++ (big_bytes 2 class.major ++ (pool ++ (big_bytes 2 class.flags ++ (this ++ (super ++ (interfaces ++ (fields ++ (methods ++ attributes))))))))
