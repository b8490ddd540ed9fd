-- Where the bytes are a class, each part that stands in them is a part of this class.
use Rattle.std.proofs.Common.{◌≡◌, ◌≢◌, ◌⊎◌, ℕ, ◌+◌, ◌^◌, ◌<◌, Bool, true, false, not, ◌||◌, List, [], ◌∷◌, ◌++◌, length, Option, Some, None, ap, ◌∙◌, arith}
use Rattle.std.specs.Prelude.{codes}
use Rattle.std.proofs.lemmas.List.{length-append}
use Rattle.byteorder.specs.Endian.{big_bytes}
use Rattle.byteorder.specs.Numbers.{length-bytes_high_first}
use Rattle.class_pool.specs.declared.constant.Constant.{Constant}
use Rattle.class_pool.specs.Place.{Place}
use Rattle.class_pool.specs.Pieces.{Counted}
use Rattle.class_pool.specs.Pool.{utf8_at, class_name_at}
use Rattle.class_reader.specs.declared.class.Code.{Code}
use Rattle.class_reader.specs.declared.class.Handler.{Handler}
use Rattle.class_reader.specs.Flags.{is_native, is_abstract}
use Rattle.class_reader.specs.ClassFile.{IsIndex, Attribute, IsAttribute, AreAttributes, IsCatch, IsHandler, IsCode, codes_of, HasCode}
use Rattle.class_reader.proofs.DistinctLaws.{Pair, AreNew}
use Rattle.class_faults.specs.Pieces.{IsNumber, RawHead, IsRawHead, IsRawHandler}
use Rattle.class_faults.specs.Parts.{Kind, Fields, Methods, Opens, Owner, OfClass, OfMember, OfCode, Part, Names, InterfaceCount, Interfaces, MemberCount, Members, AttributeCount, Attributes, HandlerCount, Handlers}
use Rattle.class_faults.specs.Faults.{IsDescriptor}
use Rattle.class_faults.proofs.Fronts.{Left}

-- ---- members

-- the codes of a method with these flags, or nothing
abbrev pub CodesOf : List (Option Constant) → Kind → ℕ → List Attribute → Type 0
CodesOf pool Fields flags stored = Unit {0}
CodesOf pool Methods flags stored = (code : Option Code) × HasCode pool flags stored code

-- a field or a method, by its name and its descriptor
pub record IsMember (pool : List (Option Constant)) (kind : Kind) (bytes : List ℕ) (pair : Pair) : Type 0 where
  pub front : List ℕ
  pub attributes : List ℕ
  pub head : RawHead
  pub is_head : IsRawHead front head
  pub named : utf8_at pool head.first ≡ Some pair.0
  pub described : utf8_at pool head.second ≡ Some pair.1
  pub descriptor : IsDescriptor kind head.flags pair.1
  pub stored : List Attribute
  pub are_attributes : Counted (IsAttribute pool) attributes stored
  pub codes : CodesOf pool kind head.flags stored
  pub parts : bytes ≡ front ++ attributes

-- ---- the class

-- a class with this pool, behind it
pub record Behind (bytes : List ℕ) (pool : List (Option Constant)) : Type 0 where
  pub flags : ℕ
  pub this : List ℕ
  pub super : List ℕ
  pub name : List ℕ
  pub above : List ℕ
  pub interfaces : List ℕ
  pub names : List (List ℕ)
  pub members : Kind → List ℕ
  pub pairs : Kind → List Pair
  pub attributes : List ℕ
  pub flags_fit : flags < 2 ^ 16
  pub is_this : IsIndex (class_name_at pool) this name
  pub is_super : IsIndex (class_name_at pool) super above
  pub are_interfaces : Counted (IsIndex (class_name_at pool)) interfaces names
  pub are_members : (kind : Kind) → Counted (IsMember pool kind) (members kind) (pairs kind)
  pub are_new : (kind : Kind) → AreNew [] (pairs kind)
  pub are_attributes : AreAttributes pool attributes
  pub not_built_in : name ≢ codes "java/lang/Object"
  pub parts : (place : Place) → Opens bytes pool place → place.rest ≡ big_bytes 2 flags ++ (this ++ (super ++ (interfaces ++ (members Fields ++ (members Methods ++ attributes)))))

abbrev pub tail_of : (bytes : List ℕ) (pool : List (Option Constant)) → Behind bytes pool → Kind → List ℕ
tail_of bytes pool c Fields = c.members Methods ++ c.attributes
tail_of bytes pool c Methods = c.attributes

-- members that are left, none of which is one of those before
pub record MembersLeft (pool : List (Option Constant)) (kind : Kind) (before : List Pair) (n : ℕ) (rest tail : List ℕ) : Type 0 where
  pub left : Left (IsMember pool kind) n rest tail
  pub new : AreNew before left.xs

-- ---- code

abbrev pub wants : ℕ → Bool
wants flags = not (is_native flags || is_abstract flags)

-- the one code of a method is still to come
pub record ToCome (pool : List (Option Constant)) (flags : ℕ) (met : Bool) (stored : List Attribute) : Type 0 where
  pub wanted : wants flags ≡ true
  pub first : met ≡ false
  pub body : List ℕ
  pub code : Code
  pub only : codes_of stored ≡ body ∷ []
  pub is : IsCode pool body code

-- no code is to come, and where none was met, none is wanted
pub record NoneToCome (flags : ℕ) (met : Bool) (stored : List Attribute) : Type 0 where
  pub none : codes_of stored ≡ []
  pub unwanted : met ≡ false → wants flags ≡ false

abbrev pub CodesLeft : List (Option Constant) → Owner → Bool → List Attribute → Type 0
CodesLeft pool OfClass met stored = Unit {0}
CodesLeft pool OfCode met stored = Unit {0}
CodesLeft pool (OfMember m) met stored = m.kind ≡ Methods → ToCome pool m.flags met stored ⊎ NoneToCome m.flags met stored

-- ---- parts

-- what stands behind the attributes
abbrev pub TailOf : (bytes : List ℕ) (pool : List (Option Constant)) → Behind bytes pool → Owner → List ℕ → Type 0
TailOf bytes pool c OfClass tail = tail ≡ []
TailOf bytes pool c OfCode tail = tail ≡ []
TailOf bytes pool c (OfMember m) tail = MembersLeft pool m.kind m.declared m.left tail (tail_of bytes pool c m.kind)

pub record AttributesCounted (bytes : List ℕ) (pool : List (Option Constant)) (c : Behind bytes pool) (owner : Owner) (rest : List ℕ) : Type 0 where
  pub stored : List Attribute
  pub counted : List ℕ
  pub tail : List ℕ
  pub are : Counted (IsAttribute pool) counted stored
  pub parts : rest ≡ counted ++ tail
  pub behind : TailOf bytes pool c owner tail
  pub codes : CodesLeft pool owner false stored

pub record AttributesLeft (bytes : List ℕ) (pool : List (Option Constant)) (c : Behind bytes pool) (owner : Owner) (met : Bool) (n : ℕ) (rest : List ℕ) : Type 0 where
  pub tail : List ℕ
  pub left : Left (IsAttribute pool) n rest tail
  pub behind : TailOf bytes pool c owner tail
  pub codes : CodesLeft pool owner met left.xs

pub record HandlersCounted (pool : List (Option Constant)) (rest : List ℕ) : Type 0 where
  pub handlers : List Handler
  pub counted : List ℕ
  pub attributes : List ℕ
  pub are : Counted (IsHandler pool) counted handlers
  pub last : AreAttributes pool attributes
  pub parts : rest ≡ counted ++ attributes

pub record HandlersLeft (pool : List (Option Constant)) (n : ℕ) (rest : List ℕ) : Type 0 where
  pub attributes : List ℕ
  pub last : AreAttributes pool attributes
  pub left : Left (IsHandler pool) n rest attributes

abbrev pub Agrees : (bytes : List ℕ) (pool : List (Option Constant)) → Behind bytes pool → Part → List ℕ → Type 0
Agrees bytes pool c Names rest = rest ≡ big_bytes 2 c.flags ++ (c.this ++ (c.super ++ (c.interfaces ++ (c.members Fields ++ (c.members Methods ++ c.attributes)))))
Agrees bytes pool c InterfaceCount rest = rest ≡ c.interfaces ++ (c.members Fields ++ (c.members Methods ++ c.attributes))
Agrees bytes pool c (Interfaces n) rest = Left (IsIndex (class_name_at pool)) n rest (c.members Fields ++ (c.members Methods ++ c.attributes))
Agrees bytes pool c (MemberCount kind) rest = rest ≡ c.members kind ++ tail_of bytes pool c kind
Agrees bytes pool c (Members kind before n) rest = MembersLeft pool kind before n rest (tail_of bytes pool c kind)
Agrees bytes pool c (AttributeCount owner) rest = AttributesCounted bytes pool c owner rest
Agrees bytes pool c (Attributes owner met n) rest = AttributesLeft bytes pool c owner met n rest
Agrees bytes pool c HandlerCount rest = HandlersCounted pool rest
Agrees bytes pool c (Handlers n) rest = HandlersLeft pool n rest

-- ---- lengths

pub index_sized : (names : ℕ → Option (List ℕ)) (bytes x : List ℕ) → IsIndex names bytes x → length bytes ≡ 2
index_sized names bytes x i = ap length i.2 ∙ length-bytes_high_first 2 i.0

pub number_sized : (n : ℕ) (bytes : List ℕ) (k : ℕ) → IsNumber n bytes k → length bytes ≡ n
number_sized n bytes k i = ap length i.0 ∙ length-bytes_high_first n k

pub head_sized : (bytes : List ℕ) (head : RawHead) → IsRawHead bytes head → length bytes ≡ 6
head_sized bytes head h =
    let flags : List ℕ = big_bytes 2 head.flags in
    let first : List ℕ = big_bytes 2 head.first in
    let second : List ℕ = big_bytes 2 head.second in
    omega (arith, ap length h.parts, length-append flags (first ++ second), length-append first second, length-bytes_high_first 2 head.flags, length-bytes_high_first 2 head.first, length-bytes_high_first 2 head.second)

catch_sized : (pool : List (Option Constant)) (bytes : List ℕ) (catch : Option (List ℕ)) → IsCatch pool bytes catch → length bytes ≡ 2
catch_sized pool bytes None i = ap length i ∙ length-bytes_high_first 2 0
catch_sized pool bytes (Some class) i = index_sized (class_name_at pool) bytes class i

pub handler_sized : (pool : List (Option Constant)) (bytes : List ℕ) (handler : Handler) → IsHandler pool bytes handler → length bytes ≡ 8
handler_sized pool bytes handler h =
    let start : List ℕ = big_bytes 2 handler.start in
    let end : List ℕ = big_bytes 2 handler.end in
    let target : List ℕ = big_bytes 2 handler.handler in
    omega (
      arith,
      ap length h.parts,
      length-append start (end ++ (target ++ h.catch)),
      length-append end (target ++ h.catch),
      length-append target h.catch,
      length-bytes_high_first 2 handler.start,
      length-bytes_high_first 2 handler.end,
      length-bytes_high_first 2 handler.handler,
      catch_sized pool h.catch handler.catch h.catches,
    )

pub raw_handler_sized : (bytes : List ℕ) (catch : ℕ) → IsRawHandler bytes catch → length bytes ≡ 8
raw_handler_sized bytes catch h = omega (arith, ap length h.parts, length-append h.places (big_bytes 2 catch), h.six, length-bytes_high_first 2 catch)

pub attribute_sized : (pool : List (Option Constant)) (bytes : List ℕ) (a : Attribute) → IsAttribute pool bytes a → length bytes ≡ 6 + length a.body
attribute_sized pool bytes a h =
    let len : List ℕ = big_bytes 4 (length a.body) in
    omega (arith, ap length h.parts, length-append h.index (len ++ a.body), length-append len a.body, index_sized (utf8_at pool) h.index a.name h.named, length-bytes_high_first 4 (length a.body))
