-- The faults of a class file, by what stands at their places.
use Rattle.std.specs.Prelude.{◌≡◌, ◌≢◌, ◌⊎◌, ◌==◌, ℕ, zero, suc, ◌+◌, ◌<◌, Bool, true, false, List, [], length, Option, Some, None, Contains, codes, if◌then◌else◌}
use Rattle.class_pool.specs.declared.constant.Constant.{Constant}
use Rattle.class_pool.specs.declared.fault.PoolFault.{PoolFault}
use Rattle.class_pool.specs.declared.fault.PoolFault.TheVariants.{BadIndex}
use Rattle.class_pool.specs.Place.{Place}
use Rattle.class_pool.specs.Pieces.{StartsWith}
use Rattle.class_pool.specs.Pool.{utf8_at, class_name_at}
use Rattle.class_reader.specs.declared.fault.ClassFault.{ClassFault}
use Rattle.class_reader.specs.declared.fault.ClassFault.TheVariants.{Magic, Version, Short, Pool, BadDesc, BadCode, Repeated, Reserved, Trailing, Memory}
use Rattle.class_reader.specs.Flags.{is_static}
use Rattle.descriptors.specs.Grammar.{IsFieldDescriptor, IsMethodDescriptor}
use Rattle.class_reader.specs.FirstFault.{start_of}
use Rattle.class_faults.specs.Pieces.{HasNumberAt, IsFileHead, RawHead, IsRawHead, RawAttribute, IsRawAttribute, names_code, IsFilled}
use Rattle.class_faults.specs.PoolFaults.{StandsInPool}
use Rattle.class_faults.specs.Parts.{Kind, Fields, Methods, Member, OfClass, OfMember, Owner, Part, Names, InterfaceCount, Interfaces, MemberCount, Members, AttributeCount, Attributes, HandlerCount, Handlers, WantsCode, Stands}

-- ---- too few bytes

-- too few are left for an attribute: for the index and the length, or for as many as the length says
abbrev pub IsCutAttribute : Place → Type 0
IsCutAttribute place = (length place.rest < 6) ⊎ ((len : ℕ) × HasNumberAt 4 2 place len × (length place.rest < 6 + len))

-- too few are left for the part at the place
abbrev pub IsCutPart : Part → Place → Type 0
IsCutPart Names place = length place.rest < 6
IsCutPart InterfaceCount place = length place.rest < 2
IsCutPart (Interfaces zero) place = ⊥
IsCutPart (Interfaces (suc n)) place = length place.rest < 2
IsCutPart (MemberCount kind) place = length place.rest < 2
IsCutPart (Members kind before zero) place = ⊥
IsCutPart (Members kind before (suc n)) place = length place.rest < 6
IsCutPart (AttributeCount owner) place = length place.rest < 2
IsCutPart (Attributes owner met zero) place = ⊥
IsCutPart (Attributes owner met (suc n)) place = IsCutAttribute place
IsCutPart HandlerCount place = length place.rest < 2
IsCutPart (Handlers zero) place = ⊥
IsCutPart (Handlers (suc n)) place = length place.rest < 8

-- the bytes end in magic and the versions, or in a part behind the pool
abbrev pub IsCutFile : List ℕ → Type 0
IsCutFile bytes = (length bytes < 8) ⊎ ((pool : List (Option Constant)) × (part : Part) × (place : Place) × Stands bytes pool part place × IsCutPart part place)

-- ---- indices

-- the class that is caught; 0 catches everything
abbrev pub caught_at : List (Option Constant) → ℕ → Option (List ℕ)
caught_at pool index = if index == 0 then Some [] else class_name_at pool index

-- so many bytes behind the part's place stands an index, and what it names
pub data HasIndex (pool : List (Option Constant)) : Part → ℕ → (ℕ → Option (List ℕ)) → Type 0 where
  of_this : HasIndex pool Names 2 (class_name_at pool)
  of_super : HasIndex pool Names 4 (class_name_at pool)
  of_interface : {n : ℕ} → HasIndex pool (Interfaces (suc n)) 0 (class_name_at pool)
  of_name : {kind : Kind} {before : List (List ℕ × List ℕ)} {n : ℕ} → HasIndex pool (Members kind before (suc n)) 2 (utf8_at pool)
  of_descriptor : {kind : Kind} {before : List (List ℕ × List ℕ)} {n : ℕ} → HasIndex pool (Members kind before (suc n)) 4 (utf8_at pool)
  of_attribute : {owner : Owner} {met : Bool} {n : ℕ} → HasIndex pool (Attributes owner met (suc n)) 0 (utf8_at pool)
  of_catch : {n : ℕ} → HasIndex pool (Handlers (suc n)) 6 (caught_at pool)

-- an index at this offset names nothing of the kind that it must
pub record HasBadIndex (bytes : List ℕ) (at index : ℕ) : Type 0 where
  pub pool : List (Option Constant)
  pub part : Part
  pub place : Place
  pub stands : Stands bytes pool part place
  pub skip : ℕ
  pub names : ℕ → Option (List ℕ)
  pub has : HasIndex pool part skip names
  pub number : HasNumberAt 2 skip place index
  pub nothing : names index ≡ None
  pub here : at ≡ place.at + skip

-- ---- members

-- the text is the descriptor of a field, or of a method with these flags
abbrev pub IsDescriptor : Kind → ℕ → List ℕ → Type 0
IsDescriptor Fields flags text = IsFieldDescriptor text
IsDescriptor Methods flags text = IsMethodDescriptor (is_static flags) text

-- a member whose head stands at a place
pub record HasMember (bytes : List ℕ) : Type 0 where
  pub pool : List (Option Constant)
  pub kind : Kind
  pub before : List (List ℕ × List ℕ)
  pub left : ℕ
  pub place : Place
  pub stands : Stands bytes pool (Members kind before (suc left)) place
  pub next : Place
  pub head : RawHead
  pub starts : StartsWith IsRawHead place head next

-- a member's descriptor, whose index stands at this offset, is none
pub record HasBadDescriptor (bytes : List ℕ) (at : ℕ) : Type 0 where
  pub member : HasMember bytes
  pub text : List ℕ
  pub named : utf8_at member.pool member.head.second ≡ Some text
  pub wrong : IsDescriptor member.kind member.head.flags text → ⊥
  pub here : at ≡ member.place.at + 4

-- a member at this offset has the name and the descriptor of one before it
pub record HasRepeated (bytes : List ℕ) (at : ℕ) : Type 0 where
  pub member : HasMember bytes
  pub name : List ℕ
  pub desc : List ℕ
  pub named : utf8_at member.pool member.head.first ≡ Some name
  pub described : utf8_at member.pool member.head.second ≡ Some desc
  pub among : Contains member.before (name, desc)
  pub here : at ≡ member.place.at

-- ---- code

-- a method at this offset wants code and has none
pub record LacksCode (bytes : List ℕ) (at : ℕ) : Type 0 where
  pub pool : List (Option Constant)
  pub method : Member
  pub place : Place
  pub stands : Stands bytes pool (Attributes (OfMember method) false zero) place
  pub wants : WantsCode method
  pub here : at ≡ method.at

-- an attribute Code of a method at this offset has no right to be there, or is another, or isn't filled
pub record HasBadCode (bytes : List ℕ) (at : ℕ) : Type 0 where
  pub pool : List (Option Constant)
  pub method : Member
  pub met : Bool
  pub left : ℕ
  pub place : Place
  pub stands : Stands bytes pool (Attributes (OfMember method) met (suc left)) place
  pub is_method : method.kind ≡ Methods
  pub next : Place
  pub stored : RawAttribute
  pub starts : StartsWith IsRawAttribute place stored next
  pub named : names_code pool stored.name ≡ true
  pub wrong : (WantsCode method → ⊥) ⊎ ((met ≡ true) ⊎ (IsFilled stored.body → ⊥))
  pub here : at ≡ place.at

-- ---- the class

-- the class, whose index stands at this offset, is built in
pub record IsBuiltIn (bytes : List ℕ) (at : ℕ) : Type 0 where
  pub pool : List (Option Constant)
  pub place : Place
  pub stands : Stands bytes pool Names place
  pub index : ℕ
  pub number : HasNumberAt 2 2 place index
  pub named : class_name_at pool index ≡ Some (codes "java/lang/Object")
  pub here : at ≡ place.at + 2

-- the class ends at this offset, and the bytes go on
pub record GoesOn (bytes : List ℕ) (at : ℕ) : Type 0 where
  pub pool : List (Option Constant)
  pub met : Bool
  pub place : Place
  pub stands : Stands bytes pool (Attributes OfClass met zero) place
  pub more : place.rest ≢ []
  pub here : at ≡ place.at

-- ---- the faults

-- a fault of the pool behind a right head
abbrev pub HasPoolFault : List ℕ → PoolFault → Type 0
HasPoolFault bytes fault = (major : ℕ) × (start : Place) × StartsWith IsFileHead (start_of bytes) major start × StandsInPool start fault

-- an index is wrong in the pool or behind it
abbrev pub StandsInClass : List ℕ → PoolFault → Type 0
StandsInClass bytes (BadIndex at index) = HasPoolFault bytes (BadIndex at index) ⊎ HasBadIndex bytes at index
StandsInClass bytes fault = HasPoolFault bytes fault

-- the fault is there
abbrev pub StandsAt : List ℕ → ClassFault → Type 0
StandsAt bytes (Magic at) = (at ≡ 0) × ((magic : ℕ) × HasNumberAt 4 0 (start_of bytes) magic × (magic ≢ 0xcafebabe))
StandsAt bytes (Version at) = (at ≡ 6) × ((major : ℕ) × HasNumberAt 2 6 (start_of bytes) major × ((major < 45) ⊎ (65 < major)))
StandsAt bytes (Short at) = (at ≡ length bytes) × IsCutFile bytes
StandsAt bytes (Pool fault) = StandsInClass bytes fault
StandsAt bytes (BadDesc at) = HasBadDescriptor bytes at
StandsAt bytes (BadCode at) = LacksCode bytes at ⊎ HasBadCode bytes at
StandsAt bytes (Repeated at) = HasRepeated bytes at
StandsAt bytes (Reserved at) = IsBuiltIn bytes at
StandsAt bytes (Trailing at) = GoesOn bytes at
StandsAt bytes Memory = ⊥
