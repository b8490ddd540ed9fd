-- The parts of a class file behind its pool, and where they stand (JVMS 4.1, 4.5 to 4.7.3). A part stands behind
-- the one before it, whether that says what it must or not, so parts behind a faulty one have their places too.
use Rattle.std.specs.Prelude.{◌≡◌, ◌||◌, not, ℕ, zero, suc, ◌+◌, Bool, false, true, List, [], ◌∷◌, ◌++◌, length, Option, Some, IsTrue}
use Rattle.class_pool.specs.declared.constant.Constant.{Constant}
use Rattle.class_pool.specs.Place.{Place}
use Rattle.class_pool.specs.Pieces.{StartsWith}
use Rattle.class_pool.specs.Pool.{IsPool, utf8_at}
use Rattle.class_reader.specs.Flags.{is_native, is_abstract}
use Rattle.class_faults.specs.Pieces.{IsNumber, IsFileHead, RawHead, IsRawHead, RawAttribute, IsRawAttribute, names_code, AreInstructions, IsRawHandler, IsFilled}

-- ---- parts

pub data Kind : Type 0 where
  Fields : Kind
  Methods : Kind

-- a field or a method: where its flags stand, the flags, the names and descriptors of those of its kind up to
-- it, and how many stand behind it
pub record Member : Type 0 where
  pub kind : Kind
  pub at : ℕ
  pub flags : ℕ
  pub declared : List (List ℕ × List ℕ)
  pub left : ℕ

-- what attributes are of
pub data Owner : Type 0 where
  OfClass : Owner
  OfMember : Member → Owner
  OfCode : Owner

-- flags and indices, counts, and so many of each from here on: of members with the names and descriptors before
-- them, and of attributes with whether one before them is named Code
pub data Part : Type 0 where
  Names : Part
  InterfaceCount : Part
  Interfaces : ℕ → Part
  MemberCount : Kind → Part
  Members : Kind → List (List ℕ × List ℕ) → ℕ → Part
  AttributeCount : Owner → Part
  Attributes : Owner → Bool → ℕ → Part
  HandlerCount : Part
  Handlers : ℕ → Part

-- ---- members

-- a name and a descriptor more, where the indices name texts
abbrev pub with_pair : List (List ℕ × List ℕ) → Option (List ℕ) → Option (List ℕ) → List (List ℕ × List ℕ)
with_pair before (Some name) (Some desc) = before ++ (name, desc) ∷ []
with_pair before name desc = before

-- the member at this offset, with this head, before so many
abbrev pub member_of : List (Option Constant) → Kind → List (List ℕ × List ℕ) → ℕ → ℕ → RawHead → Member
member_of pool kind before left at head =
    record { kind = kind; at = at; flags = head.flags; declared = with_pair before (utf8_at pool head.first) (utf8_at pool head.second); left = left }

-- it is a method that is neither native nor abstract
abbrev pub WantsCode : Member → Type 0
WantsCode member = (member.kind ≡ Methods) × IsTrue (not (is_native member.flags || is_abstract member.flags))

-- ---- places

-- the bytes begin with magic, a version and a pool, and the place is behind them
pub record Opens (bytes : List ℕ) (pool : List (Option Constant)) (place : Place) : Type 0 where
  pub major : ℕ
  pub start : Place
  pub head : StartsWith IsFileHead (record { at = 0; rest = bytes }) major start
  pub is_pool : StartsWith IsPool start pool place

-- the place in an attribute's body behind so many bytes of it
abbrev pub inside : Place → List ℕ → List ℕ → Place
inside place front rest = record { at = place.at + 6 + length front; rest = rest }

pub data Stands (bytes : List ℕ) (pool : List (Option Constant)) : Part → Place → Type 0 where
  behind_pool : {place : Place} → Opens bytes pool place → Stands bytes pool Names place
  behind_names : {place next : Place} {head : RawHead} → Stands bytes pool Names place → StartsWith IsRawHead place head next → Stands bytes pool InterfaceCount next
  so_many_interfaces : {place next : Place} {n : ℕ} → Stands bytes pool InterfaceCount place → StartsWith (IsNumber 2) place n next → Stands bytes pool (Interfaces n) next
  next_interface : {place next : Place} {n index : ℕ} → Stands bytes pool (Interfaces (suc n)) place → StartsWith (IsNumber 2) place index next → Stands bytes pool (Interfaces n) next
  then_fields : {place : Place} → Stands bytes pool (Interfaces zero) place → Stands bytes pool (MemberCount Fields) place
  so_many_members : {place next : Place} {kind : Kind} {n : ℕ} → Stands bytes pool (MemberCount kind) place → StartsWith (IsNumber 2) place n next → Stands bytes pool (Members kind [] n) next
  next_member : {place next : Place} {kind : Kind} {before : List (List ℕ × List ℕ)} {n : ℕ} {head : RawHead} → Stands bytes pool (Members kind before (suc n)) place → StartsWith IsRawHead place head next
      → Stands bytes pool (AttributeCount (OfMember (member_of pool kind before n place.at head))) next
  so_many_attributes : {place next : Place} {owner : Owner} {n : ℕ} → Stands bytes pool (AttributeCount owner) place → StartsWith (IsNumber 2) place n next → Stands bytes pool (Attributes owner false n) next
  next_attribute : {place next : Place} {owner : Owner} {met : Bool} {n : ℕ} {stored : RawAttribute} → Stands bytes pool (Attributes owner met (suc n)) place → StartsWith IsRawAttribute place stored next
      → Stands bytes pool (Attributes owner (met || names_code pool stored.name) n) next
  behind_member : {place : Place} {m : Member} {met : Bool} → Stands bytes pool (Attributes (OfMember m) met zero) place → Stands bytes pool (Members m.kind m.declared m.left) place
  then_methods : {place : Place} {before : List (List ℕ × List ℕ)} → Stands bytes pool (Members Fields before zero) place → Stands bytes pool (MemberCount Methods) place
  then_attributes : {place : Place} {before : List (List ℕ × List ℕ)} → Stands bytes pool (Members Methods before zero) place → Stands bytes pool (AttributeCount OfClass) place
  -- inside the first Code of a method that wants one, where its parts fill it
  in_code : {place next : Place} {m : Member} {n : ℕ} {stored : RawAttribute} {front rest instructions : List ℕ} → Stands bytes pool (Attributes (OfMember m) false (suc n)) place → WantsCode m → StartsWith IsRawAttribute place stored next
      → names_code pool stored.name ≡ true → IsFilled stored.body → AreInstructions front instructions → stored.body ≡ front ++ rest → Stands bytes pool HandlerCount (inside place front rest)
  so_many_handlers : {place next : Place} {n : ℕ} → Stands bytes pool HandlerCount place → StartsWith (IsNumber 2) place n next → Stands bytes pool (Handlers n) next
  next_handler : {place next : Place} {n catch : ℕ} → Stands bytes pool (Handlers (suc n)) place → StartsWith IsRawHandler place catch next → Stands bytes pool (Handlers n) next
  then_code_attributes : {place : Place} → Stands bytes pool (Handlers zero) place → Stands bytes pool (AttributeCount OfCode) place
