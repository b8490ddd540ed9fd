-- The faults of a constant pool (JVMS 4.4), by what stands at their places.
use Rattle.std.specs.Prelude.{◌≡◌, ◌≢◌, ◌⊎◌, ℕ, suc, ◌+◌, ◌-◌, ◌<◌, ◌^◌, false, List, [], ◌∷◌, ◌++◌, length, Option, None}
use Rattle.byteorder.specs.Endian.{big_bytes}
use Rattle.class_pool.specs.declared.constant.Constant.{Constant}
use Rattle.class_pool.specs.declared.constant.Constant.TheVariants.{Utf8, Class, String, Fieldref, Methodref, InterfaceMethodref, NameAndType}
use Rattle.class_pool.specs.declared.fault.PoolFault.{PoolFault}
use Rattle.class_pool.specs.declared.fault.PoolFault.TheVariants.{Short, BadTag, BadIndex, BadUtf8, Memory}
use Rattle.class_pool.specs.Place.{Place, end_of}
use Rattle.class_pool.specs.Pieces.{Each, StartsWith}
use Rattle.class_pool.specs.Utf8.{is_modified_utf8}
use Rattle.class_pool.specs.Pool.{IsEntry, laid_out, constant_at, utf8_at, class_of, named_of, IsTable}

-- ---- where entries stand

-- In a pool at the start stands an entry at the place, with so many indices behind its own: a count, and entries
-- before it, whatever their texts are.
pub record HasEntry (start place : Place) (left : ℕ) : Type 0 where
  pub count : ℕ
  pub entries : List Constant
  pub pieces : List ℕ
  pub count_fits : count < 2 ^ 16
  pub indices : count - 1 ≡ length (laid_out entries) + suc left
  pub each : Each IsEntry pieces entries
  pub parts : start.rest ≡ big_bytes 2 count ++ (pieces ++ place.rest)
  pub moved : place.at ≡ start.at + 2 + length pieces

-- ---- what is wrong of them

-- no entry begins with this tag, or those that do take two indices and one is left
abbrev pub IsBadTag : ℕ → ℕ → Type 0
IsBadTag left tag = ((bytes : List ℕ) (entry : Constant) → IsEntry (tag ∷ bytes) entry → ⊥) ⊎ ((left ≡ 0) × ((tag ≡ 5) ⊎ (tag ≡ 6)))

-- the bytes are the beginning of an entry, and not all of one
pub record IsCut (bytes : List ℕ) : Type 0 where
  pub more : List ℕ
  pub entry : Constant
  pub some : more ≢ []
  pub is : IsEntry (bytes ++ more) entry

-- the entry names this index, and what it has isn't what the entry must name
abbrev pub Misnames : List (Option Constant) → Constant → ℕ → Type 0
Misnames pool (Class name) index = (index ≡ name) × (utf8_at pool index ≡ None)
Misnames pool (String text) index = (index ≡ text) × (utf8_at pool index ≡ None)
Misnames pool (NameAndType name descriptor) index = ((index ≡ name) ⊎ (index ≡ descriptor)) × (utf8_at pool index ≡ None)
Misnames pool (Fieldref class member) index = ((index ≡ class) × (class_of (constant_at pool index) ≡ None)) ⊎ ((index ≡ member) × (named_of (constant_at pool index) ≡ None))
Misnames pool (Methodref class member) index = ((index ≡ class) × (class_of (constant_at pool index) ≡ None)) ⊎ ((index ≡ member) × (named_of (constant_at pool index) ≡ None))
Misnames pool (InterfaceMethodref class member) index = ((index ≡ class) × (class_of (constant_at pool index) ≡ None)) ⊎ ((index ≡ member) × (named_of (constant_at pool index) ≡ None))
Misnames pool other index = ⊥

-- ---- the faults

-- the bytes end in the count, or in an entry
abbrev pub IsShort : Place → ℕ → Type 0
IsShort start at = (at ≡ end_of start) × ((length start.rest < 2) ⊎ ((place : Place) × (left : ℕ) × HasEntry start place left × IsCut place.rest))

-- a tag at this offset is of no entry, or has no room
abbrev pub HasBadTag : Place → ℕ → ℕ → Type 0
HasBadTag start at tag = (place : Place) × (left : ℕ) × (bytes : List ℕ) × (at ≡ place.at) × HasEntry start place left × (place.rest ≡ tag ∷ bytes) × IsBadTag left tag

-- an entry at this offset has a text that is none of class files
abbrev pub HasBadText : Place → ℕ → Type 0
HasBadText start at = (place : Place) × (left : ℕ) × (text : List ℕ) × (next : Place) × (at ≡ place.at) × HasEntry start place left × StartsWith IsEntry place (Utf8 text) next × (is_modified_utf8 text ≡ false)

-- the table is there, and an entry of it at this offset doesn't name what it must
pub record HasBadLink (start : Place) (at index : ℕ) : Type 0 where
  pub pool : List (Option Constant)
  pub behind : Place
  pub table : StartsWith IsTable start pool behind
  pub place : Place
  pub left : ℕ
  pub has : HasEntry start place left
  pub here : at ≡ place.at
  pub entry : Constant
  pub next : Place
  pub starts : StartsWith IsEntry place entry next
  pub wrong : Misnames pool entry index

-- in a pool at the start the fault is there
abbrev pub StandsInPool : Place → PoolFault → Type 0
StandsInPool start (Short at) = IsShort start at
StandsInPool start (BadTag at tag) = HasBadTag start at tag
StandsInPool start (BadUtf8 at) = HasBadText start at
StandsInPool start (BadIndex at index) = HasBadLink start at index
StandsInPool start Memory = ⊥
