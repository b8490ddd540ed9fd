-- Pieces of a class file as they stand in its bytes, whatever they say (JVMS 4).
use Rattle.std.specs.Prelude.{◌≡◌, ℕ, ◌<◌, ◌≤◌, ◌^◌, Bool, false, List, ◌++◌, length, Option, Some, None, codes}
use Rattle.std.specs.Str.{bytes_eq}
use Rattle.byteorder.specs.Endian.{big_bytes}
use Rattle.class_pool.specs.declared.constant.Constant.{Constant}
use Rattle.class_pool.specs.Place.{Place}
use Rattle.class_pool.specs.Pieces.{Counted}
use Rattle.class_pool.specs.Pool.{utf8_at}

-- the bytes are a number of so many bytes
abbrev pub IsNumber : ℕ → List ℕ → ℕ → Type 0
IsNumber width bytes n = (bytes ≡ big_bytes width n) × (n < 256 ^ width)

-- so many bytes behind the place stands a number of so many bytes
pub record HasNumberAt (width skip : ℕ) (place : Place) (n : ℕ) : Type 0 where
  pub before : List ℕ
  pub behind : List ℕ
  pub fits : n < 256 ^ width
  pub parts : place.rest ≡ before ++ (big_bytes width n ++ behind)
  pub skipped : length before ≡ skip

-- ---- magic and versions

-- the magic number, and a version from 45 to 65 (JVMS 4.1)
pub record IsFileHead (bytes : List ℕ) (major : ℕ) : Type 0 where
  pub minor : ℕ
  pub minor_fits : minor < 2 ^ 16
  pub known : (45 ≤ major) × (major ≤ 65)
  pub parts : bytes ≡ big_bytes 4 0xcafebabe ++ (big_bytes 2 minor ++ big_bytes 2 major)

-- ---- flags and two indices

-- of a class these are its own index and that of its superclass, and of a field or a method those of
-- its name and its descriptor (JVMS 4.1, 4.5, 4.6)
pub record RawHead : Type 0 where
  pub flags : ℕ
  pub first : ℕ
  pub second : ℕ

pub record IsRawHead (bytes : List ℕ) (head : RawHead) : Type 0 where
  pub flags_fit : head.flags < 2 ^ 16
  pub first_fits : head.first < 2 ^ 16
  pub second_fits : head.second < 2 ^ 16
  pub parts : bytes ≡ big_bytes 2 head.flags ++ (big_bytes 2 head.first ++ big_bytes 2 head.second)

-- ---- attributes

-- the index of its name, and its bytes
pub record RawAttribute : Type 0 where
  pub name : ℕ
  pub body : List ℕ

-- the index, a length of four bytes, and so many (JVMS 4.7)
pub record IsRawAttribute (bytes : List ℕ) (stored : RawAttribute) : Type 0 where
  pub name_fits : stored.name < 2 ^ 16
  pub short : length stored.body < 2 ^ 32
  pub parts : bytes ≡ big_bytes 2 stored.name ++ (big_bytes 4 (length stored.body) ++ stored.body)

abbrev pub is_code_text : Option (List ℕ) → Bool
is_code_text None = false
is_code_text (Some text) = bytes_eq text (codes "Code")

-- the index names the text Code
abbrev pub names_code : List (Option Constant) → ℕ → Bool
names_code pool index = is_code_text (utf8_at pool index)

-- ---- code

-- two numbers of two bytes, which bound its stack and its locals, a length of four bytes, and so many bytes of
-- instructions (JVMS 4.7.3)
pub record AreInstructions (bytes code : List ℕ) : Type 0 where
  pub bounds : List ℕ
  pub four : length bounds ≡ 4
  pub fits : length code < 2 ^ 32
  pub parts : bytes ≡ bounds ++ (big_bytes 4 (length code) ++ code)

-- three places of two bytes, and the index of the class that is caught
pub record IsRawHandler (bytes : List ℕ) (catch : ℕ) : Type 0 where
  pub places : List ℕ
  pub six : length places ≡ 6
  pub catch_fits : catch < 2 ^ 16
  pub parts : bytes ≡ places ++ big_bytes 2 catch

-- the parts of a Code attribute fill it, and it has 1 to 65,535 bytes of instructions
pub record IsFilled (bytes : List ℕ) : Type 0 where
  pub code : List ℕ
  pub instructions : List ℕ
  pub handlers : List ℕ
  pub attributes : List ℕ
  pub caught : List ℕ
  pub stored : List RawAttribute
  pub not_empty : 1 ≤ length code
  pub short : length code ≤ 65535
  pub are_instructions : AreInstructions instructions code
  pub are_handlers : Counted IsRawHandler handlers caught
  pub are_attributes : Counted IsRawAttribute attributes stored
  pub parts : bytes ≡ instructions ++ (handlers ++ attributes)
