-- Reading a pool from left to right: what stands at a place and the place after it, or the fault that is met first.
use Rattle.std.specs.Prelude.{◌≡◌, ◌≢◌, ℕ, zero, suc, ◌+◌, ◌-◌, Bool, true, false, ◌&&◌, ◌||◌, List, [], ◌∷◌, length, take, Option, Some, None, Result, Ok, Err, is_some, nat_lt, ◌==◌, if◌then◌else◌}
use Rattle.class_pool.specs.declared.constant.Constant.{Constant}
use Rattle.class_pool.specs.declared.constant.Constant.TheVariants.{Utf8, Integer, Float, Long, Double, Class, String, Fieldref, Methodref, InterfaceMethodref, NameAndType, MethodHandle, MethodType, Dynamic, InvokeDynamic, Module, Package}
use Rattle.class_pool.specs.declared.fault.PoolFault.{PoolFault}
use Rattle.class_pool.specs.declared.fault.PoolFault.TheVariants.{Short, BadTag, BadIndex, BadUtf8, Memory}
use Rattle.class_pool.specs.Place.{Place, after, end_of, number_at}
use Rattle.class_pool.specs.Pool.{is_text, is_wide, size_of, constant_at, utf8_at, class_of, named_of}

infixl 10 ◌>>=◌
abbrev pub ◌>>=◌ : {A B : Type 0} → Result A PoolFault → (A → Result B PoolFault) → Result B PoolFault
(Ok x) >>= f = f x
(Err fault) >>= f = Err fault

-- What a function returned, seen by view, is what reading gives, unless memory ran out.
abbrev pub Gives : {X Y : Type 0} → (X → Y) → Result X PoolFault → Result Y PoolFault → Type 0
Gives view (Ok x) read = read ≡ Ok (view x)
Gives view (Err fault) read = fault ≢ Memory → read ≡ Err fault

-- ---- numbers and bytes

abbrev pub number_or_short : ℕ → Place → Option ℕ → Result (ℕ × Place) PoolFault
number_or_short n place None = Err (Short (end_of place))
number_or_short n place (Some number) = Ok (number, after n place)

-- a number of n bytes
abbrev pub num_at : ℕ → Place → Result (ℕ × Place) PoolFault
num_at n place = number_or_short n place (number_at n place)

-- n bytes
abbrev pub bytes_at : ℕ → Place → Result (List ℕ × Place) PoolFault
bytes_at n place = if nat_lt (length place.rest) n then Err (Short (end_of place)) else Ok (take n place.rest, after n place)

-- ---- an entry

-- a body: a length and a text, a number of so many bytes, or two numbers, and the entry that they make
pub data Body : Type 0 where
  Text : Body
  One : ℕ → (ℕ → Constant) → Body
  Two : ℕ → ℕ → (ℕ → ℕ → Constant) → Body

-- the body behind each tag
abbrev pub bodies : List (ℕ × Body)
bodies =
    (1, Text)
    ∷ (3, One 4 Integer)
    ∷ (4, One 4 Float)
    ∷ (5, One 8 Long)
    ∷ (6, One 8 Double)
    ∷ (7, One 2 Class)
    ∷ (8, One 2 String)
    ∷ (9, Two 2 2 Fieldref)
    ∷ (10, Two 2 2 Methodref)
    ∷ (11, Two 2 2 InterfaceMethodref)
    ∷ (12, Two 2 2 NameAndType)
    ∷ (15, Two 1 2 MethodHandle)
    ∷ (16, One 2 MethodType)
    ∷ (17, Two 2 2 Dynamic)
    ∷ (18, Two 2 2 InvokeDynamic)
    ∷ (19, One 2 Module)
    ∷ (20, One 2 Package)
    ∷ []

abbrev pub body_in : ℕ → List (ℕ × Body) → Option Body
body_in tag [] = None
body_in tag (row ∷ rows) = if tag == row.0 then Some row.1 else body_in tag rows

-- what stands behind the tag that was read at this offset
abbrev pub body_at : ℕ → ℕ → Option Body → Place → Result (Constant × Place) PoolFault
body_at at tag None place = Err (BadTag at tag)
body_at at tag (Some Text) place = do
  n ← num_at 2 place
  text ← bytes_at n.0 n.1
  Ok (Utf8 text.0, text.1)
body_at at tag (Some (One width make)) place = do
  n ← num_at width place
  Ok (make n.0, n.1)
body_at at tag (Some (Two first second make)) place = do
  m ← num_at first place
  n ← num_at second m.1
  Ok (make m.0 n.0, n.1)

-- the tag of a Long or a Double
abbrev pub is_wide_tag : ℕ → Bool
is_wide_tag tag = tag == 5 || tag == 6

-- an entry, whatever its text is, where so many indices are left behind its own
unfoldable pub entry_at : ℕ → Place → Result (Constant × Place) PoolFault
entry_at left place = do
  tag ← num_at 1 place
  if is_wide_tag tag.0 && left == 0 then Err (BadTag place.at tag.0) else body_at place.at tag.0 (body_in tag.0 bodies) tag.1

-- its text is looked at when the entry is read
abbrev pub text_checked : ℕ → Constant × Place → Result (Constant × Place) PoolFault
text_checked at entry = if is_text entry.0 then Ok entry else Err (BadUtf8 at)

-- what stands behind this tag, with a text of class files
abbrev pub checked_body_at : ℕ → ℕ → Place → Result (Constant × Place) PoolFault
checked_body_at at tag place = body_at at tag (body_in tag bodies) place >>= text_checked at

unfoldable pub constant_from : ℕ → Place → Result (Constant × Place) PoolFault
constant_from left place = entry_at left place >>= text_checked place.at

-- ---- the table

-- what an index has: nothing behind a wide entry, and else an entry
abbrev pub slot_at : ℕ → Bool → Place → Result (Option Constant × Place) PoolFault
slot_at left true place = Ok (None, place)
slot_at left false place = do
  entry ← constant_from left place
  Ok (Some entry.0, entry.1)

-- whether the next index has nothing
abbrev pub is_wide_slot : Option Constant → Bool
is_wide_slot None = false
is_wide_slot (Some entry) = is_wide entry

-- so many indices, from one on that has nothing or an entry
unfoldable pub slots_at : ℕ → Bool → Place → Result (List (Option Constant) × Place) PoolFault
slots_at zero gap place = Ok ([], place)
slots_at (suc left) gap place = do
  slot ← slot_at left gap place
  others ← slots_at left (is_wide_slot slot.0) slot.1
  Ok (slot.0 ∷ others.0, others.1)

-- a count, and one index less than it says
unfoldable pub table_at : Place → Result (List (Option Constant) × Place) PoolFault
table_at place = do
  count ← num_at 2 place
  slots_at (count.0 - 1) false count.1

-- ---- the links

-- the index, where what it names isn't there
abbrev pub unless : Bool → ℕ → Option ℕ
unless true index = None
unless false index = Some index

abbrev pub first_of : Option ℕ → Option ℕ → Option ℕ
first_of (Some index) other = Some index
first_of None other = other

-- the first index of the entry that doesn't name what it must
abbrev pub wrong_index : List (Option Constant) → Constant → Option ℕ
wrong_index pool (Class name) = unless (is_some (utf8_at pool name)) name
wrong_index pool (String text) = unless (is_some (utf8_at pool text)) text
wrong_index pool (NameAndType name descriptor) = first_of (unless (is_some (utf8_at pool name)) name) (unless (is_some (utf8_at pool descriptor)) descriptor)
wrong_index pool (Fieldref class member) = first_of (unless (is_some (class_of (constant_at pool class))) class) (unless (is_some (named_of (constant_at pool member))) member)
wrong_index pool (Methodref class member) = first_of (unless (is_some (class_of (constant_at pool class))) class) (unless (is_some (named_of (constant_at pool member))) member)
wrong_index pool (InterfaceMethodref class member) = first_of (unless (is_some (class_of (constant_at pool class))) class) (unless (is_some (named_of (constant_at pool member))) member)
wrong_index pool other = None

abbrev pub linked_or : ℕ → Option ℕ → Result (Unit {0}) PoolFault
linked_or at None = Ok tt
linked_or at (Some index) = Err (BadIndex at index)

abbrev pub slot_size : Option Constant → ℕ
slot_size None = 0
slot_size (Some entry) = size_of entry

abbrev pub slot_link : List (Option Constant) → ℕ → Option Constant → Result (Unit {0}) PoolFault
slot_link pool at None = Ok tt
slot_link pool at (Some entry) = linked_or at (wrong_index pool entry)

-- the links of the indices from one on, whose bytes begin at this offset
unfoldable pub links_from : List (Option Constant) → ℕ → List (Option Constant) → Result (Unit {0}) PoolFault
links_from pool at [] = Ok tt
links_from pool at (slot ∷ slots) = slot_link pool at slot >>= λ _. links_from pool (at + slot_size slot) slots

-- the table, and then its links
unfoldable pub pool_at : Place → Result (List (Option Constant) × Place) PoolFault
pool_at place = do
  table ← table_at place
  links_from table.0 (place.at + 2) table.0 >>= λ _. Ok table
