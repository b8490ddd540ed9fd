-- Arrays (JVMS 6.5.newarray, 6.5.anewarray, 6.5.arraylength, 6.5.aaload, 6.5.aastore).
use Rattle.std.specs.Prelude.{ℕ, ◌||◌, nat_le, nat_lt, Bool, true, ℤ, pos, negsuc, List, ◌∷◌, length, replicate, codes, Option, Some, None, option_map, option_and_then, Result, Ok, Err, slice_get, if◌then◌else◌}
use Rattle.std.specs.Ordering.{int_eq}
use Rattle.class_pool.specs.Pool.{class_name_at}
use Rattle.op_table.specs.declared.acts.Action.{Action}
use Rattle.op_table.specs.declared.acts.Action.TheVariants as acts
use Rattle.op_table.specs.declared.acts.Element.{Element}
use Rattle.op_table.specs.declared.acts.Element.TheVariants as elements
use Rattle.op_table.specs.declared.acts.Kind.{Kind}
use Rattle.op_table.specs.declared.acts.Kind.TheVariants as kinds
use Rattle.op_table.specs.declared.acts.Width.TheVariants as widths
use Rattle.op_table.specs.declared.construct.Construct.{Construct}
use Rattle.descriptors.specs.Tests.{is_field}
use Rattle.class_hierarchy.specs.World.{World}
use Rattle.frames.specs.declared.value.Value.{Value}
use Rattle.frames.specs.declared.value.Value.TheVariants.{Int, Long, Pad, Null, Ref}
use Rattle.frames.specs.declared.heap.Cell.{Cell}
use Rattle.frames.specs.declared.heap.Cell.TheVariants.{Object, Array}
use Rattle.frames.specs.declared.here.Here.{Here}
use Rattle.frames.specs.declared.failure.Failure.{Failure}
use Rattle.frames.specs.declared.failure.Failure.TheVariants.{Throws, Stops}
use Rattle.frames.specs.declared.failure.Raised.TheVariants as raised
use Rattle.frames.specs.declared.failure.Stop.TheVariants.{Support}
use Rattle.frames.specs.Words.{Popped, PoppedNumber, popped, popped_number}
use Rattle.frames.specs.Types.{is_type, is_reference_type}
use Rattle.frames.specs.Heap.{Cells, cell_at, default_of, free_number, with_cell, with_element, is_of_type}
use Rattle.frames.specs.Standing.{Standing}
use Rattle.frames.specs.Outcome.{stop_of}
use Rattle.word_steps.specs.Narrowing.{narrowed_to}
use Rattle.object_steps.specs.declared.arrays.ElementWrite.{ElementWrite}
use Rattle.object_steps.specs.Classes.{class_known, type_named}
use Rattle.object_steps.specs.After.{After, reads, heap_changed, or_misfit, misfit}

-- ---- elements

-- The elements are of such a type: those of booleans are read and written like bytes.
abbrev pub is_element : Element → List ℕ → Bool
is_element elements.Int type = is_type (codes "I") type
is_element elements.Long type = is_type (codes "J") type
is_element elements.Reference type = is_reference_type type
is_element elements.Byte type = is_type (codes "B") type || is_type (codes "Z") type
is_element elements.Char type = is_type (codes "C") type
is_element elements.Short type = is_type (codes "S") type

-- what they are computed with as
abbrev pub kind_of : Element → Kind
kind_of elements.Int = kinds.Int
kind_of elements.Long = kinds.Long
kind_of elements.Reference = kinds.Reference
kind_of elements.Byte = kinds.Int
kind_of elements.Char = kinds.Int
kind_of elements.Short = kinds.Int

-- an array: its number, the type of its elements, and these
pub record Elements : Type 0 where
  pub number : ℕ
  pub type : List ℕ
  pub items : List Value

abbrev pub elements_in : Element → ℕ → Option Cell → Option Elements
elements_in e r None = None
elements_in e r (Some (Object class fields)) = None
elements_in e r (Some (Array type items)) = if is_element e type then Some (record { number = r; type = type; items = items }) else None

-- the array of such elements that a reference refers to: null throws
abbrev pub elements_of : Element → Cells → Value → Result Elements Failure
elements_of e heap Null = Err (Throws raised.NullPointer)
elements_of e heap (Ref r) = or_misfit (elements_in e r (cell_at heap r))
elements_of e heap (Int n) = misfit
elements_of e heap (Long n) = misfit
elements_of e heap Pad = misfit

-- a reference and an index on top of it, and the words behind them
pub record Place : Type 0 where
  pub array : Value
  pub index : ℤ
  pub rest : List Value

abbrev pub place_below : PoppedNumber → Option Place
place_below i = option_map (λ a. record { array = a.value; index = i.number; rest = a.rest }) (popped kinds.Reference i.rest)

abbrev pub place_on : List Value → Option Place
place_on stack = option_and_then place_below (popped_number widths.Int stack)

-- an index as that of one of the values
abbrev pub index_in : ℤ → List Value → Option ℕ
index_in (pos n) items = if nat_lt n (length items) then Some n else None
index_in (negsuc n) items = None

-- ---- reads

abbrev pub element_at : List Value → Option ℕ → Result Value Failure
element_at items None = Err (Throws raised.ArrayIndex)
element_at items (Some i) = or_misfit (slice_get items i)

abbrev pub element_in : ℤ → Result Elements Failure → Result Value Failure
element_in index (Err failure) = Err failure
element_in index (Ok a) = element_at a.items (index_in index a.items)

-- the element that a reference and an index lead to
abbrev pub element_read : Element → Cells → Value → ℤ → Result Value Failure
element_read e heap array index = element_in index (elements_of e heap array)

abbrev pub load_at : Here → Element → Option Place → Result After Failure
load_at here e None = misfit
load_at here e (Some p) = reads here p.rest (element_read e here.heap p.array p.index)

abbrev pub load : Here → Element → Result After Failure
load here e = load_at here e (place_on here.frame.stack)

-- ---- writes

-- aastore takes null and instances of the elements' type alone
abbrev pub is_storable : World → Cells → Element → List ℕ → Value → Bool
is_storable w heap elements.Reference type value = is_of_type w heap type value
is_storable w heap elements.Int type value = true
is_storable w heap elements.Long type value = true
is_storable w heap elements.Byte type value = true
is_storable w heap elements.Char type value = true
is_storable w heap elements.Short type value = true

abbrev pub write_at : World → Cells → Element → Value → Elements → Option ℕ → Result ElementWrite Failure
write_at w heap e value a None = Err (Throws raised.ArrayIndex)
write_at w heap e value a (Some i) =
    if is_storable w heap e a.type value
    then Ok (record { array = a.number; index = i; value = narrowed_to a.type value })
    else Err (Throws raised.ArrayStore)

abbrev pub write_in : World → Cells → Element → Value → ℤ → Result Elements Failure → Result ElementWrite Failure
write_in w heap e value index (Err failure) = Err failure
write_in w heap e value index (Ok a) = write_at w heap e value a (index_in index a.items)

-- where a reference and an index lead, and what a value is there
abbrev pub written : World → Cells → Element → Value → Value → ℤ → Result ElementWrite Failure
written w heap e value array index = write_in w heap e value index (elements_of e heap array)

abbrev pub writes : Here → List Value → Result ElementWrite Failure → Result After Failure
writes here rest (Err failure) = Err failure
writes here rest (Ok t) = Ok (heap_changed here rest (with_element t.array t.index t.value here.heap))

abbrev pub store_at : World → Here → Element → Value → Option Place → Result After Failure
store_at w here e value None = misfit
store_at w here e value (Some p) = writes here p.rest (written w here.heap e value p.array p.index)

abbrev pub store_popped : World → Here → Element → Option Popped → Result After Failure
store_popped w here e None = misfit
store_popped w here e (Some v) = store_at w here e v.value (place_on v.rest)

abbrev pub store : World → Here → Element → Result After Failure
store w here e = store_popped w here e (popped (kind_of e) here.frame.stack)

-- ---- lengths

-- an int counts so many elements
abbrev pub counts : List Value → Bool
counts items = nat_le (length items) 2147483647

abbrev pub length_in : Option Cell → Result Value Failure
length_in None = misfit
length_in (Some (Object class fields)) = misfit
length_in (Some (Array type items)) = if counts items then Ok (Int (pos (length items))) else misfit

-- the length of the array that a reference refers to
abbrev pub length_of : Cells → Value → Result Value Failure
length_of heap Null = Err (Throws raised.NullPointer)
length_of heap (Ref r) = length_in (cell_at heap r)
length_of heap (Int n) = misfit
length_of heap (Long n) = misfit
length_of heap Pad = misfit

abbrev pub length_popped : Here → Option Popped → Result After Failure
length_popped here None = misfit
length_popped here (Some a) = reads here a.rest (length_of here.heap a.value)

abbrev pub array_length : Here → Result After Failure
array_length here = length_popped here (popped kinds.Reference here.frame.stack)

-- ---- new arrays

-- the type of elements that the operand of newarray stands for (JVMS table 6.5.newarray-A)
abbrev pub type_of_kind : ℤ → Option (List ℕ)
type_of_kind n =
    if int_eq n (pos 4) then Some (codes "Z")
    else if int_eq n (pos 5) then Some (codes "C")
    else if int_eq n (pos 8) then Some (codes "B")
    else if int_eq n (pos 9) then Some (codes "S")
    else if int_eq n (pos 10) then Some (codes "I")
    else if int_eq n (pos 11) then Some (codes "J") else None

-- an array of so many elements in which nothing was stored
abbrev pub new_array : List ℕ → ℕ → Cell
new_array type n = Array type (replicate n (default_of type))

abbrev pub size_of : ℤ → Result ℕ Failure
size_of (pos n) = Ok n
size_of (negsuc n) = Err (Throws raised.NegativeSize)

abbrev pub make_sized : Here → List ℕ → List Value → Result ℕ Failure → Result After Failure
make_sized here type rest (Err failure) = Err failure
make_sized here type rest (Ok n) = Ok (heap_changed here (Ref (free_number here.heap) ∷ rest) (with_cell (new_array type n) here.heap))

abbrev pub make_popped : Here → List ℕ → Option PoppedNumber → Result After Failure
make_popped here type None = misfit
make_popped here type (Some count) = make_sized here type count.rest (size_of count.number)

abbrev pub make_array : Here → Option (List ℕ) → Result After Failure
make_array here None = Err (Stops Support)
make_array here (Some type) = make_popped here type (popped_number widths.Int here.frame.stack)

-- the array's own type is one: it has at most 255 dimensions (JVMS 4.9.1)
abbrev pub make_described : Here → List ℕ → Result After Failure
make_described here type =
    if is_field (91 ∷ type) then make_popped here type (popped_number widths.Int here.frame.stack) else misfit

abbrev pub make_references : Here → Result (List ℕ) Construct → Result After Failure
make_references here (Err construct) = Err (Stops (stop_of construct))
make_references here (Ok name) = make_described here (type_named name)

-- ---- by action

-- what an instruction on arrays leaves
unfoldable pub array_after : World → Standing → Here → Action → Result After Failure
array_after w s here (acts.LoadElement e) = load here e
array_after w s here (acts.StoreElement e) = store w here e
array_after w s here acts.ArrayLength = array_length here
array_after w s here (acts.NewArray kind) = make_array here (type_of_kind kind)
array_after w s here (acts.NewReferenceArray i) = make_references here (class_known w (class_name_at s.class.pool i))
array_after w s here action = Err (Stops Support)
