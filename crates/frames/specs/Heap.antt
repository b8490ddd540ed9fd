-- Objects and arrays, and what they are instances of (JVMS 2.4, 2.5.3).
use Rattle.std.specs.Option.{option_map_or}
use Rattle.std.specs.Prelude.{ℕ, suc, ◌==◌, ◌&&◌, not, Bool, false, pos, List, [], ◌∷◌, length, Option, Some, None, option_and_then, slice_get, slice_set, nat_lt, codes, map, flat_map, if◌then◌else◌}
use Rattle.class_reader.specs.declared.class.Field.{Field}
use Rattle.class_reader.specs.Flags.{is_static}
use Rattle.world.specs.declared.member.MemberId.{MemberId}
use Rattle.class_hierarchy.specs.World.{World, class_at, line, is_below}
use Rattle.world.specs.Instances.{is_object_of_type, is_array_of_type}
use Rattle.frames.specs.declared.value.Value.{Value}
use Rattle.frames.specs.declared.value.Value.TheVariants.{Int, Long, Pad, Null, Ref}
use Rattle.frames.specs.declared.heap.Cell.{Cell}
use Rattle.frames.specs.declared.heap.Cell.TheVariants.{Object, Array}
use Rattle.frames.specs.Slots.{value_of, with_value}
use Rattle.frames.specs.Types.{is_type, is_int_type, is_reference_type, is_float_type}

-- what stands at each number, if anything does
abbrev pub Cells : Type 0
Cells = List (Option Cell)

-- what has this number
abbrev pub cell_at : Cells → ℕ → Option Cell
cell_at heap r = option_and_then (λ slot. slot) (slice_get heap r)

-- the least number at which nothing stands
abbrev pub free_number : Cells → ℕ
free_number [] = 0
free_number (None ∷ heap) = 0
free_number (Some cell ∷ heap) = suc (free_number heap)

-- the heap with something at that number
abbrev pub with_cell : Cell → Cells → Cells
with_cell cell [] = Some cell ∷ []
with_cell cell (None ∷ heap) = Some cell ∷ heap
with_cell cell (Some other ∷ heap) = Some other ∷ with_cell cell heap

-- ---- new objects

-- what a field holds before anything was stored (JVMS 2.3, 2.4)
abbrev pub default_of : List ℕ → Value
default_of type = if is_int_type type then Int (pos 0) else if is_type (codes "J") type then Long (pos 0) else Null

-- a field of objects: it isn't static, float or double
abbrev pub is_object_field : Field → Bool
is_object_field field = not (is_static field.flags) && not (is_float_type field.desc)

-- a class's own fields of objects from the place on, each with its type
abbrev pub own_fields : ℕ → ℕ → List Field → List (MemberId × List ℕ)
own_fields class place [] = []
own_fields class place (field ∷ fields) =
    if is_object_field field
    then (record { class = class; member = place }, field.desc) ∷ own_fields class (suc place) fields
    else own_fields class (suc place) fields

-- the fields of an object of the class: its own and those of its superclasses (JVMS 6.5.new)
unfoldable pub object_fields : World → ℕ → List (MemberId × List ℕ)
object_fields w c = flat_map (λ d. own_fields d 0 (class_at w d).fields) (line w c)

-- the fields of an object in which nothing was stored
abbrev pub new_fields : World → ℕ → List (MemberId × Value)
new_fields w c = map (λ f. (f.0, default_of f.1)) (object_fields w c)

-- ---- instances

-- an object or array is of the type, which is that of a class or an array
abbrev pub is_instance : World → List ℕ → Option Cell → Bool
is_instance w type None = false
is_instance w type (Some (Object class fields)) = is_object_of_type w class type
is_instance w type (Some (Array element items)) = is_array_of_type w element type

-- a value is of the type
unfoldable pub is_of_type : World → Cells → List ℕ → Value → Bool
is_of_type w heap type (Int n) = is_int_type type
is_of_type w heap type (Long n) = is_type (codes "J") type
is_of_type w heap type Pad = false
is_of_type w heap type Null = is_reference_type type
is_of_type w heap type (Ref r) = is_instance w type (cell_at heap r)

-- ---- receivers

-- an object or array is of the class with the number; an array is of java/lang/Object alone, which has the number 0
abbrev pub is_of_class : World → ℕ → Option Cell → Bool
is_of_class w c None = false
is_of_class w c (Some (Object class fields)) = is_below w class c
is_of_class w c (Some (Array element items)) = c == 0

-- the class of an object
abbrev pub class_of : Option Cell → Option ℕ
class_of None = None
class_of (Some (Object class fields)) = Some class
class_of (Some (Array element items)) = None

-- ---- elements and fields

abbrev pub array_has : ℕ → Option Cell → Bool
array_has i None = false
array_has i (Some (Object class fields)) = false
array_has i (Some (Array element items)) = nat_lt i (length items)

-- what an object has in a field
abbrev pub value_in : MemberId → Option Cell → Option Value
value_in m None = None
value_in m (Some (Object class fields)) = value_of m fields
value_in m (Some (Array element items)) = None

-- the array with the number has an element of this index
abbrev pub has_element : ℕ → ℕ → Cells → Bool
has_element r i heap = array_has i (cell_at heap r)

-- what the object with the number has in a field
abbrev pub field_at : Cells → ℕ → MemberId → Option Value
field_at heap r m = value_in m (cell_at heap r)

-- the heap with another object or array at a number
abbrev pub with_changed : (Cell → Cell) → ℕ → Cells → Cells
with_changed change r heap = option_map_or (λ cell. slice_set heap r (Some (change cell))) (cell_at heap r) heap

abbrev pub with_item : ℕ → Value → Cell → Cell
with_item i value (Array element items) = Array element (slice_set items i value)
with_item i value (Object class fields) = Object class fields

abbrev pub with_member : MemberId → Value → Cell → Cell
with_member m value (Object class fields) = Object class (with_value m value fields)
with_member m value (Array element items) = Array element items

-- the heap with another value in the place of an element
abbrev pub with_element : ℕ → ℕ → Value → Cells → Cells
with_element r i value heap = with_changed (with_item i value) r heap

-- the heap with another value in a field
abbrev pub with_field : ℕ → MemberId → Value → Cells → Cells
with_field r m value heap = with_changed (with_member m value) r heap
