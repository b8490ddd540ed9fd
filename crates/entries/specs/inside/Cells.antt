-- Which objects and arrays are good, as tests.
use Rattle.std.specs.Prelude.{ℕ, ◌&&◌, not, nat_lt, nat_le, nat_eq, Bool, true, false, ℤ, List, [], ◌∷◌, length, slice_get, ◌||◌}
use Rattle.std.specs.Option.{option_map_or}
use Rattle.std.specs.Ordering.{int_eq}
use Rattle.std.specs.List.{list_any, list_all}
use Rattle.op_table.specs.declared.acts.Width.TheVariants as widths
use Rattle.world.specs.declared.member.MemberId.{MemberId}
use Rattle.world.specs.Resolution.{member}
use Rattle.class_reader.specs.declared.class.Field.{Field}
use Rattle.class_hierarchy.specs.World.{World, class_at, line, is_instantiable}
use Rattle.frames.specs.declared.value.Value.{Value}
use Rattle.frames.specs.declared.value.Value.TheVariants.{Int, Long, Pad, Null, Ref}
use Rattle.word_steps.specs.Numbers.{fits}
use Rattle.frames.specs.Heap.{Cells, is_of_type, is_object_field, own_fields}
use Rattle.word_steps.specs.Narrowing.{left_in}

abbrev pub is_in_range : List ℕ → Value → Bool
is_in_range type (Int n) = fits widths.Int n && int_eq (left_in type n) n
is_in_range type (Long n) = fits widths.Long n
is_in_range type Pad = true
is_in_range type Null = true
is_in_range type (Ref r) = true

abbrev pub agrees : World → Cells → List ℕ → Value → Bool
agrees w heap type value = is_of_type w heap type value && is_in_range type value

abbrev pub is_member : MemberId → MemberId → Bool
is_member m n = nat_eq m.class n.class && nat_eq m.member n.member

-- a value stands for the field, and agrees
abbrev pub has_value : World → Cells → List (MemberId × Value) → MemberId × List ℕ → Bool
has_value w heap fields m = list_any (λ f. is_member m.0 f.0 && agrees w heap m.1 f.1) fields

-- a test passes for the field at a place, where objects have a value of it
abbrev pub own_holds : (MemberId × List ℕ → Bool) → ℕ → ℕ → Field → Bool
own_holds test class place field = not (is_object_field field) || test (member class place, field.desc)

-- values stand for all fields of objects that the class itself declares
abbrev pub has_own : World → Cells → List (MemberId × Value) → ℕ → Bool
has_own w heap fields d = list_all (has_value w heap fields) (own_fields d 0 (class_at w d).fields)

-- and for those of all these classes
abbrev pub has_each : World → Cells → List (MemberId × Value) → List ℕ → Bool
has_each w heap fields classes = list_all (has_own w heap fields) classes

-- one of these classes has the field
abbrev pub is_known : World → List ℕ → MemberId → Bool
is_known w classes m = list_any (nat_eq m.class) classes && option_map_or is_object_field (slice_get (class_at w m.class).fields m.member) false

abbrev pub are_known : World → List ℕ → List (MemberId × Value) → Bool
are_known w classes fields = list_all (λ f. is_known w classes f.0) fields

-- no field stands there twice
abbrev pub are_distinct : List (MemberId × Value) → Bool
are_distinct [] = true
are_distinct (f ∷ fields) = not (list_any (λ g. is_member f.0 g.0) fields) && are_distinct fields

abbrev pub is_object : World → Cells → ℕ → List (MemberId × Value) → Bool
is_object w heap class fields =
    nat_lt class (length w)
    && (is_instantiable w class
    && (are_distinct fields && (has_each w heap fields (line w class) && are_known w (line w class) fields)))

-- an array has at most so many elements, and each agrees
abbrev pub are_items : World → Cells → List ℕ → List Value → Bool
are_items w heap element items = nat_le (length items) 2147483647 && list_all (agrees w heap element) items
