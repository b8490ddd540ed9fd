-- Fields of objects, and static fields (JVMS 6.5.getfield, 6.5.putfield, 6.5.getstatic, 6.5.putstatic).
use Rattle.std.specs.Prelude.{ℕ, Bool, true, false, List, codes, Option, Some, None, is_some, Result, Ok, Err, if◌then◌else◌}
use Rattle.class_pool.specs.Pool.{member_at}
use Rattle.op_table.specs.declared.acts.Action.{Action}
use Rattle.op_table.specs.declared.acts.Action.TheVariants as acts
use Rattle.op_table.specs.declared.acts.Kind.{Kind}
use Rattle.op_table.specs.declared.acts.Kind.TheVariants as kinds
use Rattle.op_table.specs.declared.construct.Construct.{Construct}
use Rattle.op_table.specs.declared.construct.Construct.TheVariants as constructs
use Rattle.world.specs.declared.member.MemberId.{MemberId}
use Rattle.class_hierarchy.specs.World.{World}
use Rattle.linking.specs.References.{Reference}
use Rattle.linking.specs.Members.{field_by}
use Rattle.frames.specs.declared.value.Value.{Value}
use Rattle.frames.specs.declared.value.Value.TheVariants.{Int, Long, Pad, Null, Ref}
use Rattle.frames.specs.declared.here.Here.{Here}
use Rattle.frames.specs.declared.failure.Failure.{Failure}
use Rattle.frames.specs.declared.failure.Failure.TheVariants.{Throws, Stops}
use Rattle.frames.specs.declared.failure.Raised.TheVariants as raised
use Rattle.frames.specs.declared.failure.Stop.TheVariants.{Support, Receiver}
use Rattle.frames.specs.Words.{Popped, popped}
use Rattle.frames.specs.Types.{is_type, is_int_type}
use Rattle.frames.specs.Slots.{value_of, with_value}
use Rattle.frames.specs.Heap.{Cells, cell_at, field_at, with_field, is_instance, is_of_type}
use Rattle.frames.specs.Standing.{Standing}
use Rattle.frames.specs.Outcome.{stop_of}
use Rattle.word_steps.specs.Narrowing.{narrowed_to}
use Rattle.object_steps.specs.Classes.{type_named}
use Rattle.object_steps.specs.After.{After, reads, heap_changed, statics_changed, or_misfit, misfit}

-- ---- what is named

-- a field, with the class that is named and its type
pub record NamedField : Type 0 where
  pub class : List ℕ
  pub type : List ℕ
  pub field : MemberId

abbrev pub named : List ℕ → List ℕ → Result MemberId Construct → Result NamedField Construct
named class type (Err construct) = Err construct
named class type (Ok m) = Ok (record { class = class; type = type; field = m })

-- what a member reference names, where nothing stands against it
abbrev pub field_named : World → Bool → Option Reference → Result NamedField Construct
field_named w static None = Err constructs.Constant
field_named w static (Some (tag, class, name, type)) = named class type (field_by w static (Some (tag, class, name, type)))

-- ---- values of the type on top

abbrev pub kind_of_type : List ℕ → Kind
kind_of_type type = if is_int_type type then kinds.Int else if is_type (codes "J") type then kinds.Long else kinds.Reference

abbrev pub where_typed : World → Cells → List ℕ → Option Popped → Option Popped
where_typed w heap type None = None
where_typed w heap type (Some p) = if is_of_type w heap type p.value then Some p else None

abbrev pub popped_of_type : World → Cells → List ℕ → List Value → Option Popped
popped_of_type w heap type stack = where_typed w heap type (popped (kind_of_type type) stack)

-- ---- fields of objects

-- null throws, and an object that isn't of the class that is named stops the run
abbrev pub on_object : World → Cells → NamedField → Value → Result ℕ Failure
on_object w heap f Null = Err (Throws raised.NullPointer)
on_object w heap f (Ref r) = if is_instance w (type_named f.class) (cell_at heap r) then Ok r else Err (Stops Receiver)
on_object w heap f (Int n) = misfit
on_object w heap f (Long n) = misfit
on_object w heap f Pad = misfit

abbrev pub value_held : Cells → MemberId → Result ℕ Failure → Result Value Failure
value_held heap m (Err failure) = Err failure
value_held heap m (Ok r) = or_misfit (field_at heap r m)

-- the value in a field of the object that a reference refers to
abbrev pub field_read : World → Cells → NamedField → Value → Result Value Failure
field_read w heap f object = value_held heap f.field (on_object w heap f object)

abbrev pub get_popped : World → Here → NamedField → Option Popped → Result After Failure
get_popped w here f None = misfit
get_popped w here f (Some object) = reads here object.rest (field_read w here.heap f object.value)

abbrev pub get : World → Here → Result NamedField Construct → Result After Failure
get w here (Err construct) = Err (Stops (stop_of construct))
get w here (Ok f) = get_popped w here f (popped kinds.Reference here.frame.stack)

abbrev pub holder : Cells → MemberId → Result ℕ Failure → Result ℕ Failure
holder heap m (Err failure) = Err failure
holder heap m (Ok r) = if is_some (field_at heap r m) then Ok r else misfit

-- the object with the field that a reference refers to
abbrev pub field_written : World → Cells → NamedField → Value → Result ℕ Failure
field_written w heap f object = holder heap f.field (on_object w heap f object)

abbrev pub writes : Here → NamedField → Value → List Value → Result ℕ Failure → Result After Failure
writes here f value rest (Err failure) = Err failure
writes here f value rest (Ok r) = Ok (heap_changed here rest (with_field r f.field (narrowed_to f.type value) here.heap))

abbrev pub put_below : World → Here → NamedField → Value → Option Popped → Result After Failure
put_below w here f value None = misfit
put_below w here f value (Some object) = writes here f value object.rest (field_written w here.heap f object.value)

abbrev pub put_popped : World → Here → NamedField → Option Popped → Result After Failure
put_popped w here f None = misfit
put_popped w here f (Some p) = put_below w here f p.value (popped kinds.Reference p.rest)

abbrev pub put : World → Here → Result NamedField Construct → Result After Failure
put w here (Err construct) = Err (Stops (stop_of construct))
put w here (Ok f) = put_popped w here f (popped_of_type w here.heap f.type here.frame.stack)

-- ---- static fields

abbrev pub get_static : Here → Result NamedField Construct → Result After Failure
get_static here (Err construct) = Err (Stops (stop_of construct))
get_static here (Ok f) = reads here here.frame.stack (or_misfit (value_of f.field here.statics))

abbrev pub put_static_popped : Here → NamedField → Option Popped → Result After Failure
put_static_popped here f None = misfit
put_static_popped here f (Some p) =
    if is_some (value_of f.field here.statics)
    then Ok (statics_changed here p.rest (with_value f.field (narrowed_to f.type p.value) here.statics))
    else misfit

abbrev pub put_static : World → Here → Result NamedField Construct → Result After Failure
put_static w here (Err construct) = Err (Stops (stop_of construct))
put_static w here (Ok f) = put_static_popped here f (popped_of_type w here.heap f.type here.frame.stack)

-- ---- by action

-- what an instruction on fields leaves
unfoldable pub field_after : World → Standing → Here → Action → Result After Failure
field_after w s here (acts.GetField i) = get w here (field_named w false (member_at s.class.pool i))
field_after w s here (acts.PutField i) = put w here (field_named w false (member_at s.class.pool i))
field_after w s here (acts.GetStatic i) = get_static here (field_named w true (member_at s.class.pool i))
field_after w s here (acts.PutStatic i) = put_static w here (field_named w true (member_at s.class.pool i))
field_after w s here action = Err (Stops Support)
