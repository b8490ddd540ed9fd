-- What an instruction on fields leaves, by cases (JVMS 6.5.getfield, 6.5.putfield, 6.5.getstatic, 6.5.putstatic).
use Rattle.std.specs.Prelude.{◌≡◌, ℕ, true, false, Some, Result, Ok, Err, IsSome}
use Rattle.class_pool.specs.Pool.{member_at}
use Rattle.op_table.specs.declared.acts.Action.{Action}
use Rattle.op_table.specs.declared.acts.Action.TheVariants as acts
use Rattle.op_table.specs.declared.acts.Kind.TheVariants as kinds
use Rattle.class_hierarchy.specs.World.{World}
use Rattle.frames.specs.declared.value.Value.{Value}
use Rattle.frames.specs.declared.value.Value.TheVariants.{Null, Ref}
use Rattle.frames.specs.declared.here.Here.{Here}
use Rattle.frames.specs.declared.failure.Failure.{Failure}
use Rattle.frames.specs.declared.failure.Failure.TheVariants.{Throws, Stops}
use Rattle.frames.specs.declared.failure.Raised.{Raised}
use Rattle.frames.specs.declared.failure.Raised.TheVariants as raised
use Rattle.frames.specs.Words.{Popped, popped}
use Rattle.frames.specs.Slots.{value_of, with_value}
use Rattle.frames.specs.Heap.{Cells, cell_at, field_at, with_field, is_instance}
use Rattle.frames.specs.Standing.{Standing}
use Rattle.word_steps.specs.Narrowing.{narrowed_to}
use Rattle.object_steps.specs.Classes.{type_named}
use Rattle.object_steps.specs.After.{After, read, heap_changed, statics_changed}
use Rattle.object_steps.specs.Fields.{NamedField, field_named, popped_of_type, field_after}

-- a reference refers to an object of the class that is named
pub record IsOfNamed (w : World) (heap : Cells) (f : NamedField) (object : Value) (r : ℕ) : Type 0 where
  pub refers : object ≡ Ref r
  pub instance : is_instance w (type_named f.class) (cell_at heap r) ≡ true

-- By the action: what is left where it goes on.
pub data FieldChange (w : World) (s : Standing) (at : Here) : Action → After → Type 0 where
  gets :
      {i r : ℕ} {f : NamedField} {object : Popped} {value : Value}
      → field_named w false (member_at s.class.pool i) ≡ Ok f → popped kinds.Reference at.frame.stack ≡ Some object
      → IsOfNamed w at.heap f object.value r → field_at at.heap r f.field ≡ Some value
      → FieldChange w s at (acts.GetField i) (read at value object.rest)
  puts :
      {i r : ℕ} {f : NamedField} {v object : Popped}
      → field_named w false (member_at s.class.pool i) ≡ Ok f → popped_of_type w at.heap f.type at.frame.stack ≡ Some v
      → popped kinds.Reference v.rest ≡ Some object → IsOfNamed w at.heap f object.value r → IsSome (field_at at.heap r f.field)
      → FieldChange w s at (acts.PutField i) (heap_changed at object.rest (with_field r f.field (narrowed_to f.type v.value) at.heap))
  gets_static :
      {i : ℕ} {f : NamedField} {value : Value}
      → field_named w true (member_at s.class.pool i) ≡ Ok f → value_of f.field at.statics ≡ Some value
      → FieldChange w s at (acts.GetStatic i) (read at value at.frame.stack)
  puts_static :
      {i : ℕ} {f : NamedField} {v : Popped}
      → field_named w true (member_at s.class.pool i) ≡ Ok f → popped_of_type w at.heap f.type at.frame.stack ≡ Some v
      → IsSome (value_of f.field at.statics)
      → FieldChange w s at (acts.PutStatic i) (statics_changed at v.rest (with_value f.field (narrowed_to f.type v.value) at.statics))

-- What it throws, and what it saw.
pub data FieldThrows (w : World) (s : Standing) (at : Here) : Action → Raised → Type 0 where
  null_get :
      {i : ℕ} {f : NamedField} {object : Popped}
      → field_named w false (member_at s.class.pool i) ≡ Ok f → popped kinds.Reference at.frame.stack ≡ Some object → object.value ≡ Null
      → FieldThrows w s at (acts.GetField i) raised.NullPointer
  null_put :
      {i : ℕ} {f : NamedField} {v object : Popped}
      → field_named w false (member_at s.class.pool i) ≡ Ok f → popped_of_type w at.heap f.type at.frame.stack ≡ Some v
      → popped kinds.Reference v.rest ≡ Some object → object.value ≡ Null
      → FieldThrows w s at (acts.PutField i) raised.NullPointer

-- ---- the laws

-- what is left is one of the cases, or what is thrown is, or the run stops
abbrev pub IsFieldCase : World → Standing → Here → Action → Result After Failure → Type 0
IsFieldCase w s at action (Ok a) = FieldChange w s at action a
IsFieldCase w s at action (Err (Throws what)) = FieldThrows w s at action what
IsFieldCase w s at action (Err (Stops k)) = Unit {0}

abbrev pub FieldsAreCases : Type 0
FieldsAreCases = (w : World) (s : Standing) (at : Here) (action : Action) → IsFieldCase w s at action (field_after w s at action)

-- each of the cases is met
abbrev pub FieldCasesAreLeft : Type 0
FieldCasesAreLeft =
    (w : World) (s : Standing) (at : Here) (action : Action) (a : After) → FieldChange w s at action a → field_after w s at action ≡ Ok a

abbrev pub FieldCasesAreThrown : Type 0
FieldCasesAreThrown =
    (w : World) (s : Standing) (at : Here) (action : Action) (what : Raised)
    → FieldThrows w s at action what → field_after w s at action ≡ Err (Throws what)
