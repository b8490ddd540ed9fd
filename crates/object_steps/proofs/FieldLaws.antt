-- What an instruction on fields leaves is one of the cases, and each of these is met.
use Rattle.std.proofs.Common.{◌≡◌, ℕ, Bool, true, false, Option, Some, None, Result, Ok, Err, is_some, refl, sym, subst}
use Rattle.std.specs.Prelude.{if◌then◌else◌}
use Rattle.class_pool.specs.Pool.{member_at}
use Rattle.op_table.specs.declared.acts.Action.{Action}
use Rattle.op_table.specs.declared.acts.Action.TheVariants as acts
use Rattle.op_table.specs.declared.acts.Kind.TheVariants as kinds
use Rattle.op_table.specs.declared.construct.Construct.{Construct}
use Rattle.class_hierarchy.specs.World.{World}
use Rattle.frames.specs.declared.value.Value.{Value}
use Rattle.frames.specs.declared.value.Value.TheVariants.{Int, Long, Pad, Null, Ref}
use Rattle.frames.specs.declared.here.Here.{Here}
use Rattle.frames.specs.declared.failure.Failure.{Failure}
use Rattle.frames.specs.declared.failure.Failure.TheVariants.{Throws, Stops}
use Rattle.frames.specs.declared.failure.Raised.{Raised}
use Rattle.frames.specs.declared.failure.Raised.TheVariants as raised
use Rattle.frames.specs.declared.failure.Stop.TheVariants.{Receiver}
use Rattle.frames.specs.Words.{Popped, popped}
use Rattle.frames.specs.Slots.{value_of, with_value}
use Rattle.frames.specs.Heap.{Cells, cell_at, field_at, is_instance}
use Rattle.frames.specs.Standing.{Standing}
use Rattle.word_steps.specs.Narrowing.{narrowed_to}
use Rattle.object_steps.specs.Classes.{type_named}
use Rattle.object_steps.specs.After.{After, reads, statics_changed, or_misfit, misfit}
use Rattle.object_steps.specs.Fields as fields
use Rattle.object_steps.specs.Fields.{NamedField, field_named, popped_of_type, on_object, field_after}
use Rattle.object_steps.specs.FieldCases as rows
use Rattle.object_steps.specs.FieldCases.{IsOfNamed, IsFieldCase, FieldChange, FieldThrows}

-- ---- the object that a reference refers to

abbrev IsFound : World → Cells → NamedField → Value → Result ℕ Failure → Type 0
IsFound w heap f v (Ok r) = IsOfNamed w heap f v r
IsFound w heap f v (Err (Throws what)) = (what ≡ raised.NullPointer) × (v ≡ Null)
IsFound w heap f v (Err (Stops k)) = Unit {0}

found_by : (w : World) (heap : Cells) (f : NamedField) (r : ℕ) (instance : Bool) → is_instance w (type_named f.class) (cell_at heap r) ≡ instance
    → IsFound w heap f (Ref r) (if instance then Ok r else Err (Stops Receiver))
found_by w heap f r true is = record { refers = refl; instance = is }
found_by w heap f r false is = tt

found : (w : World) (heap : Cells) (f : NamedField) (v : Value) → IsFound w heap f v (on_object w heap f v)
found w heap f (Int n) = tt
found w heap f (Long n) = tt
found w heap f Pad = tt
found w heap f Null = (refl, refl)
found w heap f (Ref r) = found_by w heap f r (is_instance w (type_named f.class) (cell_at heap r)) refl

object_is : (w : World) (heap : Cells) (f : NamedField) (v : Value) (r : ℕ) → IsOfNamed w heap f v r → on_object w heap f v ≡ Ok r
object_is w heap f v r is = rw (is.refers, is.instance) refl

-- ---- reads

value_got : (w : World) (s : Standing) (at : Here) (i r : ℕ) (f : NamedField) (object : Popped) (value : Option Value)
    → field_named w false (member_at s.class.pool i) ≡ Ok f → popped kinds.Reference at.frame.stack ≡ Some object → IsOfNamed w at.heap f object.value r
    → field_at at.heap r f.field ≡ value → IsFieldCase w s at (acts.GetField i) (reads at object.rest (or_misfit value))
value_got w s at i r f object None of top is held = tt
value_got w s at i r f object (Some value) of top is held = rows.gets of top is held

object_got : (w : World) (s : Standing) (at : Here) (i : ℕ) (f : NamedField) (object : Popped) (r : Result ℕ Failure)
    → field_named w false (member_at s.class.pool i) ≡ Ok f → popped kinds.Reference at.frame.stack ≡ Some object → IsFound w at.heap f object.value r
    → IsFieldCase w s at (acts.GetField i) (reads at object.rest (fields.value_held at.heap f.field r))
object_got w s at i f object (Ok r) of top is = value_got w s at i r f object (field_at at.heap r f.field) of top is refl
object_got w s at i f object (Err (Throws what)) of top is = subst (λ (what : Raised). FieldThrows w s at (acts.GetField i) what) (sym is.0) (rows.null_get of top is.1)
object_got w s at i f object (Err (Stops k)) of top is = tt

popped_got : (w : World) (s : Standing) (at : Here) (i : ℕ) (f : NamedField) (object : Option Popped)
    → field_named w false (member_at s.class.pool i) ≡ Ok f → popped kinds.Reference at.frame.stack ≡ object
    → IsFieldCase w s at (acts.GetField i) (fields.get_popped w at f object)
popped_got w s at i f None of top = tt
popped_got w s at i f (Some object) of top = object_got w s at i f object (on_object w at.heap f object.value) of top (found w at.heap f object.value)

got : (w : World) (s : Standing) (at : Here) (i : ℕ) (f : Result NamedField Construct) → field_named w false (member_at s.class.pool i) ≡ f
    → IsFieldCase w s at (acts.GetField i) (fields.get w at f)
got w s at i (Err construct) of = tt
got w s at i (Ok f) of = popped_got w s at i f (popped kinds.Reference at.frame.stack) of refl

-- ---- writes

held_put : (w : World) (s : Standing) (at : Here) (i r : ℕ) (f : NamedField) (v object : Popped) (held : Bool)
    → field_named w false (member_at s.class.pool i) ≡ Ok f → popped_of_type w at.heap f.type at.frame.stack ≡ Some v → popped kinds.Reference v.rest ≡ Some object
    → IsOfNamed w at.heap f object.value r → is_some (field_at at.heap r f.field) ≡ held
    → IsFieldCase w s at (acts.PutField i) (fields.writes at f v.value object.rest (if held then Ok r else misfit))
held_put w s at i r f v object true of top below is held = rows.puts of top below is held
held_put w s at i r f v object false of top below is held = tt

object_put : (w : World) (s : Standing) (at : Here) (i : ℕ) (f : NamedField) (v object : Popped) (r : Result ℕ Failure)
    → field_named w false (member_at s.class.pool i) ≡ Ok f → popped_of_type w at.heap f.type at.frame.stack ≡ Some v → popped kinds.Reference v.rest ≡ Some object
    → IsFound w at.heap f object.value r
    → IsFieldCase w s at (acts.PutField i) (fields.writes at f v.value object.rest (fields.holder at.heap f.field r))
object_put w s at i f v object (Ok r) of top below is = held_put w s at i r f v object (is_some (field_at at.heap r f.field)) of top below is refl
object_put w s at i f v object (Err (Throws what)) of top below is =
    subst (λ (what : Raised). FieldThrows w s at (acts.PutField i) what) (sym is.0) (rows.null_put of top below is.1)
object_put w s at i f v object (Err (Stops k)) of top below is = tt

below_put : (w : World) (s : Standing) (at : Here) (i : ℕ) (f : NamedField) (v : Popped) (object : Option Popped)
    → field_named w false (member_at s.class.pool i) ≡ Ok f → popped_of_type w at.heap f.type at.frame.stack ≡ Some v → popped kinds.Reference v.rest ≡ object
    → IsFieldCase w s at (acts.PutField i) (fields.put_below w at f v.value object)
below_put w s at i f v None of top below = tt
below_put w s at i f v (Some object) of top below = object_put w s at i f v object (on_object w at.heap f object.value) of top below (found w at.heap f object.value)

popped_put : (w : World) (s : Standing) (at : Here) (i : ℕ) (f : NamedField) (v : Option Popped)
    → field_named w false (member_at s.class.pool i) ≡ Ok f → popped_of_type w at.heap f.type at.frame.stack ≡ v
    → IsFieldCase w s at (acts.PutField i) (fields.put_popped w at f v)
popped_put w s at i f None of top = tt
popped_put w s at i f (Some v) of top = below_put w s at i f v (popped kinds.Reference v.rest) of top refl

put : (w : World) (s : Standing) (at : Here) (i : ℕ) (f : Result NamedField Construct) → field_named w false (member_at s.class.pool i) ≡ f
    → IsFieldCase w s at (acts.PutField i) (fields.put w at f)
put w s at i (Err construct) of = tt
put w s at i (Ok f) of = popped_put w s at i f (popped_of_type w at.heap f.type at.frame.stack) of refl

-- ---- static fields

static_value : (w : World) (s : Standing) (at : Here) (i : ℕ) (f : NamedField) (value : Option Value)
    → field_named w true (member_at s.class.pool i) ≡ Ok f → value_of f.field at.statics ≡ value
    → IsFieldCase w s at (acts.GetStatic i) (reads at at.frame.stack (or_misfit value))
static_value w s at i f None of held = tt
static_value w s at i f (Some value) of held = rows.gets_static of held

static_got : (w : World) (s : Standing) (at : Here) (i : ℕ) (f : Result NamedField Construct) → field_named w true (member_at s.class.pool i) ≡ f
    → IsFieldCase w s at (acts.GetStatic i) (fields.get_static at f)
static_got w s at i (Err construct) of = tt
static_got w s at i (Ok f) of = static_value w s at i f (value_of f.field at.statics) of refl

static_held : (w : World) (s : Standing) (at : Here) (i : ℕ) (f : NamedField) (v : Popped) (held : Bool)
    → field_named w true (member_at s.class.pool i) ≡ Ok f → popped_of_type w at.heap f.type at.frame.stack ≡ Some v → is_some (value_of f.field at.statics) ≡ held
    → IsFieldCase w s at (acts.PutStatic i)
    (if held then Ok (statics_changed at v.rest (with_value f.field (narrowed_to f.type v.value) at.statics)) else misfit)
static_held w s at i f v true of top held = rows.puts_static of top held
static_held w s at i f v false of top held = tt

static_popped : (w : World) (s : Standing) (at : Here) (i : ℕ) (f : NamedField) (v : Option Popped)
    → field_named w true (member_at s.class.pool i) ≡ Ok f → popped_of_type w at.heap f.type at.frame.stack ≡ v
    → IsFieldCase w s at (acts.PutStatic i) (fields.put_static_popped at f v)
static_popped w s at i f None of top = tt
static_popped w s at i f (Some v) of top = static_held w s at i f v (is_some (value_of f.field at.statics)) of top refl

static_put : (w : World) (s : Standing) (at : Here) (i : ℕ) (f : Result NamedField Construct) → field_named w true (member_at s.class.pool i) ≡ f
    → IsFieldCase w s at (acts.PutStatic i) (fields.put_static w at f)
static_put w s at i (Err construct) of = tt
static_put w s at i (Ok f) of = static_popped w s at i f (popped_of_type w at.heap f.type at.frame.stack) of refl

-- ---- all

pub fields_are_cases : (w : World) (s : Standing) (at : Here) (action : Action) → IsFieldCase w s at action (field_after w s at action)
unfolding field_after
fields_are_cases w s at (acts.GetField i) = got w s at i (field_named w false (member_at s.class.pool i)) refl
fields_are_cases w s at (acts.PutField i) = put w s at i (field_named w false (member_at s.class.pool i)) refl
fields_are_cases w s at (acts.GetStatic i) = static_got w s at i (field_named w true (member_at s.class.pool i)) refl
fields_are_cases w s at (acts.PutStatic i) = static_put w s at i (field_named w true (member_at s.class.pool i)) refl
fields_are_cases w s at action = tt

pub field_cases_left : (w : World) (s : Standing) (at : Here) (action : Action) (a : After) → FieldChange w s at action a → field_after w s at action ≡ Ok a
unfolding field_after
field_cases_left w s at action a (rows.gets {r} {f} {object} of top is held) = rw (of, top, object_is w at.heap f object.value r is, held) refl
field_cases_left w s at action a (rows.puts {r} {f} {object} of top below is held) = rw (of, top, below, object_is w at.heap f object.value r is, held) refl
field_cases_left w s at action a (rows.gets_static of held) = rw (of, held) refl
field_cases_left w s at action a (rows.puts_static of top held) = rw (of, top, held) refl

pub field_cases_thrown : (w : World) (s : Standing) (at : Here) (action : Action) (what : Raised) → FieldThrows w s at action what
    → field_after w s at action ≡ Err (Throws what)
unfolding field_after
field_cases_thrown w s at action what (rows.null_get of top null) = rw (of, top, null) refl
field_cases_thrown w s at action what (rows.null_put of top below null) = rw (of, top, below, null) refl
