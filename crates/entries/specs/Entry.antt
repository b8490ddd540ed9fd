-- Entries of a method: the configurations with which a run begins (JVMS 2.6, 5.2).
use Rattle.std.specs.Prelude.{◌≡◌, ◌≢◌, ◌⊎◌, ℕ, suc, ◌<◌, ◌≤◌, ◌||◌, ◌&&◌, Bool, false, List, [], ◌∷◌, ◌++◌, length, map, flat_map, Option, Some, None, IsTrue, Contains, AllPairs, slice_get, if◌then◌else◌}
use Rattle.std.specs.List.{AllByRecursion}
use Rattle.class_reader.specs.declared.class.ClassRecord.{ClassRecord}
use Rattle.class_reader.specs.declared.class.Field.{Field}
use Rattle.class_reader.specs.declared.class.Method.{Method}
use Rattle.class_reader.specs.declared.class.Code.{Code}
use Rattle.class_reader.specs.Flags.{is_static}
use Rattle.descriptors.specs.Grammar.{IsFieldDescriptor}
use Rattle.op_table.specs.declared.acts.Width.TheVariants as widths
use Rattle.world.specs.declared.member.MemberId.{MemberId}
use Rattle.class_hierarchy.specs.World.{World, class_at, is_instantiable}
use Rattle.frames.specs.declared.value.Value.{Value}
use Rattle.frames.specs.declared.value.Value.TheVariants.{Int, Long, Pad, Null, Ref}
use Rattle.frames.specs.declared.heap.Cell.{Cell}
use Rattle.frames.specs.declared.heap.Cell.TheVariants.{Object, Array}
use Rattle.steps.specs.declared.configuration.State.{State}
use Rattle.steps.specs.declared.configuration.Status.TheVariants as statuses
use Rattle.word_steps.specs.Numbers.{fits}
use Rattle.descriptors.specs.Pieces.{parameters_of}
use Rattle.descriptors.specs.Texts.{is_class}
use Rattle.frames.specs.Types.{is_int_type, is_type}
use Rattle.frames.specs.Heap.{Cells, cell_at, object_fields, is_of_type}
use Rattle.linking.specs.Methods.{method_at}
use Rattle.word_steps.specs.Narrowing.{narrowed_to}
use Rattle.steps.specs.Calling.{new_frame}
use Rattle.std.specs.Prelude.{codes}

-- ---- values of types

-- a number lies in the range of its type: nothing of it is lost there
abbrev pub IsInRange : List ℕ → Value → Type 0
IsInRange type (Int n) = IsTrue (fits widths.Int n) × (narrowed_to type (Int n) ≡ Int n)
IsInRange type (Long n) = IsTrue (fits widths.Long n)
IsInRange type Pad = Unit {0}
IsInRange type Null = Unit {0}
IsInRange type (Ref r) = Unit {0}

-- a value agrees with a descriptor
abbrev pub Agrees : World → Cells → List ℕ → Value → Type 0
Agrees w heap type value = IsTrue (is_of_type w heap type value) × IsInRange type value

-- values agree with types, one by one
abbrev pub AllAgree : World → Cells → List (List ℕ) → List Value → Type 0
AllAgree w heap [] [] = Unit {0}
AllAgree w heap [] (value ∷ values) = ⊥
AllAgree w heap (type ∷ types) [] = ⊥
AllAgree w heap (type ∷ types) (value ∷ values) = Agrees w heap type value × AllAgree w heap types values

-- ---- what the heap holds

-- an object has a value for each field of its class and its superclasses, which agrees with it, and no other one
pub record IsObject (w : World) (heap : Cells) (class : ℕ) (fields : List (MemberId × Value)) : Type 0 where
  pub known : class < length w
  pub instantiable : IsTrue (is_instantiable w class)
  pub once : AllPairs (λ f g. f.0 ≢ g.0) fields
  pub each : (m : MemberId) (type : List ℕ) → Contains (object_fields w class) (m, type) → (value : Value) × Contains fields (m, value) × Agrees w heap type value
  pub no_other : (m : MemberId) (value : Value) → Contains fields (m, value) → (type : List ℕ) × Contains (object_fields w class) (m, type)

-- an array has at most so many elements, which agree with their descriptor
pub record IsArray (w : World) (heap : Cells) (element : List ℕ) (items : List Value) : Type 0 where
  pub described : IsFieldDescriptor (91 ∷ element)
  pub few : length items ≤ 2147483647
  pub each : AllByRecursion (Agrees w heap element) items

abbrev pub IsHeld : World → Cells → Option Cell → Type 0
IsHeld w heap None = ⊥
IsHeld w heap (Some (Object class fields)) = IsObject w heap class fields
IsHeld w heap (Some (Array element items)) = IsArray w heap element items

-- ---- what is reached

-- the values in an object or array
abbrev pub values_in : Option Cell → List Value
values_in None = []
values_in (Some (Object class fields)) = map (λ f. f.1) fields
values_in (Some (Array element items)) = items

-- from what the one number has, fields and elements lead to the other: one step, or more
pub data Leads (heap : Cells) : ℕ → ℕ → Type 0 where
  refers : {a b : ℕ} → Contains (values_in (cell_at heap a)) (Ref b) → Leads heap a b
  through : {a b c : ℕ} → Contains (values_in (cell_at heap a)) (Ref b) → Leads heap b c → Leads heap a c

-- a reference reaches what it refers to and where that leads
abbrev pub Reaches : Cells → ℕ → ℕ → Type 0
Reaches heap a b = (a ≡ b) ⊎ Leads heap a b

-- no cycle is reached
abbrev pub IsAcyclic : Cells → ℕ → Type 0
IsAcyclic heap a = (b : ℕ) → Reaches heap a b → ¬ Leads heap b b

-- an argument is a reference of a class type only where it reaches no cycle
abbrev pub HasLength : Cells → List ℕ → Value → Type 0
HasLength heap type (Ref r) = IsTrue (is_class type) → IsAcyclic heap r
HasLength heap type value = Unit {0}

abbrev pub AllHaveLength : Cells → List (List ℕ) → List Value → Type 0
AllHaveLength heap (type ∷ types) (value ∷ values) = HasLength heap type value × AllHaveLength heap types values
AllHaveLength heap types values = Unit {0}

-- ---- statics

abbrev pub is_number_type : List ℕ → Bool
is_number_type type = is_int_type type || is_type (codes "J") type

abbrev pub is_static_number : Field → Bool
is_static_number field = is_static field.flags && is_number_type field.desc

-- a class's own static ints and longs from the place on, each with its type
abbrev pub own_statics : ℕ → ℕ → List Field → List (MemberId × List ℕ)
own_statics class place [] = []
own_statics class place (field ∷ fields) =
    if is_static_number field
    then (record { class = class; member = place }, field.desc) ∷ own_statics class (suc place) fields
    else own_statics class (suc place) fields

-- those of the classes from the number on
abbrev pub statics_from : ℕ → List ClassRecord → List (MemberId × List ℕ)
statics_from c [] = []
statics_from c (class ∷ classes) = own_statics c 0 class.fields ++ statics_from (suc c) classes

unfoldable pub statics_of : World → List (MemberId × List ℕ)
statics_of w = statics_from 0 w

-- a value in range for each static of the world, in order
pub record AreStatics (w : World) (statics : List (MemberId × Value)) : Type 0 where
  pub fields : map (λ f. f.0) statics ≡ map (λ f. f.0) (statics_of w)
  pub each : AllAgree w [] (map (λ f. f.1) (statics_of w)) (map (λ f. f.1) statics)

-- ---- entries

-- the type of a class's objects
abbrev pub own_type : ClassRecord → List ℕ
own_type class = 76 ∷ class.name ++ 59 ∷ []

-- the types of a method's arguments: the receiver, where it isn't static, and the parameters
abbrev pub argument_types : ClassRecord → Method → List (List ℕ)
argument_types class method =
    if is_static method.flags then parameters_of method.desc else own_type class ∷ parameters_of method.desc

-- a long takes two words
abbrev pub words_of_value : Value → List Value
words_of_value (Long n) = Long n ∷ Pad ∷ []
words_of_value value = value ∷ []

abbrev pub words_of_values : List Value → List Value
words_of_values values = flat_map words_of_value values

-- the receiver isn't null
abbrev pub HasReceiver : Method → List Value → Type 0
HasReceiver method arguments = is_static method.flags ≡ false → slice_get arguments 0 ≢ Some Null

-- the configuration that enters the method
abbrev pub entry_of : MemberId → Code → List Value → Cells → List (MemberId × Value) → State
entry_of m code arguments heap statics = record {
  here = record { frame = new_frame m code (words_of_values arguments); heap = heap; statics = statics };
  callers = [];
  spent = 0;
  status = statuses.Running;
}

-- Arguments and a heap with which a method can be entered. What the arguments reach is held, and they may share.
pub record AreHanded (w : World) (m : MemberId) (method : Method) (code : Code) (arguments : List Value) (heap : Cells) : Type 0 where
  pub agree : AllAgree w heap (argument_types (class_at w m.class) method) arguments
  pub receiver : HasReceiver method arguments
  pub held : (a b : ℕ) → Contains arguments (Ref a) → Reaches heap a b → IsHeld w heap (cell_at heap b)
  pub acyclic : AllHaveLength heap (argument_types (class_at w m.class) method) arguments
  pub room : length (words_of_values arguments) ≤ code.max_locals

-- a well-formed entry of the method
pub record IsEntry (w : World) (m : MemberId) (state : State) : Type 0 where
  pub method : Method
  pub code : Code
  pub arguments : List Value
  pub heap : Cells
  pub statics : List (MemberId × Value)
  pub declared : method_at w m ≡ Some method
  pub has_code : method.code ≡ Some code
  pub handed : AreHanded w m method code arguments heap
  pub of_world : AreStatics w statics
  pub entered : state ≡ entry_of m code arguments heap statics
