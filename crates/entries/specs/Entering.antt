-- Entering a method: which one is meant, and the first argument with which it can't be entered (JVMS 2.6).
use Rattle.std.specs.Prelude.{◌≡◌, ◌≢◌, ◌⊎◌, ◌↔◌, ℕ, suc, ◌<◌, ◌≤◌, false, List, length, map, take, Option, Some, None, slice_get, position}
use Rattle.std.specs.Option.{option_map, option_and_then}
use Rattle.class_pool.specs.declared.target.Target.{Target}
use Rattle.class_reader.specs.declared.class.Method.{Method}
use Rattle.class_reader.specs.declared.class.Code.{Code}
use Rattle.class_reader.specs.Flags.{is_static}
use Rattle.world.specs.declared.member.MemberId.{MemberId}
use Rattle.class_hierarchy.specs.World.{World, class_at, number_of}
use Rattle.world.specs.Resolution.{is_method, member}
use Rattle.frames.specs.declared.value.Value.{Value}
use Rattle.frames.specs.declared.value.Value.TheVariants.{Int, Long, Pad, Null, Ref}
use Rattle.steps.specs.declared.configuration.State.{State}
use Rattle.entries.specs.declared.entering.EnterFault.{EnterFault}
use Rattle.entries.specs.declared.entering.EnterFault.TheVariants.{NoMethod, BadArg, Memory}
use Rattle.frames.specs.Heap.{Cells, cell_at, default_of}
use Rattle.linking.specs.Methods.{method_at, code_at}
use Rattle.entries.specs.Entry.{Agrees, AreHanded, HasLength, IsEntry, IsHeld, Reaches, argument_types, entry_of, statics_of, words_of_values}

-- ---- which method is meant

-- the method of this name and descriptor that the class of this name declares itself
abbrev pub method_named : World → Target → Option MemberId
method_named w target =
    option_and_then (λ c. option_map (member c) (position (is_method target.method target.desc) (class_at w c).methods)) (number_of w target.class)

-- its code
abbrev pub code_named : World → Target → Option Code
code_named w target = option_and_then (code_at w) (method_named w target)

-- a method of the world with its code, as the target means it
pub record IsMeant (w : World) (target : Target) (m : MemberId) (method : Method) (code : Code) : Type 0 where
  pub named : method_named w target ≡ Some m
  pub declared : method_at w m ≡ Some method
  pub has_code : method.code ≡ Some code

-- ---- good arguments

-- all that a reference reaches is held
abbrev pub IsHeldFrom : World → Cells → Value → Type 0
IsHeldFrom w heap (Int n) = Unit {0}
IsHeldFrom w heap (Long n) = Unit {0}
IsHeldFrom w heap Pad = Unit {0}
IsHeldFrom w heap Null = Unit {0}
IsHeldFrom w heap (Ref a) = (b : ℕ) → Reaches heap a b → IsHeld w heap (cell_at heap b)

-- a value can be an argument of the type
pub record IsSound (w : World) (heap : Cells) (type : List ℕ) (value : Value) : Type 0 where
  pub agrees : Agrees w heap type value
  pub held : IsHeldFrom w heap value
  pub acyclic : HasLength heap type value

-- the value at the place isn't a null receiver
abbrev pub IsNoNullReceiver : Method → ℕ → Value → Type 0
IsNoNullReceiver method i value = i ≡ 0 → is_static method.flags ≡ false → value ≢ Null

-- the argument at the place is there and wanted, can be one of its type, isn't a null receiver, and there is room
-- for it behind those before it
pub record IsGoodArgument (w : World) (heap : Cells) (types : List (List ℕ)) (method : Method) (code : Code) (arguments : List Value) (i : ℕ) : Type 0 where
  pub type : List ℕ
  pub value : Value
  pub wanted : slice_get types i ≡ Some type
  pub given : slice_get arguments i ≡ Some value
  pub sound : IsSound w heap type value
  pub receiver : IsNoNullReceiver method i value
  pub room : length (words_of_values (take (suc i) arguments)) ≤ code.max_locals

-- there is an argument at the place, or one is wanted there
abbrev pub IsPlace : List (List ℕ) → List Value → ℕ → Type 0
IsPlace types arguments i = (i < length types) ⊎ (i < length arguments)

-- the first place without a good argument
pub record IsFirstBad (w : World) (heap : Cells) (types : List (List ℕ)) (method : Method) (code : Code) (arguments : List Value) (i : ℕ) : Type 0 where
  pub place : IsPlace types arguments i
  pub bad : ¬ IsGoodArgument w heap types method code arguments i
  pub before : (j : ℕ) → j < i → IsGoodArgument w heap types method code arguments j

-- a good argument at each place
abbrev pub AllGood : World → Cells → List (List ℕ) → Method → Code → List Value → Type 0
AllGood w heap types method code arguments = (i : ℕ) → IsPlace types arguments i → IsGoodArgument w heap types method code arguments i

-- the first bad place, or none is bad
abbrev pub IsFirstIn : World → Cells → List (List ℕ) → Method → Code → List Value → Option ℕ → Type 0
IsFirstIn w heap types method code arguments None = AllGood w heap types method code arguments
IsFirstIn w heap types method code arguments (Some i) = IsFirstBad w heap types method code arguments i

-- a method can be entered exactly with arguments of which each is good
abbrev pub GoodArgumentsAreHanded : Type 0
GoodArgumentsAreHanded =
    (w : World) (m : MemberId) (method : Method) (code : Code) (arguments : List Value) (heap : Cells)
    → AreHanded w m method code arguments heap ↔ AllGood w heap (argument_types (class_at w m.class) method) method code arguments

-- ---- entering

-- each static int 0, and each static long
abbrev pub zeros : World → List (MemberId × Value)
zeros w = map (λ f. (f.0, default_of f.1)) (statics_of w)

-- the entry of the method that is meant, with these arguments and this heap
pub record IsEntered (w : World) (target : Target) (arguments : List Value) (heap : Cells) (state : State) : Type 0 where
  pub m : MemberId
  pub method : Method
  pub code : Code
  pub meant : IsMeant w target m method code
  pub entry : IsEntry w m state
  pub same : state ≡ entry_of m code arguments heap (zeros w)

-- the first bad argument for the method that is meant
pub record IsBadFor (w : World) (target : Target) (arguments : List Value) (heap : Cells) (i : ℕ) : Type 0 where
  pub m : MemberId
  pub method : Method
  pub code : Code
  pub meant : IsMeant w target m method code
  pub first : IsFirstBad w heap (argument_types (class_at w m.class) method) method code arguments i

-- what a fault says
abbrev pub IsEnterFault : World → Target → List Value → Cells → EnterFault → Type 0
IsEnterFault w target arguments heap NoMethod = code_named w target ≡ None
IsEnterFault w target arguments heap (BadArg i) = IsBadFor w target arguments heap i
IsEnterFault w target arguments heap Memory = Unit {0}

-- of a method that is there
abbrev pub IsFirstFault : World → Cells → List (List ℕ) → Method → Code → List Value → EnterFault → Type 0
IsFirstFault w heap types method code arguments NoMethod = ⊥
IsFirstFault w heap types method code arguments (BadArg i) = IsFirstBad w heap types method code arguments i
IsFirstFault w heap types method code arguments Memory = Unit {0}
