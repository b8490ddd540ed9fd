-- What stands at the places of a method's code: the methods that an instruction can call, or the construct that
-- isn't analysed.
use Rattle.std.specs.Prelude.{ℕ, not, ◌&&◌, Bool, true, false, List, [], ◌∷◌, ◌++◌, map, Option, Some, None, is_some, Result, Ok, Err}
use Rattle.class_pool.specs.declared.constant.Constant.{Constant}
use Rattle.class_pool.specs.Pool.{class_name_at, member_at, int_at, long_at}
use Rattle.class_reader.specs.Flags.{is_synchronized}
use Rattle.class_reader.specs.declared.class.Method.{Method}
use Rattle.class_reader.specs.declared.class.Code.{Code}
use Rattle.class_reader.specs.declared.class.Handler.{Handler}
use Rattle.op_table.specs.Actions.{action_of}
use Rattle.op_table.specs.declared.acts.Action.{Action}
use Rattle.op_table.specs.declared.acts.Action.TheVariants as acts
use Rattle.op_table.specs.declared.construct.Construct.{Construct}
use Rattle.op_table.specs.declared.construct.Construct.TheVariants as constructs
use Rattle.world.specs.declared.member.MemberId.{MemberId}
use Rattle.class_hierarchy.specs.World.{World, class_at}
use Rattle.descriptors.specs.Texts.{names_float}
use Rattle.linking.specs.Told.{construct_if}
use Rattle.linking.specs.References.{against_call}
use Rattle.linking.specs.Calls.{called_by}
use Rattle.linking.specs.Members.{made_by}
use Rattle.linking.specs.Methods.{method_at}
use Rattle.code_blocks.specs.declared.instruction.Placed.{Placed}
use Rattle.code_blocks.specs.Placing.{placed, broken, is_last}

-- ---- what is known before names are looked up

-- what the opcode and its operands show. What isn't built yet: jumps, and what reads or writes arrays, fields and
-- statics or looks at the classes of objects.
abbrev pub shown : List (Option Constant) → Action → Option Construct
shown pool (acts.Outside construct) = Some construct
shown pool (acts.PushConstant i) = construct_if (not (is_some (int_at pool i))) constructs.Constant
shown pool (acts.PushLongConstant i) = construct_if (not (is_some (long_at pool i))) constructs.Constant
shown pool (acts.Call call i) = against_call (member_at pool i)
shown pool (acts.New i) = construct_if (not (is_some (class_name_at pool i))) constructs.Constant
shown pool (acts.IfZero test distance) = Some constructs.Later
shown pool (acts.IfInts test distance) = Some constructs.Later
shown pool (acts.IfSame same distance) = Some constructs.Later
shown pool (acts.IfNull null distance) = Some constructs.Later
shown pool (acts.Goto distance) = Some constructs.Later
shown pool (acts.Switch default low count pairs) = Some constructs.Later
shown pool (acts.LoadElement element) = Some constructs.Later
shown pool (acts.StoreElement element) = Some constructs.Later
shown pool (acts.GetStatic i) = Some constructs.Later
shown pool (acts.PutStatic i) = Some constructs.Later
shown pool (acts.GetField i) = Some constructs.Later
shown pool (acts.PutField i) = Some constructs.Later
shown pool (acts.NewArray kind) = Some constructs.Later
shown pool (acts.NewReferenceArray i) = Some constructs.Later
shown pool acts.ArrayLength = Some constructs.Later
shown pool (acts.CheckCast i) = Some constructs.Later
shown pool (acts.InstanceOf i) = Some constructs.Later
shown pool action = None

-- behind a return or a throw no instruction of the method comes next
abbrev pub is_end : Action → Bool
is_end (acts.Return kind) = true
is_end acts.ReturnNothing = true
is_end acts.Throw = true
is_end action = false

-- ---- what names mean

-- an object of a class runs no method when it is made
abbrev pub runs_none : Result ℕ Construct → Result (List MemberId) Construct
runs_none (Ok c) = Ok []
runs_none (Err construct) = Err construct

-- the methods that an instruction of the current class can call
abbrev pub meant : World → ℕ → List (Option Constant) → Action → Result (List MemberId) Construct
meant w current pool (acts.Call call i) = called_by w current call (member_at pool i)
meant w current pool (acts.New i) = runs_none (made_by w (class_name_at pool i))
meant w current pool action = Ok []

-- ---- an instruction

abbrev pub judged_past : Bool → Result (List MemberId) Construct → Option Construct → Result (List MemberId) Construct
judged_past falls_off meaning (Some construct) = Err construct
judged_past true meaning None = Err constructs.FallsOff
judged_past false meaning None = meaning

-- The methods that it can call, or the first construct at it: what it shows by itself, then that the code ends
-- behind it although the method doesn't, then what its names mean.
unfoldable pub judged : World → ℕ → List ℕ → Placed → Result (List MemberId) Construct
judged w current code p =
    judged_past
    (is_last code p && not (is_end (action_of p.instr)))
    (meant w current (class_at w current).pool (action_of p.instr))
    (shown (class_at w current).pool (action_of p.instr))

-- ---- a method

-- what stands at a place: the methods that can be called there, or a construct
pub record Judged : Type 0 where
  pub pc : ℕ
  pub verdict : Result (List MemberId) Construct

abbrev pub judged_if : Bool → Construct → List Judged
judged_if true construct = record { pc = 0; verdict = Err construct } ∷ []
judged_if false construct = []

abbrev pub has_handlers : List Handler → Bool
has_handlers [] = false
has_handlers (handler ∷ handlers) = true

abbrev pub is_empty : List ℕ → Bool
is_empty [] = true
is_empty (byte ∷ bytes) = false

-- What stands against the method itself, at 0. Code without an instruction is at its end from the beginning.
abbrev pub against_method : Method → Code → List Judged
against_method method code =
    judged_if (names_float method.desc) constructs.Float
    ++ judged_if (is_synchronized method.flags) constructs.Synchronized
    ++ judged_if (has_handlers code.handlers) constructs.Handler
    ++ judged_if (is_empty code.bytes) constructs.FallsOff

abbrev pub against_break : Option ℕ → List Judged
against_break None = []
against_break (Some pc) = record { pc = pc; verdict = Err constructs.Opcode } ∷ []

abbrev pub judged_place : World → ℕ → List ℕ → Placed → Judged
judged_place w current code p = record { pc = p.pc; verdict = judged w current code p }

-- no method without code can be run
abbrev pub places_in : World → ℕ → Method → Option Code → List Judged
places_in w current method None = judged_if true constructs.AbstractTarget
places_in w current method (Some code) =
    against_method method code
    ++ map (judged_place w current code.bytes) (placed code.bytes)
    ++ against_break (broken code.bytes)

abbrev pub places_at : World → ℕ → Option Method → List Judged
places_at w current None = []
places_at w current (Some method) = places_in w current method method.code

-- what stands at the places of a method, in order
unfoldable pub places_of : World → MemberId → List Judged
places_of w m = places_at w m.class (method_at w m)
