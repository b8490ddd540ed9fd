-- Where a frame stands: the instruction that comes next (JVMS 2.11).
use Rattle.std.specs.Prelude.{◌≡◌, ℕ, ◌+◌, ◌<◌, ◌≤◌, length, Ok, Option, option_and_then, option_map}
use Rattle.std.specs.Result.{result_ok}
use Rattle.class_reader.specs.declared.class.ClassRecord.{ClassRecord}
use Rattle.class_reader.specs.declared.class.Method.{Method}
use Rattle.class_reader.specs.declared.class.Code.{Code}
use Rattle.op_table.specs.declared.instr.Instr.{Instr}
use Rattle.op_table.specs.Grammar.{instr_at}
use Rattle.class_hierarchy.specs.World.{World, class_at}
use Rattle.linking.specs.Methods.{method_at}
use Rattle.frames.specs.declared.frame.Frame.{Frame}
use Rattle.frames.specs.declared.here.Here.{Here}

-- an instruction, in the code of a method of a class
pub record Standing : Type 0 where
  pub class : ClassRecord
  pub method : Method
  pub code : Code
  pub instr : Instr

abbrev pub standing_on : World → Frame → Method → Code → Instr → Standing
standing_on w frame method code i = record { class = class_at w frame.method.class; method = method; code = code; instr = i }

abbrev pub standing_in : World → Frame → Method → Code → Option Standing
standing_in w frame method code = option_map (standing_on w frame method code) (result_ok (instr_at code.bytes frame.pc))

abbrev pub standing_of : World → Frame → Method → Option Standing
standing_of w frame method = option_and_then (standing_in w frame method) method.code

-- the instruction at the frame's pc, if one stands there
unfoldable pub standing_at : World → Frame → Option Standing
standing_at w frame = option_and_then (standing_of w frame) (method_at w frame.method)

-- the place behind the instruction
abbrev pub next_pc : Standing → Here → ℕ
next_pc s here = here.frame.pc + s.instr.len

-- an instruction stands at a place of its code, and code is no longer than it can be (JVMS 4.7.3)
pub record StandsAt (s : Standing) (pc : ℕ) : Type 0 where
  pub read : instr_at s.code.bytes pc ≡ Ok s.instr
  pub inside : pc < length s.code.bytes
  pub small : length s.code.bytes ≤ 65535

-- ---- the instruction that was fetched

-- an instruction, and the place behind it
pub record Fetch : Type 0 where
  pub standing : Standing
  pub next : ℕ

-- it is that of the running frame
pub record IsFetched (w : World) (fetch : Fetch) (here : Here) : Type 0 where
  pub behind : fetch.next ≡ next_pc fetch.standing here
  pub class : fetch.standing.class ≡ class_at w here.frame.method.class
  pub stands : StandsAt fetch.standing here.frame.pc
