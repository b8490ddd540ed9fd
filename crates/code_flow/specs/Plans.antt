-- The methods of a program, each with what its instructions can call.
use Rattle.std.specs.Prelude.{◌≡◌, ℕ, List, [], ◌∷◌, map, Some}
use Rattle.op_table.specs.declared.instr.Instr.{Instr}
use Rattle.world.specs.declared.member.MemberId.{MemberId}
use Rattle.class_hierarchy.specs.World.{World, class_at}
use Rattle.linking.specs.Methods.{method_at}
use Rattle.code_blocks.specs.declared.instruction.Instruction.{Instruction}
use Rattle.code_blocks.specs.Placing.{placed}
use Rattle.method_body.specs.Bodies.{IsBody}
use Rattle.code_flow.specs.declared.program.Reached.{Reached}
use Rattle.code_flow.specs.Judging.{judged}
use Rattle.code_flow.specs.Listing.{targets_in}

-- an instruction, and the methods that it can call
pub record Planned : Type 0 where
  pub pc : ℕ
  pub instr : Instr
  pub targets : List MemberId

-- a method, and its instructions in order
pub record Plan : Type 0 where
  pub method : MemberId
  pub instructions : List Planned

abbrev pub planned_with : Instruction → List MemberId → Planned
planned_with i targets = record { pc = i.pc; instr = i.instr; targets = targets }

-- the instructions of a body, each with the methods beside it, and with none where none are left
unfoldable pub beside : List Instruction → List (List MemberId) → List Planned
beside [] targets = []
beside (i ∷ is) [] = planned_with i [] ∷ beside is []
beside (i ∷ is) (ts ∷ targets) = planned_with i ts ∷ beside is targets

-- what the instructions of a method that is reached can call
abbrev pub plan_of : Reached → Plan
plan_of r = record { method = r.method; instructions = beside r.body.instructions r.targets }

abbrev pub plans_of : List Reached → List Plan
plans_of rs = map plan_of rs

-- the methods that each instruction of the code can call, in order
abbrev pub targets_of : World → ℕ → List ℕ → List (List MemberId)
targets_of w current code = map (λ p. targets_in (judged w current code p)) (placed code)

-- The body is that of the method in the world, with the methods that each of its instructions can call.
pub record IsReached (w : World) (r : Reached) : Type 0 where
  pub class : r.body.class ≡ class_at w r.method.class
  pub own : method_at w r.method ≡ Some r.body.method
  pub body : IsBody r.body
  pub targets : r.targets ≡ targets_of w r.method.class r.body.code.bytes
