-- The methods of a program are closed under calls, and their code is sound.
use Rattle.std.proofs.Common.{◌≡◌, ℕ, List, map, Option, Some, None, Result, Ok, refl, sym, ◌∙◌, ap, subst, Contains}
use Rattle.std.specs.Prelude.{option_and_then, slice_get}
use Rattle.common_laws.proofs.Members.{in_map, from_map, contains_at}
use Rattle.class_pool.specs.Pool.{member_at}
use Rattle.class_reader.specs.declared.class.Method.{Method}
use Rattle.class_reader.specs.declared.class.Code.{Code}
use Rattle.op_table.specs.declared.acts.Action.{Action}
use Rattle.op_table.specs.declared.construct.Construct.{Construct}
use Rattle.world.specs.declared.member.MemberId.{MemberId}
use Rattle.class_hierarchy.specs.World.{World, class_at}
use Rattle.class_hierarchy.specs.Building.{IsWellBuilt}
use Rattle.linking.specs.Calls.{called_by}
use Rattle.linking.specs.Methods.{method_at, code_at}
use Rattle.code_blocks.specs.declared.instruction.Placed.{Placed}
use Rattle.code_blocks.specs.Placing.{placed}
use Rattle.code_blocks.specs.Laws.{IsSound}
use Rattle.code_flow.specs.Plans.{Planned, Plan}
use Rattle.code_flow.specs.Judging.{meant, judged}
use Rattle.code_flow.specs.Listing.{targets_in}
use Rattle.code_flow.specs.Flow.{planned_place, planned_in, planned}
use Rattle.code_flow.specs.Program.{HasNoConstruct, IsProgram}
use Rattle.code_flow.proofs.Soundness.{HasFreeCode, judged_is, free_code}
use Rattle.steps.specs.declared.configuration.State.{State}
use Rattle.machine.specs.Run.{IsRun}
use Rattle.well_formed.specs.WellFormed.{IsOfFiles}
use Rattle.run_places.specs.Standing.{CallsWithin, IsClosed, AllStand, HasInstructions}
use Rattle.run_places.proofs.Standing.{run_stands}
use Rattle.program_places.specs.Programs.{methods_of}

-- ---- the code of a method

method_of_code : (o : Option Method) (code : Code) → option_and_then (λ (method : Method). method.code) o ≡ Some code → (method : Method) × (o ≡ Some method) × (method.code ≡ Some code)
method_of_code None code e = absurd cc
method_of_code (Some method) code e = (method, refl, e)

-- what is known of its code, against which nothing stands
record IsFreeCode (w : World) (m : MemberId) (code : Code) : Type 0 where
  sound : IsSound code.bytes
  verdicts : (p : Placed) → Contains (placed code.bytes) p → (ts : List MemberId) × (judged w m.class code.bytes p ≡ Ok ts)

free_by : (w : World) (m : MemberId) (method : Method) (code : Code) → method.code ≡ Some code → HasFreeCode w m method → IsFreeCode w m code
free_by w m method code has free =
    let both : Some free.code ≡ Some code = sym free.own ∙ has in
    let same : free.code ≡ code = cc in
    subst (λ (c : Code). IsFreeCode w m c) same (record { sound = free.sound; verdicts = free.verdicts })

free_with : (w : World) (m : MemberId) (code : Code) → code_at w m ≡ Some code → HasNoConstruct w m → IsFreeCode w m code
free_with w m code has free =
    let split = method_of_code (method_at w m) code has in
    free_by w m split.0 code split.2 (free_code w m split.0 split.1 free)

-- ---- a method of a program

record IsOwn (w : World) (program : List Plan) (m : MemberId) : Type 0 where
  reached : Plan
  listed : Contains program reached
  of_method : reached.method ≡ m
  plan : reached ≡ planned w m

module _ {w : World} {first : MemberId} {program : List Plan} (is : IsProgram w first program) where
  own : (m : MemberId) → Contains (methods_of program) m → IsOwn w program m
  own m listed =
      let r = from_map (λ (x : Plan). x.method) program m listed in
      record { reached = r.0; listed = r.1; of_method = r.2; plan = is.own r.0 r.1 ∙ ap (λ (n : MemberId). planned w n) r.2 }

  free_in : (m : MemberId) (code : Code) → Contains (methods_of program) m → code_at w m ≡ Some code → IsFreeCode w m code
  free_in m code listed has =
      let r : IsOwn w program m = own m listed in
      free_with w m code has (subst (λ (n : MemberId). HasNoConstruct w n) r.of_method (is.free r.reached r.listed))

  instructions_own : (m : MemberId) (code : Code) → code_at w m ≡ Some code → (planned w m).instructions ≡ map (planned_place w m.class code.bytes) (placed code.bytes)
  unfolding planned
  instructions_own m code has = ap (planned_in w m.class) has

  calls_listed : (m : MemberId) (code : Code) (p : Placed) (ts : List MemberId) (t : MemberId) → Contains (methods_of program) m → code_at w m ≡ Some code → Contains (placed code.bytes) p → judged w m.class code.bytes p ≡ Ok ts
      → Contains ts t → Contains (methods_of program) t
  calls_listed m code p ts t listed has there verdict called =
      let r : IsOwn w program m = own m listed in
      let i : Planned = planned_place w m.class code.bytes p in
      let all : r.reached.instructions ≡ map (planned_place w m.class code.bytes) (placed code.bytes) = ap (λ (x : Plan). x.instructions) r.plan ∙ instructions_own m code has in
      let stands : Contains r.reached.instructions i = subst (λ (is : List Planned). Contains is i) (sym all) (in_map (planned_place w m.class code.bytes) (placed code.bytes) p there) in
      let among : Contains (targets_in (judged w m.class code.bytes p)) t = subst (λ (o : Result (List MemberId) Construct). Contains (targets_in o) t) (sym verdict) called in
      is.closed m t (record { caller = r.reached; listed = r.listed; is_caller = r.of_method; instruction = i; stands = stands; calls = among })

  calls_within : (m : MemberId) (code : Code) (p : Placed) → Contains (methods_of program) m → code_at w m ≡ Some code → Contains (placed code.bytes) p → CallsWithin w (methods_of program) m p
  calls_within m code p listed has there call i does =
      let verdict = (free_in m code listed has).verdicts p there in
      let past = judged_is w m.class code.bytes p verdict.0 verdict.1 in
      let means : called_by w m.class call (member_at (class_at w m.class).pool i) ≡ Ok verdict.0 = subst (λ (a : Action). meant w m.class (class_at w m.class).pool a ≡ Ok verdict.0) does past.1 in
      (verdict.0, means, λ t called. calls_listed m code p verdict.0 t listed has there verdict.1 called)

  closed_by : IsClosed w (methods_of program)
  closed_by = record { sound = λ m code listed has. (free_in m code listed has).sound; calls = calls_within }

pub closed : (w : World) (m : MemberId) (program : List Plan) → IsProgram w m program → IsClosed w (methods_of program)
closed w m program is = closed_by is

start_listed : (w : World) (m : MemberId) (program : List Plan) → slice_get program 0 ≡ Some (planned w m) → Contains (methods_of program) m
unfolding planned
start_listed w m program start = in_map (λ (r : Plan). r.method) program (planned w m) (contains_at program 0 (planned w m) start)

pub runs_stand_in : (w : World) (m : MemberId) (program : List Plan) (weights : ℕ → ℕ) (run : List State) (moment : ℕ) (now : State)
    → IsWellBuilt w → IsOfFiles w → IsProgram w m program → HasInstructions w m
    → IsRun w weights m run → slice_get run moment ≡ Some now → AllStand w (methods_of program) now
runs_stand_in w m program weights run moment now well files is some runs at =
    run_stands w (methods_of program) weights m run moment now well files (closed w m program is) (start_listed w m program is.start) some runs at
