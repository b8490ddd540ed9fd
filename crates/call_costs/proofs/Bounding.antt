-- At each moment a run of a program's method has spent at most the method's cost.
use Rattle.std.proofs.Common.{◌≡◌, inl, inr, ℕ, ◌+◌, ◌<◌, ◌≤◌, false, List, [], ◌∷◌, length, Option, Some, None, Result, Ok, Err, refl, ◌∙◌, ap, arith, eq-zero-or-pos}
use Rattle.std.specs.Prelude.{option_and_then, option_map, slice_get}
use Rattle.std.specs.Result.{result_ok}
use Rattle.class_reader.specs.declared.class.Method.{Method}
use Rattle.class_reader.specs.declared.class.Code.{Code}
use Rattle.op_table.specs.Grammar.{instr_at}
use Rattle.op_table.specs.declared.instr.Instr.{Instr}
use Rattle.op_table.specs.declared.instr.OpFault.{OpFault}
use Rattle.op_table.proofs.Agreeing.{instr-fits}
use Rattle.world.specs.declared.member.MemberId.{MemberId}
use Rattle.class_hierarchy.specs.World.{World}
use Rattle.class_hierarchy.specs.Building.{IsWellBuilt}
use Rattle.nested_runs.specs.Spending.{IsClosed}
use Rattle.nested_runs.proofs.Spent.{closed_where, nest_spends}
use Rattle.frames.specs.declared.frame.Frame.{Frame}
use Rattle.frames.specs.declared.here.Here.{Here}
use Rattle.steps.specs.declared.configuration.State.{State}
use Rattle.steps.specs.declared.configuration.Status.{Status}
use Rattle.steps.specs.declared.configuration.Status.TheVariants as statuses
use Rattle.frames.specs.declared.failure.Stop.TheVariants.{Support}
use Rattle.frames.specs.Outcome.{Stops}
use Rattle.linking.specs.Methods.{method_at, code_at}
use Rattle.frames.specs.Standing.{standing_on, standing_in, standing_of, standing_at}
use Rattle.steps.specs.Step.{outcome_on, outcome_of, weight_of}
use Rattle.entries.specs.Entry.{IsEntry}
use Rattle.machine.specs.Run.{IsRun, CostsAtMost}
use Rattle.machine.specs.Moment as moments
use Rattle.machine.specs.Moment.{End, Moves, Starts, Ends, IsSpent, Moment, activations}
use Rattle.machine.proofs.Moments.{at_moment}
use Rattle.code_flow.specs.Plans.{Plan}
use Rattle.code_flow.specs.Program.{IsProgram}
use Rattle.call_costs.specs.Costs.{cost_of}
use Rattle.call_costs.proofs.Standing.{Since, standing_kept}
use Rattle.call_costs.proofs.Spending.{left, start_left, pays_here, costs_closed}
use Rattle.call_costs.proofs.Entering.{program_listed, entry_code, entry_stands}

-- what is spent is at most the nest's cost and that of one instruction more
spent_by : (w : World) (weights : ℕ → ℕ) (waiting : List Here) (cost : ℕ) (now : State) (status : Status) → IsSpent w weights waiting cost now status
    → now.spent ≤ cost + moments.cost_of w weights now.here
spent_by w weights waiting cost now statuses.Running is = omega (arith, is)
spent_by w weights waiting cost now statuses.Ended is = omega (arith, is.2)
spent_by w weights waiting cost now (statuses.Thrown k) is = omega (arith, is.1)
spent_by w weights waiting cost now (statuses.Stopped k) is = omega (arith, is)

-- ---- a method with instructions

entry_left : (w : World) (weights : ℕ → ℕ) (m : MemberId) (program : List Plan) (first : State) → IsProgram w m program → (e : IsEntry w m first)
    → left weights program w first.here ≡ cost_of weights program m
unfolding left
entry_left w weights m program first is e =
    ap (λ (s : State). left weights program w s.here) e.entered
    ∙ start_left weights program w m m e.code is (program_listed w m program is) (entry_code w m first e)

moment_bounded : (w : World) (m : MemberId) (program : List Plan) (weights : ℕ → ℕ) (first now : State) → IsWellBuilt w → IsProgram w m program
    → (e : IsEntry w m first) → 0 < length e.code.bytes → Moment w weights false first now → now.spent ≤ cost_of weights program m
moment_bounded w m program weights first now well is e some moment =
    let stands = entry_stands w m program first is e some in
    let begun : Since w program first.here first.here = record { stands = stands; grows = λ r c fields at. inl at } in
    let closed = closed_where (standing_kept weights well is) (costs_closed weights well is) in
    let whole = nest_spends closed moment.nest (λ start since. pays_here weights well is since.stands) first.here begun in
    omega (arith, whole, spent_by w weights moment.waiting moment.cost now now.status moment.spent, entry_left w weights m program first is e)

-- ---- a method without: its run stops at once

no_instr : (code : List ℕ) (pc : ℕ) (r : Result Instr OpFault) → length code ≤ pc → instr_at code pc ≡ r → (fault : OpFault) × (r ≡ Err fault)
no_instr code pc (Err fault) past is = (fault, refl)
no_instr code pc (Ok i) past is = let fits = instr-fits code pc i is in absurd (omega (arith, fits.0, fits.1))

nothing_by : (w : World) (frame : Frame) (o : Option Method) (code : Code) (fault : OpFault) → option_and_then (λ (method : Method). method.code) o ≡ Some code → instr_at code.bytes frame.pc ≡ Err fault
    → option_and_then (standing_of w frame) o ≡ None
nothing_by w frame None code fault has is = refl
nothing_by w frame (Some method) code fault has is =
    ap (option_and_then (standing_in w frame method)) has ∙ ap (λ (r : Result Instr OpFault). option_map (standing_on w frame method code) (result_ok r)) is

nothing_stands : (w : World) (frame : Frame) (code : Code) → code_at w frame.method ≡ Some code → length code.bytes ≤ frame.pc → standing_at w frame ≡ None
unfolding standing_at
nothing_stands w frame code has past =
    let none = no_instr code.bytes frame.pc (instr_at code.bytes frame.pc) past refl in
    nothing_by w frame (method_at w frame.method) code none.0 has none.1

stops_there : (w : World) (a : Here) → standing_at w a.frame ≡ None → outcome_of w a ≡ Stops Support
unfolding outcome_of
stops_there w a none = ap (outcome_on w a) none

no_move : (w : World) (weights : ℕ → ℕ) (a b : Here) (k : ℕ) → standing_at w a.frame ≡ None → Moves w weights false a k b → ⊥
no_move w weights a b k none m =
    let stops = stops_there w a none in
    let makes = m.makes in
    absurd cc

no_start : (w : World) (weights : ℕ → ℕ) (a b : Here) (k : ℕ) → standing_at w a.frame ≡ None → Starts w weights a k b → ⊥
no_start w weights a b k none st =
    let stops = stops_there w a none in
    let makes = st.makes in
    absurd cc

no_end : (w : World) (weights : ℕ → ℕ) (a : Here) (e : End) (k : ℕ) → standing_at w a.frame ≡ None → Ends w weights a k e → ⊥
no_end w weights a e k none en =
    let stops = stops_there w a none in
    let makes = en.makes in
    absurd cc

stopped_closed : (w : World) (weights : ℕ → ℕ)
    → IsClosed (activations w weights false) (λ a c e. standing_at w a.frame ≡ None → ⊥) (λ a c. standing_at w a.frame ≡ None → c ≡ 0)
stopped_closed w weights = record {
  spends_nothing = λ a none. refl;
  spends_move = λ m spent none. absurd (no_move w weights _ _ _ none m);
  spends_start = λ st spent none. absurd (no_start w weights _ _ _ none st);
  spends_call = λ st passed re spent none. absurd (no_start w weights _ _ _ none st);
  passes_move = λ m passed none. no_move w weights _ _ _ none m;
  passes_call = λ st passed re behind none. no_start w weights _ _ _ none st;
  passes_end = λ en none. no_end w weights _ _ _ none en;
}

moment_stopped : (w : World) (m : MemberId) (weights : ℕ → ℕ) (first now : State) → (e : IsEntry w m first) → length e.code.bytes ≡ 0 → Moment w weights false first now → now.spent ≡ 0
moment_stopped w m weights first now e nothing moment =
    let none : standing_at w first.here.frame ≡ None =
    ap (λ (s : State). standing_at w s.here.frame) e.entered ∙ nothing_stands w _ e.code (entry_code w m first e) (omega (arith, nothing))
    in
    let all = nest_spends (stopped_closed w weights) moment.nest (λ (no : standing_at w now.here.frame ≡ None). ap (weight_of weights) no) none in
    omega (arith, all, spent_by w weights moment.waiting moment.cost now now.status moment.spent)

-- ---- each moment

run_bounded : (w : World) (m : MemberId) (program : List Plan) (weights : ℕ → ℕ) (run : List State) (moment : ℕ) (now : State) → IsWellBuilt w → IsProgram w m program
    → IsRun w weights m run → slice_get run moment ≡ Some now → now.spent ≤ cost_of weights program m
run_bounded w m program weights [] moment now well is runs at = absurd runs
run_bounded w m program weights (first ∷ later) moment now well is runs at =
    let e = runs.0 in
    let here = at_moment w weights false m first later runs moment now at tt in
    elim (eq-zero-or-pos (length e.code.bytes)) [
      | inl nothing ↦ omega (arith, moment_stopped w m weights first now e nothing here)
      | inr some ↦ moment_bounded w m program weights first now well is e some here
    ]

pub runs_bounded : (w : World) (m : MemberId) (program : List Plan) (weights : ℕ → ℕ) → IsWellBuilt w → IsProgram w m program → CostsAtMost w weights m (cost_of weights program m)
runs_bounded w m program weights well is = record { spent = λ run runs moment now at unwrapped. run_bounded w m program weights run moment now well is runs at }
