-- In each configuration of a run all frames stand.
use Rattle.std.proofs.Common.{◌≡◌, ℕ, zero, suc, ◌+◌, ◌<◌, Bool, true, false, ◌&&◌, List, [], ◌∷◌, length, Option, Some, None, Result, Ok, Err, refl, sym, ◌∙◌, ap, subst, arith, Contains, nat_le, nat_lt}
use Rattle.std.specs.Prelude.{if◌then◌else◌, option_and_then, slice_get}
use Rattle.std.specs.List.{AllByRecursion}
use Rattle.std.proofs.lemmas.List.Elements.{All-from_recursion}
use Rattle.common_laws.proofs.Members.{contains_head, in_map}
use Rattle.class_pool.specs.Pool.{member_at}
use Rattle.class_reader.specs.declared.class.ClassRecord.{ClassRecord}
use Rattle.class_reader.specs.declared.class.Method.{Method}
use Rattle.class_reader.specs.declared.class.Code.{Code}
use Rattle.descriptors.specs.Pieces.{parameters_of}
use Rattle.descriptors.specs.Texts.{words_of_all}
use Rattle.op_table.specs.Actions.{action_of}
use Rattle.op_table.specs.Grammar.{instr_at}
use Rattle.op_table.specs.declared.instr.Instr.{Instr}
use Rattle.op_table.specs.declared.instr.OpFault.{OpFault}
use Rattle.op_table.specs.declared.acts.Action.{Action}
use Rattle.op_table.specs.declared.acts.Action.TheVariants as acts
use Rattle.op_table.specs.declared.acts.Call.{Call}
use Rattle.op_table.proofs.Agreeing.{instr-fits}
use Rattle.world.specs.declared.member.MemberId.{MemberId}
use Rattle.class_hierarchy.specs.World.{World, class_at}
use Rattle.class_hierarchy.specs.Building.{IsWellBuilt}
use Rattle.world.specs.Selection.{method_of}
use Rattle.linking.specs.Calls.{meant_by}
use Rattle.linking.specs.Methods.{code_at}
use Rattle.linking.proofs.Linked.{meant_runs}
use Rattle.code_blocks.specs.declared.instruction.Placed.{Placed}
use Rattle.code_blocks.specs.Placing.{placed, placed_from, broken_from}
use Rattle.code_blocks.specs.Successors.{goes_behind, successors_of, instruction_of, instructions_of}
use Rattle.code_blocks.specs.Blocks.{IsReached, at_start, onward}
use Rattle.code_blocks.specs.Laws.{IsSound}
use Rattle.code_blocks.proofs.Placings.{placed_next, broken_next}
use Rattle.code_blocks.proofs.Chains.{chained, chain_stands}
use Rattle.code_blocks.proofs.Sets.{closed}
use Rattle.frames.specs.declared.value.Value.{Value}
use Rattle.frames.specs.declared.frame.Frame.{Frame}
use Rattle.frames.specs.declared.here.Here.{Here}
use Rattle.frames.specs.Outcome.{Outcome, Goes, Enters, Leaves, Throws, Stops, with_words}
use Rattle.frames.specs.Standing.{Standing, standing_at}
use Rattle.steps.specs.declared.configuration.State.{State}
use Rattle.steps.specs.declared.configuration.Status.{Status}
use Rattle.steps.specs.declared.configuration.Status.TheVariants as statuses
use Rattle.steps.specs.declared.configuration.Event.TheVariants as events
use Rattle.steps.specs.Calling.{receiver_words, waiting, new_frame}
use Rattle.steps.specs.Step.{Step, outcome_of, weight_of, with_result, resumed, resumed_by, return_to, leave, settle, step_from, step_of}
use Rattle.steps.specs.Row as rows
use Rattle.steps.specs.Row.{Row, RowAt, Called}
use Rattle.steps.proofs.Dispatching.{dispatched_target}
use Rattle.steps.proofs.Rows.{outcome_is_row}
use Rattle.entries.specs.Entry.{words_of_values, IsEntry}
use Rattle.machine.specs.Run.{IsRun, Continues}
use Rattle.well_formed.specs.WellFormed.{IsWord, IsWellFormed, IsConfiguration, IsOfFiles}
use Rattle.well_formed.proofs.Words.{taken_all}
use Rattle.well_formed.proofs.Pushes.{IsRead, standing_read}
use Rattle.well_formed.proofs.Steps.{step_kept}
use Rattle.well_formed.proofs.Entered.{entry_well_formed}
use Rattle.run_places.specs.Standing.{IsClosed, Stands, Waits, AllStand, HasInstructions, place_of}
use Rattle.run_places.proofs.Leading.{LeadsOn, leads_on, behind_leads}
use Rattle.run_places.proofs.Receivers.{receiver_made}

-- ---- the beginning of code

first_placed : (n : ℕ) (code : List ℕ) (r : Result Instr OpFault) → 0 < length code → instr_at code 0 ≡ r → broken_from (suc n) code 0 ≡ None
    → (p : Placed) × Contains (placed_from (suc n) code 0) p × (p.pc ≡ 0)
first_placed n code (Ok i) some read whole =
    let p : Placed = record { pc = 0; instr = i } in
    (p, subst (λ (ps : List Placed). Contains ps p) (sym (placed_next n code 0 (Ok i) some read)) (contains_head p (placed_from n code (0 + i.len))), refl)
first_placed n code (Err fault) some read whole =
    let no : ◌≡◌ {A = Option ℕ} None (Some 0) = sym whole ∙ broken_next n code 0 (Err fault) some read in
    absurd cc

first_at : (n : ℕ) (code : List ℕ) → n ≡ length code → 0 < length code → broken_from n code 0 ≡ None → (p : Placed) × Contains (placed_from n code 0) p × (p.pc ≡ 0)
first_at zero code is some whole = absurd (omega arith)
first_at (suc n) code is some whole = first_placed n code (instr_at code 0) some refl whole

-- ---- a frame's instruction

some_same : {A : Type 0} (o : Option A) (a b : A) → o ≡ Some a → o ≡ Some b → a ≡ b
some_same o a b one other = let both : Some a ≡ Some b = sym one ∙ other in cc

-- the frame's code and its place in it
record IsAt (frame : Frame) (s : Standing) (code : Code) : Type 0 where
  code_is : code ≡ s.code
  there : Contains (placed s.code.bytes) (place_of frame s)
  reached : IsReached (instructions_of s.code.bytes) frame.pc

ok_same : (r : Result Instr OpFault) (i j : Instr) → r ≡ Ok i → r ≡ Ok j → i ≡ j
ok_same r i j one other = let both : Ok i ≡ Ok j = sym one ∙ other in cc

place_made : (a b : ℕ) (i j : Instr) → a ≡ b → i ≡ j → let one : Placed = record { pc = a; instr = i } in let other : Placed = record { pc = b; instr = j } in one ≡ other
place_made a b i j e f = rw e (rw f refl)

place_is : (frame : Frame) (s : Standing) (place : Placed) → place.pc ≡ frame.pc → place.instr ≡ s.instr → place ≡ place_of frame s
place_is frame s place pc instr = place_made place.pc frame.pc place.instr s.instr pc instr

module _ {w : World} {methods : List MemberId} (well : IsWellBuilt w) (files : IsOfFiles w) (all : IsClosed w methods) where
  stands_at : (frame : Frame) (s : Standing) → (is : Stands w methods frame) → standing_at w frame ≡ Some s → IsAt frame s is.code
  stands_at frame s is stands =
      let read : IsRead w frame s = standing_read w frame s stands in
      let code : is.code ≡ s.code = some_same (code_at w frame.method) is.code s.code is.has_code read.of_method in
      let at : instr_at is.code.bytes is.place.pc ≡ Ok is.place.instr = chain_stands is.code.bytes 0 (placed is.code.bytes) is.place (chained (length is.code.bytes) is.code.bytes 0) is.placed in
      let here : instr_at s.code.bytes frame.pc ≡ Ok is.place.instr = ap (λ (c : Code). instr_at c.bytes frame.pc) (sym code) ∙ ap (λ (pc : ℕ). instr_at is.code.bytes pc) (sym is.at) ∙ at in
      let instr : is.place.instr ≡ s.instr = ok_same (instr_at s.code.bytes frame.pc) is.place.instr s.instr here read.read in
      let place : is.place ≡ place_of frame s = place_is frame s is.place is.at instr in
      record {
        code_is = code;
        there = subst (λ (c : Code). Contains (placed c.bytes) (place_of frame s)) code (subst (λ (p : Placed). Contains (placed is.code.bytes) p) place is.placed);
        reached = subst (λ (c : Code). IsReached (instructions_of c.bytes) frame.pc) code is.reached;
      }

  -- a frame of the same method at a successor
  next_stands : (before now : Frame) (s : Standing) → Stands w methods before → standing_at w before ≡ Some s → now.method ≡ before.method → Contains (successors_of s.code.bytes (place_of before s)) now.pc → Stands w methods now
  next_stands before now s is stands method leads =
      let at : IsAt before s is.code = stands_at before s is stands in
      let has : code_at w before.method ≡ Some s.code = (standing_read w before s stands).of_method in
      let sound : IsSound s.code.bytes = all.sound before.method s.code is.listed has in
      let next = closed instr-fits s.code.bytes (place_of before s) now.pc sound at.there leads in
      record {
        listed = subst (λ (m : MemberId). Contains methods m) (sym method) is.listed;
        code = s.code;
        has_code = ap (code_at w) method ∙ has;
        place = next.0;
        placed = next.1;
        at = next.2;
        reached = onward (instruction_of s.code.bytes (place_of before s)) (in_map (instruction_of s.code.bytes) (placed s.code.bytes) (place_of before s) at.there) at.reached leads;
      }

  -- a frame at the beginning of a listed method
  first_stands : (m : MemberId) (code : Code) (words : List Value) → Contains methods m → code_at w m ≡ Some code → 0 < length code.bytes → Stands w methods (new_frame m code words)
  first_stands m code words listed has some =
      let sound : IsSound code.bytes = all.sound m code listed has in
      let first = first_at (length code.bytes) code.bytes refl some sound.whole in
      record { listed = listed; code = code; has_code = has; place = first.0; placed = first.1; at = first.2; reached = at_start }

  -- ---- calls

  waiting_stands : (a : Here) (rest : List Value) (s : Standing) → standing_at w (waiting a rest) ≡ Some s → standing_at w a.frame ≡ Some s
  unfolding standing_at
  waiting_stands a rest s stands = stands

  caller_waits : (a : Here) (rest : List Value) (s : Standing) (call : Call) (i : ℕ) → Stands w methods a.frame → standing_at w a.frame ≡ Some s → action_of s.instr ≡ acts.Call call i → Waits w methods (waiting a rest)
  caller_waits a rest s call i is stands acts = record {
    stands = record { listed = is.listed; code = is.code; has_code = is.has_code; place = is.place; placed = is.placed; at = is.at; reached = is.reached };
    at_call = λ t other.
        let same : s ≡ t = some_same (standing_at w a.frame) s t stands (waiting_stands a rest t other) in
        (call, i, ap (λ (x : Standing). action_of x.instr) (sym same) ∙ acts);
  }

  callee_stands : (a : Here) (s : Standing) (call : Call) (i : ℕ) (caller callee : Frame) → IsWellFormed w a → Stands w methods a.frame → standing_at w a.frame ≡ Some s → action_of s.instr ≡ acts.Call call i
      → Called w s a call i caller callee → Waits w methods caller × Stands w methods callee
  callee_stands a s call i caller callee formed is stands acts called =
      let read : IsRead w a.frame s = standing_read w a.frame s stands in
      let at : IsAt a.frame s is.code = stands_at a.frame s is stands in
      let within = all.calls a.frame.method s.code (place_of a.frame s) is.listed read.of_method at.there call i acts in
      let means : meant_by w call (member_at (class_at w a.frame.method.class).pool i) ≡ Ok called.taken.meant =
      subst (λ (c : ClassRecord). meant_by w call (member_at c.pool i) ≡ Ok called.taken.meant) read.of_class called.taken.means
      in
      let runs = meant_runs w a.frame.method.class call (member_at (class_at w a.frame.method.class).pool i) called.taken.meant within.0 means within.1 in
      let words = (taken_all (IsWord w a.heap) tt (receiver_words call + words_of_all (parameters_of (method_of w called.taken.meant.method).desc)) a.frame.stack called.taken.handed called.taken.takes
      (All-from_recursion (IsWord w a.heap) a.frame.stack formed.frame.stack)).0
      in
      let listed : Contains methods called.target = within.2 called.target
      (dispatched_target w a.heap a.frame.method.class called.taken.meant within.0 called.dispatches well (receiver_made w a.heap called.taken.handed.words words) runs) in (
        subst (λ (f : Frame). Waits w methods f) (sym called.waits) (caller_waits a called.taken.handed.rest s call i is stands acts),
        subst (λ (f : Frame). Stands w methods f) (sym called.enters) (first_stands called.target called.code called.taken.handed.words listed called.has_code called.begins),
      )

  row_enters : (a : Here) (s : Standing) (caller callee : Frame) {action : Action} {o : Outcome} → IsWellFormed w a → Stands w methods a.frame → standing_at w a.frame ≡ Some s → action_of s.instr ≡ action
      → Row w s a action o → o ≡ Enters caller callee → Waits w methods caller × Stands w methods callee
  row_enters a s caller callee formed is stands acts (rows.computes c room) e = absurd cc
  row_enters a s caller callee formed is stands acts (rows.jumps j to room) e = absurd cc
  row_enters a s caller callee formed is stands acts (rows.arrays c room) e = absurd cc
  row_enters a s caller callee formed is stands acts (rows.fields c room) e = absurd cc
  row_enters a s caller callee formed is stands acts (rows.casts c room) e = absurd cc
  row_enters a s caller callee formed is stands acts (rows.creates means room) e = absurd cc
  row_enters a s caller callee formed is stands acts (rows.arrays_throw t) e = absurd cc
  row_enters a s caller callee formed is stands acts (rows.fields_throw t) e = absurd cc
  row_enters a s caller callee formed is stands acts (rows.casts_throw t) e = absurd cc
  row_enters a s caller callee formed is stands acts (rows.enters {call = call} {i = i} {caller = one} {callee = other} called) e =
      let first : one ≡ caller = cc in
      let second : other ≡ callee = cc in
      callee_stands a s call i caller callee formed is stands acts
      (subst (λ (f : Frame). Called w s a call i f callee) first (subst (λ (f : Frame). Called w s a call i one f) second called))
  row_enters a s caller callee formed is stands acts (rows.null_receiver called) e = absurd cc
  row_enters a s caller callee formed is stands acts (rows.returns top typed) e = absurd cc
  row_enters a s caller callee formed is stands acts (rows.returns_nothing r) e = absurd cc
  row_enters a s caller callee formed is stands acts (rows.divides by) e = absurd cc
  row_enters a s caller callee formed is stands acts (rows.null_thrown r) e = absurd cc
  row_enters a s caller callee formed is stands acts (rows.given r) e = absurd cc
  row_enters a s caller callee formed is stands acts rows.stops e = absurd cc

  -- ---- returns

  resumes_if : (caller frame : Frame) (stack : List Value) (s : Standing) (fits : Bool) → (if fits then Some (with_words caller (caller.pc + s.instr.len) caller.locals stack) else None) ≡ Some frame
      → with_words caller (caller.pc + s.instr.len) caller.locals stack ≡ frame
  resumes_if caller frame stack s true e = cc
  resumes_if caller frame stack s false e = absurd cc

  resumes_at : (caller frame : Frame) (stack : List Value) (o : Option Standing) → standing_at w caller ≡ o → Waits w methods caller → option_and_then (resumed_by caller stack) o ≡ Some frame → Stands w methods frame
  resumes_at caller frame stack None stands is e = absurd cc
  resumes_at caller frame stack (Some s) stands is e =
      let now : with_words caller (caller.pc + s.instr.len) caller.locals stack ≡ frame =
      resumes_if caller frame stack s (nat_le (length stack) s.code.max_stack && nat_lt (caller.pc + s.instr.len) (length s.code.bytes)) e
      in
      let call = is.at_call s stands in
      let behind : goes_behind (action_of s.instr) ≡ true = ap goes_behind call.2 in
      subst (λ (f : Frame). Stands w methods f) now
      (next_stands caller (with_words caller (caller.pc + s.instr.len) caller.locals stack) s is.stands stands refl (behind_leads s.code.bytes (place_of caller s) behind))

  resumes : (caller frame : Frame) (value : Option Value) → Waits w methods caller → resumed w caller value ≡ Some frame → Stands w methods frame
  unfolding resumed
  resumes caller frame value is e = resumes_at caller frame (with_result value caller.stack) (standing_at w caller) refl is e

  returned : (weight : ℕ) (before : State) (callers : List Frame) (o : Option Frame) → AllStand w methods before → AllByRecursion (Waits w methods) callers → ((frame : Frame) → o ≡ Some frame → Stands w methods frame)
      → AllStand w methods (return_to weight before callers o).1
  returned weight before callers None is waits each = record { here = is.here; callers = is.callers }
  returned weight before callers (Some frame) is waits each = record { here = each frame refl; callers = waits }

  left : (weight : ℕ) (before : State) (value : Option Value) (callers : List Frame) → AllStand w methods before → AllByRecursion (Waits w methods) callers → AllStand w methods (leave w weight before value callers).1
  left weight before value [] is waits = record { here = is.here; callers = is.callers }
  left weight before value (caller ∷ callers) is waits =
      returned weight before callers (resumed w caller value) is waits.1 (λ frame e. resumes caller frame value waits.0 e)

  -- ---- a step

  at_goes : {a : Here} {o : Outcome} (now : Here) (wraps : Bool) → Stands w methods a.frame → RowAt w a o → outcome_of w a ≡ o → o ≡ Goes wraps now → Stands w methods now.frame
  at_goes now wraps is (rows.nowhere none) made e = absurd cc
  at_goes {a = a} now wraps is (rows.stands s stands row) made e =
      let on : LeadsOn s a now = leads_on w s a now wraps stands (made ∙ e) in
      next_stands a.frame now.frame s is stands on.method on.successor

  at_enters : {a : Here} {o : Outcome} (caller callee : Frame) → IsWellFormed w a → Stands w methods a.frame → RowAt w a o → o ≡ Enters caller callee → Waits w methods caller × Stands w methods callee
  at_enters caller callee formed is (rows.nowhere none) e = absurd cc
  at_enters {a = a} caller callee formed is (rows.stands s stands row) e = row_enters a s caller callee formed is stands refl row e

  settled : (weight : ℕ) (before : State) (outcome : Outcome) → IsWellFormed w before.here → AllStand w methods before → outcome_of w before.here ≡ outcome → AllStand w methods (settle w weight before outcome).1
  settled weight before (Goes false now) formed is made =
      record { here = at_goes now false is.here (outcome_is_row w before.here) refl made; callers = is.callers }
  settled weight before (Goes true now) formed is made =
      record { here = at_goes now true is.here (outcome_is_row w before.here) refl made; callers = is.callers }
  settled weight before (Enters caller callee) formed is made =
      let both = at_enters caller callee formed is.here (outcome_is_row w before.here) made in
      record { here = both.1; callers = (both.0, is.callers) }
  settled weight before (Leaves value) formed is made = left weight before value before.callers is is.callers
  settled weight before (Throws what) formed is made = record { here = is.here; callers = is.callers }
  settled weight before (Stops k) formed is made = record { here = is.here; callers = is.callers }

  running_step : (weights : ℕ → ℕ) (before : State) → before.status ≡ statuses.Running
      → step_of w weights before ≡ settle w (weight_of weights (standing_at w before.here.frame)) before (outcome_of w before.here)
  unfolding step_of
  running_step weights before runs = ap (λ (status : Status). step_from status w weights before) runs

  -- a step keeps that all frames stand
  pub step_stands : (weights : ℕ → ℕ) (before now : State) → IsConfiguration w before → AllStand w methods before → Step w weights before now → AllStand w methods now
  step_stands weights before now formed is step =
      let weight : ℕ = weight_of weights (standing_at w before.here.frame) in
      let made : (settle w weight before (outcome_of w before.here)).1 ≡ now = sym (step.made ∙ ap (λ (p : events.the_data × State). p.1) (running_step weights before step.runs)) in
      subst (λ (s : State). AllStand w methods s) made (settled weight before (outcome_of w before.here) formed.here is refl)

  -- ---- runs

  pub entry_stands : (m : MemberId) (first : State) → Contains methods m → HasInstructions w m → IsEntry w m first → AllStand w methods first
  entry_stands m first listed some is =
      let has : code_at w m ≡ Some is.code = ap (option_and_then (λ (method : Method). method.code)) is.declared ∙ is.has_code in
      subst (λ (s : State). AllStand w methods s) (sym is.entered)
      (record { here = first_stands m is.code (words_of_values is.arguments) listed has (some is.code has); callers = tt })

  later_stands : (weights : ℕ → ℕ) (before : State) (later : List State) (moment : ℕ) (now : State) → IsConfiguration w before → AllStand w methods before → Continues w weights before later
      → slice_get (before ∷ later) moment ≡ Some now → AllStand w methods now
  later_stands weights before later zero now formed is goes at =
      let same : before ≡ now = cc in
      subst (λ (s : State). AllStand w methods s) same is
  later_stands weights before [] (suc moment) now formed is goes at = absurd (cc)
  later_stands weights before (next ∷ later) (suc moment) now formed is goes at =
      later_stands weights next later moment now (step_kept w weights before next well files formed goes.0) (step_stands weights before next formed is goes.0) goes.1 at

pub run_stands : (w : World) (methods : List MemberId) (weights : ℕ → ℕ) (m : MemberId) (run : List State) (moment : ℕ) (now : State)
    → IsWellBuilt w → IsOfFiles w → IsClosed w methods → Contains methods m → HasInstructions w m
    → IsRun w weights m run → slice_get run moment ≡ Some now → AllStand w methods now
run_stands w methods weights m [] moment now well files all listed some runs at = absurd runs
run_stands w methods weights m (first ∷ later) moment now well files all listed some runs at =
    later_stands well files all weights first later moment now (entry_well_formed w m first runs.0) (entry_stands well files all m first listed some runs.0) runs.1 at

pub steps_stand : (w : World) (methods : List MemberId) (weights : ℕ → ℕ) (before now : State)
    → IsWellBuilt w → IsOfFiles w → IsClosed w methods → IsConfiguration w before → AllStand w methods before → Step w weights before now → AllStand w methods now
steps_stand w methods weights before now well files all formed is step = step_stands well files all weights before now formed is step
