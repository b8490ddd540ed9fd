-- Each step of an activation of a program's method keeps that it stands in the program.
use Rattle.std.proofs.Common.{◌≡◌, ℕ, ◌+◌, ◌<◌, ℤ, Bool, true, false, ◌&&◌, List, ◌∷◌, length, Option, Some, None, refl, sym, ◌∙◌, ap, subst, Contains, nat_le, nat_lt}
use Rattle.std.specs.Prelude.{if◌then◌else◌, option_and_then}
use Rattle.std.proofs.lemmas.Bool.{ltb-true}
use Rattle.std.proofs.lemmas.List.Elements.{All-nil, All-cons}
use Rattle.class_pool.specs.declared.constant.Constant.{Constant}
use Rattle.class_pool.specs.Pool.{class_name_at}
use Rattle.op_table.specs.Actions.{action_of}
use Rattle.op_table.specs.declared.acts.Action.{Action}
use Rattle.op_table.specs.declared.acts.Action.TheVariants as acts
use Rattle.op_table.specs.declared.acts.Call.{Call}
use Rattle.world.specs.declared.member.MemberId.{MemberId}
use Rattle.class_hierarchy.specs.World.{World}
use Rattle.class_hierarchy.specs.Building.{IsWellBuilt}
use Rattle.world.specs.Selection.{method_of}
use Rattle.linking.proofs.Made.{made_there}
use Rattle.nested_runs.specs.Keeping.{Keeps}
use Rattle.frames.specs.declared.value.Value.{Value}
use Rattle.frames.specs.declared.value.Value.TheVariants.{Ref}
use Rattle.frames.specs.declared.heap.Cell.TheVariants.{Object}
use Rattle.frames.specs.declared.frame.Frame.{Frame}
use Rattle.frames.specs.declared.here.Here.{Here}
use Rattle.frames.specs.Heap.{Cells, free_number, with_cell, new_fields}
use Rattle.descriptors.specs.Pieces.{parameters_of, result_of}
use Rattle.descriptors.specs.Texts.{words_of_all}
use Rattle.frames.specs.Outcome.{Outcome, Goes, Enters, Leaves, in_frame, with_words, moved}
use Rattle.frames.specs.Standing.{Standing, next_pc, standing_on, standing_at}
use Rattle.word_steps.specs.Narrowing.{narrowed_to}
use Rattle.steps.specs.Calling.{receiver_words, waiting, new_frame}
use Rattle.steps.specs.Step.{outcome_of, resumed, resumed_by, with_result}
use Rattle.machine.specs.Moment.{End, Moves, Starts, Ends, Resumes, activations}
use Rattle.steps.specs.Row as rows
use Rattle.word_steps.specs.Computed as computed
use Rattle.word_steps.specs.Computed.{Computed}
use Rattle.word_steps.specs.Branches as ways
use Rattle.word_steps.specs.Branches.{Jumps}
use Rattle.object_steps.specs.After.{After}
use Rattle.object_steps.specs.ArrayCases as arrays
use Rattle.object_steps.specs.ArrayCases.{ArrayChange}
use Rattle.object_steps.specs.FieldCases as fields
use Rattle.object_steps.specs.FieldCases.{FieldChange}
use Rattle.object_steps.specs.CastCases as casts
use Rattle.object_steps.specs.CastCases.{CastChange}
use Rattle.steps.specs.Row.{Row, Called}
use Rattle.code_flow.specs.Plans.{Plan}
use Rattle.code_flow.specs.Judging.{is_end, shown}
use Rattle.code_flow.specs.Program.{IsProgram}
use Rattle.call_costs.proofs.Placing.{path_start, path_next}
use Rattle.call_costs.proofs.Words.{IsMade, IsKnown, AreKnown, pushed_known, popped_known, taken_known, first_known, narrowed_known, computed_known}
use Rattle.call_costs.proofs.Heaps.{Grows, grows_self, grows_on, known_later, grows_new, new_known}
use Rattle.steps.proofs.Dispatching.{dispatched_target}
use Rattle.call_costs.proofs.Targets.{receiver_made, call_runs, shows_none}
use Rattle.call_costs.proofs.Activations.{IsListed, IsStanding, code_whole, current_of, current_calls}

-- ---- a step that goes on in its frame

-- behind an instruction that isn't the last of its method stands another one
pub record GoesOn (w : World) (s : Standing) (a b : Here) (action : Action) : Type 0 where
  pub locals : List Value
  pub stack : List Value
  pub heap : Cells
  pub now : b ≡ moved s a locals stack heap
  pub inside : next_pc s a < length s.code.bytes
  pub no_end : is_end action ≡ false
  pub grows : Grows w a.heap heap
  pub known : AreKnown w a.heap a.frame.locals → AreKnown w a.heap a.frame.stack → AreKnown w heap locals × AreKnown w heap stack

computed_goes_on : {pool : List (Option Constant)} {locals stack now after : List Value} {action : Action} {wrapping : Bool} → Computed pool locals stack action wrapping now after → is_end action ≡ false
computed_goes_on computed.nothing = refl
computed_goes_on computed.null = refl
computed_goes_on computed.int = refl
computed_goes_on computed.long = refl
computed_goes_on (computed.int_constant is) = refl
computed_goes_on (computed.long_constant is) = refl
computed_goes_on (computed.load is) = refl
computed_goes_on (computed.store is to) = refl
computed_goes_on (computed.shuffle is) = refl
computed_goes_on (computed.arithmetic is whole) = refl
computed_goes_on (computed.negate is) = refl
computed_goes_on (computed.shift is) = refl
computed_goes_on (computed.logic is) = refl
computed_goes_on (computed.increment is) = refl
computed_goes_on (computed.int_to_long is) = refl
computed_goes_on (computed.long_to_int is) = refl
computed_goes_on (computed.narrow is) = refl
computed_goes_on (computed.compare is) = refl

-- no jump stands in a program
no_jump : {code : List ℕ} {pc len : ℕ} {stack rest : List Value} {action : Action} {far : ℤ} (pool : List (Option Constant))
    → Jumps code pc len stack action far rest → shown pool action ≡ None → ⊥
no_jump pool (ways.if_zero is by) none = cc
no_jump pool (ways.if_ints is by) none = cc
no_jump pool (ways.if_same is by) none = cc
no_jump pool (ways.if_null is by) none = cc
no_jump pool ways.goto none = cc
no_jump pool (ways.switch is by) none = cc

-- nor does an instruction on arrays, fields or what a reference is an instance of
no_array : {w : World} {s : Standing} {at : Here} {action : Action} {a : After} (pool : List (Option Constant)) → ArrayChange w s at action a → shown pool action ≡ None → ⊥
no_array pool (arrays.loads a1 a2 a3 a4) none = cc
no_array pool (arrays.stores a1 a2 a3 a4 a5) none = cc
no_array pool (arrays.length_read a1 a2 a3 a4) none = cc
no_array pool (arrays.makes a1 a2 a3) none = cc
no_array pool (arrays.makes_references a1 a2 a3 a4) none = cc

no_field : {w : World} {s : Standing} {at : Here} {action : Action} {a : After} (pool : List (Option Constant)) → FieldChange w s at action a → shown pool action ≡ None → ⊥
no_field pool (fields.gets a1 a2 a3 a4) none = cc
no_field pool (fields.puts a1 a2 a3 a4 a5) none = cc
no_field pool (fields.gets_static a1 a2) none = cc
no_field pool (fields.puts_static a1 a2 a3) none = cc

no_cast : {w : World} {s : Standing} {at : Here} {action : Action} {a : After} (pool : List (Option Constant)) → CastChange w s at action a → shown pool action ≡ None → ⊥
no_cast pool (casts.null_passes a1 a2 a3) none = cc
no_cast pool (casts.passes a1 a2 a3 a4) none = cc
no_cast pool (casts.null_is_none a1 a2 a3) none = cc
no_cast pool (casts.is_one a1 a2 a3 a4) none = cc
no_cast pool (casts.is_none a1 a2 a3 a4) none = cc

pub goes_on : (w : World) (s : Standing) (a b : Here) (wraps : Bool) {action : Action} {o : Outcome} → Row w s a action o → shown s.class.pool action ≡ None
    → o ≡ Goes wraps b → GoesOn w s a b action
goes_on w s a b wraps (rows.computes {locals = locals} {stack = stack} c room) none e = record {
  locals = locals;
  stack = stack;
  heap = a.heap;
  now = let same : moved s a locals stack a.heap ≡ b = cc in sym same;
  inside = room.inside;
  no_end = computed_goes_on c;
  grows = grows_self w a.heap;
  known = λ l k. computed_known w a.heap c l k;
}
goes_on w s a b wraps (rows.jumps is to room) none e = absurd (no_jump s.class.pool is none)
goes_on w s a b wraps (rows.arrays is room) none e = absurd (no_array s.class.pool is none)
goes_on w s a b wraps (rows.fields is room) none e = absurd (no_field s.class.pool is none)
goes_on w s a b wraps (rows.casts is room) none e = absurd (no_cast s.class.pool is none)
goes_on w s a b wraps (rows.creates {i = i} {c = c} means room) none e =
    let stack = Ref (free_number a.heap) ∷ a.frame.stack in
    let heap = with_cell (Object c (new_fields w c)) a.heap in
    let is_made : IsMade w c = made_there w (class_name_at s.class.pool i) c means in
    let grows = grows_new w a.heap c (new_fields w c) is_made in
    record {
      locals = a.frame.locals;
      stack = stack;
      heap = heap;
      now = let same : moved s a a.frame.locals stack heap ≡ b = cc in sym same;
      inside = room.inside;
      no_end = refl;
      grows = grows;
      known = λ l k. (
        known_later w a.heap heap a.frame.locals grows l,
        All-cons (IsKnown w heap) (Ref (free_number a.heap)) a.frame.stack (new_known w a.heap c (new_fields w c) is_made) (known_later w a.heap heap a.frame.stack grows k),
      );
    }
goes_on w s a b wraps (rows.arrays_throw is) none e = absurd cc
goes_on w s a b wraps (rows.fields_throw is) none e = absurd cc
goes_on w s a b wraps (rows.casts_throw is) none e = absurd cc
goes_on w s a b wraps (rows.enters called) none e = absurd cc
goes_on w s a b wraps (rows.null_receiver called) none e = absurd cc
goes_on w s a b wraps (rows.returns is typed) none e = absurd cc
goes_on w s a b wraps (rows.returns_nothing is) none e = absurd cc
goes_on w s a b wraps (rows.divides by) none e = absurd cc
goes_on w s a b wraps (rows.null_thrown is) none e = absurd cc
goes_on w s a b wraps (rows.given is) none e = absurd cc
goes_on w s a b wraps rows.stops none e = absurd cc

-- ---- a step that calls, and one that returns

pub record Calls (w : World) (s : Standing) (a : Here) (action : Action) (caller callee : Frame) : Type 0 where
  pub call : Call
  pub index : ℕ
  pub is : action ≡ acts.Call call index
  pub called : Called w s a call index caller callee

pub enters_by : (w : World) (s : Standing) (a : Here) (caller callee : Frame) {action : Action} {o : Outcome} → Row w s a action o → o ≡ Enters caller callee → Calls w s a action caller callee
enters_by w s a caller callee (rows.computes c room) e = absurd cc
enters_by w s a caller callee (rows.creates means room) e = absurd cc
enters_by w s a caller callee (rows.jumps is to room) e = absurd cc
enters_by w s a caller callee (rows.arrays is room) e = absurd cc
enters_by w s a caller callee (rows.fields is room) e = absurd cc
enters_by w s a caller callee (rows.casts is room) e = absurd cc
enters_by w s a caller callee (rows.arrays_throw is) e = absurd cc
enters_by w s a caller callee (rows.fields_throw is) e = absurd cc
enters_by w s a caller callee (rows.casts_throw is) e = absurd cc
enters_by w s a caller callee (rows.enters {call = call} {i = i} {caller = one} {callee = other} called) e =
    let first : one ≡ caller = cc in
    let second : other ≡ callee = cc in
    record {
      call = call;
      index = i;
      is = refl;
      called = subst (λ (f : Frame). Called w s a call i f callee) first (subst (λ (f : Frame). Called w s a call i one f) second called);
    }
enters_by w s a caller callee (rows.returns is typed) e = absurd cc
enters_by w s a caller callee (rows.returns_nothing is) e = absurd cc
enters_by w s a caller callee (rows.divides by) e = absurd cc
enters_by w s a caller callee (rows.null_receiver called) e = absurd cc
enters_by w s a caller callee (rows.null_thrown is) e = absurd cc
enters_by w s a caller callee (rows.given is) e = absurd cc
enters_by w s a caller callee rows.stops e = absurd cc

abbrev pub IsResult : World → Cells → Option Value → Type 0
IsResult w heap None = Unit {0}
IsResult w heap (Some value) = IsKnown w heap value

leaves_with : (w : World) (s : Standing) (a : Here) (value : Option Value) {action : Action} {o : Outcome} → Row w s a action o → o ≡ Leaves value → AreKnown w a.heap a.frame.stack → IsResult w a.heap value
leaves_with w s a value (rows.computes c room) e known = absurd cc
leaves_with w s a value (rows.creates means room) e known = absurd cc
leaves_with w s a value (rows.jumps is to room) e known = absurd cc
leaves_with w s a value (rows.arrays is room) e known = absurd cc
leaves_with w s a value (rows.fields is room) e known = absurd cc
leaves_with w s a value (rows.casts is room) e known = absurd cc
leaves_with w s a value (rows.arrays_throw is) e known = absurd cc
leaves_with w s a value (rows.fields_throw is) e known = absurd cc
leaves_with w s a value (rows.casts_throw is) e known = absurd cc
leaves_with w s a value (rows.enters called) e known = absurd cc
leaves_with w s a value (rows.returns {kind = kind} {p = p} is typed) e known =
    let got = popped_known w a.heap kind a.frame.stack p is known in
    let same : Some (narrowed_to (result_of s.method.desc) p.value) ≡ value = cc in
    subst (λ (v : Option Value). IsResult w a.heap v) same (narrowed_known w a.heap (result_of s.method.desc) p.value got.0)
leaves_with w s a value (rows.returns_nothing is) e known = let same : None ≡ value = cc in subst (λ (v : Option Value). IsResult w a.heap v) same tt
leaves_with w s a value (rows.divides by) e known = absurd cc
leaves_with w s a value (rows.null_receiver called) e known = absurd cc
leaves_with w s a value (rows.null_thrown is) e known = absurd cc
leaves_with w s a value (rows.given is) e known = absurd cc
leaves_with w s a value rows.stops e known = absurd cc

-- the frame that waited goes on behind its call, where there is room
pub record GoesBack (caller frame : Frame) (stack : List Value) (s : Standing) : Type 0 where
  pub inside : caller.pc + s.instr.len < length s.code.bytes
  pub now : frame ≡ with_words caller (caller.pc + s.instr.len) caller.locals stack

back_if : (caller frame : Frame) (stack : List Value) (s : Standing) (low inside : Bool) → nat_lt (caller.pc + s.instr.len) (length s.code.bytes) ≡ inside
    → (if low && inside then Some (with_words caller (caller.pc + s.instr.len) caller.locals stack) else None) ≡ Some frame → GoesBack caller frame stack s
back_if caller frame stack s true true is e = record {
  inside = ltb-true (caller.pc + s.instr.len) (length s.code.bytes) is;
  now = let same : with_words caller (caller.pc + s.instr.len) caller.locals stack ≡ frame = cc in sym same;
}
back_if caller frame stack s true false is e = absurd cc
back_if caller frame stack s false inside is e = absurd cc

pub goes_back : (w : World) (caller frame : Frame) (value : Option Value) (s : Standing) → standing_at w caller ≡ Some s → resumed w caller value ≡ Some frame
    → GoesBack caller frame (with_result value caller.stack) s
unfolding resumed
goes_back w caller frame value s stands e =
    let stack = with_result value caller.stack in
    let found : resumed_by caller stack s ≡ Some frame = sym (ap (option_and_then (resumed_by caller stack)) stands) ∙ e in
    back_if caller frame stack s (nat_le (length stack) s.code.max_stack) (nat_lt (caller.pc + s.instr.len) (length s.code.bytes)) refl found

-- a frame that waits stands at its call
waiting_stands : (w : World) (a : Here) (rest : List Value) (s : Standing) → standing_at w a.frame ≡ Some s → standing_at w (waiting a rest) ≡ Some s
unfolding standing_at
waiting_stands w a rest s stands = stands

result_known : (w : World) (heap : Cells) (value : Option Value) (stack : List Value) → IsResult w heap value → AreKnown w heap stack → AreKnown w heap (with_result value stack)
result_known w heap None stack known all = all
result_known w heap (Some value) stack known all = pushed_known w heap value stack known all

-- ---- what is known since the start of an activation, and over a call

pub record Since (w : World) (program : List Plan) (start a : Here) : Type 0 where
  pub stands : IsStanding w program a
  pub grows : Grows w start.heap a.heap

pub record Over (w : World) (start : Here) (e : End) : Type 0 where
  pub grows : Grows w start.heap e.heap
  pub value : IsResult w e.heap e.value

module _ {w : World} {first : MemberId} {program : List Plan} (weights : ℕ → ℕ) (well : IsWellBuilt w) (is : IsProgram w first program) where
  pub move_stands : {a b : Here} {k : ℕ} (s : IsStanding w program a) → Moves w weights false a k b → GoesOn w (standing_on w a.frame (current_of w first program a is s).method s.code (current_of w first program a is s).instr) a b (action_of (current_of w first program a is s).instr)
  move_stands {a = a} {b = b} s m =
      let p = current_of w first program a is s in
      goes_on w (standing_on w a.frame p.method s.code p.instr) a b m.wraps p.row
      (shows_none w a.frame.method.class s.code.bytes (record { pc = a.frame.pc; instr = p.instr }) p.targets p.verdict) m.makes

  moved_since : {start a b : Here} {k : ℕ} → Since w program start a → Moves w weights false a k b → Since w program start b
  moved_since {start = start} {a = a} {b = b} since m =
      let s = since.stands in
      let p = current_of w first program a is s in
      let on = move_stands s m in
      let known = on.known s.locals s.stack in
      subst (λ (x : Here). Since w program start x) (sym on.now)
      (record {
        stands = record {
          listed = s.listed;
          code = s.code;
          has_code = s.has_code;
          path = path_next s.code.bytes a.frame.pc p.instr s.path p.is on.inside;
          locals = known.0;
          stack = known.1;
        };
        grows = grows_on w start.heap a.heap on.heap since.grows on.grows;
      })

  -- the call of an activation
  pub call_by : {a : Here} {caller callee : Frame} (s : IsStanding w program a) → outcome_of w a ≡ Enters caller callee
      → Calls w (standing_on w a.frame (current_of w first program a is s).method s.code (current_of w first program a is s).instr) a (action_of (current_of w first program a is s).instr) caller callee
  call_by {a = a} {caller = caller} {callee = callee} s makes =
      let p = current_of w first program a is s in
      enters_by w (standing_on w a.frame p.method s.code p.instr) a caller callee p.row makes

  -- what it runs is one of the methods that its instruction can call
  pub call_target : {a : Here} {caller callee : Frame} (s : IsStanding w program a) (makes : outcome_of w a ≡ Enters caller callee)
      → Contains (current_of w first program a is s).targets (call_by s makes).called.target
  call_target {a = a} {caller = caller} {callee = callee} s makes =
      let p = current_of w first program a is s in
      let c = call_by s makes in
      let called = c.called in
      let words = (taken_known w a.heap (receiver_words c.call + words_of_all (parameters_of (method_of w called.taken.meant.method).desc)) a.frame.stack called.taken.handed called.taken.takes s.stack).0 in
      let runs = call_runs w a.frame.method.class s.code.bytes (record { pc = a.frame.pc; instr = p.instr }) c.call c.index p.targets called.taken.meant p.verdict c.is called.taken.means in
      dispatched_target w a.heap a.frame.method.class called.taken.meant p.targets called.dispatches well (receiver_made w a.heap called.taken.handed.words words) runs

  started_stands : {a b : Here} {k : ℕ} → IsStanding w program a → Starts w weights a k b → IsStanding w program b
  started_stands {a = a} {b = b} s st =
      let p = current_of w first program a is s in
      let c = call_by s st.makes in
      let called = c.called in
      let listed : IsListed program called.target = is.closed a.frame.method called.target (current_calls w first program a called.target is s p (call_target s st.makes)) in
      let words = (taken_known w a.heap (receiver_words c.call + words_of_all (parameters_of (method_of w called.taken.meant.method).desc)) a.frame.stack called.taken.handed called.taken.takes s.stack).0 in
      let now : in_frame a (new_frame called.target called.code called.taken.handed.words) ≡ b = sym (st.begins ∙ ap (in_frame a) called.enters) in
      subst (λ (x : Here). IsStanding w program x) now
      (record {
        listed = listed;
        code = called.code;
        has_code = called.has_code;
        path = path_start called.code.bytes called.begins (code_whole w first called.target program called.code is listed called.has_code);
        locals = first_known w a.heap called.taken.handed.words called.code.max_locals words;
        stack = All-nil (IsKnown w a.heap);
      })

  started_since : {start a b : Here} {k : ℕ} → Since w program start a → Starts w weights a k b → Since w program b b
  started_since {b = b} since st = record { stands = started_stands since.stands st; grows = grows_self w b.heap }

  ended_over : {start d : Here} {e : End} {k : ℕ} → Since w program start d → Ends w weights d k e → Over w start e
  ended_over {start = start} {d = d} {e = e} since en =
      let s = since.stands in
      let p = current_of w first program d is s in
      subst (λ (x : End). Over w start x) (sym en.ends)
      (record { grows = since.grows; value = leaves_with w (standing_on w d.frame p.method s.code p.instr) d en.value p.row en.makes s.stack })

  -- the frame as which it waits, and goes on behind its call
  pub back_by : {a r : Here} {e : End} (s : IsStanding w program a) → (re : Resumes w a e r)
      → GoesBack re.caller re.frame (with_result e.value re.caller.stack) (standing_on w a.frame (current_of w first program a is s).method s.code (current_of w first program a is s).instr)
  back_by {a = a} {e = e} s re =
      let p = current_of w first program a is s in
      let c = call_by s re.waits.1 in
      let this : Standing = standing_on w a.frame p.method s.code p.instr in
      let stands : standing_at w re.caller ≡ Some this =
      subst (λ (f : Frame). standing_at w f ≡ Some this) (sym c.called.waits) (waiting_stands w a c.called.taken.handed.rest this p.stands) in
      goes_back w re.caller re.frame e.value this stands re.goes

  resumed_stands : {a r : Here} {e : End} → IsStanding w program a → Grows w a.heap e.heap → IsResult w e.heap e.value → Resumes w a e r → IsStanding w program r
  resumed_stands {a = a} {r = r} {e = e} s grows value re =
      let p = current_of w first program a is s in
      let c = call_by s re.waits.1 in
      let called = c.called in
      let back = back_by s re in
      let left : List Value = called.taken.handed.rest in
      let waits : re.caller ≡ waiting a left = called.waits in
      let inside : a.frame.pc + p.instr.len < length s.code.bytes = subst (λ (f : Frame). f.pc + p.instr.len < length s.code.bytes) waits back.inside in
      let rest = (taken_known w a.heap (receiver_words c.call + words_of_all (parameters_of (method_of w called.taken.meant.method).desc)) a.frame.stack called.taken.handed called.taken.takes s.stack).1 in
      let frame : Frame = with_words a.frame (a.frame.pc + p.instr.len) a.frame.locals (with_result e.value left) in
      let is_frame : frame ≡ re.frame = sym (back.now ∙ ap (λ (f : Frame). with_words f (f.pc + p.instr.len) f.locals (with_result e.value f.stack)) waits) in
      let now : record { frame = frame; heap = e.heap; statics = e.statics } ≡ r = ap (λ (f : Frame). record { frame = f; heap = e.heap; statics = e.statics }) is_frame ∙ sym re.now in
      subst (λ (x : Here). IsStanding w program x) now
      (record {
        listed = s.listed;
        code = s.code;
        has_code = s.has_code;
        path = path_next s.code.bytes a.frame.pc p.instr s.path p.is inside;
        locals = known_later w a.heap e.heap a.frame.locals grows s.locals;
        stack = result_known w e.heap e.value left value (known_later w a.heap e.heap left grows rest);
      })

  resumed_since : {start a b r : Here} {e : End} {k : ℕ} → Since w program start a → Starts w weights a k b → Over w b e → Resumes w a e r → Since w program start r
  resumed_since {start = start} {a = a} {b = b} {r = r} {e = e} since st over re =
      let same : b.heap ≡ a.heap = ap (λ (x : Here). x.heap) st.begins in
      let grows : Grows w a.heap e.heap = subst (λ (h : Cells). Grows w h e.heap) same over.grows in
      let heap : e.heap ≡ r.heap = sym (ap (λ (x : Here). x.heap) re.now) in
      record {
        stands = resumed_stands since.stands grows over.value re;
        grows = subst (λ (h : Cells). Grows w start.heap h) heap (grows_on w start.heap a.heap e.heap since.grows grows);
      }

  pub standing_kept : Keeps (activations w weights false) (λ start a. Since w program start a) (λ start e. Over w start e)
  standing_kept = record {
    at_start = λ since st. started_since since st;
    over_move = λ since m. moved_since since m;
    over_call = λ since st over re. resumed_since since st over re;
    at_end = λ since en. ended_over since en;
  }
