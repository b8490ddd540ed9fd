-- That activations are as their kinds say is kept by moves, calls and returns.
use Rattle.std.proofs.Common.{◌≡◌, ℕ, ◌+◌, ◌<◌, ◌≤◌, Bool, true, List, length, Option, Some, refl, sym, ap, ◌∙◌, subst, All, Contains}
use Rattle.std.specs.Prelude.{slice_get, option_and_then}
use Rattle.std.proofs.lemmas.List.Elements.{All-from_recursion}
use Rattle.common_laws.proofs.Members.{in_map, contains_at}
use Rattle.class_pool.specs.Pool.{member_at}
use Rattle.class_reader.specs.declared.class.ClassRecord.{ClassRecord}
use Rattle.class_reader.specs.declared.class.Method.{Method}
use Rattle.class_reader.specs.declared.class.Code.{Code}
use Rattle.class_reader.specs.Flags.{is_static}
use Rattle.descriptors.specs.Pieces.{parameters_of, result_of}
use Rattle.descriptors.specs.Texts.{words_of_all}
use Rattle.op_table.specs.Actions.{action_of}
use Rattle.op_table.specs.declared.acts.Action.{Action}
use Rattle.op_table.specs.declared.acts.Action.TheVariants as acts
use Rattle.code_blocks.specs.Successors.{goes_behind, successors_of}
use Rattle.kind_frames.specs.declared.fact.KindFrame.{KindFrame}
use Rattle.kind_frames.specs.declared.fact.KindFact.{KindFact}
use Rattle.kind_frames.specs.declared.fact.KindFact.TheVariants as facts
use Rattle.kind_effects.specs.Entry.{kinds_handed, entry_frame}
use Rattle.kind_effects.specs.Effects.{descriptor_in, descriptor_at}
use Rattle.kind_effects.specs.Frames.{frame_after}
use Rattle.nested_runs.specs.Keeping.{Keeps}
use Rattle.world.specs.declared.member.MemberId.{MemberId}
use Rattle.class_hierarchy.specs.World.{World, class_at}
use Rattle.world.specs.Selection.{method_of}
use Rattle.linking.specs.Calls.{is_static_call}
use Rattle.linking.specs.Methods.{method_at, code_at}
use Rattle.code_flow.specs.Plans.{Plan}
use Rattle.code_flow.specs.Flow.{planned}
use Rattle.frames.specs.declared.value.Value.{Value}
use Rattle.frames.specs.declared.frame.Frame.{Frame}
use Rattle.frames.specs.declared.here.Here.{Here}
use Rattle.frames.specs.Heap.{Cells}
use Rattle.frames.specs.Kept.{KeepsHeap}
use Rattle.frames.specs.Outcome.{Outcome, Goes, Enters, Leaves, in_frame, with_words}
use Rattle.frames.specs.Standing.{Standing, standing_at}
use Rattle.frames.proofs.Keeping.{heap_itself}
use Rattle.steps.specs.Calling.{receiver_words, waiting, new_frame}
use Rattle.steps.specs.Step.{outcome_of, with_result, resumed}
use Rattle.steps.specs.declared.configuration.State.{State}
use Rattle.entries.specs.Entry.{IsEntry, words_of_values}
use Rattle.machine.specs.Moment.{End, Moves, Starts, Ends, Resumes, activations}
use Rattle.well_formed.specs.WellFormed.{IsWord, IsFrame, IsWellFormed}
use Rattle.well_formed.specs.Keeping.{KeepsWords, IsResult, IsKept}
use Rattle.well_formed.proofs.Words.{taken_all}
use Rattle.well_formed.proofs.Rows.{instruction_kept}
use Rattle.well_formed.proofs.Entered.{entry_well_formed}
use Rattle.kind_runs.specs.Meaning.{HaveKinds, IsOfKinds, IsAsKnown}
use Rattle.kind_runs.proofs.Frames.{Makes, frame_made}
use Rattle.kind_runs.proofs.Rows.{instruction_made}
use Rattle.run_places.specs.Standing.{IsClosed, Stands, Waits, HasInstructions, place_of}
use Rattle.run_places.proofs.Standing.{entry_stands}
use Rattle.run_places.proofs.Leading.{LeadsOn, leads_on, behind_leads}
use Rattle.run_places.proofs.Receivers.{receiver_made}
use Rattle.program_places.specs.Programs.{methods_of}
use Rattle.program_places.proofs.Programs as programs
use Rattle.program_kinds.specs.Meaning.{KindTable, HasKinds, IsAsKinds}
use Rattle.program_kinds.specs.Keeping.{KindsSince, KindsOver, IsTyped}
use Rattle.program_kinds.proofs.Alone.{Formed, Entered, went, entered, back}
use Rattle.program_kinds.proofs.Targets.{IsOf, means_of, runs_of}
use Rattle.program_kinds.proofs.Words.{IsResultOf, handed_have, entry_has, starts}
use Rattle.program_kinds.proofs.Places.{stands_in, known_at, goes_on, begins_as, own_code}
use Rattle.program_kinds.proofs.Calling.{method_there, IsInstructed, going, Calls, calls, is_taken, IsTaken, returned, goes_back, call_made, frame_later, heaps_through}

here_made : (frame : Frame) (e : End) (last : Here) → e.heap ≡ last.heap → e.statics ≡ last.statics
    → let one : Here = record { frame = frame; heap = e.heap; statics = e.statics } in in_frame last frame ≡ one
here_made frame e last heap statics = rw (heap, statics) refl

start_listed : (w : World) (m : MemberId) (program : List Plan) → slice_get program 0 ≡ Some (planned w m) → Contains (methods_of program) m
unfolding planned
start_listed w m program start = in_map (λ (r : Plan). r.method) program (planned w m) (contains_at program 0 (planned w m) start)

module _ {w : World} {first : MemberId} {program : List Plan} {table : KindTable} (typed : IsTyped w first program table) where
  closed : IsClosed w (methods_of program)
  closed = programs.closed w first program typed.is

  pub is_formed : (here : Here) → IsAsKinds w (methods_of program) table here → Formed w (methods_of program) here
  is_formed here is = record { formed = is.formed; stands = is.stands }

  -- an activation that is as the kinds of its method say
  pub placed_as : (here : Here) (m : MemberId) → here.frame.method ≡ m → (has : HasKinds w m (table m)) → Formed w (methods_of program) here
      → IsAsKnown here.heap has.body.code.max_locals (table m here.frame.pc) here.frame → IsAsKinds w (methods_of program) table here
  placed_as here m of has is known =
      let at = known_at has here.heap here.frame is.stands of known in
      record {
        stands = is.stands;
        formed = is.formed;
        known = at.0;
        at_place = ap (λ (x : MemberId). table x here.frame.pc) of ∙ at.1;
        words = at.2;
      }

  -- the kinds of the method that it is of
  pub kinds_here : (here : Here) → IsAsKinds w (methods_of program) table here → HasKinds w here.frame.method (table here.frame.method)
  kinds_here here is = typed.kinds here.frame.method is.stands.listed

  words_here : (here : Here) (s : Standing) → (is : IsAsKinds w (methods_of program) table here) → standing_at w here.frame ≡ Some s → IsOfKinds here.heap s.code.max_locals is.known here.frame
  words_here here s is stands = subst (λ (c : Code). IsOfKinds here.heap c.max_locals is.known here.frame) (stands_in here.frame s is.stands stands) is.words

  -- ---- moves

  pub move_as : (a b : Here) (wraps : Bool) → (is : IsAsKinds w (methods_of program) table a) → outcome_of w a ≡ Goes wraps b
      → IsAsKinds w (methods_of program) table b × (b.frame.method ≡ a.frame.method) × KeepsHeap a.heap b.heap × KeepsWords w a.heap b.heap
  move_as a b wraps is e =
      let on : IsInstructed w a.frame = going w a b wraps e in
      let s : Standing = on.standing in
      let made : Makes a.heap b.heap s.class.pool (action_of s.instr) a.frame.locals a.frame.stack b.frame.locals b.frame.stack =
      instruction_made w s a b wraps typed.files typed.plain is.formed on.at e
      in
      let leads : LeadsOn s a b = leads_on w s a b wraps on.at e in
      let now : Formed w (methods_of program) b = went typed.well typed.files closed a b wraps (is_formed a is) e in
      let kept : IsWellFormed w b × KeepsWords w a.heap b.heap = subst (λ (o : Outcome). IsKept w a o) e (instruction_kept w a typed.well typed.files is.formed) in
      let has : HasKinds w a.frame.method (table a.frame.method) = kinds_here a is in
      let known = goes_on has b.heap a.frame b.frame s is.known is.stands refl on.at is.at_place leads.successor (frame_made b.frame made (words_here a s is on.at)) in
      (placed_as b a.frame.method leads.method has now known, leads.method, made.keeps, kept.1)

  -- ---- calls

  -- the words that a call hands over
  handed_words : (a : Here) (caller callee : Frame) → IsAsKinds w (methods_of program) table a → (c : Calls w a caller callee) → All (IsWord w a.heap) c.called.taken.handed.words
  handed_words a caller callee is c =
      (taken_all (IsWord w a.heap) tt (receiver_words c.call + words_of_all (parameters_of (method_of w c.called.taken.meant.method).desc)) a.frame.stack c.called.taken.handed c.called.taken.takes
      (All-from_recursion (IsWord w a.heap) a.frame.stack is.formed.frame.stack)).0

  -- the method that a call names, and the one that it runs
  named : (a : Here) (caller callee : Frame) → (c : Calls w a caller callee) → IsOf w (is_static_call c.call) (descriptor_at c.standing.class.pool c.i) c.called.taken.meant.method
  named a caller callee c = means_of w c.call (member_at c.standing.class.pool c.i) c.called.taken.meant c.called.taken.means

  pub run_by : (a : Here) (caller callee : Frame) → IsAsKinds w (methods_of program) table a → (c : Calls w a caller callee) → IsOf w (is_static_call c.call) (descriptor_at c.standing.class.pool c.i) c.called.target
  run_by a caller callee is c =
      runs_of (descriptor_at c.standing.class.pool c.i) c.called.taken.meant
      (receiver_made w a.heap c.called.taken.handed.words (handed_words a caller callee is c)) (named a caller callee c) c.called.dispatches

  -- the method's first frame
  first_as : (heap : Cells) (m : MemberId) (code : Code) (words : List Value) → (has : HasKinds w m (table m)) → code_at w m ≡ Some code → length words ≤ code.max_locals
      → HaveKinds heap (kinds_handed (is_static has.body.method.flags) has.body.method.desc) words
      → IsAsKnown heap has.body.code.max_locals (table m 0) (new_frame m code words)
  first_as heap m code words has at few is =
      let own : code ≡ has.body.code = sym (own_code has code at) in
      begins_as has heap (new_frame m code words)
      (subst (λ (c : Code). IsOfKinds heap c.max_locals (entry_frame c.max_locals (is_static has.body.method.flags) has.body.method.desc) (new_frame m code words)) own
      (starts heap m code (is_static has.body.method.flags) has.body.method.desc words few is))

  method_kinds : (m : MemberId) (static : Bool) (desc : List ℕ) → (has : HasKinds w m (table m)) → IsOf w static desc m → kinds_handed static desc ≡ kinds_handed (is_static has.body.method.flags) has.body.method.desc
  method_kinds m static desc has is =
      let own : method_of w m ≡ has.body.method = method_there w m has.body.method has.declared in
      ap (λ (s : Bool). kinds_handed s desc) (sym is.is_static ∙ ap (λ (x : Method). is_static x.flags) own)
      ∙ ap (λ (d : List ℕ). kinds_handed (is_static has.body.method.flags) d) (sym is.described ∙ ap (λ (x : Method). x.desc) own)

  pub call_as : (a : Here) (caller callee : Frame) → IsAsKinds w (methods_of program) table a → outcome_of w a ≡ Enters caller callee → IsAsKinds w (methods_of program) table (in_frame a callee)
  call_as a caller callee is e =
      let c : Calls w a caller callee = calls w a caller callee e in
      let now : Entered w (methods_of program) a caller callee = entered typed.well typed.files closed a caller callee (is_formed a is) e in
      let target : MemberId = c.called.target in
      let words : List Value = c.called.taken.handed.words in
      let of : callee.method ≡ target = ap (λ (f : Frame). f.method) c.called.enters in
      let has : HasKinds w target (table target) = typed.kinds target (subst (λ (m : MemberId). Contains (methods_of program) m) of now.begins.stands.listed) in
      let desc : List ℕ = descriptor_at c.standing.class.pool c.i in
      let typed_words = subst (λ (d : List ℕ). HaveKinds a.heap (kinds_handed (is_static_call c.call) d) words) (named a caller callee c).described
      (handed_have w a.heap typed.plain c.call (method_of w c.called.taken.meant.method).desc words (handed_words a caller callee is c) c.called.taken.typed)
      in
      let handed = subst (λ ks. HaveKinds a.heap ks words) (method_kinds target (is_static_call c.call) desc has (run_by a caller callee is c)) typed_words in
      let known : IsAsKnown a.heap has.body.code.max_locals (table target 0) (new_frame target c.called.code words) =
      first_as a.heap target c.called.code words has c.called.has_code c.called.holds handed
      in
      let there : IsAsKnown a.heap has.body.code.max_locals (table target callee.pc) callee =
      subst (λ (f : Frame). IsAsKnown a.heap has.body.code.max_locals (table target f.pc) f) (sym c.called.enters) known
      in
      placed_as (in_frame a callee) target of has now.begins there

  -- ---- returns

  pub return_as : (a last : Here) (caller callee frame : Frame) (value : Option Value) → IsAsKinds w (methods_of program) table a → outcome_of w a ≡ Enters caller callee
      → IsAsKinds w (methods_of program) table last → last.frame.method ≡ callee.method → KeepsHeap a.heap last.heap → KeepsWords w a.heap last.heap
      → outcome_of w last ≡ Leaves value → resumed w caller value ≡ Some frame
      → IsAsKinds w (methods_of program) table (in_frame last frame) × (frame.method ≡ a.frame.method)
  return_as a last caller callee frame value is e ends method keeps words leaves goes =
      let c : Calls w a caller callee = calls w a caller callee e in
      let s : Standing = c.standing in
      let entry : Entered w (methods_of program) a caller callee = entered typed.well typed.files closed a caller callee (is_formed a is) e in
      let now : Formed w (methods_of program) (in_frame last frame) =
      back typed.well typed.files closed last caller frame value (is_formed last ends) leaves entry.waits (frame_later w a.heap last.heap caller words entry.words) goes
      in
      let rest : List Value = c.called.taken.handed.rest in
      let there : with_words a.frame (a.frame.pc + s.instr.len) a.frame.locals (with_result value rest) ≡ frame =
      goes_back w a rest s frame value c.stands (subst (λ (f : Frame). resumed w f value ≡ Some frame) c.called.waits goes)
      in
      let desc : List ℕ = (method_of w c.called.taken.meant.method).desc in
      let described : desc ≡ descriptor_at s.class.pool c.i = (named a caller callee c).described in
      let of : last.frame.method ≡ c.called.target = method ∙ ap (λ (f : Frame). f.method) c.called.enters in
      let result_word : IsResult w last.heap value = subst (λ (o : Outcome). IsKept w last o) leaves (instruction_kept w last typed.well typed.files ends.formed) in
      let same : (method_of w last.frame.method).desc ≡ desc = ap (λ (m : MemberId). (method_of w m).desc) of ∙ (run_by a caller callee is c).described ∙ sym described in
      let result : IsResultOf last.heap (result_of desc) value =
      subst (λ (d : List ℕ). IsResultOf last.heap (result_of d) value) same (returned w last value typed.plain result_word leaves)
      in
      let after : Frame = with_words a.frame (a.frame.pc + s.instr.len) a.frame.locals (with_result value rest) in
      let made : Makes a.heap last.heap s.class.pool (acts.Call c.call c.i) a.frame.locals a.frame.stack after.locals after.stack =
      call_made c.call c.i desc c.called.taken.handed value (is_taken (receiver_words c.call + words_of_all (parameters_of desc)) a.frame.stack c.called.taken.handed c.called.taken.takes) described keeps result
      in
      let effect : IsOfKinds last.heap s.code.max_locals (frame_after s.class.pool (action_of s.instr) s.code.max_locals is.known) after =
      subst (λ (x : Action). IsOfKinds last.heap s.code.max_locals (frame_after s.class.pool x s.code.max_locals is.known) after) (sym c.does) (frame_made after made (words_here a s is c.stands))
      in
      let has : HasKinds w a.frame.method (table a.frame.method) = kinds_here a is in
      let behind : goes_behind (action_of s.instr) ≡ true = ap goes_behind c.does in
      let leads : Contains (successors_of s.code.bytes (place_of a.frame s)) after.pc = behind_leads s.code.bytes (place_of a.frame s) behind in
      let known : IsAsKnown last.heap has.body.code.max_locals (table a.frame.method after.pc) after = goes_on has last.heap a.frame after s is.known is.stands refl c.stands is.at_place leads effect in
      let own : frame.method ≡ a.frame.method = ap (λ (f : Frame). f.method) (sym there) in
      (placed_as (in_frame last frame) a.frame.method own has now (subst (λ (f : Frame). IsAsKnown last.heap has.body.code.max_locals (table a.frame.method f.pc) f) there known), own)

  -- ---- the machine of activations

  pub since_start : (here : Here) → IsAsKinds w (methods_of program) table here → KindsSince w (methods_of program) table here here
  since_start here is = record { known = is; method = refl; keeps = heap_itself here.heap; words = λ v word. word }

  starts_as : (weights : ℕ → ℕ) (a b : Here) (k : ℕ) → IsAsKinds w (methods_of program) table a → Starts w weights a k b → IsAsKinds w (methods_of program) table b
  starts_as weights a b k is st = subst (λ (h : Here). IsAsKinds w (methods_of program) table h) (sym st.begins) (call_as a st.caller st.callee is st.makes)

  moves_since : (weights : ℕ → ℕ) (unwrapped : Bool) (s a b : Here) (k : ℕ) → KindsSince w (methods_of program) table s a → Moves w weights unwrapped a k b → KindsSince w (methods_of program) table s b
  moves_since weights unwrapped s a b k since mv =
      let now = move_as a b mv.wraps since.known mv.makes in
      record { known = now.0; method = now.1 ∙ since.method; keeps = heaps_through s.heap a.heap b.heap since.keeps now.2; words = λ v word. now.3 v (since.words v word) }

  ended : (weights : ℕ → ℕ) (s d : Here) (k : ℕ) (e : End) → KindsSince w (methods_of program) table s d → Ends w weights d k e → KindsOver w (methods_of program) table s e
  ended weights s d k e since en =
      let value : e.value ≡ en.value = ap (λ (x : End). x.value) en.ends in
      record {
        last = d;
        since = since;
        leaves = en.makes ∙ ap Leaves (sym value);
        heap = ap (λ (x : End). x.heap) en.ends;
        statics = ap (λ (x : End). x.statics) en.ends;
      }

  enters_same : (a b c d : Frame) → Enters a b ≡ Enters c d → a ≡ c
  enters_same a b c d e = cc

  resumed_since : (weights : ℕ → ℕ) (s a b r : Here) (e : End) (k : ℕ) → KindsSince w (methods_of program) table s a → Starts w weights a k b → KindsOver w (methods_of program) table b e → Resumes w a e r
      → KindsSince w (methods_of program) table s r
  resumed_since weights s a b r e k since st over re =
      let caller : st.caller ≡ re.caller = enters_same st.caller st.callee re.caller re.waits.0 (sym st.makes ∙ re.waits.1) in
      let heap : b.heap ≡ a.heap = ap (λ (h : Here). h.heap) st.begins in
      let last : Here = over.last in
      let keeps : KeepsHeap a.heap last.heap = subst (λ (h : Cells). KeepsHeap h last.heap) heap over.since.keeps in
      let words : KeepsWords w a.heap last.heap = subst (λ (h : Cells). KeepsWords w h last.heap) heap over.since.words in
      let method : last.frame.method ≡ st.callee.method = over.since.method ∙ ap (λ (h : Here). h.frame.method) st.begins in
      let goes : resumed w st.caller e.value ≡ Some re.frame = ap (λ (f : Frame). resumed w f e.value) caller ∙ re.goes in
      let now = return_as a last st.caller st.callee re.frame e.value since.known st.makes over.since.known method keeps words over.leaves goes in
      let there : in_frame last re.frame ≡ r = here_made re.frame e last over.heap over.statics ∙ sym re.now in
      subst (λ (h : Here). KindsSince w (methods_of program) table s h) there
      (record { known = now.0; method = now.1 ∙ since.method; keeps = heaps_through s.heap a.heap last.heap since.keeps keeps; words = λ v word. words v (since.words v word) })

  pub all_kept : (weights : ℕ → ℕ) (unwrapped : Bool)
      → Keeps (activations w weights unwrapped) (λ start now. KindsSince w (methods_of program) table start now) (λ start e. KindsOver w (methods_of program) table start e)
  all_kept weights unwrapped = record {
    at_start = λ {s = s} {w = a} {b = b} {k = k} since st. since_start b (starts_as weights a b k since.known st);
    over_move = λ {s = s} {a = a} {b = b} {k = k} since mv. moves_since weights unwrapped s a b k since mv;
    over_call = λ {s = s} {w = a} {b = b} {r = r} {e = e} {k = k} since st over re. resumed_since weights s a b r e k since st over re;
    at_end = λ {s = s} {d = d} {e = e} {k = k} since en. ended weights s d k e since en;
  }

  -- ---- an entry

  pub entry_as : (state : State) → IsEntry w first state → IsAsKinds w (methods_of program) table state.here
  entry_as state is =
      let m : MemberId = first in
      let listed : Contains (methods_of program) m = start_listed w m program typed.is.start in
      let has : HasKinds w m (table m) = typed.kinds m listed in
      let some : HasInstructions w m = λ code at. subst (λ (c : Code). 0 < length c.bytes) (own_code has code at) has.is.has_code.some in
      let now : Formed w (methods_of program) state.here =
      record { formed = (entry_well_formed w m state is).here; stands = (entry_stands typed.well typed.files closed m state listed some is).here }
      in
      let at : code_at w m ≡ Some is.code = ap (option_and_then (λ (method : Method). method.code)) is.declared ∙ is.has_code in
      let words : List Value = words_of_values is.arguments in
      let class : ClassRecord = class_at w m.class in
      let own : is.method ≡ has.body.method = sym (method_there w m is.method is.declared) ∙ method_there w m has.body.method has.declared in
      let handed : HaveKinds is.heap (kinds_handed (is_static has.body.method.flags) has.body.method.desc) words =
      subst (λ (x : Method). HaveKinds is.heap (kinds_handed (is_static x.flags) x.desc) words) own (entry_has w is.heap typed.plain class is.method is.arguments is.handed.agree is.handed.held)
      in
      let known : IsAsKnown is.heap has.body.code.max_locals (table m 0) (new_frame m is.code words) = first_as is.heap m is.code words has at is.handed.room handed in
      let of : state.here.frame.method ≡ m = ap (λ (s : State). s.here.frame.method) is.entered in
      placed_as state.here m of has now
      (subst (λ (s : State). IsAsKnown s.here.heap has.body.code.max_locals (table m s.here.frame.pc) s.here.frame) (sym is.entered) known)
