-- Each outcome is a row, and each row that doesn't stop is the outcome.
use Rattle.std.proofs.Common.{◌≡◌, ℕ, suc, ◌+◌, Bool, true, false, List, [], ◌∷◌, Option, Some, None, Result, Ok, Err, refl, sym, ◌∙◌, ap, subst, arith}
use Rattle.std.specs.Prelude.{ℤ, pos, negsuc, ◌+ℤ◌, if◌then◌else◌, codes, nat_le, nat_lt, length, ◌≤◌, ◌<◌, ◌&&◌}
use Rattle.std.specs.Result.{result_ok}
use Rattle.std.proofs.lemmas.Grind.{common_steps}
use Rattle.std.proofs.lemmas.Bool.Decides.{nat_tests}
use Rattle.std.proofs.lemmas.Bool.{le-leb}
use Rattle.class_pool.specs.Pool.{class_name_at, member_at}
use Rattle.op_table.specs.Actions.{action_of}
use Rattle.op_table.specs.declared.acts.Action.{Action}
use Rattle.op_table.specs.declared.acts.Action.TheVariants as acts
use Rattle.op_table.specs.declared.acts.Kind.{Kind}
use Rattle.op_table.specs.declared.acts.Kind.TheVariants as kinds
use Rattle.op_table.specs.declared.acts.Call.{Call}
use Rattle.op_table.specs.declared.acts.Call.TheVariants.{Virtual, Special, Static, Interface}
use Rattle.op_table.specs.declared.construct.Construct.{Construct}
use Rattle.class_reader.specs.declared.class.Code.{Code}
use Rattle.descriptors.specs.Pieces.{parameters_of, result_of}
use Rattle.descriptors.specs.Texts.{words_of_all}
use Rattle.world.specs.declared.member.MemberId.{MemberId}
use Rattle.class_hierarchy.specs.World.{World, is_below}
use Rattle.world.specs.Selection.{method_of, selected_by}
use Rattle.linking.specs.declared.calls.Meant.{Meant}
use Rattle.linking.specs.Calls.{meant_by}
use Rattle.linking.specs.Members.{made_by}
use Rattle.linking.specs.Methods.{code_at}
use Rattle.frames.specs.declared.value.Value.{Value}
use Rattle.frames.specs.declared.value.Value.TheVariants.{Int, Long, Pad, Null, Ref}
use Rattle.frames.specs.declared.heap.Cell.{Cell}
use Rattle.frames.specs.declared.heap.Cell.TheVariants.{Object, Array}
use Rattle.frames.specs.declared.frame.Frame.{Frame}
use Rattle.frames.specs.declared.here.Here.{Here}
use Rattle.frames.specs.declared.failure.Failure.{Failure}
use Rattle.frames.specs.declared.failure.Failure.TheVariants as failures
use Rattle.frames.specs.declared.failure.Raised.{Raised}
use Rattle.frames.specs.declared.failure.Raised.TheVariants as raised
use Rattle.frames.specs.declared.failure.Stop.TheVariants as stop_kinds
use Rattle.frames.specs.Words.{Popped, popped}
use Rattle.frames.specs.Types.{is_type}
use Rattle.frames.specs.Heap.{Cells, cell_at, is_of_type, is_of_class, class_of}
use Rattle.frames.specs.Standing.{Standing, standing_at, next_pc}
use Rattle.frames.specs.Outcome.{Outcome, Goes, Enters, Leaves, Throws, Stops, has_room, goes_on, moved, placed_at}
use Rattle.word_steps.specs.Narrowing.{narrowed_to}
use Rattle.word_steps.specs.Computing.{Made, Makes, Fails, made, words_after}
use Rattle.word_steps.specs.Computed as cases
use Rattle.word_steps.specs.Computed.{Computed, Divides, IsMade}
use Rattle.word_steps.proofs.Cases.{words_made, computed_made, division_throws}
use Rattle.word_steps.specs.Branches as ways
use Rattle.word_steps.specs.Branches.{Jump, Jumps, IsJump, jump_of, place_of, arrives, jumped, jumps}
use Rattle.word_steps.proofs.Jumping.{jumps_are_cases, cases_are_jumps}
use Rattle.object_steps.specs.Objects.{make_object, new_object}
use Rattle.object_steps.specs.After.{After, does, left}
use Rattle.object_steps.specs.Arrays.{array_after}
use Rattle.object_steps.specs.Fields.{field_after}
use Rattle.object_steps.specs.Casts.{cast_after}
use Rattle.object_steps.specs.ArrayCases as array_cases
use Rattle.object_steps.specs.ArrayCases.{ArrayChange, ArrayThrows, IsArrayCase}
use Rattle.object_steps.specs.FieldCases as field_cases
use Rattle.object_steps.specs.FieldCases.{FieldChange, FieldThrows, IsFieldCase}
use Rattle.object_steps.specs.CastCases as cast_cases
use Rattle.object_steps.specs.CastCases.{CastChange, CastThrows, IsCastCase}
use Rattle.object_steps.proofs.ArrayLaws.{arrays_are_cases, array_cases_left, array_cases_thrown}
use Rattle.object_steps.proofs.FieldLaws.{fields_are_cases, field_cases_left, field_cases_thrown}
use Rattle.object_steps.proofs.CastLaws.{casts_are_cases, cast_cases_left, cast_cases_thrown}
use Rattle.steps.specs.Calling.{Handed, is_outside, receiver_words, taken, are_words, waiting, new_frame, return_popped, return_value, throw_top, or_link, selects, target, has_locals, enter_code, enter_target, hand_over, call_meant, call}
use Rattle.steps.specs.Row as rows
use Rattle.steps.specs.Row.{Row, RowAt, HasRoom, IsStop, Dispatched, Taken, with_object}
use Rattle.steps.specs.Step.{acts_on, outcome_on, outcome_of}
use Rattle.steps.proofs.Dispatching.{IsFound, found, dispatched_found, null_found}

-- going on, where there is room
room_row : (w : World) (s : Standing) (at : Here) (action : Action) (fit wraps : Bool) (now : Here)
    → has_room s.code now.frame.pc now.frame.stack ≡ fit → (HasRoom s.code now → Row w s at action (Goes wraps now))
    → Row w s at action (if fit then Goes wraps now else Stops stop_kinds.Shape)
room_row w s at action true wraps now is row = row (record { height = grind (arith, nat_tests, common_steps); inside = grind (arith, nat_tests, common_steps) })
room_row w s at action false wraps now is row = rows.stops

on_row : (w : World) (s : Standing) (at : Here) (action : Action) (wraps : Bool) (now : Here)
    → (HasRoom s.code now → Row w s at action (Goes wraps now)) → Row w s at action (goes_on s.code wraps now)
on_row w s at action wraps now row = room_row w s at action (has_room s.code now.frame.pc now.frame.stack) wraps now refl row

-- an instruction that changes words alone
made_row : (w : World) (s : Standing) (at : Here) (action : Action) (what : Made)
    → IsMade s.class.pool at.frame.locals at.frame.stack action what → Row w s at action (made s at what)
made_row w s at action (Makes wraps locals stack) is = on_row w s at action wraps (moved s at locals stack at.heap) (λ room. rows.computes is room)
made_row w s at action (Fails (failures.Stops k)) is = rows.stops
made_row w s at action (Fails (failures.Throws what)) is = subst (λ (what : Raised). Row w s at action (Throws what)) (sym is.0) (rows.divides is.1)

words_row : (w : World) (s : Standing) (at : Here) (action : Action) → Row w s at action (made s at (words_after s.class.pool action at.frame.locals at.frame.stack))
words_row w s at action =
    made_row w s at action (words_after s.class.pool action at.frame.locals at.frame.stack) (words_made s.class.pool at.frame.locals at.frame.stack action)

-- ---- jumps

place_is : (z : ℤ) (pc : ℕ) → place_of z ≡ Some pc → z ≡ pos pc
place_is (pos n) pc is = ap pos (cc)
place_is (negsuc n) pc is = absurd (cc)

arrives_row : (w : World) (s : Standing) (at : Here) (action : Action) (far : ℤ) (stack : List Value) (place : Option ℕ)
    → Jumps s.code.bytes at.frame.pc s.instr.len at.frame.stack action far stack → place_of (pos at.frame.pc +ℤ far) ≡ place
    → Row w s at action (arrives s at stack place)
arrives_row w s at action far stack None is to = rows.stops
arrives_row w s at action far stack (Some pc) is to =
    on_row w s at action false (placed_at pc at at.frame.locals stack at.heap) (λ room. rows.jumps is (place_is (pos at.frame.pc +ℤ far) pc to) room)

jumped_row : (w : World) (s : Standing) (at : Here) (action : Action) (found : Option Jump)
    → IsJump s.code.bytes at.frame.pc s.instr.len at.frame.stack action found → Row w s at action (jumped s at found)
jumped_row w s at action None is = rows.stops
jumped_row w s at action (Some j) is = arrives_row w s at action j.far j.stack (place_of (pos at.frame.pc +ℤ j.far)) is refl

jump_row : (w : World) (s : Standing) (at : Here) (action : Action) → Row w s at action (jumps s at action)
jump_row w s at action =
    jumped_row w s at action (jump_of s.code.bytes at.frame.pc s.instr.len action at.frame.stack)
    (jumps_are_cases s.code.bytes at.frame.pc s.instr.len action at.frame.stack)

-- ---- arrays, fields and casts

array_row : (w : World) (s : Standing) (at : Here) (action : Action) (found : Result After Failure) → IsArrayCase w s at action found → Row w s at action (does s at found)
array_row w s at action (Ok a) is = on_row w s at action false (left s at a) (λ room. rows.arrays is room)
array_row w s at action (Err (failures.Throws what)) is = rows.arrays_throw is
array_row w s at action (Err (failures.Stops k)) is = rows.stops

arrays_row : (w : World) (s : Standing) (at : Here) (action : Action) → Row w s at action (does s at (array_after w s at action))
arrays_row w s at action = array_row w s at action (array_after w s at action) (arrays_are_cases w s at action)

field_row : (w : World) (s : Standing) (at : Here) (action : Action) (found : Result After Failure) → IsFieldCase w s at action found → Row w s at action (does s at found)
field_row w s at action (Ok a) is = on_row w s at action false (left s at a) (λ room. rows.fields is room)
field_row w s at action (Err (failures.Throws what)) is = rows.fields_throw is
field_row w s at action (Err (failures.Stops k)) is = rows.stops

fields_row : (w : World) (s : Standing) (at : Here) (action : Action) → Row w s at action (does s at (field_after w s at action))
fields_row w s at action = field_row w s at action (field_after w s at action) (fields_are_cases w s at action)

cast_row : (w : World) (s : Standing) (at : Here) (action : Action) (found : Result After Failure) → IsCastCase w s at action found → Row w s at action (does s at found)
cast_row w s at action (Ok a) is = on_row w s at action false (left s at a) (λ room. rows.casts is room)
cast_row w s at action (Err (failures.Throws what)) is = rows.casts_throw is
cast_row w s at action (Err (failures.Stops k)) is = rows.stops

casts_row : (w : World) (s : Standing) (at : Here) (action : Action) → Row w s at action (does s at (cast_after w s at action))
casts_row w s at action = cast_row w s at action (cast_after w s at action) (casts_are_cases w s at action)

-- ---- new objects

made_object_row : (w : World) (s : Standing) (at : Here) (i : ℕ) (found : Result ℕ Construct) → made_by w (class_name_at s.class.pool i) ≡ found
    → Row w s at (acts.New i) (make_object w s at found)
made_object_row w s at i (Err construct) is = rows.stops
made_object_row w s at i (Ok c) is = on_row w s at (acts.New i) false (with_object w s at c) (λ room. rows.creates is room)

new_row : (w : World) (s : Standing) (at : Here) (i : ℕ) → Row w s at (acts.New i) (new_object w s at i)
unfolding new_object
new_row w s at i = made_object_row w s at i (made_by w (class_name_at s.class.pool i)) refl

-- ---- returns and what is thrown

typed_row : (w : World) (s : Standing) (at : Here) (kind : Kind) (p : Popped) (typed : Bool) → popped kind at.frame.stack ≡ Some p
    → is_of_type w at.heap (result_of s.method.desc) p.value ≡ typed
    → Row w s at (acts.Return kind) (if typed then Leaves (Some (narrowed_to (result_of s.method.desc) p.value)) else Stops stop_kinds.Shape)
typed_row w s at kind p true is of = rows.returns is of
typed_row w s at kind p false is of = rows.stops

popped_row : (w : World) (s : Standing) (at : Here) (kind : Kind) (found : Option Popped) → popped kind at.frame.stack ≡ found
    → Row w s at (acts.Return kind) (return_popped w at (result_of s.method.desc) found)
popped_row w s at kind None is = rows.stops
popped_row w s at kind (Some p) is = typed_row w s at kind p (is_of_type w at.heap (result_of s.method.desc) p.value) is refl

return_row : (w : World) (s : Standing) (at : Here) (kind : Kind) → Row w s at (acts.Return kind) (return_value w s at kind)
unfolding return_value
return_row w s at kind = popped_row w s at kind (popped kind at.frame.stack) refl

nothing_row : (w : World) (s : Standing) (at : Here) (void : Bool) → is_type (codes "V") (result_of s.method.desc) ≡ void
    → Row w s at acts.ReturnNothing (if void then Leaves None else Stops stop_kinds.Shape)
nothing_row w s at true is = rows.returns_nothing is
nothing_row w s at false is = rows.stops

throw_row : (w : World) (s : Standing) (at : Here) (stack : List Value) → at.frame.stack ≡ stack → Row w s at acts.Throw (throw_top stack)
throw_row w s at [] is = rows.stops
throw_row w s at (Null ∷ stack) is = rows.null_thrown is
throw_row w s at (Ref r ∷ stack) is = rows.given is
throw_row w s at (Int n ∷ stack) is = rows.stops
throw_row w s at (Long n ∷ stack) is = rows.stops
throw_row w s at (Pad ∷ stack) is = rows.stops

-- ---- calls

-- the method runs, where its code holds the words
code_row : (w : World) (s : Standing) (at : Here) (call : Call) (i : ℕ) (c : Taken w s at call i) (t : MemberId) (code : Code) (holds : Bool)
    → Dispatched w at.heap at.frame.method.class c.meant call c.handed.words t → code_at w t ≡ Some code → has_locals code c.handed.words ≡ holds
    → Row w s at (acts.Call call i) (if holds then Enters (waiting at c.handed.rest) (new_frame t code c.handed.words) else Stops stop_kinds.Shape)
code_row w s at call i c t code false dispatched has is = rows.stops
code_row w s at call i c t code true dispatched has is =
    rows.enters (record {
      taken = c;
      target = t;
      dispatches = dispatched;
      code = code;
      has_code = has;
      holds = grind (arith, nat_tests, common_steps);
      begins = grind (arith, nat_tests, common_steps);
      waits = refl;
      enters = refl;
    })

entered_row : (w : World) (s : Standing) (at : Here) (call : Call) (i : ℕ) (c : Taken w s at call i) (t : MemberId) (native : Bool) (code : Option Code)
    → Dispatched w at.heap at.frame.method.class c.meant call c.handed.words t → code_at w t ≡ code
    → Row w s at (acts.Call call i) (enter_code at c.handed t native code)
entered_row w s at call i c t native None dispatched has = rows.stops
entered_row w s at call i c t native (Some code) dispatched has = code_row w s at call i c t code (has_locals code c.handed.words) dispatched has refl

target_row : (w : World) (s : Standing) (at : Here) (call : Call) (i : ℕ) (c : Taken w s at call i) (found : Result MemberId Failure)
    → IsFound w at.heap at.frame.method.class c.meant call c.handed.words found
    → Row w s at (acts.Call call i) (enter_target w at c.handed found)
target_row w s at call i c (Ok t) is = entered_row w s at call i c t (is_outside (method_of w t).flags) (code_at w t) is refl
target_row w s at call i c (Err (failures.Stops k)) is = rows.stops
target_row w s at call i c (Err (failures.Throws what)) is =
    subst (λ (what : Raised). Row w s at (acts.Call call i) (Throws what)) (sym is.null)
    (rows.null_receiver (record { taken = c; instance = is.instance; arguments = is.arguments; null = is.first }))

words_typed_row : (w : World) (s : Standing) (at : Here) (call : Call) (i : ℕ) (meant : Meant) (handed : Handed) (typed : Bool)
    → meant_by w call (member_at s.class.pool i) ≡ Ok meant
    → taken (receiver_words call + words_of_all (parameters_of (method_of w meant.method).desc)) at.frame.stack ≡ Some handed
    → are_words w at.heap call (parameters_of (method_of w meant.method).desc) handed.words ≡ typed
    → Row w s at (acts.Call call i)
    (if typed then enter_target w at handed (target w at.heap at.frame.method.class call meant handed.words) else Stops stop_kinds.Shape)
words_typed_row w s at call i meant handed false means takes typed = rows.stops
words_typed_row w s at call i meant handed true means takes typed =
    target_row w s at call i
    (record { meant = meant; means = means; handed = handed; takes = takes; typed = typed })
    (target w at.heap at.frame.method.class call meant handed.words) (found w at.heap at.frame.method.class meant call handed.words)

handed_row : (w : World) (s : Standing) (at : Here) (call : Call) (i : ℕ) (meant : Meant) (found : Option Handed)
    → meant_by w call (member_at s.class.pool i) ≡ Ok meant
    → taken (receiver_words call + words_of_all (parameters_of (method_of w meant.method).desc)) at.frame.stack ≡ found
    → Row w s at (acts.Call call i) (hand_over w at call meant found)
handed_row w s at call i meant None means takes = rows.stops
handed_row w s at call i meant (Some handed) means takes =
    words_typed_row w s at call i meant handed (are_words w at.heap call (parameters_of (method_of w meant.method).desc) handed.words) means takes refl

meant_row : (w : World) (s : Standing) (at : Here) (call : Call) (i : ℕ) (found : Result Meant Construct)
    → meant_by w call (member_at s.class.pool i) ≡ found
    → Row w s at (acts.Call call i) (call_meant w at call found)
meant_row w s at call i (Err construct) means = rows.stops
meant_row w s at call i (Ok meant) means =
    handed_row w s at call i meant (taken (receiver_words call + words_of_all (parameters_of (method_of w meant.method).desc)) at.frame.stack) means refl

call_row : (w : World) (s : Standing) (at : Here) (kind : Call) (i : ℕ) → Row w s at (acts.Call kind i) (call w s at kind i)
unfolding call
call_row w s at kind i = meant_row w s at kind i (meant_by w kind (member_at s.class.pool i)) refl

-- ---- all instructions

acts_row : (w : World) (s : Standing) (at : Here) (action : Action) → Row w s at action (acts_on w s at action)
acts_row w s at (acts.IfZero test d) = jump_row w s at (acts.IfZero test d)
acts_row w s at (acts.IfInts test d) = jump_row w s at (acts.IfInts test d)
acts_row w s at (acts.IfSame same d) = jump_row w s at (acts.IfSame same d)
acts_row w s at (acts.IfNull null d) = jump_row w s at (acts.IfNull null d)
acts_row w s at (acts.Goto d) = jump_row w s at (acts.Goto d)
acts_row w s at (acts.Switch default low count pairs) = jump_row w s at (acts.Switch default low count pairs)
acts_row w s at (acts.LoadElement e) = arrays_row w s at (acts.LoadElement e)
acts_row w s at (acts.StoreElement e) = arrays_row w s at (acts.StoreElement e)
acts_row w s at acts.ArrayLength = arrays_row w s at acts.ArrayLength
acts_row w s at (acts.NewArray kind) = arrays_row w s at (acts.NewArray kind)
acts_row w s at (acts.NewReferenceArray i) = arrays_row w s at (acts.NewReferenceArray i)
acts_row w s at (acts.GetField i) = fields_row w s at (acts.GetField i)
acts_row w s at (acts.PutField i) = fields_row w s at (acts.PutField i)
acts_row w s at (acts.GetStatic i) = fields_row w s at (acts.GetStatic i)
acts_row w s at (acts.PutStatic i) = fields_row w s at (acts.PutStatic i)
acts_row w s at (acts.CheckCast i) = casts_row w s at (acts.CheckCast i)
acts_row w s at (acts.InstanceOf i) = casts_row w s at (acts.InstanceOf i)
acts_row w s at (acts.Call kind i) = call_row w s at kind i
acts_row w s at (acts.New i) = new_row w s at i
acts_row w s at (acts.Return kind) = return_row w s at kind
acts_row w s at acts.ReturnNothing = nothing_row w s at (is_type (codes "V") (result_of s.method.desc)) refl
acts_row w s at acts.Throw = throw_row w s at at.frame.stack refl
acts_row w s at action = words_row w s at action

standing_row : (w : World) (at : Here) (found : Option Standing) → standing_at w at.frame ≡ found → RowAt w at (outcome_on w at found)
standing_row w at None is = rows.nowhere is
standing_row w at (Some s) is = rows.stands s is (acts_row w s at (action_of s.instr))

-- each outcome is a row
pub outcome_is_row : (w : World) (at : Here) → RowAt w at (outcome_of w at)
unfolding outcome_of
outcome_is_row w at = standing_row w at (standing_at w at.frame) refl

-- ---- and back

has_both : (n limit length_of : ℕ) → n ≤ limit → 0 < length_of → nat_le n limit && nat_lt 0 length_of ≡ true
has_both n limit length_of holds begins = rw (le-leb n limit holds, le-leb 1 length_of begins) refl

room_on : (s : Standing) (wraps : Bool) (now : Here) → HasRoom s.code now → goes_on s.code wraps now ≡ Goes wraps now
room_on s wraps now room =
    let height : nat_le (length now.frame.stack) s.code.max_stack ≡ true = le-leb (length now.frame.stack) s.code.max_stack room.height in
    let inside : nat_lt now.frame.pc (length s.code.bytes) ≡ true = le-leb (suc now.frame.pc) (length s.code.bytes) room.inside in
    rw (height, inside) refl

-- a call comes to the words that it takes
taken_call : (w : World) (s : Standing) (at : Here) (kind : Call) (i : ℕ) (c : Taken w s at kind i)
    → call w s at kind i ≡ enter_target w at c.handed (target w at.heap at.frame.method.class kind c.meant c.handed.words)
unfolding call
taken_call w s at kind i c = rw (c.means, c.takes, c.typed) refl

-- an instruction that changes words alone
computed_acts : (w : World) (s : Standing) (at : Here) (action : Action) (wraps : Bool) (locals stack : List Value)
    → Computed s.class.pool at.frame.locals at.frame.stack action wraps locals stack
    → acts_on w s at action ≡ made s at (words_after s.class.pool action at.frame.locals at.frame.stack)
computed_acts w s at action wraps locals stack cases.nothing = refl
computed_acts w s at action wraps locals stack cases.null = refl
computed_acts w s at action wraps locals stack cases.int = refl
computed_acts w s at action wraps locals stack cases.long = refl
computed_acts w s at action wraps locals stack (cases.int_constant is) = refl
computed_acts w s at action wraps locals stack (cases.long_constant is) = refl
computed_acts w s at action wraps locals stack (cases.load is) = refl
computed_acts w s at action wraps locals stack (cases.store is to) = refl
computed_acts w s at action wraps locals stack (cases.shuffle is) = refl
computed_acts w s at action wraps locals stack (cases.arithmetic is by) = refl
computed_acts w s at action wraps locals stack (cases.negate is) = refl
computed_acts w s at action wraps locals stack (cases.shift is) = refl
computed_acts w s at action wraps locals stack (cases.logic is) = refl
computed_acts w s at action wraps locals stack (cases.increment is) = refl
computed_acts w s at action wraps locals stack (cases.int_to_long is) = refl
computed_acts w s at action wraps locals stack (cases.long_to_int is) = refl
computed_acts w s at action wraps locals stack (cases.narrow is) = refl
computed_acts w s at action wraps locals stack (cases.compare is) = refl

divides_acts : (w : World) (s : Standing) (at : Here) (action : Action) → Divides at.frame.stack action
    → acts_on w s at action ≡ made s at (words_after s.class.pool action at.frame.locals at.frame.stack)
divides_acts w s at action (cases.by_zero is by) = refl

jump_acts : (w : World) (s : Standing) (at : Here) (action : Action) (far : ℤ) (stack : List Value)
    → Jumps s.code.bytes at.frame.pc s.instr.len at.frame.stack action far stack → acts_on w s at action ≡ jumps s at action
jump_acts w s at action far stack (ways.if_zero is by) = refl
jump_acts w s at action far stack (ways.if_ints is by) = refl
jump_acts w s at action far stack (ways.if_same is by) = refl
jump_acts w s at action far stack (ways.if_null is by) = refl
jump_acts w s at action far stack ways.goto = refl
jump_acts w s at action far stack (ways.switch is by) = refl

-- a jump comes to its place
arrives_at : (s : Standing) (at : Here) (action : Action) (far : ℤ) (stack : List Value) (pc : ℕ)
    → Jumps s.code.bytes at.frame.pc s.instr.len at.frame.stack action far stack → pos at.frame.pc +ℤ far ≡ pos pc
    → jumps s at action ≡ goes_on s.code false (placed_at pc at at.frame.locals stack at.heap)
arrives_at s at action far stack pc is to =
    ap (jumped s at) (cases_are_jumps s.code.bytes at.frame.pc s.instr.len action at.frame.stack far stack is)
    ∙ ap (λ (z : ℤ). arrives s at stack (place_of z)) to

array_acts : (w : World) (s : Standing) (at : Here) (action : Action) (a : After) → ArrayChange w s at action a → acts_on w s at action ≡ does s at (array_after w s at action)
array_acts w s at action a (array_cases.loads a1 a2 a3 a4) = refl
array_acts w s at action a (array_cases.stores a1 a2 a3 a4 a5) = refl
array_acts w s at action a (array_cases.length_read a1 a2 a3 a4) = refl
array_acts w s at action a (array_cases.makes a1 a2 a3) = refl
array_acts w s at action a (array_cases.makes_references a1 a2 a3 a4) = refl

array_acts_thrown : (w : World) (s : Standing) (at : Here) (action : Action) (what : Raised) → ArrayThrows w s at action what → acts_on w s at action ≡ does s at (array_after w s at action)
array_acts_thrown w s at action what (array_cases.null_load a1 a2) = refl
array_acts_thrown w s at action what (array_cases.null_store a1 a2 a3) = refl
array_acts_thrown w s at action what (array_cases.null_length a1 a2) = refl
array_acts_thrown w s at action what (array_cases.load_outside a1 a2 a3) = refl
array_acts_thrown w s at action what (array_cases.store_outside a1 a2 a3 a4) = refl
array_acts_thrown w s at action what (array_cases.not_storable a1 a2 a3 a4 a5) = refl
array_acts_thrown w s at action what (array_cases.negative a1 a2 a3) = refl
array_acts_thrown w s at action what (array_cases.negative_references a1 a2 a3 a4) = refl

field_acts : (w : World) (s : Standing) (at : Here) (action : Action) (a : After) → FieldChange w s at action a → acts_on w s at action ≡ does s at (field_after w s at action)
field_acts w s at action a (field_cases.gets a1 a2 a3 a4) = refl
field_acts w s at action a (field_cases.puts a1 a2 a3 a4 a5) = refl
field_acts w s at action a (field_cases.gets_static a1 a2) = refl
field_acts w s at action a (field_cases.puts_static a1 a2 a3) = refl

field_acts_thrown : (w : World) (s : Standing) (at : Here) (action : Action) (what : Raised) → FieldThrows w s at action what → acts_on w s at action ≡ does s at (field_after w s at action)
field_acts_thrown w s at action what (field_cases.null_get a1 a2 a3) = refl
field_acts_thrown w s at action what (field_cases.null_put a1 a2 a3 a4) = refl

cast_acts : (w : World) (s : Standing) (at : Here) (action : Action) (a : After) → CastChange w s at action a → acts_on w s at action ≡ does s at (cast_after w s at action)
cast_acts w s at action a (cast_cases.null_passes a1 a2 a3) = refl
cast_acts w s at action a (cast_cases.passes a1 a2 a3 a4) = refl
cast_acts w s at action a (cast_cases.null_is_none a1 a2 a3) = refl
cast_acts w s at action a (cast_cases.is_one a1 a2 a3 a4) = refl
cast_acts w s at action a (cast_cases.is_none a1 a2 a3 a4) = refl

cast_acts_thrown : (w : World) (s : Standing) (at : Here) (action : Action) (what : Raised) → CastThrows w s at action what → acts_on w s at action ≡ does s at (cast_after w s at action)
cast_acts_thrown w s at action what (cast_cases.not_passed a1 a2 a3 a4) = refl

entered_acts : (w : World) (s : Standing) (at : Here) (kind : Call) (i : ℕ) (caller callee : Frame) (c : rows.Called w s at kind i caller callee)
    → call w s at kind i ≡ Enters caller callee
entered_acts w s at kind i caller callee c =
    let room : has_locals c.code c.taken.handed.words ≡ true = has_both (length c.taken.handed.words) c.code.max_locals (length c.code.bytes) c.holds c.begins in
    let found : target w at.heap at.frame.method.class kind c.taken.meant c.taken.handed.words ≡ Ok c.target = dispatched_found w at.heap at.frame.method.class c.taken.meant kind c.taken.handed.words c.target c.dispatches in
    taken_call w s at kind i c.taken ∙ ap (enter_target w at c.taken.handed) found ∙ (rw (c.has_code, room, c.waits, c.enters) refl)

null_acts : (w : World) (s : Standing) (at : Here) (kind : Call) (i : ℕ) → rows.CalledOnNull w s at kind i → call w s at kind i ≡ Throws raised.NullPointer
null_acts w s at kind i c =
    let first : target w at.heap at.frame.method.class kind c.taken.meant c.taken.handed.words ≡ Err (failures.Throws raised.NullPointer) =
    rw c.null (null_found w at.heap at.frame.method.class c.taken.meant kind c.arguments c.instance) in
    taken_call w s at kind i c.taken ∙ ap (enter_target w at c.taken.handed) first

new_acts : (w : World) (s : Standing) (at : Here) (i c : ℕ) → made_by w (class_name_at s.class.pool i) ≡ Ok c → new_object w s at i ≡ goes_on s.code false (with_object w s at c)
unfolding new_object
new_acts w s at i c is = rw is refl

return_acts : (w : World) (s : Standing) (at : Here) (kind : Kind) (p : Popped) → popped kind at.frame.stack ≡ Some p
    → is_of_type w at.heap (result_of s.method.desc) p.value ≡ true → return_value w s at kind ≡ Leaves (Some (narrowed_to (result_of s.method.desc) p.value))
unfolding return_value
return_acts w s at kind p is of = rw (is, of) refl

row_made : (w : World) (s : Standing) (at : Here) (action : Action) (outcome : Outcome) → Row w s at action outcome → ¬ IsStop outcome → acts_on w s at action ≡ outcome
row_made w s at action outcome (rows.computes {wraps = wraps} {locals = locals} {stack = stack} c room) goes =
    computed_acts w s at action wraps locals stack c
    ∙ ap (made s at) (computed_made s.class.pool at.frame.locals at.frame.stack action wraps locals stack c)
    ∙ room_on s wraps (moved s at locals stack at.heap) room
row_made w s at action outcome (rows.divides by) goes =
    divides_acts w s at action by ∙ ap (made s at) (division_throws s.class.pool at.frame.locals at.frame.stack action by)
row_made w s at action outcome (rows.jumps {far = far} {stack = stack} {pc = pc} is to room) goes =
    jump_acts w s at action far stack is ∙ arrives_at s at action far stack pc is to
    ∙ room_on s false (placed_at pc at at.frame.locals stack at.heap) room
row_made w s at action outcome (rows.arrays {a = a} is room) goes =
    array_acts w s at action a is ∙ ap (does s at) (array_cases_left w s at action a is) ∙ room_on s false (left s at a) room
row_made w s at action outcome (rows.arrays_throw {what = what} is) goes =
    array_acts_thrown w s at action what is ∙ ap (does s at) (array_cases_thrown w s at action what is)
row_made w s at action outcome (rows.fields {a = a} is room) goes =
    field_acts w s at action a is ∙ ap (does s at) (field_cases_left w s at action a is) ∙ room_on s false (left s at a) room
row_made w s at action outcome (rows.fields_throw {what = what} is) goes =
    field_acts_thrown w s at action what is ∙ ap (does s at) (field_cases_thrown w s at action what is)
row_made w s at action outcome (rows.casts {a = a} is room) goes =
    cast_acts w s at action a is ∙ ap (does s at) (cast_cases_left w s at action a is) ∙ room_on s false (left s at a) room
row_made w s at action outcome (rows.casts_throw {what = what} is) goes =
    cast_acts_thrown w s at action what is ∙ ap (does s at) (cast_cases_thrown w s at action what is)
row_made w s at action outcome (rows.creates {i = i} {c = c} is room) goes = new_acts w s at i c is ∙ room_on s false (with_object w s at c) room
row_made w s at action outcome (rows.enters {call = kind} {i = i} {caller = caller} {callee = callee} called) goes = entered_acts w s at kind i caller callee called
row_made w s at action outcome (rows.null_receiver {call = kind} {i = i} called) goes = null_acts w s at kind i called
row_made w s at action outcome (rows.returns {kind = kind} {p = p} is of) goes = return_acts w s at kind p is of
row_made w s at action outcome (rows.returns_nothing is) goes = rw is refl
row_made w s at action outcome (rows.null_thrown is) goes = rw is refl
row_made w s at action outcome (rows.given is) goes = rw is refl
row_made w s at action outcome rows.stops goes = absurd (goes tt)

-- each row that doesn't stop is the outcome
pub row_is_outcome : (w : World) (s : Standing) (at : Here) (outcome : Outcome)
    → standing_at w at.frame ≡ Some s → Row w s at (action_of s.instr) outcome → ¬ IsStop outcome → outcome_of w at ≡ outcome
unfolding outcome_of
row_is_outcome w s at outcome stands row goes = ap (outcome_on w at) stands ∙ row_made w s at (action_of s.instr) outcome row goes
