-- Calls and returns: which instruction stands there, and what its result is.
use Rattle.std.proofs.Common.{◌≡◌, ℕ, zero, suc, ◌+◌, ◌≤◌, Bool, true, false, ◌&&◌, List, [], ◌∷◌, ◌++◌, length, take, drop, reverse, Option, Some, None, Result, Ok, Err, refl, sym, ap, ◌∙◌, subst, arith, All, nat_le, nat_lt}
use Rattle.std.specs.Prelude.{if◌then◌else◌, option_and_then, option_map, slice_get, slice_index_or}
use Rattle.std.specs.Result.{result_ok}
use Rattle.std.proofs.lemmas.Bool.{leb-true}
use Rattle.std.proofs.lemmas.List.{length-take-le, take-append-drop}
use Rattle.std.proofs.lemmas.List.Elements.{All-from_recursion, All-weaker}
use Rattle.class_pool.specs.declared.constant.Constant.{Constant}
use Rattle.class_reader.specs.declared.class.ClassRecord.{ClassRecord}
use Rattle.class_reader.specs.declared.class.Method.{Method}
use Rattle.class_reader.specs.declared.class.Code.{Code}
use Rattle.descriptors.specs.Pieces.{parameters_of, result_of}
use Rattle.descriptors.specs.Texts.{words_of_all}
use Rattle.op_table.specs.Actions.{action_of}
use Rattle.op_table.specs.Grammar.{instr_at}
use Rattle.op_table.specs.declared.instr.Instr.{Instr}
use Rattle.op_table.specs.declared.instr.OpFault.{OpFault}
use Rattle.op_table.specs.declared.acts.Action.{Action}
use Rattle.op_table.specs.declared.acts.Action.TheVariants as acts
use Rattle.op_table.specs.declared.acts.Call.{Call}
use Rattle.op_table.specs.declared.acts.Call.TheVariants.{Virtual, Special, Static, Interface}
use Rattle.slot_facts.specs.declared.kind.Kind.{Kind}
use Rattle.kind_effects.specs.Effects as effects
use Rattle.kind_effects.specs.Effects.{pops, locals_after, descriptor_at}
use Rattle.world.specs.declared.member.MemberId.{MemberId}
use Rattle.class_hierarchy.specs.World.{World, constructor, object_class, class_at}
use Rattle.world.specs.Selection.{method_of}
use Rattle.linking.specs.Methods.{method_at, code_at}
use Rattle.frames.specs.declared.value.Value.{Value}
use Rattle.frames.specs.declared.heap.Cell.{Cell}
use Rattle.frames.specs.declared.frame.Frame.{Frame}
use Rattle.frames.specs.declared.here.Here.{Here}
use Rattle.frames.specs.Heap.{Cells}
use Rattle.frames.specs.Kept.{IsKept, KeepsHeap}
use Rattle.frames.specs.Kept as kept
use Rattle.frames.specs.Words.{pushed}
use Rattle.frames.specs.Outcome.{Outcome, Goes, Enters, Leaves, Throws, Stops, with_words}
use Rattle.frames.specs.Standing.{Standing, standing_on, standing_in, standing_of, standing_at}
use Rattle.word_steps.specs.Narrowing.{narrowed_to}
use Rattle.steps.specs.Calling.{Handed, receiver_words, taken, waiting}
use Rattle.steps.specs.Row as rows
use Rattle.steps.specs.Row.{Row, RowAt, Called}
use Rattle.steps.specs.Step.{outcome_of, with_result, resumed, resumed_by}
use Rattle.steps.proofs.Rows.{outcome_is_row}
use Rattle.well_formed.specs.WellFormed.{IsWord, IsFrame}
use Rattle.well_formed.specs.Keeping.{KeepsWords, IsResult}
use Rattle.well_formed.proofs.Rows.{frame_of}
use Rattle.kind_runs.specs.Meaning.{HaveKinds, NamesNoArray}
use Rattle.kind_runs.proofs.Places.{have_stay}
use Rattle.kind_runs.proofs.Frames.{Makes}
use Rattle.kind_runs.proofs.Making.{pushed_on}
use Rattle.program_kinds.proofs.Words.{IsResultOf, no_result, some_result}

-- ---- the method of a frame

got : {A : Type 0} (xs : List A) (k : ℕ) (d x : A) → slice_get xs k ≡ Some x → slice_index_or xs k d ≡ x
got [] k d x e = absurd cc
got (y ∷ xs) zero d x e = cc
got (y ∷ xs) (suc k) d x e = got xs k d x e

method_in : (w : World) (m : MemberId) (method : Method) (o : Option ClassRecord) → slice_get w m.class ≡ o → option_and_then (λ (class : ClassRecord). slice_get class.methods m.member) o ≡ Some method → method_of w m ≡ method
method_in w m method None at e = absurd cc
method_in w m method (Some class) at e =
    ap (λ (c : ClassRecord). slice_index_or c.methods m.member constructor) (got w m.class object_class class at) ∙ got class.methods m.member constructor method e

-- the method with a number
pub method_there : (w : World) (m : MemberId) (method : Method) → method_at w m ≡ Some method → method_of w m ≡ method
method_there w m method e = method_in w m method (slice_get w m.class) refl e

standing_method : (w : World) (frame : Frame) (method : Method) (code : Code) (r : Result Instr OpFault) (s : Standing) → option_map (standing_on w frame method code) (result_ok r) ≡ Some s → method ≡ s.method
standing_method w frame method code (Err fault) s e = absurd cc
standing_method w frame method code (Ok i) s e = let same : standing_on w frame method code i ≡ s = cc in ap (λ (x : Standing). x.method) same

standing_code : (w : World) (frame : Frame) (method : Method) (o : Option Code) (s : Standing) → option_and_then (standing_in w frame method) o ≡ Some s → method ≡ s.method
standing_code w frame method None s e = absurd cc
standing_code w frame method (Some code) s e = standing_method w frame method code (instr_at code.bytes frame.pc) s e

method_found : (w : World) (frame : Frame) (o : Option Method) (s : Standing) → option_and_then (standing_of w frame) o ≡ Some s → o ≡ Some s.method
method_found w frame None s e = absurd cc
method_found w frame (Some method) s e = ap Some (standing_code w frame method method.code s e)

standing_own : (w : World) (frame : Frame) (s : Standing) → standing_at w frame ≡ Some s → method_of w frame.method ≡ s.method
unfolding standing_at
standing_own w frame s e = method_there w frame.method s.method (method_found w frame (method_at w frame.method) s e)

-- ---- an instruction that goes on

-- one stands there
pub record IsInstructed (w : World) (frame : Frame) : Type 0 where
  pub standing : Standing
  pub at : standing_at w frame ≡ Some standing

going_by : {w : World} {at : Here} {o : Outcome} (wraps : Bool) (now : Here) → RowAt w at o → o ≡ Goes wraps now → IsInstructed w at.frame
going_by wraps now (rows.nowhere none) e = absurd cc
going_by wraps now (rows.stands s at row) e = record { standing = s; at = at }

pub going : (w : World) (at now : Here) (wraps : Bool) → outcome_of w at ≡ Goes wraps now → IsInstructed w at.frame
going w at now wraps e = going_by wraps now (outcome_is_row w at) e

-- ---- a call

pub record Calls (w : World) (at : Here) (caller callee : Frame) : Type 0 where
  pub standing : Standing
  pub stands : standing_at w at.frame ≡ Some standing
  pub call : Call
  pub i : ℕ
  pub does : action_of standing.instr ≡ acts.Call call i
  pub called : Called w standing at call i caller callee

called_row : {w : World} {at : Here} (s : Standing) {action : Action} {o : Outcome} (caller callee : Frame) → standing_at w at.frame ≡ Some s → action_of s.instr ≡ action → Row w s at action o → o ≡ Enters caller callee
    → Calls w at caller callee
called_row s caller callee stands does (rows.computes c room) e = absurd cc
called_row s caller callee stands does (rows.divides by) e = absurd cc
called_row s caller callee stands does (rows.jumps j to room) e = absurd cc
called_row s caller callee stands does (rows.arrays c room) e = absurd cc
called_row s caller callee stands does (rows.fields c room) e = absurd cc
called_row s caller callee stands does (rows.casts c room) e = absurd cc
called_row s caller callee stands does (rows.arrays_throw t) e = absurd cc
called_row s caller callee stands does (rows.fields_throw t) e = absurd cc
called_row s caller callee stands does (rows.casts_throw t) e = absurd cc
called_row s caller callee stands does (rows.creates means room) e = absurd cc
called_row {w = w} {at = at} s caller callee stands does (rows.enters {call = call} {i = i} {caller = one} {callee = other} called) e =
    let first : one ≡ caller = cc in
    let second : other ≡ callee = cc in
    record {
      standing = s;
      stands = stands;
      call = call;
      i = i;
      does = does;
      called = subst (λ (f : Frame). Called w s at call i f callee) first (subst (λ (f : Frame). Called w s at call i one f) second called);
    }
called_row s caller callee stands does (rows.null_receiver called) e = absurd cc
called_row s caller callee stands does (rows.returns top typed) e = absurd cc
called_row s caller callee stands does (rows.returns_nothing r) e = absurd cc
called_row s caller callee stands does (rows.null_thrown r) e = absurd cc
called_row s caller callee stands does (rows.given r) e = absurd cc
called_row s caller callee stands does rows.stops e = absurd cc

called_at : {w : World} {at : Here} {o : Outcome} (caller callee : Frame) → RowAt w at o → o ≡ Enters caller callee → Calls w at caller callee
called_at caller callee (rows.nowhere none) e = absurd cc
called_at caller callee (rows.stands s stands row) e = called_row s caller callee stands refl row e

pub calls : (w : World) (at : Here) (caller callee : Frame) → outcome_of w at ≡ Enters caller callee → Calls w at caller callee
calls w at caller callee e = called_at caller callee (outcome_is_row w at) e

-- ---- what is taken

-- so many words stand on top, and are handed in the order of locals
pub record IsTaken (n : ℕ) (stack : List Value) (handed : Handed) : Type 0 where
  pub parts : stack ≡ take n stack ++ handed.rest
  pub count : length (take n stack) ≡ n
  pub order : reverse (take n stack) ≡ handed.words

taken_if : (n : ℕ) (stack : List Value) (handed : Handed) (enough : Bool) → nat_le n (length stack) ≡ enough → (if enough then Some (record { words = reverse (take n stack); rest = drop n stack }) else None) ≡ Some handed
    → IsTaken n stack handed
taken_if n stack handed false at e = absurd cc
taken_if n stack handed true at e =
    let this : Handed = record { words = reverse (take n stack); rest = drop n stack } in
    let same : this ≡ handed = cc in
    subst (λ (h : Handed). IsTaken n stack h) same
    (record { parts = sym (take-append-drop n stack); count = length-take-le n stack (leb-true n (length stack) at); order = refl })

pub is_taken : (n : ℕ) (stack : List Value) (handed : Handed) → taken n stack ≡ Some handed → IsTaken n stack handed
is_taken n stack handed e = taken_if n stack handed (nat_le n (length stack)) refl e

-- ---- a return

returned_row : {w : World} {at : Here} (s : Standing) {action : Action} {o : Outcome} (value : Option Value) → NamesNoArray w → IsResult w at.heap value → Row w s at action o → o ≡ Leaves value
    → IsResultOf at.heap (result_of s.method.desc) value
returned_row s value plain is (rows.computes c room) e = absurd cc
returned_row s value plain is (rows.divides by) e = absurd cc
returned_row s value plain is (rows.jumps j to room) e = absurd cc
returned_row s value plain is (rows.arrays c room) e = absurd cc
returned_row s value plain is (rows.fields c room) e = absurd cc
returned_row s value plain is (rows.casts c room) e = absurd cc
returned_row s value plain is (rows.arrays_throw t) e = absurd cc
returned_row s value plain is (rows.fields_throw t) e = absurd cc
returned_row s value plain is (rows.casts_throw t) e = absurd cc
returned_row s value plain is (rows.creates means room) e = absurd cc
returned_row s value plain is (rows.enters called) e = absurd cc
returned_row s value plain is (rows.null_receiver called) e = absurd cc
returned_row {w = w} {at = at} s value plain is (rows.returns {p = p} top typed) e =
    let type : List ℕ = result_of s.method.desc in
    let same : Some (narrowed_to type p.value) ≡ value = cc in
    let word : IsResult w at.heap (Some (narrowed_to type p.value)) = subst (λ (v : Option Value). IsResult w at.heap v) (sym same) is in
    subst (λ (v : Option Value). IsResultOf at.heap type v) same (some_result w at.heap type p.value plain word typed)
returned_row {at = at} s value plain is (rows.returns_nothing r) e =
    let same : None ≡ value = cc in
    subst (λ (v : Option Value). IsResultOf at.heap (result_of s.method.desc) v) same (no_result at.heap (result_of s.method.desc) r)
returned_row s value plain is (rows.null_thrown r) e = absurd cc
returned_row s value plain is (rows.given r) e = absurd cc
returned_row s value plain is rows.stops e = absurd cc

returned_at : {w : World} {at : Here} {o : Outcome} (value : Option Value) → NamesNoArray w → IsResult w at.heap value → RowAt w at o → o ≡ Leaves value
    → IsResultOf at.heap (result_of (method_of w at.frame.method).desc) value
returned_at value plain is (rows.nowhere none) e = absurd cc
returned_at {w = w} {at = at} value plain is (rows.stands s stands row) e =
    subst (λ (method : Method). IsResultOf at.heap (result_of method.desc) value) (sym (standing_own w at.frame s stands)) (returned_row s value plain is row e)

-- the result is of the method's type
pub returned : (w : World) (at : Here) (value : Option Value) → NamesNoArray w → IsResult w at.heap value → outcome_of w at ≡ Leaves value
    → IsResultOf at.heap (result_of (method_of w at.frame.method).desc) value
returned w at value plain is e = returned_at value plain is (outcome_is_row w at) e

-- ---- a frame that goes on behind its call

back_if : (caller frame : Frame) (stack : List Value) (s : Standing) (fits : Bool) → (if fits then Some (with_words caller (caller.pc + s.instr.len) caller.locals stack) else None) ≡ Some frame
    → with_words caller (caller.pc + s.instr.len) caller.locals stack ≡ frame
back_if caller frame stack s true e = cc
back_if caller frame stack s false e = absurd cc

back_at : (w : World) (at : Here) (rest : List Value) (s : Standing) → standing_at w at.frame ≡ Some s → standing_at w (waiting at rest) ≡ Some s
unfolding standing_at
back_at w at rest s e = e

-- it does so with the result
pub goes_back : (w : World) (at : Here) (rest : List Value) (s : Standing) (frame : Frame) (value : Option Value) → standing_at w at.frame ≡ Some s → resumed w (waiting at rest) value ≡ Some frame
    → with_words at.frame (at.frame.pc + s.instr.len) at.frame.locals (with_result value rest) ≡ frame
unfolding resumed
goes_back w at rest s frame value stands e =
    let caller : Frame = waiting at rest in
    let stack : List Value = with_result value rest in
    back_if caller frame stack s (nat_le (length stack) s.code.max_stack && nat_lt (caller.pc + s.instr.len) (length s.code.bytes))
    (ap (option_and_then (resumed_by caller stack)) (sym (back_at w at rest s stands)) ∙ e)

result_on : (value : Option Value) (rest : List Value) → with_result value rest ≡ with_result value [] ++ rest
result_on None rest = refl
result_on (Some v) rest = pushed_on v rest

same_words : (call : Call) → receiver_words call ≡ effects.receiver_words call
same_words Static = refl
same_words Virtual = refl
same_words Special = refl
same_words Interface = refl

-- what a call and its return make of the words of the frame that waited
pub call_made :
    {before now : Cells} {pool : List (Option Constant)} {locals stack : List Value} (call : Call) (i : ℕ) (desc : List ℕ) (handed : Handed) (value : Option Value)
    → IsTaken (receiver_words call + words_of_all (parameters_of desc)) stack handed → desc ≡ descriptor_at pool i → KeepsHeap before now → IsResultOf now (result_of desc) value
    → Makes before now pool (acts.Call call i) locals stack locals (with_result value handed.rest)
unfolding pops effects.pushed locals_after
call_made {now = now} {pool = pool} {locals = locals} {stack = stack} call i desc handed value takes described keeps result =
    let n : ℕ = receiver_words call + words_of_all (parameters_of desc) in
    record {
      top = take n stack;
      rest = handed.rest;
      new = with_result value [];
      takes = takes.parts;
      count = takes.count ∙ ap (λ (k : ℕ). k + words_of_all (parameters_of desc)) (same_words call) ∙ ap (λ (d : List ℕ). effects.receiver_words call + words_of_all (parameters_of d)) described;
      leaves = result_on value handed.rest;
      keeps = keeps;
      pushes = λ ks us k u. subst (λ (d : List ℕ). IsResultOf now (result_of d) value) described result;
      stores = λ ks us k u. have_stay keeps k;
    }

-- ---- words that are kept

pub frame_later : (w : World) (before now : Cells) (frame : Frame) → KeepsWords w before now → IsFrame w before frame → IsFrame w now frame
frame_later w before now frame keeps is =
    frame_of w now frame
    (All-weaker (IsWord w before) (IsWord w now) keeps frame.locals (All-from_recursion (IsWord w before) frame.locals is.locals))
    (All-weaker (IsWord w before) (IsWord w now) keeps frame.stack (All-from_recursion (IsWord w before) frame.stack is.stack))

kept_through : {a b c : Option Cell} → IsKept a b → IsKept b c → IsKept a c
kept_through kept.nothing second = kept.nothing
kept_through (kept.object one) (kept.object other) = kept.object (other ∙ one)
kept_through (kept.array one) (kept.array other) = kept.array (other ∙ one)

pub heaps_through : (a b c : Cells) → KeepsHeap a b → KeepsHeap b c → KeepsHeap a c
heaps_through a b c one other r = kept_through (one r) (other r)
