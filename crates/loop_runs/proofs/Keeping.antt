-- What instructions, calls and loops leave of the locals.
use Rattle.std.proofs.Common.{◌≡◌, ℕ, Bool, true, false, List, [], ◌∷◌, Option, Some, None, refl, sym, ap, subst, ◌∙◌}
use Rattle.std.specs.Prelude.{Contains, slice_get, option_and_then, if◌then◌else◌, ◌+◌}
use Rattle.common_laws.proofs.Members.{contains_head}
use Rattle.class_pool.specs.declared.constant.Constant.{Constant}
use Rattle.op_table.specs.Actions.{action_of}
use Rattle.op_table.specs.declared.instr.Instr.{Instr}
use Rattle.op_table.specs.declared.acts.Action.{Action}
use Rattle.class_hierarchy.specs.World.{World}
use Rattle.method_body.specs.Bodies.{MethodBody}
use Rattle.loop_cut.specs.declared.found.CodeLoop.{CodeLoop}
use Rattle.loop_cut.specs.CodeLoops.{IsCut}
use Rattle.loop_cut.specs.Effects.{stored_by}
use Rattle.frames.specs.declared.value.Value.{Value}
use Rattle.frames.specs.declared.frame.Frame.{Frame}
use Rattle.frames.specs.declared.here.Here.{Here}
use Rattle.frames.specs.Outcome.{Outcome, Goes, Enters, placed_at, moved, with_words, has_room}
use Rattle.frames.specs.Standing.{Standing, standing_at}
use Rattle.word_steps.specs.Computed as computed
use Rattle.word_steps.specs.Computed.{Computed}
use Rattle.object_steps.specs.After.{left}
use Rattle.steps.specs.Step.{outcome_of, with_result, resumed_by, resumed}
use Rattle.steps.specs.Row as rows
use Rattle.steps.specs.Row.{Row, RowAt}
use Rattle.steps.proofs.Rows.{outcome_is_row}
use Rattle.loop_runs.specs.Unchanged.{GoesOn, IsAt, Stays}
use Rattle.loop_runs.specs.Unchanged.GoesOn.{moves, returns}
use Rattle.loop_runs.specs.Unchanged.Stays.{ends, goes}
use Rattle.loop_runs.proofs.Stores.{set_other, store_keeps}

-- ---- instructions

computed_keeps : {pool : List (Option Constant)} {locals stack now after : List Value} {action : Action} {wrapping : Bool} (n : ℕ) → Computed pool locals stack action wrapping now after
    → (Contains (stored_by action) n → ⊥) → slice_get now n ≡ slice_get locals n
computed_keeps n computed.nothing none = refl
computed_keeps n computed.null none = refl
computed_keeps n computed.int none = refl
computed_keeps n computed.long none = refl
computed_keeps n (computed.int_constant is) none = refl
computed_keeps n (computed.long_constant is) none = refl
computed_keeps n (computed.load is) none = refl
computed_keeps {locals = locals} {stack = stack} n (computed.store {kind = kind} {n = m} {p = p} {now = now} top to) none =
    store_keeps kind stack locals now m n p top to none
computed_keeps n (computed.shuffle is) none = refl
computed_keeps n (computed.arithmetic is whole) none = refl
computed_keeps n (computed.negate is) none = refl
computed_keeps n (computed.shift is) none = refl
computed_keeps n (computed.logic is) none = refl
computed_keeps {locals = locals} n (computed.increment {n = m} is) none =
    set_other locals m n _ (λ e. none (subst (λ (x : ℕ). Contains (m ∷ []) x) e (contains_head m [])))
computed_keeps n (computed.int_to_long is) none = refl
computed_keeps n (computed.long_to_int is) none = refl
computed_keeps n (computed.narrow is) none = refl
computed_keeps n (computed.compare is) none = refl

word_at : ℕ → Here → Option Value
word_at n x = slice_get x.frame.locals n

row_keeps : (w : World) (s : Standing) (at now : Here) (wraps : Bool) (n : ℕ) {action : Action} {o : Outcome} → Row w s at action o → o ≡ Goes wraps now
    → (Contains (stored_by action) n → ⊥) → slice_get now.frame.locals n ≡ slice_get at.frame.locals n
unfolding word_at
row_keeps w s at now wraps n (rows.computes {locals = locals} {stack = stack} c room) e none =
    let same : now ≡ moved s at locals stack at.heap = cc in
    ap (word_at n) same ∙ computed_keeps n c none
row_keeps w s at now wraps n (rows.jumps {stack = stack} {pc = pc} j to room) e none =
    let same : now ≡ placed_at pc at at.frame.locals stack at.heap = cc in ap (word_at n) same
row_keeps w s at now wraps n (rows.arrays {a = a} c room) e none = let same : now ≡ left s at a = cc in ap (word_at n) same
row_keeps w s at now wraps n (rows.fields {a = a} c room) e none = let same : now ≡ left s at a = cc in ap (word_at n) same
row_keeps w s at now wraps n (rows.casts {a = a} c room) e none = let same : now ≡ left s at a = cc in ap (word_at n) same
row_keeps w s at now wraps n (rows.creates {c = c} means room) e none = let same : now ≡ rows.with_object w s at c = cc in ap (word_at n) same
row_keeps w s at now wraps n (rows.arrays_throw t) e none = absurd cc
row_keeps w s at now wraps n (rows.fields_throw t) e none = absurd cc
row_keeps w s at now wraps n (rows.casts_throw t) e none = absurd cc
row_keeps w s at now wraps n (rows.enters called) e none = absurd cc
row_keeps w s at now wraps n (rows.null_receiver called) e none = absurd cc
row_keeps w s at now wraps n (rows.returns top typed) e none = absurd cc
row_keeps w s at now wraps n (rows.returns_nothing is) e none = absurd cc
row_keeps w s at now wraps n (rows.divides by) e none = absurd cc
row_keeps w s at now wraps n (rows.null_thrown is) e none = absurd cc
row_keeps w s at now wraps n (rows.given is) e none = absurd cc
row_keeps w s at now wraps n rows.stops e none = absurd cc

same_standing : (w : World) (frame : Frame) (s t : Standing) → standing_at w frame ≡ Some s → standing_at w frame ≡ Some t → s ≡ t
same_standing w frame s t one other = let both : Some s ≡ Some t = sym one ∙ other in cc

at_keeps : {w : World} {at : Here} {o : Outcome} (s : Standing) (now : Here) (wraps : Bool) (n : ℕ) → standing_at w at.frame ≡ Some s → RowAt w at o → o ≡ Goes wraps now
    → (Contains (stored_by (action_of s.instr)) n → ⊥) → slice_get now.frame.locals n ≡ slice_get at.frame.locals n
at_keeps s now wraps n stands (rows.nowhere nothing) e none = absurd cc
at_keeps {w = w} {at = at} s now wraps n stands (rows.stands t other row) e none =
    let same : s ≡ t = same_standing w at.frame s t stands other in
    row_keeps w t at now wraps n row e (subst (λ (x : Standing). Contains (stored_by (action_of x.instr)) n → ⊥) same none)

pub outcome_keeps : (w : World) (s : Standing) (at now : Here) (wraps : Bool) (n : ℕ) → standing_at w at.frame ≡ Some s → outcome_of w at ≡ Goes wraps now
    → (Contains (stored_by (action_of s.instr)) n → ⊥) → slice_get now.frame.locals n ≡ slice_get at.frame.locals n
outcome_keeps w s at now wraps n stands e none = at_keeps s now wraps n stands (outcome_is_row w at) e none

-- ---- calls

row_waits : (w : World) (s : Standing) (at : Here) (caller callee : Frame) {action : Action} {o : Outcome} → Row w s at action o → o ≡ Enters caller callee → caller.locals ≡ at.frame.locals
row_waits w s at caller callee (rows.enters {caller = from} {callee = to} called) e =
    let same : caller ≡ from = cc in ap (λ (f : Frame). f.locals) same ∙ ap (λ (f : Frame). f.locals) called.waits
row_waits w s at caller callee (rows.computes c room) e = absurd cc
row_waits w s at caller callee (rows.jumps j to room) e = absurd cc
row_waits w s at caller callee (rows.arrays c room) e = absurd cc
row_waits w s at caller callee (rows.fields c room) e = absurd cc
row_waits w s at caller callee (rows.casts c room) e = absurd cc
row_waits w s at caller callee (rows.creates means room) e = absurd cc
row_waits w s at caller callee (rows.arrays_throw t) e = absurd cc
row_waits w s at caller callee (rows.fields_throw t) e = absurd cc
row_waits w s at caller callee (rows.casts_throw t) e = absurd cc
row_waits w s at caller callee (rows.null_receiver called) e = absurd cc
row_waits w s at caller callee (rows.returns top typed) e = absurd cc
row_waits w s at caller callee (rows.returns_nothing is) e = absurd cc
row_waits w s at caller callee (rows.divides by) e = absurd cc
row_waits w s at caller callee (rows.null_thrown is) e = absurd cc
row_waits w s at caller callee (rows.given is) e = absurd cc
row_waits w s at caller callee rows.stops e = absurd cc

at_waits : {w : World} {at : Here} {o : Outcome} (caller callee : Frame) → RowAt w at o → o ≡ Enters caller callee → caller.locals ≡ at.frame.locals
at_waits caller callee (rows.nowhere nothing) e = absurd cc
at_waits {w = w} {at = at} caller callee (rows.stands s stands row) e = row_waits w s at caller callee row e

room_keeps : (b : Bool) (caller frame now : Frame) → now.locals ≡ caller.locals → (if b then Some now else None) ≡ Some frame → frame.locals ≡ caller.locals
room_keeps true caller frame now kept e = let same : frame ≡ now = cc in ap (λ (f : Frame). f.locals) same ∙ kept
room_keeps false caller frame now kept e = absurd cc

back_keeps : (caller frame : Frame) (stack : List Value) (o : Option Standing) → option_and_then (resumed_by caller stack) o ≡ Some frame → frame.locals ≡ caller.locals
back_keeps caller frame stack None e = absurd cc
back_keeps caller frame stack (Some s) e =
    room_keeps (has_room s.code (caller.pc + s.instr.len) stack) caller frame (with_words caller (caller.pc + s.instr.len) caller.locals stack) refl e

resumed_keeps : (w : World) (caller frame : Frame) (result : Option Value) → resumed w caller result ≡ Some frame → frame.locals ≡ caller.locals
unfolding resumed
resumed_keeps w caller frame result e = back_keeps caller frame (with_result result caller.stack) (standing_at w caller) e

pub call_keeps : (w : World) (at : Here) (caller callee frame : Frame) (result : Option Value) → outcome_of w at ≡ Enters caller callee → resumed w caller result ≡ Some frame
    → frame.locals ≡ at.frame.locals
call_keeps w at caller callee frame result e back = resumed_keeps w caller frame result back ∙ at_waits caller callee (outcome_is_row w at) e

-- ---- loops

on_keeps : {w : World} {at now : Here} (s : Standing) (n : ℕ) → standing_at w at.frame ≡ Some s → (Contains (stored_by (action_of s.instr)) n → ⊥) → GoesOn w at now
    → slice_get now.frame.locals n ≡ slice_get at.frame.locals n
on_keeps {w = w} {at = at} {now = now} s n stands none (moves {wraps = wraps} e) = outcome_keeps w s at now wraps n stands e none
on_keeps {w = w} {at = at} {now = now} s n stands none (returns {caller = caller} {callee = callee} result e back) =
    ap (λ (l : List Value). slice_get l n) (call_keeps w at caller callee now.frame result e back)

not_stored : {w : World} {body : MethodBody} {at : Here} (heights : List ℕ) (g : List (List ℕ)) (l : CodeLoop) (n : ℕ) → IsCut body heights g l → (Contains l.changed n → ⊥)
    → (a : IsAt w body l.blocks at) → Contains (stored_by (action_of a.standing.instr)) n → ⊥
not_stored heights g l n cut none a stored =
    none ((cut.changed n).1 (a.number, a.instruction, a.held, subst (λ (i : Instr). Contains (stored_by (action_of i)) n) (sym a.same) stored))

loop_keeps : {w : World} {body : MethodBody} (heights : List ℕ) (g : List (List ℕ)) (l : CodeLoop) (n : ℕ) → IsCut body heights g l → (Contains l.changed n → ⊥)
    → {at now : Here} → Stays w body l.blocks at now → slice_get now.frame.locals n ≡ slice_get at.frame.locals n
loop_keeps heights g l n cut none ends = refl
loop_keeps heights g l n cut none (goes a on rest) =
    loop_keeps heights g l n cut none rest ∙ on_keeps a.standing n a.stands (not_stored heights g l n cut none a) on

pub loops_keep : (w : World) (body : MethodBody) (heights : List ℕ) (g : List (List ℕ)) (l : CodeLoop) (at now : Here) (n : ℕ) → IsCut body heights g l → Stays w body l.blocks at now
    → (Contains l.changed n → ⊥) → slice_get now.frame.locals n ≡ slice_get at.frame.locals n
loops_keep w body heights g l at now n cut stays none = loop_keeps heights g l n cut none stays
