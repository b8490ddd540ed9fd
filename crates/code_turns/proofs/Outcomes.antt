-- What a call and a return say of the instruction, by its rows.
use Rattle.std.proofs.Common.{◌≡◌, ℕ, Bool, false, List, [], Option, Some, refl, subst}
use Rattle.op_table.specs.Actions.{action_of}
use Rattle.op_table.specs.declared.acts.Action.{Action}
use Rattle.op_table.specs.declared.acts.Action.TheVariants as acts
use Rattle.op_table.specs.declared.acts.Call.{Call}
use Rattle.class_hierarchy.specs.World.{World}
use Rattle.code_blocks.specs.Successors.{goes_behind, distances_by}
use Rattle.frames.specs.declared.value.Value.{Value}
use Rattle.frames.specs.declared.frame.Frame.{Frame}
use Rattle.frames.specs.declared.here.Here.{Here}
use Rattle.frames.specs.Outcome.{Outcome, Goes, Enters, Leaves}
use Rattle.frames.specs.Standing.{Standing, standing_at}
use Rattle.steps.specs.Step.{outcome_of}
use Rattle.steps.specs.Row as rows
use Rattle.steps.specs.Row.{Row, RowAt, Called}
use Rattle.steps.proofs.Rows.{outcome_is_row}

-- the frame waits at a call, and the new one stands at the beginning of its method's code
pub record Waits (w : World) (s : Standing) (at : Here) (action : Action) (caller callee : Frame) : Type 0 where
  pub call : Call
  pub member : ℕ
  pub is : action ≡ acts.Call call member
  pub called : Called w s at call member caller callee

row_waits : (w : World) (s : Standing) (at : Here) (caller callee : Frame) {action : Action} {o : Outcome} → Row w s at action o → o ≡ Enters caller callee → Waits w s at action caller callee
row_waits w s at caller callee (rows.enters {call = call} {i = i} {caller = from} {callee = to} called) e =
    let first : from ≡ caller = cc in
    let second : to ≡ callee = cc in
    record {
      call = call;
      member = i;
      is = refl;
      called = subst (λ (f : Frame). Called w s at call i f callee) first (subst (λ (f : Frame). Called w s at call i from f) second called);
    }
row_waits w s at caller callee (rows.computes c room) e = absurd cc
row_waits w s at caller callee (rows.jumps j to room) e = absurd cc
row_waits w s at caller callee (rows.arrays c room) e = absurd cc
row_waits w s at caller callee (rows.fields c room) e = absurd cc
row_waits w s at caller callee (rows.casts c room) e = absurd cc
row_waits w s at caller callee (rows.creates means room) e = absurd cc
row_waits w s at caller callee (rows.arrays_throw t) e = absurd cc
row_waits w s at caller callee (rows.fields_throw t) e = absurd cc
row_waits w s at caller callee (rows.casts_throw t) e = absurd cc
row_waits w s at caller callee (rows.null_receiver called) e = absurd cc
row_waits w s at caller callee (rows.returns top typed) e = absurd cc
row_waits w s at caller callee (rows.returns_nothing is) e = absurd cc
row_waits w s at caller callee (rows.divides by) e = absurd cc
row_waits w s at caller callee (rows.null_thrown is) e = absurd cc
row_waits w s at caller callee (rows.given is) e = absurd cc
row_waits w s at caller callee rows.stops e = absurd cc

-- behind a return the code doesn't go on, and it jumps nowhere
abbrev pub IsReturn : Action → Type 0
IsReturn action = (goes_behind action ≡ false) × ((code : List ℕ) (pc cases : ℕ) → distances_by code pc cases action ≡ [])

row_leaves : (w : World) (s : Standing) (at : Here) (value : Option Value) {action : Action} {o : Outcome} → Row w s at action o → o ≡ Leaves value → IsReturn action
row_leaves w s at value (rows.returns top typed) e = (refl, λ code pc cases. refl)
row_leaves w s at value (rows.returns_nothing is) e = (refl, λ code pc cases. refl)
row_leaves w s at value (rows.enters called) e = absurd cc
row_leaves w s at value (rows.computes c room) e = absurd cc
row_leaves w s at value (rows.jumps j to room) e = absurd cc
row_leaves w s at value (rows.arrays c room) e = absurd cc
row_leaves w s at value (rows.fields c room) e = absurd cc
row_leaves w s at value (rows.casts c room) e = absurd cc
row_leaves w s at value (rows.creates means room) e = absurd cc
row_leaves w s at value (rows.arrays_throw t) e = absurd cc
row_leaves w s at value (rows.fields_throw t) e = absurd cc
row_leaves w s at value (rows.casts_throw t) e = absurd cc
row_leaves w s at value (rows.null_receiver called) e = absurd cc
row_leaves w s at value (rows.divides by) e = absurd cc
row_leaves w s at value (rows.null_thrown is) e = absurd cc
row_leaves w s at value (rows.given is) e = absurd cc
row_leaves w s at value rows.stops e = absurd cc

-- ---- the instruction at which a frame stands

pub record StandsBefore (w : World) (at : Here) (o : Outcome) : Type 0 where
  pub standing : Standing
  pub stands : standing_at w at.frame ≡ Some standing
  pub row : Row w standing at (action_of standing.instr) o

stands_going : {w : World} {at : Here} {o : Outcome} (wraps : Bool) (now : Here) → RowAt w at o → o ≡ Goes wraps now → StandsBefore w at o
stands_going wraps now (rows.nowhere none) e = absurd cc
stands_going wraps now (rows.stands s stands row) e = record { standing = s; stands = stands; row = row }

stands_entering : {w : World} {at : Here} {o : Outcome} (caller callee : Frame) → RowAt w at o → o ≡ Enters caller callee → StandsBefore w at o
stands_entering caller callee (rows.nowhere none) e = absurd cc
stands_entering caller callee (rows.stands s stands row) e = record { standing = s; stands = stands; row = row }

stands_leaving : {w : World} {at : Here} {o : Outcome} (value : Option Value) → RowAt w at o → o ≡ Leaves value → StandsBefore w at o
stands_leaving value (rows.nowhere none) e = absurd cc
stands_leaving value (rows.stands s stands row) e = record { standing = s; stands = stands; row = row }

pub goes_from : (w : World) (at now : Here) (wraps : Bool) → outcome_of w at ≡ Goes wraps now → StandsBefore w at (outcome_of w at)
goes_from w at now wraps e = stands_going wraps now (outcome_is_row w at) e

pub enters_from : (w : World) (at : Here) (caller callee : Frame) → outcome_of w at ≡ Enters caller callee → StandsBefore w at (outcome_of w at)
enters_from w at caller callee e = stands_entering caller callee (outcome_is_row w at) e

pub leaves_from : (w : World) (at : Here) (value : Option Value) → outcome_of w at ≡ Leaves value → StandsBefore w at (outcome_of w at)
leaves_from w at value e = stands_leaving value (outcome_is_row w at) e

pub entering : (w : World) (at : Here) (caller callee : Frame) → outcome_of w at ≡ Enters caller callee → (s : StandsBefore w at (outcome_of w at)) × Waits w s.standing at (action_of s.standing.instr) caller callee
entering w at caller callee e =
    let s = enters_from w at caller callee e in
    (s, row_waits w s.standing at caller callee s.row e)

pub leaving : (w : World) (at : Here) (value : Option Value) → outcome_of w at ≡ Leaves value → (s : StandsBefore w at (outcome_of w at)) × IsReturn (action_of s.standing.instr)
leaving w at value e =
    let s = leaves_from w at value e in
    (s, row_leaves w s.standing at value s.row e)
