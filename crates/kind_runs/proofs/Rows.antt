-- Each instruction that goes on has its effect on the kinds of the frame.
use Rattle.std.proofs.Common.{◌≡◌, Bool, Some, subst}
use Rattle.op_table.specs.Actions.{action_of}
use Rattle.op_table.specs.declared.acts.Action.{Action}
use Rattle.kind_frames.specs.declared.fact.KindFrame.{KindFrame}
use Rattle.kind_effects.specs.Frames.{frame_after}
use Rattle.class_hierarchy.specs.World.{World}
use Rattle.frames.specs.declared.here.Here.{Here}
use Rattle.frames.specs.Standing.{Standing, standing_at}
use Rattle.frames.specs.Outcome.{Outcome, Goes}
use Rattle.steps.specs.Row as rows
use Rattle.steps.specs.Row.{Row, RowAt}
use Rattle.steps.specs.Step.{outcome_of}
use Rattle.steps.proofs.Rows.{outcome_is_row}
use Rattle.well_formed.specs.WellFormed.{IsWellFormed, IsOfFiles}
use Rattle.well_formed.proofs.Rows.{sees}
use Rattle.kind_runs.specs.Meaning.{IsOfKinds, NamesNoArray}
use Rattle.kind_runs.proofs.Frames.{Makes, frame_made}
use Rattle.kind_runs.proofs.Computing.{computed_made}
use Rattle.kind_runs.proofs.Jumping.{jump_made}
use Rattle.kind_runs.proofs.Elements.{array_made}
use Rattle.kind_runs.proofs.Members.{field_made, cast_made, object_made}

-- what the outcome leaves where it goes on
abbrev GoesMade : Standing → Here → Action → Outcome → Type 0
GoesMade s at action (Goes wraps now) = Makes at.heap now.heap s.class.pool action at.frame.locals at.frame.stack now.frame.locals now.frame.stack
GoesMade s at action outcome = Unit {0}

row_made : {w : World} {s : Standing} {at : Here} {action : Action} {outcome : Outcome} → IsOfFiles w → NamesNoArray w → IsWellFormed w at → Row w s at action outcome → GoesMade s at action outcome
row_made {at = at} files plain is (rows.computes c room) = computed_made at.heap c
row_made files plain is (rows.divides by) = tt
row_made {at = at} files plain is (rows.jumps j to room) = jump_made at.heap at.frame.locals j
row_made {w = w} {at = at} files plain is (rows.arrays c room) = array_made plain (sees w at is).stack c
row_made {w = w} {at = at} files plain is (rows.fields c room) = field_made files plain (sees w at is).stack (sees w at is).statics c
row_made {w = w} {at = at} files plain is (rows.casts c room) = cast_made plain (sees w at is).stack c
row_made files plain is (rows.arrays_throw t) = tt
row_made files plain is (rows.fields_throw t) = tt
row_made files plain is (rows.casts_throw t) = tt
row_made {w = w} {at = at} files plain is (rows.creates {i = i} {c = c} means room) = object_made w at.heap at.frame.locals at.frame.stack i c
row_made files plain is (rows.enters called) = tt
row_made files plain is (rows.null_receiver called) = tt
row_made files plain is (rows.returns top typed) = tt
row_made files plain is (rows.returns_nothing r) = tt
row_made files plain is (rows.null_thrown r) = tt
row_made files plain is (rows.given top) = tt
row_made files plain is rows.stops = tt

at_made : {w : World} {at : Here} {outcome : Outcome} (s : Standing) → IsOfFiles w → NamesNoArray w → IsWellFormed w at → standing_at w at.frame ≡ Some s → RowAt w at outcome → GoesMade s at (action_of s.instr) outcome
at_made s files plain is stands (rows.nowhere none) = absurd cc
at_made {at = at} {outcome = outcome} s files plain is stands (rows.stands other found row) =
    let equal : other ≡ s = cc (stands, found) in
    subst (λ (x : Standing). GoesMade x at (action_of x.instr) outcome) equal (row_made files plain is row)

-- an instruction that goes on makes words of the kinds that its effect says
pub instruction_made : (w : World) (s : Standing) (at now : Here) (wraps : Bool) → IsOfFiles w → NamesNoArray w → IsWellFormed w at → standing_at w at.frame ≡ Some s → outcome_of w at ≡ Goes wraps now
    → Makes at.heap now.heap s.class.pool (action_of s.instr) at.frame.locals at.frame.stack now.frame.locals now.frame.stack
instruction_made w s at now wraps files plain is stands e =
    subst (λ (o : Outcome). GoesMade s at (action_of s.instr) o) e (at_made s files plain is stands (outcome_is_row w at))

pub instruction_has_effect : (w : World) (s : Standing) (at now : Here) (wraps : Bool) (known : KindFrame) → IsOfFiles w → NamesNoArray w → IsWellFormed w at → standing_at w at.frame ≡ Some s
    → outcome_of w at ≡ Goes wraps now → IsOfKinds at.heap s.code.max_locals known at.frame → IsOfKinds now.heap s.code.max_locals (frame_after s.class.pool (action_of s.instr) s.code.max_locals known) now.frame
instruction_has_effect w s at now wraps known files plain is stands e has = frame_made now.frame (instruction_made w s at now wraps files plain is stands e) has
