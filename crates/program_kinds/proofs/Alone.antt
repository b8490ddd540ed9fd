-- What one step keeps of an activation by itself: that it is well formed, and where it stands.
use Rattle.std.proofs.Common.{◌≡◌, ℕ, ◌+◌, Bool, true, false, List, [], ◌∷◌, Option, Some, None, refl, sym, ◌∙◌, ap, subst}
use Rattle.world.specs.declared.member.MemberId.{MemberId}
use Rattle.class_hierarchy.specs.World.{World}
use Rattle.class_hierarchy.specs.Building.{IsWellBuilt}
use Rattle.frames.specs.declared.value.Value.{Value}
use Rattle.frames.specs.declared.frame.Frame.{Frame}
use Rattle.frames.specs.declared.here.Here.{Here}
use Rattle.frames.specs.Heap.{Cells}
use Rattle.frames.specs.Outcome.{Outcome, Goes, Enters, Leaves, in_frame}
use Rattle.frames.specs.Standing.{standing_at}
use Rattle.steps.specs.declared.configuration.State.{State}
use Rattle.steps.specs.declared.configuration.Status.TheVariants as statuses
use Rattle.steps.specs.declared.configuration.Event.TheVariants as events
use Rattle.steps.specs.Step.{Step, outcome_of, weight_of, resumed, return_to, leave, settle, step_of}
use Rattle.well_formed.specs.WellFormed.{IsWord, IsFrame, IsWellFormed, IsConfiguration, IsOfFiles}
use Rattle.well_formed.proofs.Steps.{step_kept}
use Rattle.run_places.specs.Standing.{IsClosed, Stands, Waits, AllStand}
use Rattle.run_places.proofs.Standing.{step_stands}

-- an activation with those that wait for it
at_rest : Here → List Frame → State
at_rest here callers = record { here = here; callers = callers; spent = 0; status = statuses.Running }

-- the step that an outcome makes
stepped : (w : World) (weights : ℕ → ℕ) (here : Here) (callers : List Frame) (outcome : Outcome) → outcome_of w here ≡ outcome
    → Step w weights (at_rest here callers) (settle w (weight_of weights (standing_at w here.frame)) (at_rest here callers) outcome).1
unfolding at_rest step_of
stepped w weights here callers outcome e =
    record { runs = refl; made = sym (ap (λ (o : Outcome). (settle w (weight_of weights (standing_at w here.frame)) (record { here = here; callers = callers; spent = 0; status = statuses.Running }) o).1) e) }

-- what is known of one
pub record Formed (w : World) (methods : List MemberId) (here : Here) : Type 0 where
  pub formed : IsWellFormed w here
  pub stands : Stands w methods here.frame

-- what a call leaves: the frame that waits, and the one that begins
pub record Entered (w : World) (methods : List MemberId) (here : Here) (caller callee : Frame) : Type 0 where
  pub begins : Formed w methods (in_frame here callee)
  pub waits : Waits w methods caller
  pub words : IsFrame w here.heap caller

module _ {w : World} {methods : List MemberId} (well : IsWellBuilt w) (files : IsOfFiles w) (closed : IsClosed w methods) where
  no_weights : ℕ → ℕ
  no_weights op = 0

  alone : (here : Here) → Formed w methods here → IsConfiguration w (at_rest here []) × AllStand w methods (at_rest here [])
  unfolding at_rest
  alone here is = (record { here = is.formed; callers = tt }, record { here = is.stands; callers = tt })

  went_if : (here now : Here) (wraps : Bool) → Formed w methods here → outcome_of w here ≡ Goes wraps now → Formed w methods now
  unfolding at_rest
  went_if here now true is e =
      let from = alone here is in
      let step = stepped w no_weights here [] (Goes true now) e in
      record { formed = (step_kept w no_weights _ _ well files from.0 step).here; stands = (step_stands well files closed no_weights _ _ from.0 from.1 step).here }
  went_if here now false is e =
      let from = alone here is in
      let step = stepped w no_weights here [] (Goes false now) e in
      record { formed = (step_kept w no_weights _ _ well files from.0 step).here; stands = (step_stands well files closed no_weights _ _ from.0 from.1 step).here }

  -- an instruction that goes on
  pub went : (here now : Here) (wraps : Bool) → Formed w methods here → outcome_of w here ≡ Goes wraps now → Formed w methods now
  went here now wraps is e = went_if here now wraps is e

  pub entered : (here : Here) (caller callee : Frame) → Formed w methods here → outcome_of w here ≡ Enters caller callee → Entered w methods here caller callee
  unfolding at_rest
  entered here caller callee is e =
      let from = alone here is in
      let step = stepped w no_weights here [] (Enters caller callee) e in
      let formed = step_kept w no_weights _ _ well files from.0 step in
      let stands = step_stands well files closed no_weights _ _ from.0 from.1 step in
      record { begins = record { formed = formed.here; stands = stands.here }; waits = stands.callers.0; words = formed.callers.0 }

  -- a frame that waited goes on behind a return
  pub back : (last : Here) (caller frame : Frame) (value : Option Value) → Formed w methods last → outcome_of w last ≡ Leaves value
      → Waits w methods caller → IsFrame w last.heap caller → resumed w caller value ≡ Some frame → Formed w methods (in_frame last frame)
  unfolding at_rest
  back last caller frame value is e waits words goes =
      let weight : ℕ = weight_of no_weights (standing_at w last.frame) in
      let before : State = at_rest last (caller ∷ []) in
      let now : State = (return_to weight before [] (Some frame)).1 in
      let step : Step w no_weights before now =
      subst (λ (o : Option Frame). Step w no_weights before (return_to weight before [] o).1) goes (stepped w no_weights last (caller ∷ []) (Leaves value) e)
      in
      let formed : IsConfiguration w now = step_kept w no_weights before now well files (record { here = is.formed; callers = (words, tt) }) step in
      let stands : AllStand w methods now = step_stands well files closed no_weights before now (record { here = is.formed; callers = (words, tt) }) (record { here = is.stands; callers = (waits, tt) }) step in
      record { formed = formed.here; stands = stands.here }
