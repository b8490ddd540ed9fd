-- The moments of runs as nests of turns.
use Rattle.std.specs.Prelude.{◌≡◌, ℕ, Bool, List, [], ◌∷◌, Option, Some, slice_get, Contains}
use Rattle.nested_runs.specs.Nest.{Nest}
use Rattle.world.specs.declared.member.MemberId.{MemberId}
use Rattle.class_hierarchy.specs.World.{World}
use Rattle.class_hierarchy.specs.Building.{IsWellBuilt}
use Rattle.frames.specs.declared.here.Here.{Here}
use Rattle.steps.specs.declared.configuration.State.{State}
use Rattle.machine.specs.Run.{IsRun}
use Rattle.machine.specs.Moment.{activations, AreWaiting, IsSpent, IsCounted}
use Rattle.well_formed.specs.WellFormed.{IsOfFiles}
use Rattle.run_places.specs.Standing.{IsClosed}
use Rattle.loop_turns.specs.Turns.{Turn, turn, turns}
use Rattle.code_turns.specs.Homes.{CutMethod, AreAllCut, home_of, places}
use Rattle.code_turns.specs.Knowing.{standing_activations}

-- A configuration that a run came to: the nest of its open turns, of which the running frame's is on top, at the cost of
-- the nest of its activations. So it is in the machine of all steps, and in that of steps of which it is known that frames
-- stand in listed methods.
pub record TurnMoment (w : World) (methods : List MemberId) (cuts : MemberId → Option CutMethod) (weights : ℕ → ℕ) (unwrapped : Bool) (first now : State) : Type 0 where
  pub waiting : List Here
  pub waits : AreWaiting w waiting now.callers
  pub cost : ℕ
  pub below : List (Turn Here)
  pub nest : Nest (turns (activations w weights unwrapped) (places cuts)) (turn first.here []) (turn now.here (home_of cuts now.here) ∷ below) cost
  pub known : Nest (turns (standing_activations w methods weights unwrapped) (places cuts)) (turn first.here []) (turn now.here (home_of cuts now.here) ∷ below) cost
  pub spent : IsSpent w weights waiting cost now now.status

-- each moment of each run of a listed method is a nest of turns
abbrev pub MomentsAreTurns : Type 0
MomentsAreTurns =
    (w : World) (methods : List MemberId) (cuts : MemberId → Option CutMethod) (weights : ℕ → ℕ) (unwrapped : Bool) (m : MemberId)
    (first : State) (later : List State)
    → IsWellBuilt w → IsOfFiles w → IsClosed w methods → AreAllCut w methods cuts → Contains methods m → IsRun w weights m (first ∷ later)
    → (moment : ℕ) (now : State) → slice_get (first ∷ later) moment ≡ Some now → IsCounted w weights unwrapped (first ∷ later) moment
    → TurnMoment w methods cuts weights unwrapped first now
