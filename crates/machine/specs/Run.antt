-- Runs of the machine, from an entry on, and their moments.
use Rattle.std.specs.Prelude.{◌≡◌, ◌≢◌, ℕ, ◌<◌, ◌≤◌, List, [], ◌∷◌, Some, slice_get}
use Rattle.world.specs.declared.member.MemberId.{MemberId}
use Rattle.class_hierarchy.specs.World.{World}
use Rattle.steps.specs.declared.configuration.State.{State}
use Rattle.steps.specs.declared.configuration.Event.TheVariants as events
use Rattle.steps.specs.Step.{Step, step_of}
use Rattle.entries.specs.Entry.{IsEntry}

-- each next configuration is a step from the one before
abbrev pub Continues : World → (ℕ → ℕ) → State → List State → Type 0
Continues w weights before [] = Unit {0}
Continues w weights before (now ∷ later) = Step w weights before now × Continues w weights now later

-- a run that enters the method
abbrev pub IsRun : World → (ℕ → ℕ) → MemberId → List State → Type 0
IsRun w weights m [] = ⊥
IsRun w weights m (first ∷ later) = IsEntry w m first × Continues w weights first later

-- no step before this moment of the run wrapped
abbrev pub IsUnwrapped : World → (ℕ → ℕ) → List State → ℕ → Type 0
IsUnwrapped w weights run moment =
    (i : ℕ) (before : State) → i < moment → slice_get run i ≡ Some before → (step_of w weights before).0 ≢ events.Wrapped

-- in each run that enters the method, at each unwrapped moment, at most so much is spent
pub record CostsAtMost (w : World) (weights : ℕ → ℕ) (m : MemberId) (bound : ℕ) : Type 0 where
  pub spent : (run : List State) → IsRun w weights m run → (moment : ℕ) (now : State) → slice_get run moment ≡ Some now
      → IsUnwrapped w weights run moment → now.spent ≤ bound
