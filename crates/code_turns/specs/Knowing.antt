-- What is known of activations whose frames stand in listed methods.
use Rattle.std.specs.Prelude.{ℕ, Bool, List}
use Rattle.nested_runs.specs.Nest.{Machine}
use Rattle.nested_runs.specs.Keeping.{guarded}
use Rattle.world.specs.declared.member.MemberId.{MemberId}
use Rattle.class_hierarchy.specs.World.{World}
use Rattle.frames.specs.declared.here.Here.{Here}
use Rattle.machine.specs.Moment.{End, Ends, activations}
use Rattle.well_formed.specs.WellFormed.{IsWellFormed}
use Rattle.well_formed.specs.Keeping.{KeepsWords}
use Rattle.run_places.specs.Standing.{Stands}

-- since it started: all is well formed, its frame stands in a listed method, and what refers to what was held still does
pub record StoodSince (w : World) (methods : List MemberId) (start now : Here) : Type 0 where
  pub formed : IsWellFormed w now
  pub stands : Stands w methods now.frame
  pub keeps : KeepsWords w start.heap now.heap

-- over a call that came back: it ended from such a state
pub record StoodOver (w : World) (methods : List MemberId) (weights : ℕ → ℕ) (start : Here) (e : End) : Type 0 where
  pub last : Here
  pub cost : ℕ
  pub since : StoodSince w methods start last
  pub ended : Ends w weights last cost e

-- the activations, of whose steps that is known
abbrev pub standing_activations : World → List MemberId → (ℕ → ℕ) → Bool → Machine Here End
standing_activations w methods weights unwrapped =
    guarded (activations w weights unwrapped) (λ s a. StoodSince w methods s a) (λ s e. StoodOver w methods weights s e)
