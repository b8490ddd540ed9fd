-- At each moment each activation is as its kinds say.
use Rattle.std.proofs.Common.{◌≡◌, ℕ, Bool, false, List, [], ◌∷◌, Some}
use Rattle.std.specs.Prelude.{slice_get}
use Rattle.std.specs.List.{AllByRecursion}
use Rattle.nested_runs.specs.Keeping.{EachSince, last, upon}
use Rattle.nested_runs.proofs.Kept.{nest_since}
use Rattle.world.specs.declared.member.MemberId.{MemberId}
use Rattle.class_hierarchy.specs.World.{World}
use Rattle.code_flow.specs.Plans.{Plan}
use Rattle.frames.specs.declared.here.Here.{Here}
use Rattle.steps.specs.declared.configuration.State.{State}
use Rattle.entries.specs.Entry.{IsEntry}
use Rattle.machine.specs.Run.{IsRun}
use Rattle.machine.specs.Moment.{activations, Moment}
use Rattle.machine.proofs.Moments.{at_moment}
use Rattle.program_places.specs.Programs.{methods_of}
use Rattle.program_kinds.specs.Meaning.{KindTable, IsAsKinds}
use Rattle.program_kinds.specs.Keeping.{KindsSince, IsTyped, KindsAreKept, MomentsAreAsKinds, AreAsKinds, RunsAreAsKinds}
use Rattle.program_kinds.proofs.Kept.{since_start, all_kept, entry_as}

pub kinds_are_kept : KindsAreKept
kinds_are_kept w m program table weights unwrapped typed = all_kept typed weights unwrapped

each_known : (w : World) (methods : List MemberId) (table : KindTable) (weights : ℕ → ℕ) (unwrapped : Bool) (first : Here) (stack : List Here)
    → EachSince (activations w weights unwrapped) first (λ start now. KindsSince w methods table start now) stack → AllByRecursion (IsAsKinds w methods table) stack
each_known w methods table weights unwrapped first stack (last since) = (since.known, tt)
each_known w methods table weights unwrapped first stack (upon below started since) = (since.known, each_known w methods table weights unwrapped first _ below)

pub moments_are_as_kinds : MomentsAreAsKinds
moments_are_as_kinds w m program table weights unwrapped first now typed entry moment =
    each_known w (methods_of program) table weights unwrapped first.here (now.here ∷ moment.waiting)
    (nest_since (all_kept typed weights unwrapped) (since_start typed first.here (entry_as typed first entry)) moment.nest)

pub runs_are_as_kinds : RunsAreAsKinds
runs_are_as_kinds w m program table weights [] moment now typed runs at = absurd runs
runs_are_as_kinds w m program table weights (first ∷ later) moment now typed runs at =
    let there : Moment w weights false first now = at_moment w weights false m first later runs moment now at tt in
    record { waiting = there.waiting; waits = there.waits; each = moments_are_as_kinds w m program table weights false first now typed runs.0 there }
