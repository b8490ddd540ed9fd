-- A step is the only one, and takes back nothing.
use Rattle.std.proofs.Common.{Bool, true, false, ◌≡◌, ℕ, ◌≤◌, List, [], ◌∷◌, Option, Some, None, sym, ◌∙◌, ap, arith}
use Rattle.class_hierarchy.specs.World.{World}
use Rattle.frames.specs.declared.value.Value.{Value}
use Rattle.frames.specs.declared.frame.Frame.{Frame}
use Rattle.steps.specs.declared.configuration.State.{State}
use Rattle.steps.specs.declared.configuration.Status.{Status}
use Rattle.steps.specs.declared.configuration.Status.TheVariants as statuses
use Rattle.frames.specs.Outcome.{Goes, Throws, Stops, Outcome, Enters, Leaves}
use Rattle.steps.specs.Step.{Step, outcome_of, weight_of, resumed, return_to, leave, settle, step_from, step_of}
use Rattle.frames.specs.Standing.{standing_at}

-- a configuration has at most one next
pub step_is_unique : (w : World) (weights : ℕ → ℕ) (before one other : State) → Step w weights before one → Step w weights before other → one ≡ other
step_is_unique w weights before one other to_one to_other = to_one.made ∙ sym to_other.made

return_spends : (weight : ℕ) (before : State) (callers : List Frame) (frame : Option Frame) → before.spent ≤ (return_to weight before callers frame).1.spent
return_spends weight before callers None = omega arith
return_spends weight before callers (Some frame) = omega arith

leave_spends : (w : World) (weight : ℕ) (before : State) (value : Option Value) (callers : List Frame) → before.spent ≤ (leave w weight before value callers).1.spent
leave_spends w weight before value [] = omega arith
leave_spends w weight before value (caller ∷ callers) = return_spends weight before callers (resumed w caller value)

settle_spends : (w : World) (weight : ℕ) (before : State) (outcome : Outcome) → before.spent ≤ (settle w weight before outcome).1.spent
settle_spends w weight before (Goes false here) = omega arith
settle_spends w weight before (Goes true here) = omega arith
settle_spends w weight before (Throws what) = omega arith
settle_spends w weight before (Stops k) = omega arith
settle_spends w weight before (Enters caller callee) = omega arith
settle_spends w weight before (Leaves value) = leave_spends w weight before value before.callers

step_from_spends : (status : Status) (w : World) (weights : ℕ → ℕ) (before : State) → before.spent ≤ (step_from status w weights before).1.spent
step_from_spends statuses.Running w weights before = settle_spends w (weight_of weights (standing_at w before.here.frame)) before (outcome_of w before.here)
step_from_spends statuses.Ended w weights before = omega arith
step_from_spends (statuses.Thrown k) w weights before = omega arith
step_from_spends (statuses.Stopped k) w weights before = omega arith

-- no step takes back what was spent
pub step_spends : (w : World) (weights : ℕ → ℕ) (before now : State) → Step w weights before now → before.spent ≤ now.spent
unfolding step_of
step_spends w weights before now s = omega (arith, step_from_spends before.status w weights before, ap (λ (state : State). state.spent) s.made)
