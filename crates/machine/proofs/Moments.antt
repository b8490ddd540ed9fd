-- Each moment of a run is a nest.
use Rattle.std.proofs.Common.{◌≡◌, ◌≢◌, ℕ, zero, suc, ◌+◌, Bool, true, false, List, [], ◌∷◌, Option, Some, None, refl, sym, ◌∙◌, ap, subst, arith}
use Rattle.std.specs.Prelude.{slice_get}
use Rattle.nested_runs.specs.Nest.{Nest, base, stays}
use Rattle.nested_runs.proofs.Nests.{nest_at, nest_moves, nest_starts, nest_returns}
use Rattle.world.specs.declared.member.MemberId.{MemberId}
use Rattle.class_hierarchy.specs.World.{World}
use Rattle.frames.specs.declared.value.Value.{Value}
use Rattle.frames.specs.declared.frame.Frame.{Frame}
use Rattle.frames.specs.declared.here.Here.{Here}
use Rattle.steps.specs.declared.configuration.State.{State}
use Rattle.steps.specs.declared.configuration.Status.{Status}
use Rattle.steps.specs.declared.configuration.Status.TheVariants as statuses
use Rattle.steps.specs.declared.configuration.Event.TheVariants as events
use Rattle.frames.specs.Outcome.{Goes, Throws, Stops, Outcome, Enters, Leaves}
use Rattle.steps.specs.Step.{Step, outcome_of, resumed, return_to, leave, settle, step_from, step_of}
use Rattle.entries.specs.Entry.{IsEntry}
use Rattle.machine.specs.Run.{IsRun, Continues, IsUnwrapped}
use Rattle.machine.specs.Moment.{cost_of, MayGo, WaitsAs, activations, AreWaiting, IsSpent, Moment, IsCounted}

-- what a step starts from: a nest of what is spent
record Open (w : World) (weights : ℕ → ℕ) (unwrapped : Bool) (first before : State) : Type 0 where
  waiting : List Here
  waits : AreWaiting w waiting before.callers
  nest : Nest (activations w weights unwrapped) first.here (before.here ∷ waiting) before.spent

open_of : (w : World) (weights : ℕ → ℕ) (unwrapped : Bool) (first before : State) → Moment w weights unwrapped first before → before.status ≡ statuses.Running
    → Open w weights unwrapped first before
open_of w weights unwrapped first before m runs =
    let is : before.spent ≡ m.cost = subst (λ (status : Status). IsSpent w weights m.waiting m.cost before status) runs m.spent in
    record { waiting = m.waiting; waits = m.waits; nest = nest_at (sym is) m.nest }

-- the frame that waited goes on
return_moment : (w : World) (weights : ℕ → ℕ) (unwrapped : Bool) (first before : State) (value : Option Value) (a : Here) (waiting : List Here)
    (caller : Frame) (callers : List Frame) (frame : Option Frame)
    → AreWaiting w (a ∷ waiting) before.callers → outcome_of w before.here ≡ Leaves value → WaitsAs w a caller → AreWaiting w waiting callers
    → Nest (activations w weights unwrapped) first.here (before.here ∷ a ∷ waiting) before.spent → resumed w caller value ≡ frame
    → Moment w weights unwrapped first (return_to (cost_of w weights before.here) before callers frame).1
return_moment w weights unwrapped first before value a waiting caller callers None all made is rest nest goes =
    record { waiting = a ∷ waiting; waits = all; cost = before.spent; nest = nest; spent = refl }
return_moment w weights unwrapped first before value a waiting caller callers (Some frame) all made is rest nest goes =
    record {
      waiting = waiting;
      waits = rest;
      cost = before.spent + cost_of w weights before.here;
      nest = nest_returns {e = record { value = value; heap = before.here.heap; statics = before.here.statics }} nest
          (record { value = value; makes = made; ends = refl; costs = refl })
          (record { caller = caller; frame = frame; waits = is; goes = goes; now = refl });
      spent = refl;
    }

leave_moment : (w : World) (weights : ℕ → ℕ) (unwrapped : Bool) (first before : State) (value : Option Value) (waiting : List Here) (callers : List Frame)
    → AreWaiting w waiting before.callers → AreWaiting w waiting callers → outcome_of w before.here ≡ Leaves value
    → Nest (activations w weights unwrapped) first.here (before.here ∷ waiting) before.spent
    → Moment w weights unwrapped first (leave w (cost_of w weights before.here) before value callers).1
leave_moment w weights unwrapped first before value [] [] all waits made nest =
    record { waiting = []; waits = all; cost = before.spent; nest = nest; spent = (refl, (value, made), refl) }
leave_moment w weights unwrapped first before value (a ∷ waiting) [] all waits made nest = absurd waits
leave_moment w weights unwrapped first before value [] (caller ∷ callers) all waits made nest = absurd waits
leave_moment w weights unwrapped first before value (a ∷ waiting) (caller ∷ callers) all waits made nest =
    return_moment w weights unwrapped first before value a waiting caller callers (resumed w caller value) all made waits.0 waits.1 nest refl

-- a step that goes on in the frame
move_moment : (w : World) (weights : ℕ → ℕ) (unwrapped : Bool) (first before : State) (wraps : Bool) (here : Here) → MayGo unwrapped wraps
    → outcome_of w before.here ≡ Goes wraps here → Open w weights unwrapped first before
    → Moment w weights unwrapped first (record { here = here; callers = before.callers; spent = before.spent + cost_of w weights before.here; status = statuses.Running })
move_moment w weights unwrapped first before wraps here may made o =
    record {
      waiting = o.waiting;
      waits = o.waits;
      cost = before.spent + cost_of w weights before.here;
      nest = nest_moves o.nest (record { wraps = wraps; goes = may; makes = made; costs = refl });
      spent = refl;
    }

may_wrap : (unwrapped : Bool) → (unwrapped ≡ true → ⊥) → MayGo unwrapped true
may_wrap true not = absurd (not refl)
may_wrap false not = tt

-- what any outcome makes of a moment
settle_moment : (w : World) (weights : ℕ → ℕ) (unwrapped : Bool) (first before : State) (outcome : Outcome) → outcome_of w before.here ≡ outcome
    → Open w weights unwrapped first before → (unwrapped ≡ true → (settle w (cost_of w weights before.here) before outcome).0 ≢ events.Wrapped)
    → Moment w weights unwrapped first (settle w (cost_of w weights before.here) before outcome).1
settle_moment w weights unwrapped first before (Goes false here) made o counts = move_moment w weights unwrapped first before false here tt made o
settle_moment w weights unwrapped first before (Goes true here) made o counts =
    move_moment w weights unwrapped first before true here (may_wrap unwrapped (λ on. counts on refl)) made o
settle_moment w weights unwrapped first before (Throws what) made o counts =
    record { waiting = o.waiting; waits = o.waits; cost = before.spent; nest = o.nest; spent = ((what, made, refl), refl) }
settle_moment w weights unwrapped first before (Stops k) made o counts =
    record { waiting = o.waiting; waits = o.waits; cost = before.spent; nest = o.nest; spent = refl }
settle_moment w weights unwrapped first before (Enters caller callee) made o counts =
    record {
      waiting = before.here ∷ o.waiting;
      waits = ((callee, made), o.waits);
      cost = before.spent + cost_of w weights before.here;
      nest = nest_starts o.nest (record { caller = caller; callee = callee; makes = made; begins = refl; costs = refl });
      spent = refl;
    }
settle_moment w weights unwrapped first before (Leaves value) made o counts =
    leave_moment w weights unwrapped first before value o.waiting before.callers o.waits o.waits made o.nest

-- the step of a configuration that runs
running_step : (w : World) (weights : ℕ → ℕ) (before : State) → before.status ≡ statuses.Running
    → step_of w weights before ≡ settle w (cost_of w weights before.here) before (outcome_of w before.here)
unfolding step_of
running_step w weights before runs = ap (λ (status : Status). step_from status w weights before) runs

-- each step keeps the nest
pub step_moment : (w : World) (weights : ℕ → ℕ) (unwrapped : Bool) (first before now : State) → Moment w weights unwrapped first before → Step w weights before now
    → (unwrapped ≡ true → (step_of w weights before).0 ≢ events.Wrapped) → Moment w weights unwrapped first now
step_moment w weights unwrapped first before now m s counts =
    let e = running_step w weights before s.runs in
    let made : (settle w (cost_of w weights before.here) before (outcome_of w before.here)).1 ≡ now = sym (s.made ∙ ap (λ (p : events.the_data × State). p.1) e) in
    subst (λ (state : State). Moment w weights unwrapped first state) made
    (settle_moment w weights unwrapped first before (outcome_of w before.here) refl (open_of w weights unwrapped first before m s.runs)
    (λ on wraps. counts on (ap (λ (p : events.the_data × State). p.0) e ∙ wraps)))

-- the entry is one activation, in which nothing is done
pub entry_moment : (w : World) (weights : ℕ → ℕ) (unwrapped : Bool) (m : MemberId) (first : State) → IsEntry w m first → Moment w weights unwrapped first first
entry_moment w weights unwrapped m first is =
    let no_callers : [] ≡ first.callers = sym (ap (λ (s : State). s.callers) is.entered) in
    let runs : statuses.Running ≡ first.status = sym (ap (λ (s : State). s.status) is.entered) in
    let nothing : first.spent ≡ 0 = ap (λ (s : State). s.spent) is.entered in
    record {
      waiting = [];
      waits = subst (λ (callers : List Frame). AreWaiting w [] callers) no_callers tt;
      cost = 0;
      nest = base stays;
      spent = subst (λ (status : Status). IsSpent w weights [] 0 first status) runs nothing;
    }

-- the moments behind a configuration, the only induction over a run's list
later_moment : (w : World) (weights : ℕ → ℕ) (unwrapped : Bool) (first before : State) (later : List State) → Moment w weights unwrapped first before
    → Continues w weights before later → (moment : ℕ) (now : State) → slice_get (before ∷ later) moment ≡ Some now
    → (unwrapped ≡ true → IsUnwrapped w weights (before ∷ later) moment) → Moment w weights unwrapped first now
later_moment w weights unwrapped first before later m goes zero now is counts =
    let same : before ≡ now = cc in
    subst (λ (state : State). Moment w weights unwrapped first state) same m
later_moment w weights unwrapped first before [] m goes (suc moment) now is counts = absurd (cc)
later_moment w weights unwrapped first before (next ∷ later) m goes (suc moment) now is counts =
    later_moment w weights unwrapped first next later
    (step_moment w weights unwrapped first before next m goes.0 (λ on. counts on 0 before (omega arith) refl))
    goes.1 moment now is (λ on i state below at. counts on (suc i) state (omega arith) at)

counted : (w : World) (weights : ℕ → ℕ) (unwrapped : Bool) (run : List State) (moment : ℕ) → IsCounted w weights unwrapped run moment
    → unwrapped ≡ true → IsUnwrapped w weights run moment
counted w weights true run moment is on = is
counted w weights false run moment is on = absurd (cc)

-- each moment of each run is the nest of what is open since its entry
pub at_moment : (w : World) (weights : ℕ → ℕ) (unwrapped : Bool) (m : MemberId) (first : State) (later : List State)
    → IsRun w weights m (first ∷ later) → (moment : ℕ) (now : State) → slice_get (first ∷ later) moment ≡ Some now
    → IsCounted w weights unwrapped (first ∷ later) moment → Moment w weights unwrapped first now
at_moment w weights unwrapped m first later run moment now is counts =
    later_moment w weights unwrapped first first later (entry_moment w weights unwrapped m first run.0) run.1 moment now is
    (counted w weights unwrapped (first ∷ later) moment counts)
