-- Moments are nests of turns.
use Rattle.std.proofs.Common.{◌≡◌, ℕ, ◌<◌, Bool, List, [], ◌∷◌, length, Option, Some, Contains, sym, ◌∙◌, ap, subst, arith}
use Rattle.std.specs.Prelude.{slice_get, option_and_then}
use Rattle.class_reader.specs.declared.class.Method.{Method}
use Rattle.class_reader.specs.declared.class.Code.{Code}
use Rattle.nested_runs.specs.Nest.{Machine, Done}
use Rattle.nested_runs.specs.Keeping.{Keeps, guarded}
use Rattle.nested_runs.specs.Refining.{IsWithin}
use Rattle.nested_runs.proofs.Kept.{nest_guarded, done_guarded, guarded_within}
use Rattle.nested_runs.proofs.Refined.{nest_within}
use Rattle.world.specs.declared.member.MemberId.{MemberId}
use Rattle.class_hierarchy.specs.World.{World}
use Rattle.class_hierarchy.specs.Building.{IsWellBuilt}
use Rattle.linking.specs.Methods.{code_at}
use Rattle.frames.specs.declared.here.Here.{Here}
use Rattle.steps.specs.declared.configuration.State.{State}
use Rattle.entries.specs.Entry.{IsEntry}
use Rattle.machine.specs.Run.{IsRun}
use Rattle.machine.specs.Moment.{End, activations, Moment, IsCounted}
use Rattle.machine.proofs.Moments.{at_moment}
use Rattle.well_formed.specs.WellFormed.{IsOfFiles}
use Rattle.well_formed.proofs.Entered.{entry_well_formed}
use Rattle.run_places.specs.Standing.{IsClosed, Stands, HasInstructions}
use Rattle.run_places.proofs.Standing.{entry_stands}
use Rattle.loop_turns.specs.Turns.{Places, Turn, TurnEnd, turn, within, loops, calls, leaves, returns, behind, back, turns, TurnMoves, TurnStarts, TurnEnds, TurnResumes, IsOnTop, Returned}
use Rattle.loop_turns.proofs.Layers.{nest_on_top, done_turns}
use Rattle.code_turns.specs.Homes.{CutMethod, AreAllCut, places}
use Rattle.code_turns.specs.Knowing.{StoodSince, StoodOver}
use Rattle.code_turns.specs.Moments.{TurnMoment}
use Rattle.code_turns.proofs.Looped.{entry_passes, machine_looped}
use Rattle.code_turns.proofs.Knowing.{standing_kept}

-- ---- machines within others

module _ {A E : Type 0} {n m : Machine A E} (within_m : IsWithin n m) (at : Places A) where
  move_within : {x y : Turn A} {k : ℕ} → TurnMoves n at x k y → TurnMoves m at x k y
  move_within (within home mv) = within home (within_m.moves mv)

  start_within : {x y : Turn A} {k : ℕ} → TurnStarts n at x k y → TurnStarts m at x k y
  start_within (loops home) = loops home
  start_within (calls home st) = calls home (within_m.starts st)

  end_within : {x : Turn A} {k : ℕ} {e : TurnEnd A E} → TurnEnds n at x k e → TurnEnds m at x k e
  end_within (leaves out) = leaves out
  end_within (returns home en) = returns home (within_m.ends en)

  resume_within : {x y : Turn A} {e : TurnEnd A E} → TurnResumes n at x e y → TurnResumes m at x e y
  resume_within (behind home) = behind home
  resume_within (back home re) = back home (within_m.resumes re)

  -- turns of the one machine are turns of the other
  pub turns_within : IsWithin (turns n at) (turns m at)
  turns_within = record {
    moves = λ x. move_within x;
    starts = λ x. start_within x;
    ends = λ x. end_within x;
    resumes = λ x. resume_within x;
  }

-- ---- moments

module _ (w : World) (methods : List MemberId) (cuts : MemberId → Option CutMethod) (all : AreAllCut w methods cuts) (weights : ℕ → ℕ) (unwrapped : Bool) where
  -- where each step keeps what is known, and that says that frames stand
  pub moment_on_top :
      {Since : Here → Here → Type 0} {Over : Here → End → Type 0} {first now : State}
      → Keeps (activations w weights unwrapped) Since Over → ((s a : Here) → Since s a → Stands w methods a.frame)
      → Since first.here first.here → first.here.frame.pc ≡ 0 → (m : Moment w weights unwrapped first now)
      → IsOnTop (guarded (activations w weights unwrapped) Since Over) (places cuts) (turn first.here []) now.here m.cost
  moment_on_top {first = first} keeps stands begun at m =
      nest_on_top (machine_looped w methods cuts all weights unwrapped stands) (entry_passes w methods cuts all first.here (stands first.here first.here begun) at)
      (nest_guarded keeps begun m.nest)

  -- a call that is done is its method's turn, done
  pub call_turned :
      {Since : Here → Here → Type 0} {Over : Here → End → Type 0} {a : Here} {e : End} {k : ℕ}
      → Keeps (activations w weights unwrapped) Since Over → ((s d : Here) → Since s d → Stands w methods d.frame)
      → Since a a → a.frame.pc ≡ 0 → Done (activations w weights unwrapped) a k e
      → Done (turns (guarded (activations w weights unwrapped) Since Over) (places cuts)) (turn a []) k (Returned e)
  call_turned {a = a} keeps stands begun at call =
      done_turns (machine_looped w methods cuts all weights unwrapped stands) (entry_passes w methods cuts all a (stands a a begun) at) (done_guarded keeps begun call)

  has_instructions : (m : MemberId) → Contains methods m → HasInstructions w m
  has_instructions m listed code has =
      let c = all m listed in
      let own : code_at w m ≡ Some c.0.body.code = ap (option_and_then (λ (method : Method). method.code)) c.2.method ∙ c.2.is_body.has_code.own in
      let both : Some code ≡ Some c.0.body.code = sym has ∙ own in
      let same : c.0.body.code ≡ code = cc in
      subst (λ (d : Code). 0 < length d.bytes) same (let some = c.2.is_body.has_code.some in omega arith)

  module _ (well : IsWellBuilt w) (files : IsOfFiles w) (closed : IsClosed w methods) where
    entry_since : (m : MemberId) (first : State) → Contains methods m → IsEntry w m first → StoodSince w methods first.here first.here
    entry_since m first listed is = record {
      formed = (entry_well_formed w m first is).here;
      stands = (entry_stands well files closed m first listed (has_instructions m listed) is).here;
      keeps = λ v held. held;
    }

    pub moments_turn : (m : MemberId) (first : State) (later : List State) → Contains methods m → IsRun w weights m (first ∷ later) → (moment : ℕ) (now : State)
        → slice_get (first ∷ later) moment ≡ Some now → IsCounted w weights unwrapped (first ∷ later) moment → TurnMoment w methods cuts weights unwrapped first now
    moments_turn m first later listed run moment now at counts =
        let keeps = standing_kept w methods well files closed weights unwrapped in
        let is : Moment w weights unwrapped first now = at_moment w weights unwrapped m first later run moment now at counts in
        let begins : first.here.frame.pc ≡ 0 = ap (λ (s : State). s.here.frame.pc) run.0.entered in
        let top = moment_on_top keeps (λ s a since. since.stands) (entry_since m first listed run.0) begins is in
        let inside = guarded_within (activations w weights unwrapped) (λ s a. StoodSince w methods s a) (λ s e. StoodOver w methods weights s e) in
        record {
          waiting = is.waiting;
          waits = is.waits;
          cost = is.cost;
          below = top.below;
          nest = nest_within (turns_within inside (places cuts)) top.nest;
          known = top.nest;
          spent = is.spent;
        }
