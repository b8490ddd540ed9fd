-- The machine of activations, whose frames stand in methods with their loops, is looped.
use Rattle.std.proofs.Common.{◌≡◌, ℕ, ◌+◌, Bool, true, false, ◌&&◌, List, [], length, Option, Some, None, Contains, refl, sym, ◌∙◌, ap, subst, nat_le, nat_lt}
use Rattle.std.specs.Prelude.{if◌then◌else◌, option_and_then}
use Rattle.op_table.specs.Actions.{action_of}
use Rattle.world.specs.declared.member.MemberId.{MemberId}
use Rattle.class_hierarchy.specs.World.{World}
use Rattle.code_blocks.specs.Successors.{goes_behind, successors_of}
use Rattle.nested_runs.specs.Keeping.{KnownMove, KnownStart, KnownEnd, KnownResume, guarded}
use Rattle.frames.specs.declared.value.Value.{Value}
use Rattle.frames.specs.declared.frame.Frame.{Frame}
use Rattle.frames.specs.declared.here.Here.{Here}
use Rattle.frames.specs.Outcome.{with_words}
use Rattle.frames.specs.Standing.{Standing, standing_at}
use Rattle.steps.specs.Calling.{waiting}
use Rattle.steps.specs.Step.{with_result, resumed, resumed_by}
use Rattle.machine.specs.Moment.{End, activations}
use Rattle.run_places.specs.Standing.{Stands, place_of}
use Rattle.run_places.proofs.Leading.{LeadsOn, leads_on, behind_leads}
use Rattle.loop_turns.specs.Regions.{Passage}
use Rattle.loop_turns.specs.Turns.{AreLooped}
use Rattle.code_turns.specs.Homes.{CutMethod, IsCutOf, AreAllCut, home_of, places}
use Rattle.code_turns.proofs.Outcomes.{goes_from, entering, leaving, Waits}
use Rattle.code_turns.proofs.Frames.{in_block, goes_on, begins, ends}

-- ---- behind a call

-- the frame stands behind the call
pub record IsBehind (s : Standing) (caller frame : Frame) (stack : List Value) : Type 0 where
  pub now : frame ≡ with_words caller (caller.pc + s.instr.len) caller.locals stack

behind_if : (s : Standing) (caller frame : Frame) (stack : List Value) (fits : Bool) → (if fits then Some (with_words caller (caller.pc + s.instr.len) caller.locals stack) else None) ≡ Some frame → IsBehind s caller frame stack
behind_if s caller frame stack true e = record { now = let same : with_words caller (caller.pc + s.instr.len) caller.locals stack ≡ frame = cc in sym same }
behind_if s caller frame stack false e = absurd cc

pub is_behind : (w : World) (s : Standing) (caller frame : Frame) (value : Option Value) → standing_at w caller ≡ Some s → resumed w caller value ≡ Some frame → IsBehind s caller frame (with_result value caller.stack)
unfolding resumed
is_behind w s caller frame value stands goes =
    behind_if s caller frame (with_result value caller.stack) (nat_le (length (with_result value caller.stack)) s.code.max_stack && nat_lt (caller.pc + s.instr.len) (length s.code.bytes))
    (ap (option_and_then (resumed_by caller (with_result value caller.stack))) (sym stands) ∙ goes)

pub waiting_stands : (w : World) (a : Here) (rest : List Value) → standing_at w (waiting a rest) ≡ standing_at w a.frame
unfolding standing_at
waiting_stands w a rest = refl

module _ (w : World) (methods : List MemberId) (cuts : MemberId → Option CutMethod) (all : AreAllCut w methods cuts) where
  -- from a frame to another one of its method, at a successor of its instruction
  passes : (a b : Here) (s : Standing) → Stands w methods a.frame → Stands w methods b.frame → b.frame.method ≡ a.frame.method → standing_at w a.frame ≡ Some s
      → Contains (successors_of s.code.bytes (place_of a.frame s)) b.frame.pc → Passage (home_of cuts a) b.frame.pc (home_of cuts b)
  passes a b s from to method stands leads =
      let c = all a.frame.method from.listed in
      let is : IsCutOf w b.frame.method c.0 = subst (λ (m : MemberId). IsCutOf w m c.0) (sym method) c.2 in
      goes_on w methods cuts c.0 c.2.is_body c.2.are_loops a b s
      (in_block w methods cuts c.0 c.2.is_body c.2.are_loops a c.1 c.2.method from)
      (in_block w methods cuts c.0 c.2.is_body c.2.are_loops b (ap cuts method ∙ c.1) is.method to) stands leads

  pub entry_passes : (b : Here) → Stands w methods b.frame → b.frame.pc ≡ 0 → Passage [] b.frame.pc (home_of cuts b)
  entry_passes b is first =
      let c = all b.frame.method is.listed in
      begins w methods cuts c.0 c.2.is_body c.2.are_loops b (in_block w methods cuts c.0 c.2.is_body c.2.are_loops b c.1 c.2.method is) first

  module _ (weights : ℕ → ℕ) (unwrapped : Bool) {Since : Here → Here → Type 0} (stands : (s a : Here) → Since s a → Stands w methods a.frame) where
    move_passes : {a b : Here} {k : ℕ} → KnownMove (activations w weights unwrapped) Since a k b → Passage (home_of cuts a) b.frame.pc (home_of cuts b)
    move_passes {a = a} {b = b} mv =
        let from = goes_from w a b mv.made.wraps mv.made.makes in
        let on : LeadsOn from.standing a b = leads_on w from.standing a b mv.made.wraps from.stands mv.made.makes in
        passes a b from.standing (stands mv.from a mv.before) (stands mv.from b mv.now) on.method from.stands on.successor

    start_passes : {a b : Here} {k : ℕ} → KnownStart (activations w weights unwrapped) Since a k b → Passage [] b.frame.pc (home_of cuts b)
    start_passes {a = a} {b = b} st =
        let enters = entering w a st.made.caller st.made.callee st.made.makes in
        entry_passes b (stands b b st.now) (ap (λ (x : Here). x.frame.pc) st.made.begins ∙ ap (λ (f : Frame). f.pc) enters.1.called.enters)

    module _ {Over : Here → End → Type 0} where
      resume_passes : {a b : Here} {e : End} → KnownResume (activations w weights unwrapped) Since Over a e b → Passage (home_of cuts a) b.frame.pc (home_of cuts b)
      resume_passes {a = a} {b = b} {e = e} re =
          let enters = entering w a re.made.caller re.made.waits.0 re.made.waits.1 in
          let s = enters.0.standing in
          let waits : Waits w s a (action_of s.instr) re.made.caller re.made.waits.0 = enters.1 in
          let at : standing_at w re.made.caller ≡ Some s = ap (standing_at w) waits.called.waits ∙ waiting_stands w a waits.called.taken.handed.rest ∙ enters.0.stands in
          let behind = is_behind w s re.made.caller re.made.frame e.value at re.made.goes in
          let frame : b.frame ≡ re.made.frame = ap (λ (x : Here). x.frame) re.made.now in
          let method : b.frame.method ≡ a.frame.method = ap (λ (f : Frame). f.method) (frame ∙ behind.now) ∙ ap (λ (f : Frame). f.method) waits.called.waits in
          let pc : a.frame.pc + s.instr.len ≡ b.frame.pc = ap (λ (f : Frame). f.pc + s.instr.len) (sym waits.called.waits) ∙ ap (λ (f : Frame). f.pc) (sym (frame ∙ behind.now)) in
          let on : goes_behind (action_of s.instr) ≡ true = ap goes_behind waits.is in
          passes a b s (stands re.from a re.before) (stands re.from b re.now) method enters.0.stands
          (subst (λ (x : ℕ). Contains (successors_of s.code.bytes (place_of a.frame s)) x) pc (behind_leads s.code.bytes (place_of a.frame s) on))

      end_in_none : {d : Here} {e : End} {k : ℕ} → KnownEnd (activations w weights unwrapped) Since Over d k e → home_of cuts d ≡ []
      end_in_none {d = d} en =
          let is = stands en.from d en.before in
          let c = all d.frame.method is.listed in
          let returns = leaving w d en.made.value en.made.makes in
          ends w methods cuts c.0 c.2.is_body c.2.are_loops d returns.0.standing (in_block w methods cuts c.0 c.2.is_body c.2.are_loops d c.1 c.2.method is) returns.0.stands returns.1

      -- where what is known of a state since its activation's start says that its frame stands
      pub machine_looped : AreLooped (guarded (activations w weights unwrapped) Since Over) (places cuts)
      machine_looped = record {
        start = λ st. start_passes st;
        move = λ mv. move_passes mv;
        resume = λ re. resume_passes re;
        end = λ en. end_in_none en;
      }
