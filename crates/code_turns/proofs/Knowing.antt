-- Each step keeps what is known of activations whose frames stand.
use Rattle.std.proofs.Common.{◌≡◌, ℕ, Bool, true, false, List, [], ◌∷◌, Option, Some, refl, sym, ◌∙◌, ap, subst}
use Rattle.std.specs.List.{AllByRecursion}
use Rattle.nested_runs.specs.Keeping.{Keeps}
use Rattle.world.specs.declared.member.MemberId.{MemberId}
use Rattle.class_hierarchy.specs.World.{World}
use Rattle.class_hierarchy.specs.Building.{IsWellBuilt}
use Rattle.frames.specs.declared.value.Value.{Value}
use Rattle.frames.specs.declared.frame.Frame.{Frame}
use Rattle.frames.specs.declared.here.Here.{Here}
use Rattle.frames.specs.Heap.{Cells}
use Rattle.frames.specs.Outcome.{Outcome, Goes, Enters, Leaves, in_frame}
use Rattle.frames.specs.Standing.{standing_at}
use Rattle.steps.specs.declared.configuration.State.{State}
use Rattle.steps.specs.Step.{Step, outcome_of, weight_of, running, resumed, return_to, settle, step_of}
use Rattle.machine.specs.Moment.{End, Starts, Resumes, activations}
use Rattle.well_formed.specs.WellFormed.{IsWord, IsFrame, IsWellFormed, IsConfiguration, IsOfFiles}
use Rattle.well_formed.specs.Keeping.{KeepsWords, IsKept}
use Rattle.well_formed.proofs.Rows.{instruction_kept}
use Rattle.well_formed.proofs.Steps.{step_kept}
use Rattle.run_places.specs.Standing.{IsClosed, Stands, AllStand}
use Rattle.run_places.proofs.Standing.{steps_stand}
use Rattle.code_turns.specs.Knowing.{StoodSince, StoodOver}

-- a frame whose words are held later, too
words_later : (w : World) (before now : Cells) → KeepsWords w before now → (words : List Value) → AllByRecursion (IsWord w before) words → AllByRecursion (IsWord w now) words
words_later w before now keeps [] all = tt
words_later w before now keeps (word ∷ words) all = (keeps word all.0, words_later w before now keeps words all.1)

frame_later : (w : World) (before now : Cells) (frame : Frame) → KeepsWords w before now → IsFrame w before frame → IsFrame w now frame
frame_later w before now frame keeps is =
    record { locals = words_later w before now keeps frame.locals is.locals; stack = words_later w before now keeps frame.stack is.stack }

module _ (w : World) (methods : List MemberId) (well : IsWellBuilt w) (files : IsOfFiles w) (all : IsClosed w methods) (weights : ℕ → ℕ) where
  -- a configuration that runs, of which nothing was spent
  abbrev at_once : Here → List Frame → State
  at_once a callers = running a callers 0

  abbrev after : Here → List Frame → Outcome → State
  after a callers o = (settle w (weight_of weights (standing_at w a.frame)) (at_once a callers) o).1

  step_from_it : (a : Here) (callers : List Frame) (o : Outcome) → outcome_of w a ≡ o → Step w weights (at_once a callers) (after a callers o)
  unfolding step_of
  step_from_it a callers o e = record { runs = refl; made = ap (after a callers) (sym e) }

  record IsGood (state : State) : Type 0 where
    formed : IsConfiguration w state
    stands : AllStand w methods state

  good_after : (a : Here) (callers : List Frame) (o : Outcome) → outcome_of w a ≡ o → IsGood (at_once a callers) → IsGood (after a callers o)
  good_after a callers o e is =
      let step = step_from_it a callers o e in
      record {
        formed = step_kept w weights (at_once a callers) (after a callers o) well files is.formed step;
        stands = steps_stand w methods weights (at_once a callers) (after a callers o) well files all is.formed is.stands step;
      }

  alone : (a : Here) → IsWellFormed w a → Stands w methods a.frame → IsGood (at_once a [])
  alone a formed stands = record { formed = record { here = formed; callers = tt }; stands = record { here = stands; callers = tt } }

  -- ---- moves

  gone_stands : (a b : Here) (wraps : Bool) → IsGood (after a [] (Goes wraps b)) → Stands w methods b.frame
  gone_stands a b true is = is.stands.here
  gone_stands a b false is = is.stands.here

  move_keeps : {s a b : Here} (wraps : Bool) → StoodSince w methods s a → outcome_of w a ≡ Goes wraps b → StoodSince w methods s b
  move_keeps {s = s} {a = a} {b = b} wraps since makes =
      let kept : IsKept w a (Goes wraps b) = subst (IsKept w a) makes (instruction_kept w a well files since.formed) in
      record {
        formed = kept.0;
        stands = gone_stands a b wraps (good_after a [] (Goes wraps b) makes (alone a since.formed since.stands));
        keeps = λ v is. kept.1 v (since.keeps v is);
      }

  -- ---- calls

  entered : {s a : Here} {caller callee : Frame} → StoodSince w methods s a → outcome_of w a ≡ Enters caller callee → IsGood (after a [] (Enters caller callee))
  entered {a = a} {caller = caller} {callee = callee} since makes = good_after a [] (Enters caller callee) makes (alone a since.formed since.stands)

  start_keeps : {s a : Here} {caller callee : Frame} → StoodSince w methods s a → outcome_of w a ≡ Enters caller callee → StoodSince w methods (in_frame a callee) (in_frame a callee)
  start_keeps since makes =
      let now = entered since makes in
      record { formed = now.formed.here; stands = now.stands.here; keeps = λ v is. is }

  -- the frame that waited, when its callee has ended
  resume_good :
      {s a b d : Here} {caller callee frame : Frame} (value : Option Value) → StoodSince w methods s a → outcome_of w a ≡ Enters caller callee → StoodSince w methods b d → KeepsWords w a.heap b.heap
      → outcome_of w d ≡ Leaves value → resumed w caller value ≡ Some frame → IsGood (return_to (weight_of weights (standing_at w d.frame)) (at_once d (caller ∷ [])) [] (Some frame)).1
  resume_good {a = a} {d = d} {caller = caller} {frame = frame} value since makes inner keeps leaves goes =
      let waits = entered since makes in
      let held : IsFrame w d.heap caller = frame_later w a.heap d.heap caller (λ v is. inner.keeps v (keeps v is)) waits.formed.callers.0 in
      let before : IsGood (at_once d (caller ∷ [])) = record {
        formed = record { here = inner.formed; callers = (held, tt) };
        stands = record { here = inner.stands; callers = (waits.stands.callers.0, tt) };
      } in
      subst (λ (o : Option Frame). IsGood (return_to (weight_of weights (standing_at w d.frame)) (at_once d (caller ∷ [])) [] o).1) goes (good_after d (caller ∷ []) (Leaves value) leaves before)

  call_keeps : {s a b r : Here} {e : End} {k : ℕ} → StoodSince w methods s a → Starts w weights a k b → StoodOver w methods weights b e → Resumes w a e r → StoodSince w methods s r
  call_keeps {s = s} {a = a} {b = b} {r = r} {e = e} since st over re =
      let d : Here = over.last in
      let same : e ≡ record { value = over.ended.value; heap = d.heap; statics = d.statics } = over.ended.ends in
      let now : in_frame d re.frame ≡ r = ap (λ (x : End). let h : Here = record { frame = re.frame; heap = x.heap; statics = x.statics } in h) (sym same) ∙ sym re.now in
      let goes : resumed w re.caller over.ended.value ≡ Some re.frame = ap (λ (x : End). resumed w re.caller x.value) (sym same) ∙ re.goes in
      let there : KeepsWords w a.heap b.heap = λ v is. subst (λ (x : Here). IsWord w x.heap v) (sym st.begins) is in
      let good = resume_good over.ended.value since re.waits.1 over.since there over.ended.makes goes in
      subst (λ (x : Here). StoodSince w methods s x) now
      (record { formed = good.formed.here; stands = good.stands.here; keeps = λ v is. over.since.keeps v (there v (since.keeps v is)) })

  pub standing_kept : (unwrapped : Bool) → Keeps (activations w weights unwrapped) (λ s a. StoodSince w methods s a) (λ s e. StoodOver w methods weights s e)
  standing_kept unwrapped = record {
    at_start = λ since st. subst (λ (x : Here). StoodSince w methods x x) (sym st.begins) (start_keeps since st.makes);
    over_move = λ since mv. move_keeps mv.wraps since mv.makes;
    over_call = λ since st over re. call_keeps since st over re;
    at_end = λ since en. record { last = _; cost = _; since = since; ended = en };
  }
