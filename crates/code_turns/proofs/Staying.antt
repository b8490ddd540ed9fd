-- Over a loop's turn its frame stays in the loop's blocks.
use Rattle.std.proofs.Common.{◌≡◌, ℕ, Bool, List, [], ◌∷◌, Option, Some, Contains, refl, sym, ◌∙◌, ap, subst}
use Rattle.std.specs.Prelude.{slice_get}
use Rattle.std.proofs.lemmas.List.Elements.{All-contains}
use Rattle.common_laws.proofs.Members.{in_map, contains_tail}
use Rattle.graph_core.specs.Nests.{Entered, HasNodes}
use Rattle.graph_loops.specs.Nesting.{Holds}
use Rattle.nested_runs.specs.Nest.{Went, stays, moved, called, Done, done}
use Rattle.nested_runs.specs.Keeping.{KnownMove, KnownResume, guarded}
use Rattle.world.specs.declared.member.MemberId.{MemberId}
use Rattle.class_hierarchy.specs.World.{World}
use Rattle.code_blocks.specs.declared.instruction.Instruction.{Instruction}
use Rattle.code_blocks.specs.Successors.{instruction_of}
use Rattle.code_blocks.proofs.Sets.{placed_stand}
use Rattle.op_table.proofs.Agreeing.{instr-fits}
use Rattle.method_body.specs.Bodies.{MethodBody}
use Rattle.loop_cut.specs.declared.found.CodeLoop.{CodeLoop}
use Rattle.loop_cut.specs.CodeLoops.{StandsIn, entered_of, IsCut}
use Rattle.frames.specs.declared.frame.Frame.{Frame}
use Rattle.frames.specs.declared.here.Here.{Here}
use Rattle.frames.specs.Standing.{Standing, standing_at}
use Rattle.machine.specs.Moment.{End, activations}
use Rattle.run_places.specs.Standing.{Stands, place_of}
use Rattle.run_places.proofs.Leading.{LeadsOn, leads_on}
use Rattle.loop_turns.specs.Turns.{Turn, turn, Left, within, loops, calls, leaves, behind, back, turns}
use Rattle.loop_turns.proofs.Ends.{no_longer_end}
use Rattle.loop_runs.specs.Unchanged.{IsAt, Stays}
use Rattle.loop_runs.specs.Unchanged.GoesOn.{moves, returns}
use Rattle.loop_runs.specs.Unchanged.Stays.{ends, goes as goes_once}
use Rattle.loop_runs.proofs.Keeping.{loops_keep}
use Rattle.code_turns.specs.Homes.{CutMethod, IsCutOf, AreAllCut, home_of, places}
use Rattle.code_turns.specs.Knowing.{StoodSince, StoodOver}
use Rattle.code_turns.specs.Staying.{TurnLeads, goes, left, IsLoopOf}
use Rattle.code_turns.proofs.Around.{around_holds}
use Rattle.code_turns.proofs.Blocks.{is_around}
use Rattle.code_turns.proofs.Outcomes.{goes_from, entering}
use Rattle.code_turns.proofs.Frames.{IsInBlock, in_block, home_is, laid_in}
use Rattle.code_turns.proofs.Looped.{is_behind, waiting_stands}

-- ---- in blocks

module _ {w : World} {body : MethodBody} {blocks : List ℕ} where
  stays_through : {a b d : Here} → Stays w body blocks a b → Stays w body blocks b d → Stays w body blocks a d
  stays_through ends more = more
  stays_through (goes_once is step rest) more = goes_once is step (stays_through rest more)

-- ---- turns

abbrev here_of : Turn Here → Here
here_of (turn a region) = a

abbrev region_of : Turn Here → List ℕ
region_of (turn a region) = region

module _ (w : World) (methods : List MemberId) (cuts : MemberId → Option CutMethod) (all : AreAllCut w methods cuts)
    (c : CutMethod) (l : CodeLoop) (known : Contains c.loops.loops l) where
  pub cut_is : (m : MemberId) → Contains methods m → cuts m ≡ Some c → IsCutOf w m c
  cut_is m listed has =
      let found = all m listed in
      let both : Some found.0 ≡ Some c = sym found.1 ∙ has in
      let same : found.0 ≡ c = cc in
      subst (IsCutOf w m) same found.2

  -- the frame is one of the method, at an instruction of the loop
  pub record StandsInLoop (a : Here) : Type 0 where
    pub cut : IsCutOf w a.frame.method c
    pub number : ℕ
    pub instruction : Instruction
    pub held : StandsIn c.body l.blocks number instruction
    pub place : instruction.pc ≡ a.frame.pc
    pub same : (s : Standing) → standing_at w a.frame ≡ Some s → instruction ≡ instruction_of s.code.bytes (place_of a.frame s)

  pub is_at : (a : Here) (s : Standing) → StandsInLoop a → standing_at w a.frame ≡ Some s → IsAt w c.body l.blocks a
  is_at a s is stands = record {
    standing = s;
    stands = stands;
    number = is.number;
    instruction = is.instruction;
    held = is.held;
    same = ap (λ (i : Instruction). i.instr) (is.same s stands);
  }

  -- a frame that the loop is around
  in_loop : (a : Here) → Stands w methods a.frame → cuts a.frame.method ≡ Some c → Contains (home_of cuts a) l.entry → StandsInLoop a
  in_loop a is has around =
      let cut = cut_is a.frame.method is.listed has in
      let at : IsInBlock w methods cuts c cut.is_body cut.are_loops a = in_block w methods cuts c cut.is_body cut.are_loops a has cut.method is in
      let g = c.loops.graph in
      let nested = cut.are_loops.nested in
      let entered : Contains c.loops.nested.loops (entered_of l) = subst (λ (es : List Entered). Contains es (entered_of l)) cut.are_loops.same (in_map entered_of c.loops.loops l known) in
      let nodes : HasNodes g 0 (entered_of l) = All-contains (HasNodes g 0) c.loops.nested.loops (entered_of l) nested.nest.nodes entered in
      let here = is_around c.body cut.is_body (laid_in c.body cut.is_body) (placed_stand instr-fits) g cut.are_loops.graph c.loops.nested nested cut.are_loops.one_entry a.frame.pc at.block at.stands in
      let own : Holds g 0 l.entry at.block.pc =
      around_holds g 0 cut.are_loops.one_entry at.block.pc _ l.entry here (subst (λ (xs : List ℕ). Contains xs l.entry) (home_is w methods cuts c cut.is_body cut.are_loops a at) around) in
      record {
        cut = cut;
        number = at.stands.k;
        instruction = at.stands.i;
        held = record { block = at.block; known = at.stands.known; held = (nodes.held at.block.pc).1 own.1; inside = at.stands.inside; there = at.stands.at };
        place = at.stands.place;
        same = at.same;
      }

  -- a frame whose home is a region that the loop is around
  at_home : (a : Here) (r : List ℕ) → Stands w methods a.frame → cuts a.frame.method ≡ Some c → home_of cuts a ≡ r → Contains r l.entry → StandsInLoop a
  at_home a r is has home around = in_loop a is has (subst (λ (xs : List ℕ). Contains xs l.entry) (sym home) around)

  module _ (weights : ℕ → ℕ) (unwrapped : Bool) (Since : Here → Here → Type 0) (Over : Here → End → Type 0) (stands : (s a : Here) → Since s a → Stands w methods a.frame) where
    -- A relation of frames that holds over each step at an instruction of the loop, and over one after another.
    pub record KeepsInLoop (Same : Here → Here → Type 0) : Type 0 where
      pub reflexive : (a : Here) → Same a a
      pub transitive : {a b d : Here} → Same a b → Same b d → Same a d
      pub over_move : {a b : Here} {k : ℕ} → StandsInLoop a → KnownMove (activations w weights unwrapped) Since a k b → Same a b
      pub over_call : {a b : Here} {e : End} → StandsInLoop a → KnownResume (activations w weights unwrapped) Since Over a e b → Same a b

    module _ {Same : Here → Here → Type 0} (keeps : KeepsInLoop Same) where
      -- one of its method, in the same region
      record IsStill (x y : Turn Here) : Type 0 where
        region : region_of y ≡ region_of x
        method : (here_of y).frame.method ≡ (here_of x).frame.method
        same : Same (here_of x) (here_of y)

      there_in_loop : {x : Turn Here} {a : Here} {r : List ℕ} → cuts (here_of x).frame.method ≡ Some c → Contains (region_of x) l.entry → IsStill x (turn a r) → Stands w methods a.frame → home_of cuts a ≡ r → StandsInLoop a
      there_in_loop {a = a} {r = r} has around before is home =
          at_home a r is (ap cuts before.method ∙ has) home (subst (λ (xs : List ℕ). Contains xs l.entry) (sym before.region) around)

      over_step :
          {x : Turn Here} {a b : Here} {k : ℕ} {r : List ℕ} → cuts (here_of x).frame.method ≡ Some c → Contains (region_of x) l.entry → IsStill x (turn a r)
          → home_of cuts a ≡ r → KnownMove (activations w weights unwrapped) Since a k b → IsStill x (turn b r)
      over_step {a = a} {b = b} has around before home mv =
          let from = goes_from w a b mv.made.wraps mv.made.makes in
          let on : LeadsOn from.standing a b = leads_on w from.standing a b mv.made.wraps from.stands mv.made.makes in
          let at = there_in_loop has around before (stands mv.from a mv.before) home in
          record { region = before.region; method = on.method ∙ before.method; same = keeps.transitive before.same (keeps.over_move at mv) }

      over_resume :
          {x : Turn Here} {a b : Here} {e : End} {r : List ℕ} → cuts (here_of x).frame.method ≡ Some c → Contains (region_of x) l.entry → IsStill x (turn a r)
          → home_of cuts a ≡ r → KnownResume (activations w weights unwrapped) Since Over a e b → IsStill x (turn b r)
      over_resume {a = a} {b = b} {e = e} has around before home re =
          let enters = entering w a re.made.caller re.made.waits.0 re.made.waits.1 in
          let waits = enters.1 in
          let at_call : standing_at w re.made.caller ≡ Some enters.0.standing = ap (standing_at w) waits.called.waits ∙ waiting_stands w a waits.called.taken.handed.rest ∙ enters.0.stands in
          let there = is_behind w enters.0.standing re.made.caller re.made.frame e.value at_call re.made.goes in
          let frame : b.frame ≡ re.made.frame = ap (λ (h : Here). h.frame) re.made.now in
          let method : b.frame.method ≡ a.frame.method = ap (λ (f : Frame). f.method) (frame ∙ there.now) ∙ ap (λ (f : Frame). f.method) waits.called.waits in
          let at = there_in_loop has around before (stands re.from a re.before) home in
          record { region = before.region; method = method ∙ before.method; same = keeps.transitive before.same (keeps.over_call at re) }

      over_loop : {x : Turn Here} {a b : Here} {r inner : List ℕ} {p : ℕ} → IsStill x (turn a r) → IsStill (turn a (p ∷ r)) (turn b inner) → IsStill x (turn b r)
      over_loop before inside = record { region = before.region; method = inside.method ∙ before.method; same = keeps.transitive before.same inside.same }

      went_keeps :
          {x y : Turn Here} {k : ℕ} → Went (turns (guarded (activations w weights unwrapped) Since Over) (places cuts)) x k y
          → cuts (here_of x).frame.method ≡ Some c → Contains (region_of x) l.entry → IsStill x y
      went_keeps {x = x} stays has around = record { region = refl; method = refl; same = keeps.reflexive (here_of x) }
      went_keeps (moved g (within home mv)) has around = over_step has around (went_keeps g has around) home mv
      went_keeps (called g st inner en (back home re)) has around = over_resume has around (went_keeps g has around) home re
      went_keeps (called g (loops {a = a} {r = r} own) inner (leaves out) (behind home)) has around =
          let before = went_keeps g has around in
          over_loop before (went_keeps inner (ap cuts before.method ∙ has) (contains_tail a.frame.pc r l.entry (subst (λ (xs : List ℕ). Contains xs l.entry) (sym before.region) around)))
      went_keeps (called g (calls {w = a} {r = r} own st) inner en (behind home)) has around =
          absurd (no_longer_end [] r a.frame.pc [] (sym own ∙ home))

      -- it holds over a turn of the loop, or of one inside it
      pub turn_keeps :
          {region after : List ℕ} {a b : Here} {k : ℕ} → cuts a.frame.method ≡ Some c → Contains region l.entry
          → Went (turns (guarded (activations w weights unwrapped) Since Over) (places cuts)) (turn a region) k (turn b after) → Same a b
      turn_keeps has around g = (went_keeps g has around).same

      pub left_keeps :
          {region : List ℕ} {a b : Here} {k : ℕ} → cuts a.frame.method ≡ Some c → Contains region l.entry
          → Done (turns (guarded (activations w weights unwrapped) Since Over) (places cuts)) (turn a region) k (Left b) → Same a b
      left_keeps has around (done g (leaves out)) = turn_keeps has around g

    -- ---- the loop's blocks

    move_stays : {a b : Here} {k : ℕ} → StandsInLoop a → KnownMove (activations w weights unwrapped) Since a k b → Stays w c.body l.blocks a b
    move_stays {a = a} {b = b} is mv =
        let from = goes_from w a b mv.made.wraps mv.made.makes in
        goes_once (is_at a from.standing is from.stands) (moves mv.made.makes) ends

    call_stays : {a b : Here} {e : End} → StandsInLoop a → KnownResume (activations w weights unwrapped) Since Over a e b → Stays w c.body l.blocks a b
    call_stays {a = a} {b = b} {e = e} is re =
        let enters = entering w a re.made.caller re.made.waits.0 re.made.waits.1 in
        let frame : b.frame ≡ re.made.frame = ap (λ (h : Here). h.frame) re.made.now in
        goes_once (is_at a enters.0.standing is enters.0.stands) (returns e.value re.made.waits.1 (re.made.goes ∙ ap (λ (f : Frame). Some f) (sym frame))) ends

    pub stays_in_loop : KeepsInLoop (λ a b. Stays w c.body l.blocks a b)
    stays_in_loop = record {
      reflexive = λ a. ends;
      transitive = λ one more. stays_through one more;
      over_move = λ is mv. move_stays is mv;
      over_call = λ is re. call_stays is re;
    }

-- ---- the laws

module _ (w : World) (methods : List MemberId) (cuts : MemberId → Option CutMethod) (all : AreAllCut w methods cuts) (c : CutMethod) (l : CodeLoop) (known : Contains c.loops.loops l) (weights : ℕ → ℕ) (unwrapped : Bool) where
  keeps : KeepsInLoop w methods cuts all c l known weights unwrapped (λ s a. StoodSince w methods s a) (λ s e. StoodOver w methods weights s e) (λ s a is. is.stands) (λ a b. Stays w c.body l.blocks a b)
  keeps = stays_in_loop w methods cuts all c l known weights unwrapped (λ s a. StoodSince w methods s a) (λ s e. StoodOver w methods weights s e) (λ s a is. is.stands)

  leads_stay : {region : List ℕ} {a b : Here} → cuts a.frame.method ≡ Some c → Contains region l.entry → TurnLeads w methods cuts weights unwrapped region a b → Stays w c.body l.blocks a b
  leads_stay has around (goes g) =
      turn_keeps w methods cuts all c l known weights unwrapped (λ s a. StoodSince w methods s a) (λ s e. StoodOver w methods weights s e) (λ s a is. is.stands) keeps has around g
  leads_stay has around (left call) =
      left_keeps w methods cuts all c l known weights unwrapped (λ s a. StoodSince w methods s a) (λ s e. StoodOver w methods weights s e) (λ s a is. is.stands) keeps has around call

pub turns_stay : (w : World) (methods : List MemberId) (cuts : MemberId → Option CutMethod) (weights : ℕ → ℕ) (unwrapped : Bool) (region : List ℕ) (a b : Here) (c : CutMethod) (l : CodeLoop)
    → AreAllCut w methods cuts → IsLoopOf methods cuts a region c l → TurnLeads w methods cuts weights unwrapped region a b → Stays w c.body l.blocks a b
turns_stay w methods cuts weights unwrapped region a b c l all is leads = leads_stay w methods cuts all c l is.known weights unwrapped is.has is.around leads

pub turns_keep_locals : (w : World) (methods : List MemberId) (cuts : MemberId → Option CutMethod) (weights : ℕ → ℕ) (unwrapped : Bool) (region : List ℕ) (a b : Here) (c : CutMethod) (l : CodeLoop) (n : ℕ)
    → AreAllCut w methods cuts → IsLoopOf methods cuts a region c l → TurnLeads w methods cuts weights unwrapped region a b
    → (Contains l.changed n → ⊥) → slice_get b.frame.locals n ≡ slice_get a.frame.locals n
turns_keep_locals w methods cuts weights unwrapped region a b c l n all is leads none =
    let cut = cut_is w methods cuts all c l is.known a.frame.method is.listed is.has in
    let own : IsCut c.body c.heights c.loops.graph l = All-contains (IsCut c.body c.heights c.loops.graph) c.loops.loops l cut.are_loops.each is.known in
    loops_keep w c.body c.heights c.loops.graph l a b n own (turns_stay w methods cuts weights unwrapped region a b c l all is leads) none
