-- Frames that come to a place are as the kinds there say.
use Rattle.std.proofs.Common.{◌≡◌, ℕ, ◌+◌, ◌<◌, Bool, true, false, List, [], ◌∷◌, length, Option, Some, None, Ok, refl, sym, ap, ◌∙◌, subst, Contains, inl, inr}
use Rattle.std.specs.Prelude.{if◌then◌else◌, find, unwrap_or, option_and_then, option_map, Result}
use Rattle.op_table.specs.declared.acts.Action.{Action}
use Rattle.common_laws.proofs.Members.{contains_cases, contains_none, in_map, in_flat, place_of as place_in}
use Rattle.class_reader.specs.declared.class.ClassRecord.{ClassRecord}
use Rattle.class_reader.specs.declared.class.Method.{Method}
use Rattle.class_reader.specs.declared.class.Code.{Code}
use Rattle.class_reader.specs.Flags.{is_static}
use Rattle.op_table.specs.Actions.{action_of}
use Rattle.op_table.specs.Grammar.{instr_at}
use Rattle.op_table.specs.declared.instr.Instr.{Instr}
use Rattle.op_table.specs.declared.instr.OpFault.{OpFault}
use Rattle.op_table.proofs.Agreeing.{instr-fits}
use Rattle.code_blocks.specs.declared.instruction.Placed.{Placed}
use Rattle.code_blocks.specs.declared.instruction.Instruction.{Instruction}
use Rattle.code_blocks.specs.Placing.{placed}
use Rattle.code_blocks.specs.Successors.{successors_of, instruction_of, instructions_of}
use Rattle.code_blocks.specs.Blocks.{AreWithin}
use Rattle.code_blocks.proofs.Chains.{chained, chain_stands}
use Rattle.code_blocks.proofs.Sets.{placed_stand, laid_out}
use Rattle.method_body.specs.Bodies.{MethodBody, IsBody}
use Rattle.fix_engine.specs.Solution.{IsSolution}
use Rattle.kind_frames.specs.declared.fact.KindFrame.{KindFrame}
use Rattle.kind_frames.specs.declared.fact.KindFact.{KindFact}
use Rattle.kind_frames.specs.declared.fact.KindFact.TheVariants as facts
use Rattle.kind_frames.specs.Frames.{kind_order, fact_below}
use Rattle.kind_effects.specs.Entry.{entry_frame}
use Rattle.kind_effects.specs.Frames.{frame_after, fact_after, limited, is_within, IsFact}
use Rattle.kind_effects.proofs.Orders.{makes_facts}
use Rattle.frame_kinds.specs.declared.edge.Edge.{Edge}
use Rattle.frame_kinds.specs.Flow.{edges_from, edges_of, edge_at, nowhere, entry_of, made_by, kind_problem}
use Rattle.frame_kinds.specs.Lawful.{between, entry_is}
use Rattle.frame_kinds.specs.Disagreeing.{disagrees_with, disagrees, first_disagreement}
use Rattle.method_body.proofs.Extents.{within as all_within}
use Rattle.world.specs.declared.member.MemberId.{MemberId}
use Rattle.class_hierarchy.specs.World.{World, class_at}
use Rattle.linking.specs.Methods.{method_at, code_at}
use Rattle.frames.specs.declared.frame.Frame.{Frame}
use Rattle.frames.specs.Heap.{Cells}
use Rattle.frames.specs.Standing.{Standing, standing_at}
use Rattle.well_formed.proofs.Pushes.{IsRead, standing_read}
use Rattle.kind_runs.specs.Meaning.{IsOfKinds, IsAsKnown}
use Rattle.kind_runs.proofs.Frames.{facts_above}
use Rattle.run_places.specs.Standing.{Stands, place_of}
use Rattle.program_kinds.specs.Meaning.{KindTable, HasKinds}

some_same : {A : Type 0} (o : Option A) (a b : A) → o ≡ Some a → o ≡ Some b → a ≡ b
some_same o a b one other = let both : Some a ≡ Some b = sym one ∙ other in cc

-- the code of a frame that stands
pub stands_in : {w : World} {methods : List MemberId} (frame : Frame) (s : Standing) → (stands : Stands w methods frame) → standing_at w frame ≡ Some s → stands.code ≡ s.code
stands_in {w = w} frame s stands at = some_same (code_at w frame.method) stands.code s.code stands.has_code (standing_read w frame s at).of_method

-- ---- none of the instructions disagrees

none_if : {A : Type 0} (a : A) (rest : Option A) (b : Bool) → (if b then Some a else rest) ≡ None → (b ≡ false) × (rest ≡ None)
none_if a rest true e = absurd cc
none_if a rest false e = (refl, e)

not_found : {A : Type 0} (p : A → Bool) (xs : List A) (x : A) → find p xs ≡ None → Contains xs x → p x ≡ false
not_found p [] x e there = absurd (contains_none x there)
not_found p (a ∷ xs) x e there =
    let parts = none_if a (find p xs) (p a) e in
    elim (contains_cases a xs x there) [
      | inl here ↦ ap p (sym here) ∙ parts.0
      | inr later ↦ not_found p xs x parts.1 later
    ]

no_pc : (o : Option Instruction) → option_map (λ (i : Instruction). i.pc) o ≡ None → o ≡ None
no_pc None e = refl
no_pc (Some i) e = absurd cc

-- ---- where a frame stands, in the body of its method

module _ {w : World} {m : MemberId} {kinds : ℕ → KindFact} (has : HasKinds w m kinds) where
  body_code : code_at w m ≡ Some has.body.code
  body_code = ap (option_and_then (λ (method : Method). method.code)) has.declared ∙ has.is.has_code.own

  instructions_there : (p : Placed) → Contains (placed has.body.code.bytes) p → Contains has.body.instructions (instruction_of has.body.code.bytes p)
  instructions_there p there =
      subst (λ (is : List Instruction). Contains is (instruction_of has.body.code.bytes p)) (sym has.is.instructions_are)
      (in_map (instruction_of has.body.code.bytes) (placed has.body.code.bytes) p there)

  -- what is known at an instruction to which a frame came
  known_by : (heap : Cells) (locals : ℕ) (action : Action) (fact : KindFact) (frame : Frame) → disagrees_with has.body action fact ≡ false → IsAsKnown heap locals fact frame
      → (known : KindFrame) × (fact ≡ facts.Known known) × IsOfKinds heap locals known frame
  known_by heap locals action facts.Unreached frame agrees is = absurd is
  known_by heap locals action (facts.Known known) frame agrees is = (known, refl, is)
  known_by heap locals action facts.Mixed frame agrees is = absurd cc

  agrees_at : (p : Placed) → Contains (placed has.body.code.bytes) p → disagrees_with has.body (action_of p.instr) (kinds p.pc) ≡ false
  agrees_at p there =
      not_found (disagrees has.body kinds) has.body.instructions (instruction_of has.body.code.bytes p)
      (no_pc (find (disagrees has.body kinds) has.body.instructions) has.agree) (instructions_there p there)

  -- a frame that stands there
  pub known_at : {methods : List MemberId} (heap : Cells) (frame : Frame) → (stands : Stands w methods frame) → frame.method ≡ m → IsAsKnown heap has.body.code.max_locals (kinds frame.pc) frame
      → (known : KindFrame) × (kinds frame.pc ≡ facts.Known known) × IsOfKinds heap stands.code.max_locals known frame
  known_at heap frame stands of is =
      let code : has.body.code ≡ stands.code = some_same (code_at w m) has.body.code stands.code body_code (ap (code_at w) (sym of) ∙ stands.has_code) in
      let there : Contains (placed has.body.code.bytes) stands.place = subst (λ (c : Code). Contains (placed c.bytes) stands.place) (sym code) stands.placed in
      let agrees : disagrees_with has.body (action_of stands.place.instr) (kinds frame.pc) ≡ false =
      subst (λ (pc : ℕ). disagrees_with has.body (action_of stands.place.instr) (kinds pc) ≡ false) stands.at (agrees_at stands.place there)
      in
      let known = known_by heap has.body.code.max_locals (action_of stands.place.instr) (kinds frame.pc) frame agrees is in
      (known.0, known.1, subst (λ (c : Code). IsOfKinds heap c.max_locals known.0 frame) code known.2)

  -- ---- along an edge

  within : AreWithin (length has.body.code.bytes) has.body.instructions
  within = all_within has.body.code.bytes (placed_stand instr-fits) has.body.instructions has.is.instructions_are (laid_out instr-fits has.body.code.bytes has.is.has_code.sound)

  limited_as : (heap : Cells) (locals : ℕ) (after : KindFrame) (frame : Frame) (inside : Bool) → IsOfKinds heap locals after frame → IsAsKnown heap locals (if inside then facts.Known after else facts.Mixed) frame
  limited_as heap locals after frame true is = is
  limited_as heap locals after frame false is = is.many

  edge_met : (edge : Edge) → Contains (edges_of has.body.instructions) edge → fact_below (made_by has.body edge (kinds edge.from)) (kinds edge.to) ≡ true
  edge_met edge c =
      let at : edge_at (edges_of has.body.instructions) c.0 ≡ edge = ap (λ o. unwrap_or o nowhere) (place_in (edges_of has.body.instructions) edge c) in
      subst (λ e. fact_below (made_by has.body e (kinds e.from)) (kinds e.to) ≡ true) at (has.least.solution.edges c.0 c.1)

  -- a frame behind an instruction, of the kinds that its effect says
  along : (heap : Cells) (edge : Edge) (known : KindFrame) (frame : Frame) → Contains (edges_of has.body.instructions) edge → kinds edge.from ≡ facts.Known known
      → IsOfKinds heap has.body.code.max_locals (frame_after has.body.class.pool edge.action has.body.code.max_locals known) frame
      → IsAsKnown heap has.body.code.max_locals (kinds edge.to) frame
  along heap edge known frame c from is =
      let n : ℕ = has.body.code.max_locals in
      let ends = between (length has.body.code.bytes) has.body.instructions within edge c in
      let solved : IsSolution kind_order (kind_problem has.body) kinds = has.least.solution in
      let after : KindFrame = frame_after has.body.class.pool edge.action n known in
      let fact : IsFact n (facts.Known known) = subst (λ (f : KindFact). IsFact n f) from (solved.facts edge.from ends.0) in
      let below : fact_below (limited after) (kinds edge.to) ≡ true = subst (λ (f : KindFact). fact_below (made_by has.body edge f) (kinds edge.to) ≡ true) from (edge_met edge c) in
      facts_above heap n (limited after) (kinds edge.to) frame (makes_facts has.body.class.pool edge.action n (facts.Known known) fact) (solved.facts edge.to ends.1) below
      (limited_as heap n after frame (is_within after.height) is)

  -- ---- an instruction and the frame behind it

  -- a frame's instruction stands in the body
  record Instructed (before : Frame) (s : Standing) : Type 0 where
    class : s.class ≡ has.body.class
    code : s.code ≡ has.body.code
    there : Contains (placed has.body.code.bytes) (place_of before s)

  ok_same : (r : Result Instr OpFault) (i j : Instr) → r ≡ Ok i → r ≡ Ok j → i ≡ j
  ok_same r i j one other = let both : Ok i ≡ Ok j = sym one ∙ other in cc

  place_made : (a b : ℕ) (i j : Instr) → a ≡ b → i ≡ j → let one : Placed = record { pc = a; instr = i } in let other : Placed = record { pc = b; instr = j } in one ≡ other
  place_made a b i j e f = rw e (rw f refl)

  place_is : (frame : Frame) (s : Standing) (place : Placed) → place.pc ≡ frame.pc → place.instr ≡ s.instr → place ≡ place_of frame s
  place_is frame s place pc instr = place_made place.pc frame.pc place.instr s.instr pc instr

  instructed : {methods : List MemberId} (before : Frame) (s : Standing) → (stands : Stands w methods before) → before.method ≡ m → standing_at w before ≡ Some s → Instructed before s
  instructed before s is of stands =
      let read : IsRead w before s = standing_read w before s stands in
      let own : is.code ≡ s.code = some_same (code_at w before.method) is.code s.code is.has_code read.of_method in
      let code : s.code ≡ has.body.code = some_same (code_at w m) s.code has.body.code (ap (code_at w) (sym of) ∙ read.of_method) body_code in
      let at : instr_at is.code.bytes is.place.pc ≡ Ok is.place.instr = chain_stands is.code.bytes 0 (placed is.code.bytes) is.place (chained (length is.code.bytes) is.code.bytes 0) is.placed in
      let here : instr_at s.code.bytes before.pc ≡ Ok is.place.instr = ap (λ (c : Code). instr_at c.bytes before.pc) (sym own) ∙ ap (λ (pc : ℕ). instr_at is.code.bytes pc) (sym is.at) ∙ at in
      let instr : is.place.instr ≡ s.instr = ok_same (instr_at s.code.bytes before.pc) is.place.instr s.instr here read.read in
      let place : is.place ≡ place_of before s = place_is before s is.place is.at instr in
      record {
        class = read.of_class ∙ ap (λ (x : MemberId). class_at w x.class) of ∙ sym has.of_class;
        code = code;
        there = subst (λ (c : Code). Contains (placed c.bytes) (place_of before s)) (own ∙ code) (subst (λ (p : Placed). Contains (placed is.code.bytes) p) place is.placed);
      }

  pub goes_on : {methods : List MemberId} (heap : Cells) (before now : Frame) (s : Standing) (known : KindFrame) → Stands w methods before → before.method ≡ m → standing_at w before ≡ Some s
      → kinds before.pc ≡ facts.Known known → Contains (successors_of s.code.bytes (place_of before s)) now.pc
      → IsOfKinds heap s.code.max_locals (frame_after s.class.pool (action_of s.instr) s.code.max_locals known) now
      → IsAsKnown heap has.body.code.max_locals (kinds now.pc) now
  goes_on heap before now s known is of stands from leads after =
      let at : Instructed before s = instructed before s is of stands in
      let edge : Edge = record { from = before.pc; action = action_of s.instr; to = now.pc } in
      let i : Instruction = instruction_of has.body.code.bytes (place_of before s) in
      let to : Contains i.successors now.pc = subst (λ (c : Code). Contains (successors_of c.bytes (place_of before s)) now.pc) at.code leads in
      let there : Contains (edges_from i) edge = in_map (λ (x : ℕ). record { from = before.pc; action = action_of s.instr; to = x }) i.successors now.pc to in
      let c : Contains (edges_of has.body.instructions) edge = in_flat edges_from has.body.instructions i edge (instructions_there (place_of before s) at.there) there in
      let words = subst (λ (c : Code). IsOfKinds heap c.max_locals (frame_after s.class.pool (action_of s.instr) c.max_locals known) now) at.code after in
      along heap edge known now c from (subst (λ (x : ClassRecord). IsOfKinds heap has.body.code.max_locals (frame_after x.pool (action_of s.instr) has.body.code.max_locals known) now) at.class words)

  -- ---- the method's start

  -- the body's code is the method's
  pub own_code : (code : Code) → code_at w m ≡ Some code → has.body.code ≡ code
  own_code code at = some_same (code_at w m) has.body.code code body_code at

  pub begins_as : (heap : Cells) (frame : Frame) → IsOfKinds heap has.body.code.max_locals (entry_frame has.body.code.max_locals (is_static has.body.method.flags) has.body.method.desc) frame
      → IsAsKnown heap has.body.code.max_locals (kinds 0) frame
  begins_as heap frame is =
      facts_above heap has.body.code.max_locals (facts.Known (entry_of has.body)) (kinds 0) frame (entry_is has.body) (has.least.solution.facts 0 has.is.has_code.some)
      (has.least.solution.starts 0 has.is.has_code.some) is
