-- Where frames stand in the code of their methods, and the loops around them.
use Rattle.std.proofs.Common.{◌≡◌, ℕ, ◌+◌, Bool, List, [], ◌∷◌, ◌++◌, length, Option, Some, Result, Ok, Contains, flat_map, refl, sym, ◌∙◌, ap, subst}
use Rattle.std.specs.Prelude.{if◌then◌else◌, option_and_then}
use Rattle.common_laws.proofs.Members.{in_map}
use Rattle.class_reader.specs.declared.class.Method.{Method}
use Rattle.class_reader.specs.declared.class.Code.{Code}
use Rattle.op_table.specs.Actions.{action_of}
use Rattle.op_table.specs.Cases.{case_count}
use Rattle.op_table.specs.Grammar.{instr_at}
use Rattle.op_table.specs.declared.instr.Instr.{Instr}
use Rattle.op_table.specs.declared.instr.OpFault.{OpFault}
use Rattle.op_table.proofs.Agreeing.{instr-fits}
use Rattle.world.specs.declared.member.MemberId.{MemberId}
use Rattle.class_hierarchy.specs.World.{World}
use Rattle.linking.specs.Methods.{method_at, code_at}
use Rattle.code_blocks.specs.declared.instruction.Placed.{Placed}
use Rattle.code_blocks.specs.declared.instruction.Instruction.{Instruction}
use Rattle.code_blocks.specs.declared.instruction.Block.{Block}
use Rattle.code_blocks.specs.Placing.{placed}
use Rattle.code_blocks.specs.Successors.{place_so_far, targets, rising, successors_of, instruction_of, instructions_of}
use Rattle.code_blocks.specs.Blocks.{IsReached}
use Rattle.code_blocks.specs.Laws.{IsLaidOut}
use Rattle.code_blocks.proofs.Chains.{chained, chain_stands}
use Rattle.code_blocks.proofs.Sets.{placed_stand, laid_out}
use Rattle.method_body.specs.Bodies.{MethodBody, IsBody}
use Rattle.loop_cut.specs.CodeLoops.{AreLoops}
use Rattle.loop_cut.proofs.Reaching.{laid_of}
use Rattle.frames.specs.declared.frame.Frame.{Frame}
use Rattle.frames.specs.declared.here.Here.{Here}
use Rattle.frames.specs.Standing.{Standing, standing_at}
use Rattle.well_formed.proofs.Pushes.{IsRead, standing_read}
use Rattle.run_places.specs.Standing.{Stands, place_of}
use Rattle.loop_turns.specs.Regions.{Passage}
use Rattle.code_turns.specs.Homes.{CutMethod, home_at, home_of}
use Rattle.code_turns.proofs.Blocks.{StandsIn, stands_in, home, way_passes, start_passes, end_in_none}
use Rattle.code_turns.proofs.Outcomes.{IsReturn}

some_same : {A : Type 0} (o : Option A) (a b : A) → o ≡ Some a → o ≡ Some b → a ≡ b
some_same o a b one other = let both : Some a ≡ Some b = sym one ∙ other in cc

ok_same : (r : Result Instr OpFault) (i j : Instr) → r ≡ Ok i → r ≡ Ok j → i ≡ j
ok_same r i j one other = let both : Ok i ≡ Ok j = sym one ∙ other in cc

same_instruction : (code other : List ℕ) (a b : ℕ) (i j : Instr) → code ≡ other → a ≡ b → i ≡ j
    → let one : Placed = record { pc = a; instr = i } in let two : Placed = record { pc = b; instr = j } in instruction_of code one ≡ instruction_of other two
same_instruction code other a b i j c e f = rw c (rw e (rw f refl))

-- nothing follows a return
none_follow : (code : List ℕ) (p : Placed) → IsReturn (action_of p.instr) → successors_of code p ≡ []
unfolding successors_of rising
none_follow code p is =
    ap (λ (b : Bool). rising ((if b then (p.pc + p.instr.len) ∷ [] else []) ++ targets code p)) is.0
    ∙ ap (λ ds. rising (flat_map (place_so_far p.pc) ds)) (is.1 code p.pc (case_count p.instr.args))

abbrev pub laid_in : (body : MethodBody) → IsBody body → IsLaidOut body.instructions
laid_in body is_body = laid_of (laid_out instr-fits) body is_body

module _ (w : World) (methods : List MemberId) (cuts : MemberId → Option CutMethod) (c : CutMethod) (is_body : IsBody c.body) (are : AreLoops c.body c.heights c.loops) where
  -- the frame is one of the method, and its instruction is one of a block
  pub record IsInBlock (a : Here) : Type 0 where
    pub has : cuts a.frame.method ≡ Some c
    pub block : Block
    pub stands : StandsIn c.body is_body (laid_in c.body is_body) a.frame.pc block
    pub same : (s : Standing) → standing_at w a.frame ≡ Some s → stands.i ≡ instruction_of s.code.bytes (place_of a.frame s)

  instruction_is : (frame : Frame) (s : Standing) (code : Code) (p : Placed) → code_at w frame.method ≡ Some code → Contains (placed code.bytes) p → p.pc ≡ frame.pc → standing_at w frame ≡ Some s
      → instruction_of code.bytes p ≡ instruction_of s.code.bytes (place_of frame s)
  instruction_is frame s code p has held at stands =
      let read : IsRead w frame s = standing_read w frame s stands in
      let same : code ≡ s.code = some_same (code_at w frame.method) code s.code has read.of_method in
      let there : instr_at code.bytes p.pc ≡ Ok p.instr = chain_stands code.bytes 0 (placed code.bytes) p (chained (length code.bytes) code.bytes 0) held in
      let here : instr_at s.code.bytes frame.pc ≡ Ok p.instr = ap (λ (d : Code). instr_at d.bytes frame.pc) (sym same) ∙ ap (λ (pc : ℕ). instr_at code.bytes pc) (sym at) ∙ there in
      same_instruction code.bytes s.code.bytes p.pc frame.pc p.instr s.instr (ap (λ (d : Code). d.bytes) same) at (ok_same (instr_at s.code.bytes frame.pc) p.instr s.instr here read.read)

  pub in_block : (a : Here) → cuts a.frame.method ≡ Some c → method_at w a.frame.method ≡ Some c.body.method → Stands w methods a.frame → IsInBlock a
  in_block a has method is =
      let own : code_at w a.frame.method ≡ Some c.body.code = ap (option_and_then (λ (m : Method). m.code)) method ∙ is_body.has_code.own in
      let code : is.code ≡ c.body.code = some_same (code_at w a.frame.method) is.code c.body.code is.has_code own in
      let held : Contains (placed c.body.code.bytes) is.place = subst (λ (d : Code). Contains (placed d.bytes) is.place) code is.placed in
      let reached : IsReached (instructions_of c.body.code.bytes) a.frame.pc = subst (λ (d : Code). IsReached (instructions_of d.bytes) a.frame.pc) code is.reached in
      let among : Contains (instructions_of c.body.code.bytes) (instruction_of c.body.code.bytes is.place) = in_map (instruction_of c.body.code.bytes) (placed c.body.code.bytes) is.place held in
      let there = stands_in c.body is_body (laid_in c.body is_body) a.frame.pc (instruction_of c.body.code.bytes is.place)
      (subst (λ (l : List Instruction). Contains l (instruction_of c.body.code.bytes is.place)) (sym is_body.instructions_are) among) is.at
      (subst (λ (l : List Instruction). IsReached l a.frame.pc) (sym is_body.instructions_are) reached) in
      record {
        has = has;
        block = there.0;
        stands = there.1;
        same = λ s stands. there.2 ∙ instruction_is a.frame s c.body.code is.place own held is.at stands;
      }

  abbrev own_home : ℕ → List ℕ
  own_home x = home c.body is_body (laid_in c.body is_body) (placed_stand instr-fits) c.loops.graph are.graph c.loops.nested are.nested are.one_entry x

  pub home_is : (a : Here) → IsInBlock a → home_of cuts a ≡ own_home a.frame.pc
  unfolding home_of
  home_is a is = ap (λ (o : Option CutMethod). home_at o a.frame.pc) is.has

  -- ---- what instructions do to the loops around

  pub goes_on : (a b : Here) (s : Standing) → IsInBlock a → IsInBlock b → standing_at w a.frame ≡ Some s → Contains (successors_of s.code.bytes (place_of a.frame s)) b.frame.pc
      → Passage (home_of cuts a) b.frame.pc (home_of cuts b)
  goes_on a b s from to stands leads =
      let way : Contains from.stands.i.successors b.frame.pc = subst (λ (i : Instruction). Contains i.successors b.frame.pc) (sym (from.same s stands)) leads in
      let passes : Passage (own_home a.frame.pc) b.frame.pc (own_home b.frame.pc) =
      way_passes c.body is_body (laid_in c.body is_body) (placed_stand instr-fits) c.loops.graph are.graph c.loops.nested are.nested are.one_entry a.frame.pc b.frame.pc from.block to.block from.stands to.stands way in
      subst (λ (xs : List ℕ). Passage xs b.frame.pc (home_of cuts b)) (sym (home_is a from))
      (subst (λ (ys : List ℕ). Passage (own_home a.frame.pc) b.frame.pc ys) (sym (home_is b to)) passes)

  pub begins : (b : Here) → IsInBlock b → b.frame.pc ≡ 0 → Passage [] b.frame.pc (home_of cuts b)
  begins b is first =
      let passes : Passage [] 0 (own_home 0) =
      start_passes c.body is_body (laid_in c.body is_body) (placed_stand instr-fits) c.loops.graph are.graph c.loops.nested are.nested are.one_entry is.block
      (subst (λ (x : ℕ). StandsIn c.body is_body (laid_in c.body is_body) x is.block) first is.stands) in
      subst (λ (ys : List ℕ). Passage [] b.frame.pc ys) (sym (home_is b is)) (subst (λ (x : ℕ). Passage [] x (own_home x)) (sym first) passes)

  pub ends : (d : Here) (s : Standing) → IsInBlock d → standing_at w d.frame ≡ Some s → IsReturn (action_of s.instr) → home_of cuts d ≡ []
  ends d s is stands return =
      let nowhere : is.stands.i.successors ≡ [] = ap (λ (i : Instruction). i.successors) (is.same s stands) ∙ none_follow s.code.bytes (place_of d.frame s) return in
      home_is d is
      ∙ end_in_none c.body is_body (laid_in c.body is_body) (placed_stand instr-fits) c.loops.graph are.graph c.loops.nested are.nested are.one_entry d.frame.pc is.block is.stands nowhere
