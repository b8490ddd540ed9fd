-- Over a loop's turn its frame keeps the words of the operand stack below the loop's least height, where each instruction leaves
-- the words below those that it pops, and the stack is as high as the heights say.
use Rattle.std.proofs.Common.{◌≡◌, ℕ, zero, suc, ◌-◌, ◌<◌, ◌≤◌, Bool, List, [], ◌∷◌, ◌++◌, length, take, drop, reverse, Option, Some, Contains, refl, sym, ◌∙◌, ap, subst, arith, length-drop, take-append-drop}
use Rattle.std.specs.Prelude.{slice_get, slice_index}
use Rattle.std.proofs.lemmas.List.{length-reverse, reverse-append}
use Rattle.std.proofs.lemmas.List.Elements.{All-contains}
use Rattle.class_reader.specs.declared.class.ClassRecord.{ClassRecord}
use Rattle.op_table.specs.Actions.{action_of}
use Rattle.op_table.specs.declared.instr.Instr.{Instr}
use Rattle.kind_effects.specs.Effects.{pops}
use Rattle.nested_runs.specs.Keeping.{KnownMove, KnownResume}
use Rattle.world.specs.declared.member.MemberId.{MemberId}
use Rattle.class_hierarchy.specs.World.{World}
use Rattle.code_blocks.specs.declared.instruction.Instruction.{Instruction}
use Rattle.loop_cut.specs.declared.found.CodeLoop.{CodeLoop}
use Rattle.loop_cut.specs.CodeLoops.{IsCut}
use Rattle.frames.specs.declared.value.Value.{Value}
use Rattle.frames.specs.declared.here.Here.{Here}
use Rattle.frames.specs.Standing.{Standing, standing_at}
use Rattle.machine.specs.Moment.{End, activations}
use Rattle.well_formed.proofs.Pushes.{IsRead, standing_read}
use Rattle.run_places.specs.Standing.{Stands}
use Rattle.code_turns.specs.Homes.{CutMethod, IsCutOf, AreAllCut}
use Rattle.code_turns.specs.inside.Lowest.{LeavesBelow, KeepsLowest}
use Rattle.code_turns.proofs.Outcomes.{goes_from, enters_from}
use Rattle.code_turns.proofs.Staying.{StandsInLoop, KeepsInLoop}

front_same : {A : Type 0} (xs ys zs : List A) (j : ℕ) → j < length xs → slice_get (xs ++ ys) j ≡ slice_get (xs ++ zs) j
front_same [] ys zs j lt = absurd (omega arith)
front_same (x ∷ xs) ys zs zero lt = refl
front_same (x ∷ xs) ys zs (suc j) lt = front_same xs ys zs j (omega arith)

below_same : (n : ℕ) (before now : List Value) → LeavesBelow n before now → (j : ℕ) → j < length before - n → slice_get (reverse now) j ≡ slice_get (reverse before) j
below_same n before now is j lt =
    let rest : List Value = drop n before in
    let size = length-drop n before in
    let turned = length-reverse rest in
    let after : reverse now ≡ reverse rest ++ reverse is.0 = ap reverse is.1 ∙ reverse-append is.0 rest in
    let first : reverse before ≡ reverse rest ++ reverse (take n before) = ap reverse (sym (take-append-drop n before)) ∙ reverse-append (take n before) rest in
    ap (λ (ws : List Value). slice_get ws j) after ∙ front_same (reverse rest) (reverse is.0) (reverse (take n before)) j (omega arith) ∙ ap (λ (ws : List Value). slice_get ws j) (sym first)

module _ (w : World) (methods : List MemberId) (cuts : MemberId → Option CutMethod) (all : AreAllCut w methods cuts) (c : CutMethod) (l : CodeLoop) (known : Contains c.loops.loops l)
    (weights : ℕ → ℕ) (unwrapped : Bool) (Since : Here → Here → Type 0) (Over : Here → End → Type 0) (stands : (s a : Here) → Since s a → Stands w methods a.frame) where
  -- what has to be known of frames of the method
  pub record KnowsStacks : Type 0 where
    pub height : (s a : Here) (k : ℕ) (i : Instruction) → Since s a → IsCutOf w a.frame.method c → slice_get c.body.instructions k ≡ Some i → i.pc ≡ a.frame.pc → length a.frame.stack ≡ slice_index c.heights k
    pub over_move : {a b : Here} {k : ℕ} (s : Standing) → standing_at w a.frame ≡ Some s → KnownMove (activations w weights unwrapped) Since a k b → LeavesBelow (pops s.class.pool (action_of s.instr)) a.frame.stack b.frame.stack
    pub over_call : {a b : Here} {e : End} (s : Standing) → standing_at w a.frame ≡ Some s → KnownResume (activations w weights unwrapped) Since Over a e b → LeavesBelow (pops s.class.pool (action_of s.instr)) a.frame.stack b.frame.stack

  module _ (stacks : KnowsStacks) where
    step_keeps : (start a b : Here) (s : Standing) → StandsInLoop w methods cuts all c l known a → Since start a → standing_at w a.frame ≡ Some s → LeavesBelow (pops s.class.pool (action_of s.instr)) a.frame.stack b.frame.stack
        → KeepsLowest l.least_height a b
    step_keeps start a b s is since at below j lt =
        let own : IsCut c.body c.heights c.loops.graph l = All-contains (IsCut c.body c.heights c.loops.graph) c.loops.loops l is.cut.are_loops.each known in
        let read : IsRead w a.frame s = standing_read w a.frame s at in
        let class : s.class ≡ c.body.class = read.of_class ∙ is.cut.class in
        let instr : is.instruction.instr ≡ s.instr = ap (λ (i : Instruction). i.instr) (is.same s at) in
        let popped : pops s.class.pool (action_of s.instr) ≡ pops c.body.class.pool (action_of is.instruction.instr) =
        ap (λ (x : ClassRecord). pops x.pool (action_of s.instr)) class ∙ ap (λ (x : Instr). pops c.body.class.pool (action_of x)) (sym instr) in
        let height : length a.frame.stack ≡ slice_index c.heights is.number = stacks.height start a is.number is.instruction since is.cut is.held.there is.place in
        let least : l.least_height ≤ slice_index c.heights is.number - pops c.body.class.pool (action_of is.instruction.instr) =
        own.least.1 (slice_index c.heights is.number - pops c.body.class.pool (action_of is.instruction.instr)) (is.number, is.instruction, is.held, refl) in
        below_same (pops c.body.class.pool (action_of is.instruction.instr)) a.frame.stack b.frame.stack
        (subst (λ (n : ℕ). LeavesBelow n a.frame.stack b.frame.stack) popped below) j (omega arith)

    move_keeps : {a b : Here} {k : ℕ} → StandsInLoop w methods cuts all c l known a → KnownMove (activations w weights unwrapped) Since a k b → KeepsLowest l.least_height a b
    move_keeps {a = a} {b = b} is mv =
        let from = goes_from w a b mv.made.wraps mv.made.makes in
        step_keeps mv.from a b from.standing is mv.before from.stands (stacks.over_move from.standing from.stands mv)

    call_keeps : {a b : Here} {e : End} → StandsInLoop w methods cuts all c l known a → KnownResume (activations w weights unwrapped) Since Over a e b → KeepsLowest l.least_height a b
    call_keeps {a = a} {b = b} is re =
        let from = enters_from w a re.made.caller re.made.waits.0 re.made.waits.1 in
        step_keeps re.from a b from.standing is re.before from.stands (stacks.over_call from.standing from.stands re)

    pub stacks_kept : KeepsInLoop w methods cuts all c l known weights unwrapped Since Over stands (λ a b. KeepsLowest l.least_height a b)
    stacks_kept = record {
      reflexive = λ a j lt. refl;
      transitive = λ one more j lt. more j lt ∙ one j lt;
      over_move = λ is mv. move_keeps is mv;
      over_call = λ is re. call_keeps is re;
    }
