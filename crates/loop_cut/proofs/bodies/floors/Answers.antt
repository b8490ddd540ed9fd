use Rattle.std.proofs.Common.{◌≡◌, ℕ, List, length, sym, subst, ap, ◌∙◌, arith}
use Rattle.std.specs.Prelude.{◌-◌, slice_index}
use Rattle.std.proofs.lemmas.List.{length_push}
use Rattle.op_table.specs.Actions.{action_of}
use Rattle.code_blocks.specs.declared.instruction.Instruction.{Instruction}
use Rattle.kind_effects.specs.Effects.{pops}
use Rattle.loop_cut.proofs.Changes.{floors_next}
use Rattle.loop_cut.proofs.bodies.floors.Goals as goal

pub loop-k-preserved : goal.loop-k-preserved
loop-k-preserved c =
    let items = c.in_ok-push.ensures.items in
    let v : c.saturating_sub.result ≡ slice_index c.args.heights.now c.loop-k.k - pops c.args.pool.now (action_of c.index-instructions-k.result.instr) = c.saturating_sub.ensures ∙ ap (λ (n : ℕ). slice_index c.args.heights.now c.loop-k.k - n) (c.pops-popped.ensures ∙ ap (pops c.args.pool.now) c.action_of.ensures)
    ∙ ap (λ (j : Instruction). slice_index c.args.heights.now c.loop-k.k - pops c.args.pool.now (action_of j.instr)) (sym c.index-instructions-k.is) in
    record {
      count = let n = length_push c.loop-k.floors.items c.saturating_sub.result in let e = ap (λ (l : List ℕ). length l) items in let k = c.loop-k.invariant.count in omega arith;
      each = λ k i lt at. subst (λ (l : List ℕ). slice_index l k ≡ slice_index c.args.heights.now k - pops c.args.pool.now (action_of i.instr)) (sym items)
          (floors_next c.args.pool.now c.args.instructions.now c.args.heights.now c.loop-k.floors.items c.loop-k.k c.saturating_sub.result c.index-instructions-k.result
          c.loop-k-test.true c.index-instructions-k.is c.loop-k.invariant.count v c.loop-k.invariant.each k i lt at);
    }
