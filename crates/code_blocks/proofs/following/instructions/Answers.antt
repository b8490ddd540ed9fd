use Rattle.std.proofs.Common.{◌∙◌, ap}
use Rattle.code_blocks.specs.declared.instruction.Placement.{Placement}
use Rattle.code_blocks.proofs.Sets.{among_placed, instructions_next, instructions_all}
use Rattle.code_blocks.proofs.following.instructions.Goals as goal

pub instruction-requires-clause-stands : goal.instruction-requires-clause-stands
instruction-requires-clause-stands c =
    let there = among_placed c.args.code.now c.in_ok-placement.placement c.as_slice-p-items.result.now c.loop-p.p-index c.p-item.result c.in_ok-placement.ensures c.as_slice-p-items.ensures c.loop-p-test.true c.p-item.is in
    (c.code_is_laid_out.ensures.stands c.args.code.now c.p-item.result there).0

pub instruction-requires-clause-long : goal.instruction-requires-clause-long
instruction-requires-clause-long c =
    let there = among_placed c.args.code.now c.in_ok-placement.placement c.as_slice-p-items.result.now c.loop-p.p-index c.p-item.result c.in_ok-placement.ensures c.as_slice-p-items.ensures c.loop-p-test.true c.p-item.is in
    (c.code_is_laid_out.ensures.stands c.args.code.now c.p-item.result there).1

pub instruction-requires-clause-inside : goal.instruction-requires-clause-inside
instruction-requires-clause-inside c =
    let there = among_placed c.args.code.now c.in_ok-placement.placement c.as_slice-p-items.result.now c.loop-p.p-index c.p-item.result c.in_ok-placement.ensures c.as_slice-p-items.ensures c.loop-p-test.true c.p-item.is in
    (c.code_is_laid_out.ensures.stands c.args.code.now c.p-item.result there).2

pub loop-p-preserved : goal.loop-p-preserved
loop-p-preserved c =
    instructions_next c.args.code.now c.as_slice-p-items.result.now c.loop-p.p-index c.p-item.result c.loop-p.found.items c.push.new.self.items c.in_ok-instruction.field-0 c.loop-p-test.true c.p-item.is
    c.loop-p.invariant c.in_ok-instruction.ensures c.in_ok-push.ensures.items

pub returns : goal.returns
returns c =
    instructions_all c.args.code.now c.as_slice-p-items.result.now c.loop-p.p-index c.loop-p.found.items
    (c.as_slice-p-items.ensures ∙ ap (λ (p : Placement). p.instructions) c.in_ok-placement.ensures) c.loop-p-test.false c.loop-p.invariant
