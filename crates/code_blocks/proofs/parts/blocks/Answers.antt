use Rattle.std.proofs.Common.{arith, sym, ap, ◌∙◌}
use Rattle.code_blocks.specs.Blocks.{begins}
use Rattle.code_blocks.proofs.Cuts.{blocks_none, blocks_all, run_one, run_more, run_next, uncut_inside}
use Rattle.code_blocks.proofs.Laying.{begins_zero}
use Rattle.code_blocks.proofs.parts.blocks.Goals as goal
use Rattle.code_blocks.proofs.parts.blocks.Goals.{then-is_cut+in_ok-add_block, else-is_cut}

pub loop-last-init : goal.loop-last-init
loop-last-init c = record {
  blocks = blocks_none c.args.instructions.now c.new-blocks.result c.new-blocks.ensures;
  run = run_one c.args.instructions.now 0 (λ i at. ap (λ x. begins c.args.instructions.now x) (c.requires.within.start i at) ∙ begins_zero c.args.instructions.now);
  closed = λ h. omega arith;
}

pub loop-last-preserved : goal.loop-last-preserved
loop-last-preserved c =
    elim c.if-is_cut.branch [
      | then-is_cut+in_ok-add_block w ↦
          rw (w.blocks-is, w.first-is) (record {
            blocks = w.in_ok-add_block.ensures;
            run = run_next c.args.instructions.now c.loop-last.last (sym c.is_cut.ensures ∙ w.if-is_cut.true);
            closed = λ h. omega arith;
          })
      | else-is_cut w ↦
          let uncut = sym c.is_cut.ensures ∙ w.if-is_cut.false in
          let within = uncut_inside c.args.instructions.now c.loop-last.last uncut in
          rw (w.blocks-is, w.first-is) (record {
            blocks = c.loop-last.invariant.blocks;
            run = run_more c.args.instructions.now c.loop-last.first c.loop-last.last c.loop-last.invariant.run uncut;
            closed = λ h. omega arith;
          })
    ]

pub returns : goal.returns
returns c = blocks_all c.args.instructions.now c.loop-last.first c.loop-last.blocks (let h = c.loop-last.invariant.closed in omega arith) c.loop-last.invariant.blocks
