use Rattle.std.proofs.Common.{◌≡◌, ◌++◌, take}
use Rattle.std.specs.Prelude.{flat_map}
use Rattle.code_blocks.specs.declared.instruction.Block.{Block}
use Rattle.loop_cut.specs.inside.Arrivals.{from_block, from_loop}
use Rattle.loop_cut.proofs.heads.arrivals.Given as goal

abbrev pub invariant-loop-b : goal.invariant-loop-b
invariant-loop-b g = g.came.items ≡ flat_map (λ (b : Block). from_block g.graph g.nested b.pc) (take g.b-index g.blocks)

abbrev pub invariant-loop-l : goal.invariant-loop-l
invariant-loop-l g =
    g.came.items ≡ flat_map (λ (b : Block). from_block g.graph g.nested b.pc) g.blocks ++ flat_map (from_loop g.nested) (take g.l-index g.loops)
