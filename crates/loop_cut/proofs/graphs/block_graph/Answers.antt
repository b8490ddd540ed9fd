use Rattle.std.proofs.Common.{◌≡◌, ◌<◌, ℕ, List, length, arith, sym, subst, ◌∙◌}
use Rattle.std.specs.Prelude.{All}
use Rattle.loop_cut.proofs.Standing.{block_within, block_ends}
use Rattle.code_blocks.specs.declared.instruction.Block.{Block}
use Rattle.loop_cut.proofs.Lists.{among}
use Rattle.loop_cut.proofs.Ways.{AreWays, ways_next, ways_all}
use Rattle.loop_cut.proofs.graphs.block_graph.Goals as goal

pub add_edges-requires-clause-pc : goal.add_edges-requires-clause-pc
add_edges-requires-clause-pc c =
    let nodes : length c.loop-b.graph ≡ length c.args.body.now.code.bytes = c.loop-b.invariant.nodes in
    let inside = block_within c.args.body.now c.well_made.ensures.body c.well_made.ensures.laid_out c.code_is_laid_out.ensures.stands c.b-item.result (among c.blocks-b-items.result.now c.args.body.now.blocks c.loop-b.b-index c.b-item.result c.blocks-b-items.ensures c.loop-b-test.true c.b-item.is) in
    omega arith

pub add_edges-requires-clause-ends : goal.add_edges-requires-clause-ends
add_edges-requires-clause-ends c =
    subst (λ (n : ℕ). All (λ x. x < n) c.b-item.result.successors) (sym c.loop-b.invariant.nodes)
    (block_ends c.args.body.now c.well_made.ensures.body c.well_made.ensures.laid_out c.code_is_laid_out.ensures.stands c.b-item.result (among c.blocks-b-items.result.now c.args.body.now.blocks c.loop-b.b-index c.b-item.result c.blocks-b-items.ensures c.loop-b-test.true c.b-item.is))

pub loop-b-preserved : goal.loop-b-preserved
loop-b-preserved c = record {
  nodes = c.in_ok-add_edges.ensures.nodes ∙ c.loop-b.invariant.nodes;
  edges =
      ways_next c.blocks-b-items.result.now c.loop-b.b-index c.b-item.result c.b-item.result c.loop-b.graph c.add_edges.new.graph c.loop-b-test.true c.b-item.is c.loop-b.invariant.edges
      c.in_ok-add_edges.ensures.added;
}

pub returns : goal.returns
returns c = record {
  nodes = c.loop-b.invariant.nodes;
  edges = subst (λ (l : List Block). AreWays l c.loop-b.graph) c.blocks-b-items.ensures (ways_all c.blocks-b-items.result.now c.loop-b.b-index c.loop-b.graph c.loop-b-test.false c.loop-b.invariant.edges);
}
