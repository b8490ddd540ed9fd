use Rattle.std.proofs.Common.{◌≡◌, ◌<◌, length, arith, sym, ◌∙◌}
use Rattle.code_blocks.proofs.Ways.{ways_next, ways_all}
use Rattle.code_blocks.proofs.reaching.graph_of.Goals as goal

pub add_edges-requires-clause-pc : goal.add_edges-requires-clause-pc
add_edges-requires-clause-pc c =
    let nodes : length c.loop-i.graph ≡ c.args.size = c.loop-i.invariant.nodes in
    let inside : c.i-item.result.pc < c.args.size = c.requires.places c.i-item.result (c.loop-i.i-index, c.loop-i-test.true, sym c.i-item.is) in
    omega arith

pub loop-i-preserved : goal.loop-i-preserved
loop-i-preserved c = record {
  nodes = c.in_ok-add_edges.ensures.nodes ∙ c.loop-i.invariant.nodes;
  edges =
      ways_next c.args.instructions.now c.loop-i.i-index c.i-item.result c.i-item.result c.loop-i.graph c.add_edges.new.graph c.loop-i-test.true c.i-item.is c.loop-i.invariant.edges
      c.in_ok-add_edges.ensures.added;
}

pub returns-clause-edges : goal.returns-clause-edges
returns-clause-edges c = ways_all c.args.instructions.now c.loop-i.i-index c.loop-i.graph c.loop-i-test.false c.loop-i.invariant.edges
