use Rattle.std.proofs.Common.{length, ◌∙◌, arith}
use Rattle.frame_kinds.specs.Flow.{nowhere}
use Rattle.frame_kinds.proofs.Places.{edge_there}
use Rattle.frame_kinds.proofs.disagreeing.add_on_edges.Goals as goal

pub add_made-requires-clause-there : goal.add_made-requires-clause-there
add_made-requires-clause-there c =
    let flow = c.args.flow.now in
    let b = flow.body.now in
    let inside = (edge_there (length b.code.bytes) b.instructions c.as_slice-edge-items.result.now c.loop-edge.edge-index nowhere flow.within (c.as_slice-edge-items.ensures.value ∙ flow.edges_are) c.loop-edge-test.true).0 in
    let same = c.requires.count in omega arith

pub add_made-requires-clause-fact : goal.add_made-requires-clause-fact
add_made-requires-clause-fact c =
    let flow = c.args.flow.now in
    let b = flow.body.now in
    c.requires.solved.facts _ (edge_there (length b.code.bytes) b.instructions c.as_slice-edge-items.result.now c.loop-edge.edge-index nowhere flow.within (c.as_slice-edge-items.ensures.value ∙ flow.edges_are) c.loop-edge-test.true).0
