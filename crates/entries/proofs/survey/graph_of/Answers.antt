use Rattle.std.proofs.Common.{◌∙◌, arith}
use Rattle.entries.proofs.Marks.{below_next, below_all}
use Rattle.entries.proofs.survey.graph_of.Goals as goal

pub loop-a-preserved : goal.loop-a-preserved
loop-a-preserved c = record {
  nodes = c.note_cell.ensures.nodes ∙ c.loop-a.invariant.nodes;
  edges = below_next c.args.heap.now c.loop-a.g c.note_cell.new.g c.loop-a.a c.loop-a.invariant.nodes c.loop-a.invariant.edges c.in_ok-note_cell.ensures.noted;
}

pub returns : goal.returns
returns c = below_all c.args.heap.now c.loop-a.g c.loop-a.a c.loop-a.invariant.nodes (omega (arith, c.loop-a-test.false, c.loop-a.auto.a-end, c.len-nodes.ensures)) c.loop-a.invariant.edges
