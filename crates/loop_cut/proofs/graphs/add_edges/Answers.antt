use Rattle.std.proofs.Common.{◌≡◌, ◌<◌, ◌≤◌, get_or, length, ap, subst, ◌∙◌}
use Rattle.code_blocks.proofs.Ways.{added_next, added_all}
use Rattle.loop_cut.proofs.graphs.add_edges.Goals as goal

pub loop-x-preserved : goal.loop-x-preserved
loop-x-preserved c =
    let same : c.as_slice-x-items.result.now ≡ c.args.b.now.successors = c.as_slice-x-items.ensures in
    record {
      nodes = c.in_ok-add.ensures.nodes ∙ c.loop-x.invariant.nodes;
      added =
          added_next c.args.b.now.pc c.args.b.now.successors c.loop-x.x-index (get_or c.as_slice-x-items.result.now c.loop-x.x-index 0) 0 c.args.graph.now c.loop-x.graph c.add.new.self
          (subst (λ l. c.loop-x.x-index < length l) same c.loop-x-test.true) (ap (λ l. get_or l c.loop-x.x-index 0) same) c.loop-x.invariant.added c.in_ok-add.ensures.added;
    }

pub returns-clause-added : goal.returns-clause-added
returns-clause-added c =
    let same : c.as_slice-x-items.result.now ≡ c.args.b.now.successors = c.as_slice-x-items.ensures in
    added_all c.args.b.now.pc c.args.b.now.successors c.loop-x.x-index c.args.graph.now c.loop-x.graph
    (subst (λ l. length l ≤ c.loop-x.x-index) same c.loop-x-test.false) c.loop-x.invariant.added
