use Rattle.std.proofs.Common.{refl, get_or}
use Rattle.graph_order.proofs.Joins.{AreJoinsAt-none, AreJoinsAt-skip, AreJoinsAt-push, AreJoinsTo-more}
use Rattle.graph_order.proofs.parts.add_joins.Goals as goal
use Rattle.graph_order.proofs.parts.add_joins.Goals.{then-x-y+in_ok-push, else-x-y}

pub loop-b-init : goal.loop-b-init
loop-b-init c = AreJoinsAt-none c.args.g.now c.args.numbers.now c.successors-b-items.result.now c.args.a _ c.requires.edges

pub loop-b-preserved : goal.loop-b-preserved
loop-b-preserved c =
    elim c.if-x-y.branch [
      | then-x-y+in_ok-push w ↦
          rw w.edges-is (rw w.in_ok-push.ensures.items (AreJoinsAt-push c.args.g.now c.args.numbers.now c.successors-b-items.result.now c.args.a c.loop-b.b-index c.loop-b-test.true c.loop-b.edges.items c.loop-b.invariant (get_or c.args.numbers.now c.args.a 0) (get_or c.args.numbers.now (get_or c.successors-b-items.result.now c.loop-b.b-index 0) 0) refl refl w.if-x-y.true))
      | else-x-y w ↦
          rw w.edges-is (AreJoinsAt-skip c.args.g.now c.args.numbers.now c.successors-b-items.result.now c.args.a c.loop-b.b-index c.loop-b-test.true c.loop-b.edges.items c.loop-b.invariant w.if-x-y.false)
    ]

pub returns : goal.returns
returns c =
    AreJoinsTo-more c.args.g.now c.args.numbers.now c.successors-b-items.result.now c.args.a c.successors-b-items.ensures.value _ c.loop-b-test.false _ c.loop-b.invariant
