use Rattle.std.proofs.Common.{arith, ◌∙◌}
use Rattle.class_hierarchy.proofs.Ranking.{super_at, adds_none, adds_one, class_added}
use Rattle.class_hierarchy.proofs.cycle.add_supers.Goals as goal

pub loop-other-init : goal.loop-other-init
loop-other-init c = (c.requires.below.nodes, adds_none c.args.graph.now c.args.class c.deref-other-items.result.now)

pub add-requires-clause-a : goal.add-requires-clause-a
add-requires-clause-a c = rw c.loop-other.invariant.0 c.requires.class

pub add-requires-clause-b : goal.add-requires-clause-b
add-requires-clause-b c =
    rw c.loop-other.invariant.0 (super_at c.args.classes.now c.args.class c.deref-other-items.result.now c.loop-other.other-index (c.deref-other-items.ensures.value ∙ c.in_ok-supers.ensures) c.loop-other-test.true)

pub loop-other-preserved : goal.loop-other-preserved
loop-other-preserved c = (
  c.add.ensures.nodes ∙ c.loop-other.invariant.0,
  adds_one c.args.graph.now c.loop-other.graph c.add.new.self c.args.class c.deref-other-items.result.now c.loop-other.other-index c.loop-other-test.true c.loop-other.invariant.1 c.in_ok-add.ensures.added,
)

pub returns : goal.returns
returns c =
    class_added c.args.classes.now c.args.class c.deref-other-items.result.now c.loop-other.other-index c.args.graph.now c.loop-other.graph (c.deref-other-items.ensures.value ∙ c.in_ok-supers.ensures) (omega arith) c.loop-other.invariant.0 c.requires.below c.loop-other.invariant.1
