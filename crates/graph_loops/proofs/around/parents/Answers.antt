use Rattle.std.proofs.Common.{ℕ, List, None, get_or, take, sym, subst}
use Rattle.std.proofs.lemmas.List.{take_all}
use Rattle.graph_core.specs.Nests.{Entered, entries_of}
use Rattle.graph_loops.specs.inside.Around.{AreAround, IsAround}
use Rattle.graph_loops.proofs.Arounds.{entries_more, loop_begins, loop_nodes, IsParent-all, nest_read}
use Rattle.graph_loops.proofs.around.parents.Goals as goal

pub add_loop-requires-clause-begins : goal.add_loop-requires-clause-begins
add_loop-requires-clause-begins c =
    loop_begins c.args.rooted.now.graph.now c.args.rooted.now.root c.loops-l-items.result.now (nest_read _ _ _ _ c.loops-l-items.ensures c.requires.nest) c.loop-l.l-index c.l-item.result c.loop-l-test.true c.l-item.is

pub add_loop-requires-clause-nodes : goal.add_loop-requires-clause-nodes
add_loop-requires-clause-nodes c =
    loop_nodes c.args.rooted.now.graph.now c.args.rooted.now.root c.loops-l-items.result.now (nest_read _ _ _ _ c.loops-l-items.ensures c.requires.nest) c.loop-l.l-index c.l-item.result c.loop-l-test.true c.l-item.is

pub loop-l-preserved : goal.loop-l-preserved
loop-l-preserved c =
    subst (λ (es : List ℕ). AreAround c.args.rooted.now.graph.now c.args.rooted.now.root es c.add_loop.new.around.items) (sym (entries_more c.args.rooted.now.graph.now c.args.rooted.now.root c.loops-l-items.result.now c.loop-l.l-index c.l-item.result c.loop-l-test.true c.l-item.is)) (c.add_loop.ensures (entries_of (take c.loop-l.l-index c.loops-l-items.result.now)) c.loop-l.invariant)

pub returns-clause-parents : goal.returns-clause-parents
returns-clause-parents c =
    λ x. IsParent-all c.args.rooted.now.graph.now c.args.rooted.now.root c.loops-l-items.result.now (nest_read _ _ _ _ c.loops-l-items.ensures c.requires.nest) x _ (subst (λ (ls : List Entered). IsAround c.args.rooted.now.graph.now c.args.rooted.now.root (entries_of ls) x (get_or c.loop-l.around.items x None)) (take_all c.loop-l.l-index c.loops-l-items.result.now c.loop-l-test.false) (c.loop-l.invariant.each x))
