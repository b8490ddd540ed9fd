use Rattle.std.proofs.Common.{ℕ, List, Some, take, set, [], ◌∷◌, ◌++◌, ◌<◌, length, sym, subst, arith}
use Rattle.std.proofs.lemmas.List.{take_all}
use Rattle.graph_core.specs.Nests.{Entered, entries_of}
use Rattle.graph_loops.specs.inside.Around.{AreInnerTo}
use Rattle.graph_loops.proofs.Arounds.{begins_at, entries_more, loop_begins, IsInnermost-all, AreInnerTo-more, nest_read}
use Rattle.graph_loops.proofs.around.innermosts.Goals as goal

pub index_mut-requires : goal.index_mut-requires
index_mut-requires c =
    let b = loop_begins c.args.rooted.now.graph.now c.args.rooted.now.root c.loops-l-items.result.now (nest_read _ _ _ _ c.loops-l-items.ensures c.requires.nest) c.loop-l.l-index c.l-item.result c.loop-l-test.true c.l-item.is in
    let l = begins_at c.args.rooted.now.graph.now c.args.rooted.now.root c.nodes-nodes.ensures.ends c.l-item.result.entry b in
    omega (arith, l, c.entry-h.ensures, c.loop-l.invariant.count, c.requires.count, c.loop-l.inner.ok.0)

pub loop-l-preserved : goal.loop-l-preserved
loop-l-preserved c =
    let b = loop_begins c.args.rooted.now.graph.now c.args.rooted.now.root c.loops-l-items.result.now (nest_read _ _ _ _ c.loops-l-items.ensures c.requires.nest) c.loop-l.l-index c.l-item.result c.loop-l-test.true c.l-item.is in
    let l = begins_at c.args.rooted.now.graph.now c.args.rooted.now.root c.nodes-nodes.ensures.ends c.l-item.result.entry b in
    let fits : c.l-item.result.entry < length c.loop-l.inner.items = omega (arith, l, c.loop-l.invariant.count, c.requires.count) in
    let more = AreInnerTo-more c.args.parents.now c.loop-l.inner.items _ c.l-item.result.entry fits c.loop-l.invariant in
    subst (λ (es : List ℕ). AreInnerTo c.args.parents.now es (set c.loop-l.inner.items c.entry-h.result (Some c.entry-h.result))) (sym (entries_more c.args.rooted.now.graph.now c.args.rooted.now.root c.loops-l-items.result.now c.loop-l.l-index c.l-item.result c.loop-l-test.true c.l-item.is)) (subst (λ (h : ℕ). AreInnerTo c.args.parents.now (entries_of (take c.loop-l.l-index c.loops-l-items.result.now) ++ c.l-item.result.entry ∷ []) (set c.loop-l.inner.items h (Some h))) (sym c.entry-h.ensures) more)

pub returns-clause-inner : goal.returns-clause-inner
returns-clause-inner c =
    IsInnermost-all c.args.rooted.now.graph.now c.args.rooted.now.root c.loops-l-items.result.now (nest_read _ _ _ _ c.loops-l-items.ensures c.requires.nest) c.args.parents.now c.loop-l.inner.items (subst (λ (ls : List Entered). AreInnerTo c.args.parents.now (entries_of ls) c.loop-l.inner.items) (take_all c.loop-l.l-index c.loops-l-items.result.now c.loop-l-test.false) c.loop-l.invariant) c.requires.parents
