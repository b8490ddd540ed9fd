use Rattle.std.proofs.Common.{ℕ, List, ◌<◌, ◌≡◌, length, get_or, refl, sym, ap, subst, arith}
use Rattle.graph_core.specs.Loops.{IsInLoop}
use Rattle.graph_loops.specs.inside.Around.{AreAroundTo}
use Rattle.graph_loops.proofs.Arounds.{AreAroundTo-none, AreAroundTo-more, AreAround-loop, item_inside, item_fits, around_read}
use Rattle.graph_loops.proofs.around.add_loop.Goals as goal

pub loop-x-init : goal.loop-x-init
loop-x-init c = λ entries a. AreAroundTo-none _ _ entries _ _ _ a

pub index-requires : goal.index-requires
index-requires c =
    let w = c.loop-x.invariant c.requires.around.0 c.requires.around.1 in
    let l = item_fits c.args.rooted.now.graph.now c.args.rooted.now.root c.nodes-nodes.ensures.ends c.args.l.now c.requires.begins c.requires.nodes c.nodes-x-items.result.now c.nodes-x-items.ensures c.loop-x.x-index c.loop-x-test.true in
    omega (arith, l, w.before.count, c.loop-x.around.ok.0)

pub nearer-requires-clause-holds : goal.nearer-requires-clause-holds
nearer-requires-clause-holds c =
    subst (λ (h : ℕ). IsInLoop c.args.rooted.now.graph.now c.args.rooted.now.root h (get_or c.nodes-x-items.result.now c.loop-x.x-index 0)) (sym c.entry-h.ensures) (item_inside c.args.rooted.now.graph.now c.args.rooted.now.root c.args.l.now c.requires.nodes c.nodes-x-items.result.now c.nodes-x-items.ensures c.loop-x.x-index c.loop-x-test.true)

pub nearer-requires-clause-around : goal.nearer-requires-clause-around
nearer-requires-clause-around c =
    let w = c.loop-x.invariant c.requires.around.0 c.requires.around.1 in
    let l = item_fits c.args.rooted.now.graph.now c.args.rooted.now.root c.nodes-nodes.ensures.ends c.args.l.now c.requires.begins c.requires.nodes c.nodes-x-items.result.now c.nodes-x-items.ensures c.loop-x.x-index c.loop-x-test.true in
    (c.requires.around.0, around_read c.args.rooted.now.graph.now c.args.rooted.now.root c.requires.around.0 c.loop-x.around.items w.before _ l _ c.index.ensures)

pub index_mut-requires : goal.index_mut-requires
index_mut-requires c =
    let w = c.loop-x.invariant c.requires.around.0 c.requires.around.1 in
    let l = item_fits c.args.rooted.now.graph.now c.args.rooted.now.root c.nodes-nodes.ensures.ends c.args.l.now c.requires.begins c.requires.nodes c.nodes-x-items.result.now c.nodes-x-items.ensures c.loop-x.x-index c.loop-x-test.true in
    omega (arith, l, w.before.count, c.loop-x.around.ok.0)

pub loop-x-preserved : goal.loop-x-preserved
loop-x-preserved c =
    λ entries a. let w = c.loop-x.invariant entries a in let l = item_fits c.args.rooted.now.graph.now c.args.rooted.now.root c.nodes-nodes.ensures.ends c.args.l.now c.requires.begins c.requires.nodes c.nodes-x-items.result.now c.nodes-x-items.ensures c.loop-x.x-index c.loop-x-test.true in let fits : get_or c.nodes-x-items.result.now c.loop-x.x-index 0 < length c.loop-x.around.items = omega (arith, l, w.before.count) in AreAroundTo-more c.args.rooted.now.graph.now c.args.rooted.now.root entries c.entry-h.result c.nodes-x-items.result.now c.loop-x.x-index c.loop-x-test.true c.loop-x.around.items w (get_or c.nodes-x-items.result.now c.loop-x.x-index 0) refl fits c.nearer.result (c.nearer.ensures entries (around_read c.args.rooted.now.graph.now c.args.rooted.now.root entries c.loop-x.around.items w.before _ l _ c.index.ensures))

pub returns : goal.returns
returns c =
    λ entries a. AreAround-loop c.args.rooted.now.graph.now c.args.rooted.now.root entries c.args.l.now c.loop-x.x-index c.loop-x.around.items c.requires.nodes (let e : length c.nodes-x-items.result.now ≡ length c.args.l.now.nodes = ap length c.nodes-x-items.ensures in omega (arith, c.loop-x-test.false)) (subst (λ (h : ℕ). AreAroundTo c.args.rooted.now.graph.now c.args.rooted.now.root entries h c.args.l.now.nodes c.loop-x.x-index c.loop-x.around.items) c.entry-h.ensures (subst (λ (xs : List ℕ). AreAroundTo c.args.rooted.now.graph.now c.args.rooted.now.root entries c.entry-h.result xs c.loop-x.x-index c.loop-x.around.items) c.nodes-x-items.ensures (c.loop-x.invariant entries a)))
