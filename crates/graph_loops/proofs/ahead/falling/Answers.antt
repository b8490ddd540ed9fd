use Rattle.std.proofs.Common.{ℕ, ◌≡◌, length, sym, subst, arith}
use Rattle.graph_core.proofs.Marks.{lies_false}
use Rattle.graph_loops.specs.inside.Ahead.{IsFallingTo}
use Rattle.graph_loops.proofs.Aheads.{IsFallingTo-none, fall_node, fall_skip, fall_push}
use Rattle.graph_loops.proofs.ahead.falling.Goals as goal

pub loop-k-init : goal.loop-k-init
loop-k-init c =
    let e : c.len-k.result ≡ length c.args.ranked.now.places.items = omega (arith, c.len-k.ensures, c.args.ranked.now.places.ok.0) in
    record {
      order = subst (λ (n : ℕ). IsFallingTo c.args.rooted.now.graph.now c.args.rooted.now.root c.args.ranked.now.numbers n c.new-order.result.items) (sym e) (IsFallingTo-none c.args.rooted.now.graph.now c.nodes-nodes.ensures.ends c.args.rooted.now.root c.requires.root c.args.ranked.now.numbers c.requires.size (length c.args.ranked.now.places.items) c.requires.counted c.args.ranked.now.places.items c.requires.placed c.new-order.result.items c.new-order.ensures.items);
      k = omega arith;
    }

pub reaches-requires : goal.reaches-requires
reaches-requires c =
    let l = fall_node c.args.rooted.now.graph.now c.nodes-nodes.ensures.ends c.args.rooted.now.root c.requires.root c.args.ranked.now.numbers c.requires.size c.args.ranked.now.places.items c.requires.counted c.requires.placed c.loop-k.k c.index-x.result.now c.loop-k-test.true c.loop-k.invariant.k c.index-x.ensures in
    omega (arith, l, c.requires.search.count)

pub loop-k-preserved-in-Continue-1 : goal.loop-k-preserved-in-Continue-1
loop-k-preserved-in-Continue-1 c =
    let reached = (c.reaches.ensures _ _ c.requires.search).0 c.if-reaches.true in
    let low = c.loop-k.invariant.k in
    record {
      order = fall_push c.args.rooted.now.graph.now c.nodes-nodes.ensures.ends c.args.rooted.now.root c.requires.root c.args.ranked.now.numbers c.requires.size c.args.ranked.now.places.items c.requires.counted c.requires.placed c.loop-k.k c.index-x.result.now c.loop-k-test.true c.loop-k.invariant.k c.index-x.ensures c.loop-k.order.items c.loop-k.invariant.order reached c.push.new.self.items c.in_ok-push.ensures.items;
      k = omega arith;
    }

pub loop-k-preserved : goal.loop-k-preserved
loop-k-preserved c =
    let none = lies_false _ c.if-reaches.false (c.reaches.ensures _ _ c.requires.search) in
    let low = c.loop-k.invariant.k in
    record {
      order = fall_skip c.args.rooted.now.graph.now c.nodes-nodes.ensures.ends c.args.rooted.now.root c.requires.root c.args.ranked.now.numbers c.requires.size c.args.ranked.now.places.items c.requires.counted c.requires.placed c.loop-k.k c.index-x.result.now c.loop-k-test.true c.loop-k.invariant.k c.index-x.ensures c.loop-k.order.items c.loop-k.invariant.order none;
      k = omega arith;
    }
