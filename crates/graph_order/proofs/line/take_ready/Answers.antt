use Rattle.std.proofs.Common.{ℕ, List, ◌<◌, ◌++◌, ◌∷◌, [], set, true, length, sym, subst, arith}
use Rattle.graph_order.specs.CalleesFirst.{AreNexts}
use Rattle.graph_order.specs.inside.Line.{IsLine, AreCallersDue}
use Rattle.graph_order.proofs.Orders.{IsCalleeFirst-end, IsNext-lowest, v_within, IsLine-ready, AreNexts-push}
use Rattle.graph_order.proofs.line.take_ready.Goals as goal

pub returns-in_default-clause-none : goal.returns-in_default-clause-none
returns-in_default-clause-none c =
    IsCalleeFirst-end c.args.parts.now.graph.now c.nodes-nodes.ensures.ends c.args.parts.now.chosen.now _ _ _ _ c.requires.parts _ _ _ _ _ c.requires.line c.requires.free c.in_default.ensures.none c.requires.nexts

pub of-x-requires : goal.of-x-requires
of-x-requires c =
    v_within c.args.parts.now.graph.now c.nodes-nodes.ensures.ends c.args.parts.now.chosen.now _ _ _ _ c.requires.parts _ _ _ _ _ c.requires.line c.requires.free _ _ c.in-Some.ensures.some c.in-Some.ensures.lowest

pub index_mut-requires : goal.index_mut-requires
index_mut-requires c =
    let l = (IsLine-ready c.args.parts.now.graph.now c.nodes-nodes.ensures.ends c.args.parts.now.chosen.now _ _ _ _ c.requires.parts _ _ _ _ _ c.requires.line c.requires.free _ _ c.in-Some.ensures.some c.in-Some.ensures.lowest).0 in
    let n = c.requires.line.done_count in
    omega (arith, l, n, c.of-x.ensures, c.args.line.now.done.ok.0)

pub returns-clause-x : goal.returns-clause-x
returns-clause-x c =
    let l = (IsLine-ready c.args.parts.now.graph.now c.nodes-nodes.ensures.ends c.args.parts.now.chosen.now _ _ _ _ c.requires.parts _ _ _ _ _ c.requires.line c.requires.free _ _ c.in-Some.ensures.some c.in-Some.ensures.lowest).0 in
    subst (λ (x : ℕ). x < length c.args.parts.now.calls) (sym c.of-x.ensures) l

pub returns-clause-line : goal.returns-clause-line
returns-clause-line c =
    let l = (IsLine-ready c.args.parts.now.graph.now c.nodes-nodes.ensures.ends c.args.parts.now.chosen.now _ _ _ _ c.requires.parts _ _ _ _ _ c.requires.line c.requires.free _ _ c.in-Some.ensures.some c.in-Some.ensures.lowest).1 in
    let at = subst (λ (x : ℕ). IsLine c.args.parts.now.calls c.args.parts.now.firsts.items (set c.args.line.now.done.items x true) c.args.line.now.nexts.items c.args.line.now.free.items c.take_lowest.new.self (c.args.line.now.order.items ++ c.in-Some.v ∷ []) (AreCallersDue c.args.parts.now.calls c.args.line.now.nexts.items x)) (sym c.of-x.ensures) l in
    subst (λ (xs : List ℕ). IsLine c.args.parts.now.calls c.args.parts.now.firsts.items (set c.args.line.now.done.items c.of-x.result true) c.args.line.now.nexts.items c.args.line.now.free.items c.take_lowest.new.self xs (AreCallersDue c.args.parts.now.calls c.args.line.now.nexts.items c.of-x.result)) (sym c.in_ok-push.ensures.items) at

pub returns-clause-nexts : goal.returns-clause-nexts
returns-clause-nexts c =
    let next = IsNext-lowest c.args.parts.now.graph.now c.nodes-nodes.ensures.ends c.args.parts.now.chosen.now _ _ _ _ c.requires.parts _ _ _ _ _ c.requires.line c.requires.free _ _ c.in-Some.ensures.some c.in-Some.ensures.lowest in
    subst (AreNexts c.args.parts.now.graph.now c.args.parts.now.chosen.now) (sym c.in_ok-push.ensures.items) (AreNexts-push c.args.parts.now.graph.now c.args.parts.now.chosen.now c.args.line.now.order.items c.in-Some.v c.requires.nexts next)
