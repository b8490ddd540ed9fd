use Rattle.std.proofs.Common.{sym, subst}
use Rattle.graph_core.proofs.Marks.{lies_false}
use Rattle.graph_loops.specs.Nesting.{IsInnermost, IsParent}
use Rattle.plain_graphs.proofs.Nested.{innermost_is, parent_is}
use Rattle.plain_graphs.proofs.nesting.is_told.Goals as goal

pub returns-then-not-is_nearest : goal.returns-then-not-is_nearest
returns-then-not-is_nearest c =
    let same = innermost_is c.args.p.now.graph.now c.nodes.ensures.ends c.args.p.now.root c.args.x _ c.nodes.ensures.value _ in
    (λ t. absurd (cc), λ h. absurd (lies_false _ c.if-not-is_nearest.true c.is_nearest.ensures (same.1 (subst (IsInnermost c.args.p.now.graph.now c.args.p.now.root c.args.x) (sym c.innermost.ensures) h.0))))

pub returns : goal.returns
returns c =
    let same = innermost_is c.args.p.now.graph.now c.nodes.ensures.ends c.args.p.now.root c.args.x _ c.nodes.ensures.value _ in
    let up = parent_is c.args.p.now.graph.now c.nodes.ensures.ends c.args.p.now.root c.args.x _ in
    (λ t. (subst (IsInnermost c.args.p.now.graph.now c.args.p.now.root c.args.x) c.innermost.ensures (same.0 (c.is_nearest.ensures.0 c.if-not-is_nearest.false)), subst (IsParent c.args.p.now.graph.now c.args.p.now.root c.args.x) c.parent.ensures (up.0 (c.is_nearest-2.ensures.0 t))), λ h. c.is_nearest-2.ensures.1 (up.1 (subst (IsParent c.args.p.now.graph.now c.args.p.now.root c.args.x) (sym c.parent.ensures) h.1)))
