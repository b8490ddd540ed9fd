use Rattle.std.proofs.Common.{◌∙◌, ap, refl, subst, sym}
use Rattle.graph_core.specs.Search.{Found, IsSearchTree, node_at, parent_at}
use Rattle.graph_core.proofs.Walks.{IsSearch-end, IsWalk-up, none_left, IsWalk-moved}
use Rattle.graph_core.proofs.walk.step.Goals as goal

pub returns-then-walk-eq0-clause-walk : goal.returns-then-walk-eq0-clause-walk
returns-then-walk-eq0-clause-walk c =
    let all = none_left _ _ _ _ c.requires.walk _ _ _ c.node-node.ensures c.index.ensures c.successors.ensures.value c.if-index-successors.false in
    subst (IsSearchTree c.args.g.now (node_at c.args.walk.now.paths 0)) (sym c.leave.ensures) (IsSearch-end _ _ _ _ c.requires.walk all _ c.if-walk-eq0.true refl)

pub returns-clause-walk : goal.returns-clause-walk
returns-clause-walk c =
    let all = none_left _ _ _ _ c.requires.walk _ _ _ c.node-node.ensures c.index.ensures c.successors.ensures.value c.if-index-successors.false in
    IsWalk-moved _ _ _ _ _ _ c.leave.ensures (c.parent-walk.ensures ∙ ap (λ (f : Found). parent_at f c.args.walk.now.here) c.leave.ensures) (IsWalk-up _ _ _ _ c.requires.walk all c.if-walk-eq0.false)
