use Rattle.std.proofs.Common.{List, ℕ, subst, sym}
use Rattle.graph_core.specs.Search.{Found}
use Rattle.graph_core.specs.Walk.{IsWalk}
use Rattle.graph_core.proofs.Starts.{IsWalk-begin, root_alone}
use Rattle.graph_core.proofs.walk.begin.Goals as goal

pub returns-clause-walk : goal.returns-clause-walk
returns-clause-walk c =
    let start = IsWalk-begin c.args.g.now c.nodes-nodes.result c.args.root c.nodes-nodes.ensures.value c.requires in
    let zeros = c.in_ok-nexts.ensures.items_if_clones_equal (λ y h. h) in
    subst (λ (f : Found). IsWalk c.args.g.now f c.in_ok-nexts.nexts.items 0) (sym c.in_ok-paths.ensures) (subst (λ (ns : List ℕ). IsWalk c.args.g.now (root_alone c.nodes-nodes.result c.args.root) ns 0) (sym zeros) start)
