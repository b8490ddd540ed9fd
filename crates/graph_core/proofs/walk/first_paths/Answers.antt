use Rattle.std.proofs.Common.{ℕ, subst}
use Rattle.graph_core.specs.Search.{IsSearchTree}
use Rattle.graph_core.proofs.Trails.{IsSearch-tree}
use Rattle.graph_core.proofs.walk.first_paths.Goals as goal

pub returns : goal.returns
returns c =
    let tree = rw c.if-branch.false at c.in_ok-step.ensures.walk in
    IsSearch-tree c.args.g.now c.args.root c.step.new.walk.paths (subst (λ (root : ℕ). IsSearchTree c.args.g.now root c.step.new.walk.paths) c.loop-walk.invariant.root tree)
