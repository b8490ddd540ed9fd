use Rattle.std.proofs.Common.{Bool, ◌↔◌, IsTrue, ap, sym, subst, ◌∙◌}
use Rattle.std.specs.Prelude.{is_some}
use Rattle.graph_core.specs.Search.{IsTold}
use Rattle.graph_core.proofs.Trails.{is_told, both_ways}
use Rattle.graph_core.proofs.tree.FirstPaths.reaches.Goals as goal

pub returns : goal.returns
returns c =
    let told : IsTrue c.is_some.result ↔ IsTold c.args.self.now c.args.node = subst (λ (r : Bool). IsTrue r ↔ IsTold c.args.self.now c.args.node) (sym (c.is_some.ensures ∙ ap is_some c.number.ensures)) (is_told c.args.self.now c.args.node) in
    λ g root s. both_ways told (s.reached c.args.node)
