use Rattle.std.proofs.Common.{ℕ, length, subst, ◌≡◌, arith}
use Rattle.graph_order.specs.inside.Parts.{AreJoinsTo}
use Rattle.graph_order.proofs.parts.joins.Goals as goal

pub returns : goal.returns
returns c =
    let e : c.loop-a.a ≡ length c.args.g.now = omega (arith, c.nodes-a-end.ensures.value) in
    subst (λ (n : ℕ). AreJoinsTo c.args.g.now c.args.numbers.now n c.loop-a.edges.items) e c.loop-a.invariant
