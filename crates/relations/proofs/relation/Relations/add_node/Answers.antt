use Rattle.std.proofs.Common.{◌≡◌, ◌≤◌, ◌<◌, ◌+◌, ◌^◌, ◌∷◌, [], ◌++◌, length, arith, sym, ap, ◌∙◌, subst, length-append}
use Rattle.relations.specs.declared.node.Node.{Node}
use Rattle.relations.specs.Relation.{Relation}
use Rattle.relations.specs.Scope.{IsRelation, terms_of}
use Rattle.relations.proofs.Keeping.{node_added, terms_snoc}
use Rattle.relations.proofs.relation.Relations.add_node.Goals as goal

pub invariant_of-self-2 : goal.invariant_of-self-2
invariant_of-self-2 c =
    let nodes = c.self.inside.nodes.items in
    let node : Node = record { name = c.args.name; lengths = c.from.result; rules = c.new-rules.result } in
    let is = c.in_ok-push.ensures.items in
    let few : length c.from.result ≤ 32 = omega (arith, c.len.ensures, ap length c.from.ensures) in
    let count : length nodes < 2 ^ 31 = omega (arith, c.requires, ap length c.self.view_is) in (
      subst IsRelation (sym is) (node_added nodes node c.self.invariant.0 few c.new-rules.ensures),
      subst (λ (r : Relation). length r ≤ 2 ^ 31) (sym is) (omega (arith, length-append nodes (node ∷ []))),
      c.self.invariant.2 ∙ sym (ap terms_of is ∙ terms_snoc nodes node c.new-rules.ensures),
    )
