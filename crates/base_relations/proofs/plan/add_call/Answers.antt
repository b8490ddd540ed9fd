use Rattle.std.proofs.Common.{arith, sym, subst}
use Rattle.base_relations.specs.inside.Plans.{Adds, IsCallOf}
use Rattle.base_relations.proofs.Calling.{adds_edge}
use Rattle.base_relations.proofs.plan.add_call.Goals as goal

pub returns-clause-edges : goal.returns-clause-edges
returns-clause-edges c = subst (λ item. Adds c.args.g.now c.add.new.self c.args.a (IsCallOf item)) (sym c.in-Call.is) (adds_edge c.args.g.now c.add.new.self c.args.a c.in-Call.b c.in-Call.field-1 (omega (arith, c.nodes.ensures.value, c.if-b-nodes.false)) c.in_ok-add.ensures.added)
