use Rattle.std.proofs.Common.{ap, ◌∙◌}
use Rattle.class_pool.specs.Pool.{name_and_type_at}
use Rattle.class_pool.proofs.Getters.{Slots, named_kind}
use Rattle.class_pool.proofs.pool.Pool.name_and_type.Goals as goal

pub returns-clause-kind : goal.returns-clause-kind
returns-clause-kind c =
    let pool = c.self.inside.slots.items in
    rw (← c.self.view_is) (named_kind (λ r. (r.0.now, r.1.now)) c.name_and_type_with.result pool c.args.index c.self.invariant (c.name_and_type_with.ensures ∙ ap (λ (slots : Slots). name_and_type_at slots c.args.index) c.deref.ensures.value))
