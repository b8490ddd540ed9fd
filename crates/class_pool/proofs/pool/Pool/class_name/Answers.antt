use Rattle.std.proofs.Common.{ap, ◌∙◌}
use Rattle.class_pool.specs.Pool.{class_name_at}
use Rattle.class_pool.proofs.Getters.{Slots, class_kind}
use Rattle.class_pool.proofs.pool.Pool.class_name.Goals as goal

pub returns-clause-kind : goal.returns-clause-kind
returns-clause-kind c =
    let pool = c.self.inside.slots.items in
    rw (← c.self.view_is) (class_kind (λ r. r.now) c.class_name_with.result pool c.args.index c.self.invariant (c.class_name_with.ensures ∙ ap (λ (slots : Slots). class_name_at slots c.args.index) c.deref.ensures.value))
