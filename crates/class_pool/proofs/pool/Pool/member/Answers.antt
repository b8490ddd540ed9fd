use Rattle.std.proofs.Common.{ap, ◌∙◌}
use Rattle.class_pool.specs.Pool.{member_at}
use Rattle.class_pool.proofs.Getters.{Slots, member_kind}
use Rattle.class_pool.proofs.pool.Pool.member.Goals as goal

pub returns-clause-kind : goal.returns-clause-kind
returns-clause-kind c =
    let pool = c.self.inside.slots.items in
    rw (← c.self.view_is) (member_kind (λ r. (r.0, r.1.now, r.2.now, r.3.now)) c.member_texts_with.result pool c.args.index c.self.invariant (c.member_texts_with.ensures ∙ ap (λ (slots : Slots). member_at slots c.args.index) c.deref.ensures.value))
