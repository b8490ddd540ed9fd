use Rattle.std.proofs.Common.{refl}
use Rattle.fix_engine.proofs.Steps.{alike-visit, IsOnTheWay-visit, MetOrWaits-unchanged, MetOrWaits-visit, EndsWithin-unchanged, EndsWithin-visit}
use Rattle.fix_engine.proofs.search.visit.Goals as goal

pub join-requires : goal.join-requires
join-requires g c =
    alike-visit g.F.Fact.Lattice.order (g.F.Flow.problem c.args.flow.now) (g.met.F.Flow.lawful c.args.flow.now) _ c.requires.way c.args.edge c.requires.edge _ c.goal.ensures _ _ (g.F.Fact.Lattice.order.join c.index_mut.result.now c.in_ok-made.made) c.index_mut.ensures.value _ c.deref.ensures.value c.in_ok-made.ensures refl

pub returns-then-not-branch-clause-way : goal.returns-then-not-branch-clause-way
returns-then-not-branch-clause-way g c =
    IsOnTheWay-visit g.F.Fact.Lattice.order (g.F.Flow.problem c.args.flow.now) (g.met.F.Flow.lawful c.args.flow.now) _ c.requires.way c.args.edge c.requires.edge _ c.goal.ensures _ _ _ c.index_mut.ensures.value _ c.deref.ensures.value c.in_ok-made.ensures c.in_ok-join.ensures.joined

pub returns-then-not-branch-clause-met : goal.returns-then-not-branch-clause-met
returns-then-not-branch-clause-met g c =
    let same = rw c.if-not-branch.true at c.in_ok-join.ensures.changed in
    MetOrWaits-unchanged g.F.Fact.Lattice.order (g.F.Flow.problem c.args.flow.now) (g.met.F.Flow.lawful c.args.flow.now) _ c.requires.way c.args.edge c.requires.edge _ c.goal.ensures _ _ _ c.index_mut.ensures.value _ c.deref.ensures.value c.in_ok-made.ensures c.in_ok-join.ensures.joined _ same c.requires.met

pub returns-then-not-branch-clause-ends : goal.returns-then-not-branch-clause-ends
returns-then-not-branch-clause-ends g c =
    let same = rw c.if-not-branch.true at c.in_ok-join.ensures.changed in
    λ n ends. EndsWithin-unchanged g.F.Fact.Lattice.order (g.F.Flow.problem c.args.flow.now) (g.met.F.Flow.lawful c.args.flow.now) _ c.requires.way c.args.edge c.requires.edge _ c.goal.ensures _ _ _ c.index_mut.ensures.value _ c.deref.ensures.value c.in_ok-made.ensures c.in_ok-join.ensures.joined _ _ n same ends

pub returns-clause-way : goal.returns-clause-way
returns-clause-way g c =
    IsOnTheWay-visit g.F.Fact.Lattice.order (g.F.Flow.problem c.args.flow.now) (g.met.F.Flow.lawful c.args.flow.now) _ c.requires.way c.args.edge c.requires.edge _ c.goal.ensures _ _ _ c.index_mut.ensures.value _ c.deref.ensures.value c.in_ok-made.ensures c.in_ok-join.ensures.joined

pub returns-clause-met : goal.returns-clause-met
returns-clause-met g c =
    MetOrWaits-visit g.F.Fact.Lattice.order (g.F.Flow.problem c.args.flow.now) (g.met.F.Flow.lawful c.args.flow.now) _ c.requires.way c.args.edge c.requires.edge _ c.goal.ensures _ _ _ c.index_mut.ensures.value _ c.deref.ensures.value c.in_ok-made.ensures c.in_ok-join.ensures.joined _ _ c.requires.met c.in_ok-wake.ensures.grows.kept c.in_ok-wake.ensures.woken

pub returns-clause-ends : goal.returns-clause-ends
returns-clause-ends g c =
    let changed = rw c.if-not-branch.false at c.in_ok-join.ensures.changed in
    λ n ends. EndsWithin-visit g.F.Fact.Lattice.order (g.F.Flow.problem c.args.flow.now) (g.met.F.Flow.lawful c.args.flow.now) _ c.requires.way c.args.edge c.requires.edge _ c.goal.ensures _ _ _ c.index_mut.ensures.value _ c.deref.ensures.value c.in_ok-made.ensures c.in_ok-join.ensures.joined _ c.requires.readers changed _ _ c.in_ok-wake.ensures.grows.room n ends
