use Rattle.std.proofs.Common.{inl, inr, ◌++◌}
use Rattle.null_facts.specs.Program.{edges_at, edges_in}
use Rattle.null_facts.proofs.Ends.{first_ended, second_ended}
use Rattle.null_facts.proofs.building.add_edges.Goals as goal

pub returns : goal.returns
returns c =
    let made = edges_at c.args.firsts.now c.args.method.now.body.now c.args.first in
    let whole = c.args.edges.now.items ++ edges_in c.args.firsts.now (c.args.first, c.args.method.now) in
    let l = c.loop-instruction in
    elim (c.in-None.ensures.steps) [
      | inl ended ↦ first_ended made l.edges.items l.instruction-iterator.a.rest.now l.instruction-iterator.b.rest.now whole ended.1.0 l.invariant
      | inr ended ↦ second_ended made l.edges.items l.instruction-iterator.a.rest.now l.instruction-iterator.b.rest.now whole ended.1.0 l.invariant
    ]
