use Rattle.std.proofs.Common.{inl, inr, flat_map}
use Rattle.std.specs.List.{zip}
use Rattle.null_facts.specs.Program.{edges_in}
use Rattle.null_facts.proofs.Ends.{first_ended, second_ended}
use Rattle.null_facts.proofs.building.edges.Goals as goal

pub returns : goal.returns
returns c =
    let made = edges_in c.args.firsts.now in
    let whole = flat_map made (zip c.args.firsts.now c.args.methods.now) in
    let l = c.loop-first in
    elim (c.in-None.ensures.steps) [
      | inl ended ↦ first_ended made l.edges.items l.first-iterator.a.rest.now l.first-iterator.b.rest.now whole ended.1.0 l.invariant
      | inr ended ↦ second_ended made l.edges.items l.first-iterator.a.rest.now l.first-iterator.b.rest.now whole ended.1.0 l.invariant
    ]
