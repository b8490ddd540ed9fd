use Rattle.std.proofs.Common.{sym, ap, ◌∙◌}
use Rattle.class_reader.specs.declared.class.ClassRecord.{ClassRecord}
use Rattle.class_hierarchy.specs.Building.IsFault.{returns}
use Rattle.class_hierarchy.proofs.build.check_cycle.Goals as goal

pub returns-in_ok-share-in-Cyclic-clause-fault : goal.returns-in_ok-share-in-Cyclic-clause-fault
returns-in_ok-share-in-Cyclic-clause-fault c =
    let found = rw c.in-Cyclic.is at c.in_ok-class.ensures in
    λ ne. returns c.requires (c.in-Cyclic.class, found.0, sym (c.in_ok-share-in-Cyclic.ensures ∙ ap (λ (r : ClassRecord). r.name) c.record.ensures.same), found.1, found.2)
