use Rattle.std.proofs.Common.{sym, ◌∙◌}
use Rattle.class_hierarchy.specs.Building.IsFault.{inherits}
use Rattle.class_hierarchy.proofs.build.check.Goals as goal

pub returns-in-Some-clause-fault : goal.returns-in-Some-clause-fault
returns-in-Some-clause-fault c =
    λ ne. inherits c.in_ok-check_supers.ensures.has c.in_ok-ranks.ensures.none (sym c.in_ok-fault.ensures ∙ c.in-Some.is)
