use Rattle.std.proofs.Common.{sym, ◌∙◌}
use Rattle.class_hierarchy.specs.Building.IsFault.{repeats, misses, mixes}
use Rattle.class_hierarchy.proofs.build.check_supers.Goals as goal

pub returns-in-Some-clause-fault : goal.returns-in-Some-clause-fault
returns-in-Some-clause-fault c = λ ne. repeats (sym c.in_ok-fault.ensures ∙ c.in-Some.is)

pub returns-in-Some-2-clause-fault : goal.returns-in-Some-2-clause-fault
returns-in-Some-2-clause-fault c = λ ne. misses (sym c.in_ok-fault.ensures ∙ c.in-None.is) (sym c.in_ok-fault-2.ensures ∙ c.in-Some-2.is)

pub returns-in-Some-3-clause-fault : goal.returns-in-Some-3-clause-fault
returns-in-Some-3-clause-fault c =
    λ ne. mixes (sym c.in_ok-fault.ensures ∙ c.in-None.is) (sym c.in_ok-fault-2.ensures ∙ c.in-None-2.is) (sym c.in_ok-fault-3.ensures ∙ c.in-Some-3.is)
