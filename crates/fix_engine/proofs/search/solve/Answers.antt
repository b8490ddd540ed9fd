use Rattle.fix_engine.proofs.Steps.{IsLeast-settled}
use Rattle.fix_engine.proofs.search.solve.Goals as goal

pub returns-clause-least : goal.returns-clause-least
returns-clause-least g c =
    rw c.of.ensures (IsLeast-settled _ _ _ c.in_ok-settle.ensures.way c.in_ok-settle.ensures.met)

pub returns-clause-derived : goal.returns-clause-derived
returns-clause-derived g c = rw c.of.ensures c.in_ok-settle.ensures.way.derived
