use Rattle.frame_kinds.proofs.Telling.{told}
use Rattle.frame_kinds.proofs.solving.kinds.Goals as goal

pub returns-clause-fault : goal.returns-clause-fault
returns-clause-fault c =
    told c.in_ok-flow.flow.body.now c.args.body.now c.in_ok-flow.ensures c.in_ok-facts.facts c.in-Some.pc c.in_ok-first.first c.in_ok-first.second
    c.in_ok-facts.ensures.least c.in-Some.ensures.first c.in_ok-first.ensures
