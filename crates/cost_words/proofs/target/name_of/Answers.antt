use Rattle.cost_words.proofs.Names.{name_goes_on}
use Rattle.cost_words.proofs.target.name_of.Goals as goal

pub loop-rest-preserved : goal.loop-rest-preserved
loop-rest-preserved c =
    rw c.in_ok-push.ensures.items
    (name_goes_on c.loop-rest.name.items c.loop-rest.rest.now c.args.text.now c.in-Some.behind.now c.in-Some.byte c.in-Some.ensures c.loop-rest.invariant)
