use Rattle.code_flow.proofs.Numberings.{places_pushed}
use Rattle.code_flow.proofs.found.Found.add.Goals as goal

pub invariant_of-self : goal.invariant_of-self
invariant_of-self c = places_pushed c.push.result c.self.inside.places c.push.new.places c.self.inside.methods.items c.push.new.methods.items c.args.m c.self.invariant (rw (← c.self.view_is) at c.in-None.ensures) c.push.ensures.methods c.push.ensures.places c.push.ensures.err
