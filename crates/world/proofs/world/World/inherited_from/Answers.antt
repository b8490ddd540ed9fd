use Rattle.std.proofs.Common.{◌∙◌}
use Rattle.world.proofs.Standings.{inherited_some, inherited_none}
use Rattle.world.proofs.world.World.inherited_from.Goals as goal

pub returns-in-Some : goal.returns-in-Some
returns-in-Some c = λ k r h. inherited_some c.args.self.now k c.args.m r c.args.standing.now c.in-Some.method h c.in-Some.is

pub returns-in-None : goal.returns-in-None
returns-in-None c = λ k r h. c.default_among.ensures ∙ inherited_none c.args.self.now k c.args.m r c.args.standing.now h c.in-None.is
