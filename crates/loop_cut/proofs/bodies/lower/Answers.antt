use Rattle.std.proofs.Common.{subst}
use Rattle.loop_cut.specs.inside.Gathered.{IsLeastOf}
use Rattle.loop_cut.proofs.Lists.{least_first, least_lower, least_kept}
use Rattle.loop_cut.proofs.bodies.lower.Goals as goal

pub returns-in-None : goal.returns-in-None
returns-in-None c = λ xs h. least_first xs c.args.n (subst (IsLeastOf xs) c.in-None.is h)

pub returns-then-n-least : goal.returns-then-n-least
returns-then-n-least c = λ xs h. least_lower xs c.in-Some.least c.args.n (subst (IsLeastOf xs) c.in-Some.is h) c.if-n-least.true

pub returns-else-n-least : goal.returns-else-n-least
returns-else-n-least c = λ xs h. least_kept xs c.in-Some.least c.args.n (subst (IsLeastOf xs) c.in-Some.is h) c.if-n-least.false
