use Rattle.std.proofs.Common.{arith}
use Rattle.bound_forms.proofs.Dividing.{beyond}
use Rattle.bound_forms.proofs.reducing.quotient.Goals as goal

pub returns-then-size-gt-HALF : goal.returns-then-size-gt-HALF
returns-then-size-gt-HALF c = beyond c.args.number c.args.size c.ranges.number (omega (arith, c.if-size-gt-HALF.true))
