use Rattle.small_levels.proofs.Evens.{even_to, even_from}
use Rattle.small_levels.proofs.wide.Wide.is_even.Goals as goal

pub returns : goal.returns
returns c = (even_to c.args.self.high c.args.self.low, even_from c.args.self.high c.args.self.low)
