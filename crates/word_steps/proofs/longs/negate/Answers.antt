use Rattle.std.proofs.Common.{rules}
use Rattle.std.proofs.lemmas.Int.{wraps}
use Rattle.word_steps.proofs.longs.negate.Goals as goal

pub returns-clause-value : goal.returns-clause-value
returns-clause-value c = search (rules, wraps)
