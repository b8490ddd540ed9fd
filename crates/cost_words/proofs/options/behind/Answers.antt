use Rattle.cost_words.proofs.Prefixes.{behind_is}
use Rattle.cost_words.proofs.options.behind.Goals as goal

pub returns : goal.returns
returns c = behind_is c.args.front.now c.args.word.now c.strip_prefix.result c.strip_prefix.ensures.cases
