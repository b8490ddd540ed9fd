use Rattle.q128.proofs.Wholes.{rule_on_wholes}
use Rattle.q128.proofs.laws.whole_numbers_stay_whole.Goals as goal

pub returns : goal.returns
returns c = rule_on_wholes
