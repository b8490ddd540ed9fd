use Rattle.rankings.proofs.Greatest.{shown_is_greatest}
use Rattle.rankings.proofs.laws.shown_sets_are_greatest.Goals as goal

pub returns : goal.returns
returns c = shown_is_greatest
