use Rattle.frame_kinds.proofs.Telling.{same_one}
use Rattle.frame_kinds.proofs.laws.same_facts_are_one.Goals as goal

pub returns : goal.returns
returns c = same_one
