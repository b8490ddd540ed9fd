use Rattle.fraction_laws.proofs.Signs.{signs_agree}
use Rattle.fraction_laws.proofs.signs_agree.Goals as goal

pub returns : goal.returns
returns c = signs_agree
