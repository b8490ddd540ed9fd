use Rattle.fraction_laws.proofs.Signs.{sum_signs}
use Rattle.fraction_laws.proofs.sums_have_signs.Goals as goal

pub returns : goal.returns
returns c = sum_signs
