use Rattle.fraction_laws.proofs.Sums.{plus-cancel}
use Rattle.fraction_laws.proofs.sums_cancel.Goals as goal

pub returns : goal.returns
returns c = plus-cancel
