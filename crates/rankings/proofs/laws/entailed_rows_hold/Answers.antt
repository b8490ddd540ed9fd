use Rattle.rankings.proofs.Wholes.{entailed_holds}
use Rattle.rankings.proofs.laws.entailed_rows_hold.Goals as goal

pub returns : goal.returns
returns c = entailed_holds
