use Rattle.small_cert.proofs.Proved.{small_reaches}
use Rattle.small_cert.proofs.laws.small_rows_are_reached.Goals as goal

pub returns : goal.returns
returns c = small_reaches
