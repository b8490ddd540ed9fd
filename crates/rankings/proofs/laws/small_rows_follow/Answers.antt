use Rattle.rankings.proofs.Following.{small_follows, small_contradicts}
use Rattle.rankings.proofs.laws.small_rows_follow.Goals as goal

pub returns : goal.returns
returns c = record { rows = small_follows; contradiction = small_contradicts }
