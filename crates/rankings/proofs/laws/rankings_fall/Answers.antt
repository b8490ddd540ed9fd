use Rattle.rankings.proofs.Wholes.{ranking_falls}
use Rattle.rankings.proofs.Following.{ranking_follows}
use Rattle.rankings.proofs.laws.rankings_fall.Goals as goal

pub returns : goal.returns
returns c = record { wholes = ranking_falls; rational = ranking_follows }
