use Rattle.rankings.proofs.Kept.{kept_holds, small_kept_holds}
use Rattle.rankings.proofs.laws.kept_templates_hold.Goals as goal

pub returns : goal.returns
returns c = record { rational = kept_holds; small = small_kept_holds }
