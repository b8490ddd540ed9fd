use Rattle.rankings.proofs.Capped.{cap_holds, cap_holds_at_visits, cap_holds_at_entry}
use Rattle.rankings.proofs.laws.caps_hold.Goals as goal

pub returns : goal.returns
returns c = record { rows = cap_holds; visits = cap_holds_at_visits; entry = cap_holds_at_entry }
