use Rattle.bound_terms.proofs.Following.{floors_grow, floors_fall, floors_of_caps}
use Rattle.bound_terms.proofs.laws.floors_follow.Goals as goal

pub returns : goal.returns
returns c = record { grow = floors_grow; fall = floors_fall; caps = floors_of_caps }
