use Rattle.bound_terms.proofs.Following.{powers_go, powers_grow, powers_of_one}
use Rattle.bound_terms.proofs.laws.powers_grow.Goals as goal

pub returns : goal.returns
returns c = record { next = powers_go; more = powers_grow; of_one = powers_of_one }
