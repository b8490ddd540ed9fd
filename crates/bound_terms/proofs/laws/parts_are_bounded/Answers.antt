use Rattle.bound_terms.proofs.Following.{maxima_are_least, sums_hold_parts, products_spread}
use Rattle.bound_terms.proofs.laws.parts_are_bounded.Goals as goal

pub returns : goal.returns
returns c = record { maxima = maxima_are_least; sums = sums_hold_parts; products = products_spread }
