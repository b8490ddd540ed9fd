use Rattle.bound_forms.proofs.Rising.{gathered_rise, sums_rise, products_rise, atoms_stay_in_order}
use Rattle.bound_forms.proofs.laws.forms_are_in_order.Goals as goal

pub returns : goal.returns
returns c = record { gathered = gathered_rise; sums = sums_rise; products = products_rise; atoms = atoms_stay_in_order }
