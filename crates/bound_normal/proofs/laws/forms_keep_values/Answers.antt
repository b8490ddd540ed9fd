use Rattle.bound_normal.proofs.Values.{forms_keep_values}
use Rattle.bound_normal.proofs.laws.forms_keep_values.Goals as goal

pub returns : goal.returns
returns c = forms_keep_values
