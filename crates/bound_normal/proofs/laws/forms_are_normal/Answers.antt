use Rattle.bound_normal.proofs.Shaping.{forms_are_normal}
use Rattle.bound_normal.proofs.laws.forms_are_normal.Goals as goal

pub returns : goal.returns
returns c = forms_are_normal
