use Rattle.bound_normal.proofs.Keeping.{normal_keeps}
use Rattle.bound_normal.proofs.laws.normal_forms_keep.Goals as goal

pub returns : goal.returns
returns c = normal_keeps
