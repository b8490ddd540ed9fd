use Rattle.bound_normal.proofs.Telling.{texts_tell, keys_tell}
use Rattle.bound_normal.proofs.laws.texts_tell.Goals as goal

pub returns : goal.returns
returns c = record { forms = texts_tell; atoms = keys_tell }
