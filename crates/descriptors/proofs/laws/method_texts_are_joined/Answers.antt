use Rattle.descriptors.proofs.Methods.{texts_are_joined}
use Rattle.descriptors.proofs.laws.method_texts_are_joined.Goals as goal

pub returns : goal.returns
returns c = λ desc is. texts_are_joined desc is
