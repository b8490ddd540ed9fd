use Rattle.descriptors.proofs.Methods.{cut}
use Rattle.descriptors.proofs.laws.types_are_found.Goals as goal

pub returns : goal.returns
returns c = λ parameters returned forms form. cut parameters returned forms form
