use Rattle.fraction_laws.proofs.Signs.{product_signs}
use Rattle.fraction_laws.proofs.products_have_signs.Goals as goal

pub returns : goal.returns
returns c = product_signs
