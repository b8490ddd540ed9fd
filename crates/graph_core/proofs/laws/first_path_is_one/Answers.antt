use Rattle.graph_core.proofs.Orders.{first_path_one}
use Rattle.graph_core.proofs.laws.first_path_is_one.Goals as goal

pub returns : goal.returns
returns c = λ g root b p q h k. first_path_one g root b p q h k
