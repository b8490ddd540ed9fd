use Rattle.graph_loops.proofs.Insides.{inside_reached}
use Rattle.graph_loops.proofs.laws.loops_are_reached.Goals as goal

pub returns : goal.returns
returns c = λ g root h x a b. inside_reached g root h x a b
