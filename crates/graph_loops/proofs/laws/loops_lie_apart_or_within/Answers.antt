use Rattle.graph_loops.proofs.Insides.{apart_or_within}
use Rattle.graph_loops.proofs.laws.loops_lie_apart_or_within.Goals as goal

pub returns : goal.returns
returns c = λ g root h k x a b. apart_or_within g root h k x a b
