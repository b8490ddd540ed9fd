use Rattle.graph_loops.proofs.Circles.{cycle_loop}
use Rattle.graph_loops.proofs.laws.cycles_lie_in_loops.Goals as goal

pub returns : goal.returns
returns c = λ g root a rest r closes. cycle_loop g root a rest r closes
