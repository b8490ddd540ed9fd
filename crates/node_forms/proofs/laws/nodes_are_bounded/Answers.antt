use Rattle.node_forms.proofs.Nodes.{nodes_are_bounded}
use Rattle.node_forms.proofs.laws.nodes_are_bounded.Goals as goal

pub returns : goal.returns
returns c = nodes_are_bounded
