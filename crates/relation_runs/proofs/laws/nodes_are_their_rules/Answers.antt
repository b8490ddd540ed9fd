use Rattle.relation_runs.proofs.Nodes.{node_passes, passes_node, node_spends, spends_node}
use Rattle.relation_runs.proofs.laws.nodes_are_their_rules.Goals as goal

pub returns-clause-passes : goal.returns-clause-passes
returns-clause-passes c = λ relation h n node v a is at len. (λ p. node_passes relation h n node v a is at len p, λ p. passes_node relation h n node v a is at len p)

pub returns-clause-spends : goal.returns-clause-spends
returns-clause-spends c = λ relation h n node v a is at len. (λ p. node_spends relation h n node v a is at len p, λ p. spends_node relation h n node v a is at len p)
