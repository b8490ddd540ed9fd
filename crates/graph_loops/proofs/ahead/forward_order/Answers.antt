use Rattle.std.proofs.Common.{ℕ, List, subst, arith}
use Rattle.graph_loops.specs.inside.Ahead.{IsFallingTo}
use Rattle.graph_loops.proofs.Aheads.{one_node, IsForward-all}
use Rattle.graph_loops.proofs.ahead.forward_order.Goals as goal

pub ranked_by-requires-clause-distinct : goal.ranked_by-requires-clause-distinct
ranked_by-requires-clause-distinct c =
    λ x y l m e. one_node c.args.rooted.now.graph.now c.nodes-nodes.ensures.ends c.args.rooted.now.root c.in_ok-ahead.ahead c.in_ok-ahead.ensures c.in_ok-numbers.numbers c.in_ok-numbers.ensures x y (omega (arith, l, c.nodes-nodes.ensures.value)) (omega (arith, m, c.nodes-nodes.ensures.value)) e

pub returns : goal.returns
returns c =
    IsForward-all c.args.rooted.now.graph.now c.nodes-nodes.ensures.ends c.args.rooted.now.root c.in_ok-ahead.ahead c.in_ok-ahead.ensures c.in_ok-numbers.numbers c.in_ok-numbers.ensures c.in_ok-order.order.items (subst (λ (ns : List ℕ). IsFallingTo c.args.rooted.now.graph.now c.args.rooted.now.root ns 0 c.in_ok-order.order.items) c.in_ok-ranked.ensures.numbers c.in_ok-order.ensures)
