use Rattle.class_hierarchy.proofs.Ranking.{found_cyclic, none_cyclic, ranked}
use Rattle.class_hierarchy.proofs.cycle.order_of.Goals as goal

pub returns-in-Some : goal.returns-in-Some
returns-in-Some c =
    let peer = rw (c.as_slice.ensures, c.in-Some.is) at c.first_peer.ensures in
    found_cyclic c.args.classes.now c.in_ok-graph.graph c.in_ok-numbers.numbers c.in-Some.class c.in_ok-graph.ensures c.in_ok-numbers.ensures peer

pub returns : goal.returns
returns c =
    let peer = rw (c.as_slice.ensures, c.in-None.is) at c.first_peer.ensures in (
      ranked c.args.classes.now c.in_ok-graph.graph c.in_ok-numbers.numbers c.in_ok-graph.ensures c.in_ok-numbers.ensures peer,
      none_cyclic c.args.classes.now c.in_ok-graph.graph c.in_ok-numbers.numbers c.in_ok-graph.ensures c.in_ok-numbers.ensures peer,
    )
