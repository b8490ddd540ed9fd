use Rattle.std.proofs.Common.{refl}
use Rattle.std.proofs.lemmas.List.Elements.{All-cons, All-head, All-tail}
use Rattle.graph_core.specs.Loops.{IsBelow}
use Rattle.graph_core.proofs.Marks.{lies_false}
use Rattle.graph_core.proofs.Reach.{leads_within}
use Rattle.plain_graphs.proofs.trunks.loops_back_by.Goals as goal

pub is_back_edge-requires-clause-a : goal.is_back_edge-requires-clause-a
is_back_edge-requires-clause-a c =
    leads_within _ c.nodes-nodes.ensures.ends c.args.rest.now _ _ c.requires.x ((c.in-Some.ensures c.in-Some.source).0 refl)

pub returns-then-not-is_below : goal.returns-then-not-is_below
returns-then-not-is_below c =
    (λ no_way. absurd (cc), λ l. absurd (lies_false _ c.if-not-is_below.true c.is_below.ensures (All-head (IsBelow c.args.p.now.graph.now c.args.p.now.root c.args.h) c.args.x c.args.rest.now l.below)))

pub returns : goal.returns
returns c =
    (λ t. record { source = c.in-Some.source; path = record { leads = (c.in-Some.ensures c.in-Some.source).0 refl; no_repeat = (lies_false _ c.if-has.false c.has.ensures, c.requires.no_repeat) }; back = c.is_back_edge.ensures.0 c.if-not-is_back_edge.false; below = All-cons (IsBelow c.args.p.now.graph.now c.args.p.now.root c.args.h) c.args.x c.args.rest.now (c.is_below.ensures.0 c.if-not-is_below.false) (c.are_below.ensures.0 t) }, λ l. c.are_below.ensures.1 (All-tail (IsBelow c.args.p.now.graph.now c.args.p.now.root c.args.h) c.args.x c.args.rest.now l.below))
