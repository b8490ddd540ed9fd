use Rattle.std.proofs.Common.{subst, arith}
use Rattle.graph_core.proofs.Marks.{lies_false}
use Rattle.graph_loops.specs.inside.Around.{IsAround}
use Rattle.graph_loops.proofs.Arounds.{begins_at, around_begins, around_still, around_first, around_nearer, around_kept}
use Rattle.graph_loops.proofs.around.nearer.Goals as goal

pub returns-then-h-x : goal.returns-then-h-x
returns-then-h-x c =
    λ entries a. around_still c.args.rooted.now.graph.now c.args.rooted.now.root entries c.args.h c.args.x (λ i. c.if-h-x.true) c.args.around a

pub returns-in_default : goal.returns-in_default
returns-in_default c =
    λ entries a. around_first c.args.rooted.now.graph.now c.args.rooted.now.root entries c.args.h c.args.x c.requires.begins c.requires.holds c.if-h-x.false (subst (IsAround c.args.rooted.now.graph.now c.args.rooted.now.root entries c.args.x) c.in_default.is a)

pub lies_on-requires-clause-h : goal.lies_on-requires-clause-h
lies_on-requires-clause-h c =
    let a = c.requires.around in
    let l = begins_at c.args.rooted.now.graph.now c.args.rooted.now.root c.nodes-nodes.ensures.ends c.in-Some.p (around_begins c.args.rooted.now.graph.now c.args.rooted.now.root a.0 c.args.x c.in-Some.p c.args.around c.in-Some.is a.1) in
    omega (arith, l, c.requires.search.count)

pub lies_on-requires-clause-node : goal.lies_on-requires-clause-node
lies_on-requires-clause-node c =
    let l = begins_at c.args.rooted.now.graph.now c.args.rooted.now.root c.nodes-nodes.ensures.ends c.args.h c.requires.begins in
    omega (arith, l, c.requires.search.count)

pub returns-then-lies_on : goal.returns-then-lies_on
returns-then-lies_on c =
    λ entries a. around_nearer c.args.rooted.now.graph.now c.args.rooted.now.root entries c.args.h c.args.x c.requires.begins c.requires.holds c.if-h-x.false c.in-Some.p (subst (IsAround c.args.rooted.now.graph.now c.args.rooted.now.root entries c.args.x) c.in-Some.is a) ((c.lies_on.ensures _ _ c.requires.search).0 c.if-lies_on.true)

pub returns : goal.returns
returns c =
    λ entries a. around_kept c.args.rooted.now.graph.now c.args.rooted.now.root entries c.args.h c.args.x c.requires.begins c.requires.holds c.if-h-x.false c.in-Some.p (subst (IsAround c.args.rooted.now.graph.now c.args.rooted.now.root entries c.args.x) c.in-Some.is a) (lies_false _ c.if-lies_on.false (c.lies_on.ensures _ _ c.requires.search))
