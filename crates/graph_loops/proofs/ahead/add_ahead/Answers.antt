use Rattle.std.proofs.Common.{List, ℕ, ◌≡◌, get_or, length, sym, ap, ◌∙◌, arith}
use Rattle.graph_core.specs.Graphs.{successors_of}
use Rattle.graph_core.proofs.Marks.{lies_false}
use Rattle.graph_loops.proofs.Aheads.{AreAheadAt-none, AreAheadTo-skip, AreAheadAt-skip, AreAheadAt-add, AreAheadTo-more}
use Rattle.graph_loops.proofs.ahead.add_ahead.Goals as goal
use Rattle.graph_loops.proofs.ahead.add_ahead.Goals.{then-not-lies_on+in_ok-add, else-not-lies_on}

pub returns-then-not-reaches-clause-ahead : goal.returns-then-not-reaches-clause-ahead
returns-then-not-reaches-clause-ahead c =
    AreAheadTo-skip c.args.rooted.now.graph.now c.args.rooted.now.root c.args.a _ (lies_false _ c.if-not-reaches.true (c.reaches.ensures _ _ c.requires.search)) c.requires.ahead

pub loop-b-init : goal.loop-b-init
loop-b-init c =
    record { nodes = c.requires.nodes; ahead = AreAheadAt-none c.args.rooted.now.graph.now c.args.rooted.now.root c.args.a _ c.requires.ahead }

pub loop-b-preserved : goal.loop-b-preserved
loop-b-preserved c =
    let is = c.successors-b-items.ensures.value in
    let at = ap (λ (xs : List ℕ). get_or xs c.loop-b.b-index 0) (sym is) in
    let n : length c.successors-b-items.result.now ≡ length (successors_of c.args.rooted.now.graph.now c.args.a) = ap length is in
    elim c.if-not-lies_on.branch [
      | then-not-lies_on+in_ok-add w ↦
          let reached = (c.reaches.ensures _ _ c.requires.search).0 c.if-not-reaches.false in
          rw w.ahead-is record {
            nodes = w.in_ok-add.ensures.nodes ∙ c.loop-b.invariant.nodes;
            ahead = AreAheadAt-add c.args.rooted.now.graph.now c.args.rooted.now.root c.args.a c.loop-b.b-index _ c.loop-b.invariant.ahead _ at (omega (arith, c.loop-b-test.true)) reached (lies_false _ w.if-not-lies_on.true (c.lies_on.ensures _ _ c.requires.search)) _ w.in_ok-add.ensures.added;
          }
      | else-not-lies_on w ↦
          rw w.ahead-is record {
            nodes = c.loop-b.invariant.nodes;
            ahead = AreAheadAt-skip c.args.rooted.now.graph.now c.args.rooted.now.root c.args.a c.loop-b.b-index _ c.loop-b.invariant.ahead _ at (omega (arith, c.loop-b-test.true)) ((c.lies_on.ensures _ _ c.requires.search).0 w.if-not-lies_on.false);
          }
    ]

pub returns-clause-ahead : goal.returns-clause-ahead
returns-clause-ahead c =
    let n : length c.successors-b-items.result.now ≡ length (successors_of c.args.rooted.now.graph.now c.args.a) = ap length c.successors-b-items.ensures.value in
    AreAheadTo-more c.args.rooted.now.graph.now c.args.rooted.now.root c.args.a c.loop-b.b-index _ (omega (arith, c.loop-b-test.false)) c.loop-b.invariant.ahead
