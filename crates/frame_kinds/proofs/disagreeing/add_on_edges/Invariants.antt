use Rattle.std.proofs.Common.{◌≡◌, ◌++◌, drop}
use Rattle.fix_engine.specs.Solution.{at_points}
use Rattle.frame_kinds.specs.Flow.{kind_problem}
use Rattle.frame_kinds.specs.Disagreeing.{on_edges}
use Rattle.frame_kinds.proofs.disagreeing.add_on_edges.Given as goal

abbrev pub invariant-loop-edge : goal.invariant-loop-edge
invariant-loop-edge l =
    l.made.items ++ on_edges l.flow.body.now (at_points (kind_problem l.flow.body.now) l.facts) l.pc (drop l.edge-index l.flow.edges.items)
    ≡ l.initial.made.items ++ on_edges l.flow.body.now (at_points (kind_problem l.flow.body.now) l.facts) l.pc l.flow.edges.items
