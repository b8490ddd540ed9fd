use Rattle.std.proofs.Common.{◌≡◌, ℕ, ◌<◌}
use Rattle.graph_loops.specs.Nesting.{Holds}
use Rattle.plain_graphs.proofs.nesting.has_none.Given as goal

abbrev pub invariant-loop-h : goal.invariant-loop-h
invariant-loop-h l = (j : ℕ) → j < l.h → Holds l.p.graph.now l.p.root j l.x → j ≡ l.e
