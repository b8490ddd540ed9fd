use Rattle.std.proofs.Common.{◌≢◌, ℕ, ◌<◌}
use Rattle.graph_loops.specs.Nesting.{Holds, LiesWithin}
use Rattle.plain_graphs.proofs.nesting.is_in_others.Given as goal

abbrev pub invariant-loop-k : goal.invariant-loop-k
invariant-loop-k l =
    (j : ℕ) → j < l.k → Holds l.p.graph.now l.p.root j l.x → j ≢ l.e → LiesWithin l.p.graph.now l.p.root l.h j
