use Rattle.std.proofs.Common.{ℕ, ◌<◌, None}
use Rattle.std.specs.Prelude.{slice_index_or}
use Rattle.graph_loops.specs.Nesting.{IsInnermost, IsParent}
use Rattle.plain_graphs.proofs.nesting.are_told.Given as goal

abbrev pub invariant-loop-x : goal.invariant-loop-x
invariant-loop-x l =
    (y : ℕ) → y < l.x → IsInnermost l.p.graph.now l.p.root y (slice_index_or l.n.innermost y None) × IsParent l.p.graph.now l.p.root y (slice_index_or l.n.parents y None)
