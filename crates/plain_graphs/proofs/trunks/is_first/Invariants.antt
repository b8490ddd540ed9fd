use Rattle.std.proofs.Common.{ℕ, ◌<◌, [], get_or}
use Rattle.graph_core.specs.Paths.{IsPath, IsNotAfter}
use Rattle.plain_graphs.proofs.trunks.is_first.Given as goal

abbrev pub invariant-loop-way : goal.invariant-loop-way
invariant-loop-way l =
    (k : ℕ) → k < l.way-index → IsPath l.g l.root (get_or l.lists k []) l.b → IsNotAfter l.rest (get_or l.lists k [])
