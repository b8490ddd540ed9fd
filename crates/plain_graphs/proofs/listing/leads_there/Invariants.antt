use Rattle.std.proofs.Common.{ℕ, ◌<◌, [], get_or}
use Rattle.graph_core.specs.Paths.{IsPath}
use Rattle.plain_graphs.proofs.listing.leads_there.Given as goal

abbrev pub invariant-loop-way : goal.invariant-loop-way
invariant-loop-way l = (k : ℕ) → k < l.way-index → IsPath l.g l.a (get_or l.lists k []) l.b → ⊥
