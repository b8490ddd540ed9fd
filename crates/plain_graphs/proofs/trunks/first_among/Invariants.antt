use Rattle.std.proofs.Common.{ℕ, ◌<◌, [], get_or}
use Rattle.graph_core.specs.Paths.{IsFirstPath}
use Rattle.plain_graphs.proofs.trunks.first_among.Given as goal

abbrev pub invariant-loop-i : goal.invariant-loop-i
invariant-loop-i l = (k : ℕ) → k < l.i → IsFirstPath l.g l.root (get_or l.lists k []) l.b → ⊥
