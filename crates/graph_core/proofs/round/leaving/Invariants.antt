use Rattle.std.proofs.Common.{ℕ, ◌≡◌, ◌<◌, []}
use Rattle.graph_core.specs.Marked.{IsMarked}
use Rattle.graph_core.specs.Leaving.{IsRound}
use Rattle.graph_core.proofs.round.leaving.Given as goal

abbrev pub invariant-loop-root : goal.invariant-loop-root
invariant-loop-root l =
    record {
      round : IsRound l.g l.round.found.items l.round.nexts.items l.round.stack.items l.round.order.items;
      rest : l.round.stack.items ≡ [];
      found : (x : ℕ) → x < l.root → IsMarked l.round.found.items x;
    }
