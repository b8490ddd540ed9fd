use Rattle.std.proofs.Common.{ℕ}
use Rattle.graph_core.specs.Marked.{IsMarked}
use Rattle.graph_core.specs.Leaving.{IsRound, IsReaching, IsMoreFrom, round_left}
use Rattle.graph_core.proofs.round.walk_from.Given as goal

abbrev pub invariant-loop-round : goal.invariant-loop-round
invariant-loop-round l =
    record {
      round : IsRound l.g l.round.found.items l.round.nexts.items l.round.stack.items l.round.order.items;
      reaching : IsReaching l.g l.root l.round.stack.items;
      more : IsMoreFrom l.g l.root l.fn.round.order.items l.round.order.items;
      root : IsMarked l.round.found.items l.root;
      kept : (x : ℕ) → IsMarked l.fn.round.found.items x → IsMarked l.round.found.items x;
    }

abbrev pub decreases-loop-round : goal.decreases-loop-round
decreases-loop-round l = round_left l.g l.round.nexts.items l.round.stack.items
