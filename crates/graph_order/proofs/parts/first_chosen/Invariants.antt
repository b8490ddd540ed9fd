use Rattle.std.proofs.Common.{◌≤◌, length}
use Rattle.graph_core.specs.Numbers.{AreCounted}
use Rattle.graph_order.specs.inside.Parts.{AreFirstFrom}
use Rattle.graph_order.proofs.parts.first_chosen.Given as goal

abbrev pub invariant-loop-v : goal.invariant-loop-v
invariant-loop-v l =
    record {
      count : AreCounted l.numbers (length l.firsts.items);
      firsts : AreFirstFrom l.numbers l.chosen l.v l.firsts.items;
      v : l.v ≤ length l.chosen;
    }

abbrev pub decreases-loop-v : goal.decreases-loop-v
decreases-loop-v l = l.v
