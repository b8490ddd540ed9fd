use Rattle.std.proofs.Common.{◌≡◌}
use Rattle.graph_core.proofs.MarkedLists.{AreCleared}
use Rattle.graph_core.proofs.listed.clear.Given as goal

abbrev pub invariant-loop-i : goal.invariant-loop-i
invariant-loop-i l =
    record {
      cleared : AreCleared l.fn.listed.marks.items l.fn.listed.nodes.items l.i l.listed.marks.items;
      nodes : l.listed.nodes.items ≡ l.fn.listed.nodes.items;
    }
