use Rattle.std.proofs.Common.{◌≡◌, []}
use Rattle.graph_order.specs.inside.Line.{IsLine, IsDueFrom, IsAllUndone}
use Rattle.graph_order.proofs.line.begin.Given as goal

abbrev pub invariant-loop-x : goal.invariant-loop-x
invariant-loop-x l =
    record {
      line : IsLine l.parts.calls l.parts.firsts.items l.line.done.items l.line.nexts.items l.line.free.items l.line.ready l.line.order.items (IsDueFrom l.x);
      undone : IsAllUndone l.line.done.items;
      order : l.line.order.items ≡ [];
    }
