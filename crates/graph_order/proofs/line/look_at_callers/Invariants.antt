use Rattle.std.proofs.Common.{◌≡◌, ◌≤◌}
use Rattle.graph_order.specs.inside.Line.{IsLine, AreDueFrom, line_left}
use Rattle.graph_order.proofs.line.look_at_callers.Given as goal

abbrev pub invariant-loop-y : goal.invariant-loop-y
invariant-loop-y l =
    record {
      line : IsLine l.parts.calls l.parts.firsts.items l.line.done.items l.line.nexts.items l.line.free.items l.line.ready l.line.order.items (AreDueFrom l.parts.calls l.line.nexts.items l.y-items l.y-index);
      order : l.line.order.items ≡ l.initial.line.order.items;
      falls : line_left l.parts.calls l.line.nexts.items l.line.free.items l.line.ready ≤ line_left l.parts.calls l.initial.line.nexts.items l.initial.line.free.items l.initial.line.ready;
    }
