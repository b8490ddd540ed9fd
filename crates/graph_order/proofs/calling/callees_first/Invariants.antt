use Rattle.graph_order.specs.CalleesFirst.{AreNexts}
use Rattle.graph_order.specs.inside.Line.{IsLine, NoneDue, line_left}
use Rattle.graph_order.proofs.calling.callees_first.Given as goal

abbrev pub invariant-loop-line : goal.invariant-loop-line
invariant-loop-line l =
    record {
      line : IsLine l.parts.calls l.parts.firsts.items l.line.done.items l.line.nexts.items l.line.free.items l.line.ready l.line.order.items NoneDue;
      nexts : AreNexts l.parts.graph.now l.parts.chosen.now l.line.order.items;
    }

abbrev pub decreases-loop-line : goal.decreases-loop-line
decreases-loop-line l = line_left l.parts.calls l.line.nexts.items l.line.free.items l.line.ready
