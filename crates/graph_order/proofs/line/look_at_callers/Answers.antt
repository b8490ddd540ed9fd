use Rattle.std.proofs.Common.{refl, arith}
use Rattle.graph_order.proofs.Lines.{IsLine-callers}
use Rattle.graph_order.proofs.line.look_at_callers.Goals as goal

pub loop-y-init : goal.loop-y-init
loop-y-init c =
    record {
      line = IsLine-callers c.args.parts.now.calls c.args.parts.now.callers c.requires.parts.reversed _ _ _ _ _ _ _ _ c.successors-y-items.ensures.value c.requires.line;
      order = refl;
      falls = omega arith;
    }
