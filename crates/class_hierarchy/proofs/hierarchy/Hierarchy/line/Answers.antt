use Rattle.std.proofs.Common.{arith, length, ◌-◌}
use Rattle.class_hierarchy.specs.World.{line}
use Rattle.class_hierarchy.proofs.Lines.{line_at_end, line_at_stop, line_next}
use Rattle.class_hierarchy.proofs.hierarchy.Hierarchy.line.Goals as goal

pub returns-in-None : goal.returns-in-None
returns-in-None c =
    line_at_end c.args.self.now c.loop.found.items (line c.args.self.now c.args.class) (length c.args.self.now - c.loop.counter) (rw c.in-None.is at c.loop.invariant)

pub loop-preserved : goal.loop-preserved
loop-preserved c =
    rw c.superclass-next.ensures.number (line_next c.args.self.now c.loop.found.items (line c.args.self.now c.args.class) c.push.new.self.items (length c.args.self.now) c.loop.counter c.in-Some.at (omega arith) (rw c.in-Some.is at c.loop.invariant) c.in_ok-push-in-Some.ensures.items)

pub returns : goal.returns
returns c =
    line_at_stop c.args.self.now c.loop.found.items (line c.args.self.now c.args.class) (length c.args.self.now - c.loop.counter) c.loop.next (omega arith) c.loop.invariant
