use Rattle.std.proofs.Common.{refl}
use Rattle.base_relations.proofs.Counting.{pop_drop}
use Rattle.base_relations.proofs.tracing.drop_way.Goals as goal

pub loop-init : goal.loop-init
loop-init c = pop_drop c.args.pending.now c.args.pending.now c.pop.new.self 0 c.pop.result refl c.pop.ensures

pub loop-preserved : goal.loop-preserved
loop-preserved c = pop_drop c.args.pending.now c.loop.pending c.pop-in-loop.new.self _ c.pop-in-loop.result c.loop.invariant c.pop-in-loop.ensures
