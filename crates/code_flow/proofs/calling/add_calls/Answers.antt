use Rattle.std.proofs.Common.{arith, refl, get_or}
use Rattle.world.specs.declared.member.MemberId.{MemberId}
use Rattle.code_flow.proofs.Edges.{adds_next}
use Rattle.code_flow.proofs.calling.add_calls.Goals as goal

-- what stands past the end
abbrev none : MemberId
none = record { class = 0; member = 0 }

pub loop-t-preserved : goal.loop-t-preserved
loop-t-preserved c = adds_next c.args.found.now c.args.i c.args.targets.now c.loop-t.t-index (get_or c.args.targets.now c.loop-t.t-index none) none c.args.graph.now c.loop-t.graph c.add_call.new.graph (omega arith) refl c.loop-t.invariant c.in_ok-add_call.ensures.added
