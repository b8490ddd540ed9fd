use Rattle.std.proofs.Common.{◌∙◌}
use Rattle.flow_cases.proofs.Ranges.{one_more, all_made}
use Rattle.flow_cases.proofs.marks.marked_by.Goals as goal

pub loop-slot-init : goal.loop-slot-init
loop-slot-init c = c.new-slots.ensures.items

pub loop-slot-preserved : goal.loop-slot-preserved
loop-slot-preserved c = one_more _ c.loop-slot.slot _ _ _ c.loop-slot.invariant c.in_ok-push.ensures.items c.is_marked_by.ensures

pub returns : goal.returns
returns c = c.of.ensures ∙ all_made _ c.loop-slot.slot c.args.width _ c.loop-slot.invariant c.loop-slot-test.false c.loop-slot.auto.slot-end
