use Rattle.world.proofs.Keys.{members_none, members_next}
use Rattle.world.proofs.members.members_of_each.Goals as goal

pub loop-class-init : goal.loop-class-init
loop-class-init c = members_none c.args.hierarchy.now c.new-members.result.items c.new-members.ensures.items

pub loop-class-preserved : goal.loop-class-preserved
loop-class-preserved c =
    members_next c.args.hierarchy.now c.loop-class.class c.loop-class.members.items c.push.new.self.items c.in_ok-of.field-0 c.loop-class.invariant
    (rw c.record.ensures.same at c.in_ok-of.ensures) c.in_ok-push.ensures.items
