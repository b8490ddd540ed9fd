use Rattle.world.specs.Members.{HaveMembers}
use Rattle.world.proofs.members.members_of_each.Given as goal

abbrev pub invariant-loop-class : goal.invariant-loop-class
invariant-loop-class l = HaveMembers l.hierarchy l.class l.members.items
