use Rattle.std.proofs.Common.{◌<◌, ◌≤◌, List, length, sym, subst}
use Rattle.std.proofs.lemmas.Bool.{ltb-true, ltb-false}
use Rattle.world.specs.declared.members.Members.{Members}
use Rattle.class_hierarchy.specs.World.{class_at}
use Rattle.world.specs.Members.{AreMembers}
use Rattle.world.proofs.Keys.{members_there, members_past}
use Rattle.world.proofs.world.World.members_of.Goals as goal

pub returns-in-Some : goal.returns-in-Some
returns-in-Some c =
    let all = c.self.inside.members.items in
    let within : c.args.class < length c.self.inside.members.items = subst (λ (l : List Members). c.args.class < length l) c.deref.ensures.value (ltb-true c.args.class (length c.deref.result.now) (sym c.in-Some.ensures.lookup.0)) in
    let is = rw c.deref.ensures.value at c.in-Some.ensures.lookup.1 in
    subst (λ w. AreMembers (class_at w c.args.class) c.in-Some.members.now) c.self.view_is
    (members_there c.self.inside.hierarchy (length c.self.inside.hierarchy) all c.args.class c.in-Some.members.now c.self.invariant within is)

pub returns-in-None : goal.returns-in-None
returns-in-None c =
    let past : length c.self.inside.members.items ≤ c.args.class = subst (λ (l : List Members). length l ≤ c.args.class) c.deref.ensures.value (ltb-false c.args.class (length c.deref.result.now) (sym c.in-None.ensures.lookup.0)) in
    subst (λ w. AreMembers (class_at w c.args.class) c.index.result.now) c.self.view_is
    (members_past c.self.inside.hierarchy c.self.inside.members.items c.args.class c.index.result.now c.built_in.ensures.first c.built_in.ensures.some c.self.invariant past c.index.ensures)
