use Rattle.std.proofs.Common.{sym, ◌∙◌}
use Rattle.std.specs.BTreeMap.{values}
use Rattle.class_hierarchy.proofs.OwnNames.{has_names}
use Rattle.world.proofs.Targeting.{collects_pass, collects_target, collects_fault}
use Rattle.world.proofs.world.World.noted.Goals as goal

pub returns-then-not-is_receiver-clause-next : goal.returns-then-not-is_receiver-clause-next
returns-then-not-is_receiver-clause-next c =
    collects_pass c.args.self.now c.args.class c.args.m c.args.r (values c.args.found.targets) c.args.found.fault (sym (c.is_receiver.ensures c.args.class c.args.m c.requires.stands) ∙ c.if-not-is_receiver.true) c.requires.so_far

pub returns-in_ok-add_target-in-Ok-clause-next : goal.returns-in_ok-add_target-in-Ok-clause-next
returns-in_ok-add_target-in-Ok-clause-next c =
    rw c.in_ok-add_target-in-Ok.ensures.added
    (collects_target c.args.self.now c.args.class c.args.m c.args.r (values c.args.found.targets) c.args.found.fault c.in-Ok.target
    (has_names c.args.self.now c.well_built.ensures.has_supers.once)
    c.requires.there c.requires.within (sym (c.is_receiver.ensures c.args.class c.args.m c.requires.stands) ∙ c.if-not-is_receiver.false) (sym (c.in-Ok.ensures c.args.class c.args.r c.requires.stands)) c.requires.so_far)

pub returns-in-Err-clause-next : goal.returns-in-Err-clause-next
returns-in-Err-clause-next c =
    rw c.first_kind.ensures
    (collects_fault c.args.self.now c.args.class c.args.m c.args.r (values c.args.found.targets) c.args.found.fault c.in-Err.met (sym (c.is_receiver.ensures c.args.class c.args.m c.requires.stands) ∙ c.if-not-is_receiver.false) (sym (c.in-Err.ensures c.args.class c.args.r c.requires.stands)) c.requires.so_far)
