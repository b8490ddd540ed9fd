use Rattle.std.proofs.Common.{◌≡◌, ◌+◌, suc, None, arith, subst, sym}
use Rattle.std.specs.Map.{values_of}
use Rattle.std.specs.BTreeMap.{values}
use Rattle.world.specs.Collecting.{AreNamed, Collects}
use Rattle.world.proofs.Targeting.{collects_start, targets_end, targets_there, fault_end}
use Rattle.world.proofs.world.World.targets_by.Goals as goal

pub loop-r-init : goal.loop-r-init
loop-r-init c =
    subst (λ es. AreNamed c.args.self.now es × Collects c.args.self.now c.args.class c.args.m 0 (values_of es) None) (sym c.new.ensures.empty) (tt, collects_start c.args.self.now c.args.class c.args.m)

pub loop-r-preserved : goal.loop-r-preserved
loop-r-preserved c =
    let next : suc c.loop-r.r ≡ c.loop-r.r + 1 = omega arith in
    (c.in_ok-found.ensures.named, subst (λ n. Collects c.args.self.now c.args.class c.args.m n (values c.in_ok-found.found.targets) c.in_ok-found.found.fault) next c.in_ok-found.ensures.next)

pub returns-in-Some-clause-fault : goal.returns-in-Some-clause-fault
returns-in-Some-clause-fault c = λ ne.
    fault_end c.args.self.now c.args.class c.args.m c.loop-r.r (values c.loop-r.found.targets) c.loop-r.found.fault c.in-Some.fault (omega arith) c.in-Some.is c.loop-r.invariant.1

pub returns-clause-targets : goal.returns-clause-targets
returns-clause-targets c =
    targets_end c.args.self.now c.args.class c.args.m c.loop-r.r c.in_ok-targets-in-None.targets.items c.loop-r.found.fault (omega arith) c.in-None.is (rw c.in_ok-targets-in-None.ensures c.loop-r.invariant.1)

pub returns-clause-there : goal.returns-clause-there
returns-clause-there c =
    targets_there c.args.self.now c.args.class c.args.m c.in_ok-targets-in-None.targets.items c.requires.there
    (targets_end c.args.self.now c.args.class c.args.m c.loop-r.r c.in_ok-targets-in-None.targets.items c.loop-r.found.fault (omega arith) c.in-None.is (rw c.in_ok-targets-in-None.ensures c.loop-r.invariant.1))
