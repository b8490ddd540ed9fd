use Rattle.std.proofs.Common.{◌≡◌, arith, sym}
use Rattle.world.proofs.Selecting.{package_none, package_here}
use Rattle.world.proofs.select.package_of.Goals as goal

pub returns-then-name-end-eq47 : goal.returns-then-name-end-eq47
returns-then-name-end-eq47 c = package_here c.args.name.now c.loop-end.end (omega arith) c.loop-end.invariant.0 c.if-name-end-eq47.true c.loop-end.invariant.1

pub returns : goal.returns
returns c =
    let start : c.loop-end.end ≡ 0 = omega arith in
    sym (package_none c.args.name.now (rw start at c.loop-end.invariant.1))
