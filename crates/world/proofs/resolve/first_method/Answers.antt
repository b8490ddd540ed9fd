use Rattle.std.proofs.Common.{arith, sym}
use Rattle.world.specs.Resolution.{first_of, method_in}
use Rattle.world.proofs.Finding.{first_here, first_later, first_end}
use Rattle.world.proofs.resolve.first_method.Goals as goal

pub returns-in-Some : goal.returns-in-Some
returns-in-Some c =
    sym (first_here (method_in c.args.world.now c.args.name.now c.args.desc.now c.args.kind) c.args.among.now c.loop-class.class-index c.in-Some.method (first_of (method_in c.args.world.now c.args.name.now c.args.desc.now c.args.kind) c.args.among.now) c.loop-class-test.true c.loop-class.invariant (sym c.in-Some.ensures))

pub loop-class-preserved : goal.loop-class-preserved
loop-class-preserved c =
    first_later (method_in c.args.world.now c.args.name.now c.args.desc.now c.args.kind) c.args.among.now c.loop-class.class-index (first_of (method_in c.args.world.now c.args.name.now c.args.desc.now c.args.kind) c.args.among.now) c.loop-class-test.true c.loop-class.invariant (sym c.in-None.ensures)

pub returns : goal.returns
returns c = sym (first_end (method_in c.args.world.now c.args.name.now c.args.desc.now c.args.kind) c.args.among.now c.loop-class.class-index (first_of (method_in c.args.world.now c.args.name.now c.args.desc.now c.args.kind) c.args.among.now) (omega arith) c.loop-class.invariant)
