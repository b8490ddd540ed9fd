use Rattle.std.proofs.Common.{arith, ◌-◌, sym, ◌∙◌}
use Rattle.world.specs.Instances.{is_instance_by}
use Rattle.world.proofs.Instancing.{inst_start, inst_plain, inst_stop, inst_own, inst_inside, inst_none}
use Rattle.world.proofs.world.World.is_instance_by.Goals as goal

pub loop-init : goal.loop-init
loop-init c = inst_start c.args.self.now c.args.brackets c.args.class.now c.args.of.now

pub returns-then-not-is_array : goal.returns-then-not-is_array
returns-then-not-is_array c =
    c.class_instance-is_plain.ensures ∙ inst_plain c.args.self.now (c.args.brackets - c.loop.counter) c.loop.a.now c.loop.b.now (is_instance_by c.args.self.now c.args.brackets c.args.class.now c.args.of.now) c.loop.invariant (sym c.is_array.ensures ∙ c.if-not-is_array.true)

pub returns-then-is_own : goal.returns-then-is_own
returns-then-is_own c =
    inst_own c.args.self.now c.args.brackets c.loop.counter c.loop.a.now c.loop.b.now (is_instance_by c.args.self.now c.args.brackets c.args.class.now c.args.of.now) (omega arith) c.loop.invariant (sym c.is_array.ensures ∙ c.if-not-is_array.false) (sym c.if-is_own.true ∙ c.is_own.ensures)

pub loop-preserved : goal.loop-preserved
loop-preserved c =
    inst_inside c.args.self.now c.args.brackets c.loop.counter c.loop.a.now c.loop.b.now c.in-Some.x.now c.in-Some.y.now (is_instance_by c.args.self.now c.args.brackets c.args.class.now c.args.of.now) (omega arith) c.loop.invariant (sym c.is_array.ensures ∙ c.if-not-is_array.false) (sym c.if-is_own.false ∙ c.is_own.ensures) c.in-Some.ensures

pub returns-in-None : goal.returns-in-None
returns-in-None c =
    inst_none c.args.self.now c.args.brackets c.loop.counter c.loop.a.now c.loop.b.now (is_instance_by c.args.self.now c.args.brackets c.args.class.now c.args.of.now) (omega arith) c.loop.invariant (sym c.is_array.ensures ∙ c.if-not-is_array.false) (sym c.if-is_own.false ∙ c.is_own.ensures) c.in-None.ensures

pub returns : goal.returns
returns c =
    c.class_instance-is_last.ensures ∙ inst_stop c.args.self.now (c.args.brackets - c.loop.counter) c.loop.a.now c.loop.b.now (is_instance_by c.args.self.now c.args.brackets c.args.class.now c.args.of.now) (omega arith) c.loop.invariant
