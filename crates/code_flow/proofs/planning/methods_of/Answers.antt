use Rattle.code_flow.proofs.Bodies.{methods_next, all_next}
use Rattle.code_flow.proofs.planning.methods_of.Goals as goal

pub loop-scan-preserved : goal.loop-scan-preserved
loop-scan-preserved c = record {
  plans = methods_next c.args.w.now c.args.scans.now c.loop-scan.scan-index c.scan-item.result c.scan-item.result c.loop-scan.methods.items c.push.new.self.items c.in_ok-planned.field-0
      c.loop-scan-test.true c.scan-item.is c.loop-scan.invariant.plans c.in_ok-planned.ensures.plan c.in_ok-push.ensures.items;
  reached = all_next c.args.w.now c.loop-scan.methods.items c.push.new.self.items c.in_ok-planned.field-0 c.loop-scan.invariant.reached c.in_ok-planned.ensures.reached c.in_ok-push.ensures.items;
}
