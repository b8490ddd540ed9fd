use Rattle.std.proofs.Common.{◌≡◌, All, take, map}
use Rattle.code_flow.specs.Plans.{plan_of, IsReached}
use Rattle.code_flow.specs.Scanned.{planned_by}
use Rattle.code_flow.proofs.planning.methods_of.Given as goal

abbrev pub invariant-loop-scan : goal.invariant-loop-scan
invariant-loop-scan l = record {
  plans : map plan_of l.methods.items ≡ map planned_by (take l.scan-index l.scans);
  reached : All (IsReached l.w) l.methods.items;
}
