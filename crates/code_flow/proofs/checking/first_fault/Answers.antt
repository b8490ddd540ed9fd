use Rattle.std.proofs.Common.{arith, sym}
use Rattle.code_flow.specs.Checking.{checked_scan, first_from}
use Rattle.code_flow.proofs.Firsts.{from_later, from_here, from_end}
use Rattle.code_flow.proofs.checking.first_fault.Goals as goal

pub returns-in-Some : goal.returns-in-Some
returns-in-Some c =
    from_here (checked_scan c.args.check.now c.args.found.now) c.args.scans.now c.loop-i.i c.index-scans-i.result c.index-scans-i.result c.in-Some.fault (first_from (checked_scan c.args.check.now c.args.found.now) 0 c.args.scans.now) (omega arith) c.index-scans-i.is (sym c.in-Some.ensures) c.loop-i.invariant

pub loop-i-preserved : goal.loop-i-preserved
loop-i-preserved c =
    from_later (checked_scan c.args.check.now c.args.found.now) c.args.scans.now c.loop-i.i c.index-scans-i.result c.index-scans-i.result (first_from (checked_scan c.args.check.now c.args.found.now) 0 c.args.scans.now) (omega arith) c.index-scans-i.is (sym c.in-None.ensures) c.loop-i.invariant

pub returns : goal.returns
returns c = from_end (checked_scan c.args.check.now c.args.found.now) c.args.scans.now c.loop-i.i (first_from (checked_scan c.args.check.now c.args.found.now) 0 c.args.scans.now) (omega arith) c.loop-i.invariant
