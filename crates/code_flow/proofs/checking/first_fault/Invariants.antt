use Rattle.std.proofs.Common.{◌≡◌, drop}
use Rattle.code_flow.specs.Checking.{checked_scan, first_from}
use Rattle.code_flow.proofs.checking.first_fault.Given as goal

abbrev pub invariant-loop-i : goal.invariant-loop-i
invariant-loop-i l = first_from (checked_scan l.check l.found) 0 l.scans ≡ first_from (checked_scan l.check l.found) l.i (drop l.i l.scans)
