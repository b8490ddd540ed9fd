use Rattle.std.proofs.Common.{◌≡◌, length, map}
use Rattle.class_hierarchy.specs.World.{World}
use Rattle.code_flow.specs.Scanning.{scan_of}
use Rattle.code_flow.specs.Returning.{IsGraphTo}
use Rattle.code_flow.proofs.calling.graph_of.Given as goal

abbrev pub invariant-loop-i : goal.invariant-loop-i
invariant-loop-i l = (length l.graph ≡ length l.found) × ((w : World) → l.scans ≡ map (scan_of w) l.found → IsGraphTo w l.found l.i l.graph)
