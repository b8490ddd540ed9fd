use Rattle.std.proofs.Common.{◌≡◌, ◌≤◌, length}
use Rattle.rule_terms.specs.inside.Frames.{plugged, waiting_size}
use Rattle.rule_terms.proofs.folding.rise.Given as goal

abbrev pub invariant-loop-frame : goal.invariant-loop-frame
invariant-loop-frame g l = record {
  same : plugged g.A.RuleAlgebra.algebra l.frames l.out ≡ plugged g.A.RuleAlgebra.algebra l.initial.frames l.initial.out;
  less : waiting_size l.frames ≤ waiting_size l.initial.frames;
}

abbrev pub decreases-loop-frame : goal.decreases-loop-frame
decreases-loop-frame g l = length l.frames
