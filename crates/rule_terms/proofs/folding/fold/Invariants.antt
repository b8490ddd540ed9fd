use Rattle.std.proofs.Common.{◌≡◌, ◌+◌}
use Rattle.rule_terms.specs.Terms.{term_of}
use Rattle.rule_terms.specs.Algebra.{fold_of}
use Rattle.rule_terms.specs.inside.Frames.{plugged, waiting_size, size_of}
use Rattle.rule_terms.proofs.folding.fold.Given as goal

abbrev pub invariant-loop-frames : goal.invariant-loop-frames
invariant-loop-frames g l =
    plugged g.A.RuleAlgebra.algebra l.frames (fold_of g.A.RuleAlgebra.algebra (term_of l.below)) ≡ fold_of g.A.RuleAlgebra.algebra (term_of l.rule)

abbrev pub decreases-loop-frames : goal.decreases-loop-frames
decreases-loop-frames g l = waiting_size l.frames + size_of (term_of l.below)
