use Rattle.rule_terms.specs.Terms.{term_of}
use Rattle.rule_terms.specs.inside.Frames.{GoesDown}
use Rattle.rule_terms.proofs.folding.descend.Given as goal

abbrev pub invariant-loop-below : goal.invariant-loop-below
invariant-loop-below g l = GoesDown l.initial.frames l.frames (term_of l.rule) (term_of l.below)
