use Rattle.class_hierarchy.specs.Ranks.{IsGraphBelow}
use Rattle.class_hierarchy.proofs.cycle.graph_of.Given as goal

abbrev pub invariant-loop-class : goal.invariant-loop-class
invariant-loop-class l = IsGraphBelow l.classes l.class l.graph
