use Rattle.std.proofs.Common.{◌≡◌, length}
use Rattle.class_hierarchy.proofs.Ranking.{Adds}
use Rattle.class_hierarchy.proofs.cycle.add_supers.Given as goal

abbrev pub invariant-loop-other : goal.invariant-loop-other
invariant-loop-other l = (length l.graph ≡ length l.classes) × Adds l.fn.graph l.class l.other-items l.other-index l.graph
