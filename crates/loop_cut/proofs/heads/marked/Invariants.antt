use Rattle.graph_core.proofs.LoopLaws.{HasMarked}
use Rattle.loop_cut.proofs.heads.marked.Given as goal

abbrev pub invariant-loop-x : goal.invariant-loop-x
invariant-loop-x l = HasMarked l.marks l.x l.found.items
