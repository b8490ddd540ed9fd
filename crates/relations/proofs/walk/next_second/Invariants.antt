use Rattle.std.proofs.Common.{◌≡◌, ℕ, List, Result, length}
use Rattle.relations.specs.declared.fault.RelFault.{RelFault}
use Rattle.relations.specs.inside.Walk.{marks_walk, marks_size}
use Rattle.relations.proofs.walk.next_second.Given as goal

abbrev pub invariant-loop-mark : goal.invariant-loop-mark
invariant-loop-mark l = record {
  same : (nodes : List ℕ) (sizes : ℕ) (counted : Result ℕ RelFault) → marks_walk nodes sizes l.initial.marks counted ≡ marks_walk nodes sizes l.marks counted;
  size : marks_size l.initial.marks ≡ marks_size l.marks;
}

abbrev pub decreases-loop-mark : goal.decreases-loop-mark
decreases-loop-mark l = length l.marks
