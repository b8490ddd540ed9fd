use Rattle.std.proofs.Common.{◌≡◌, ◌++◌, drop, map}
use Rattle.frames.specs.Heap.{default_of}
use Rattle.entries.specs.Entry.{statics_from}
use Rattle.entries.specs.Entering.{zeros}
use Rattle.entries.proofs.statics.zeros.Given as goal

abbrev pub invariant-loop-c : goal.invariant-loop-c
invariant-loop-c l = l.statics.items ++ map (λ f. (f.0, default_of f.1)) (statics_from l.c (drop l.c l.w)) ≡ zeros l.w
