use Rattle.std.proofs.Common.{◌≡◌, ◌+◌, ◌++◌, length, map}
use Rattle.frames.specs.Heap.{default_of}
use Rattle.entries.specs.Entry.{own_statics}
use Rattle.entries.proofs.statics.add_statics.Given as goal

abbrev pub invariant-loop-rest : goal.invariant-loop-rest
invariant-loop-rest l = (l.statics.items ++ map (λ f. (f.0, default_of f.1)) (own_statics l.class l.member l.rest) ≡ l.fn.statics.items ++ map (λ f. (f.0, default_of f.1)) (own_statics l.class 0 l.own)) × (l.member + length l.rest ≡ length l.own)

abbrev pub decreases-loop-rest : goal.decreases-loop-rest
decreases-loop-rest l = length l.rest
