use Rattle.std.proofs.Common.{◌≡◌, drop}
use Rattle.std.specs.Prelude.{max}
use Rattle.null_flow.specs.Flow.{largest}
use Rattle.null_flow.proofs.flow.largest.Given as goal

abbrev pub invariant-loop-size : goal.invariant-loop-size
invariant-loop-size l = max l.most (largest (drop l.size-index l.sizes)) ≡ largest l.sizes
