use Rattle.std.proofs.Common.{◌≡◌, length}
use Rattle.linking.specs.Members.{innermost}
use Rattle.linking.proofs.members.innermost.Given as goal

abbrev pub invariant-loop-rest : goal.invariant-loop-rest
invariant-loop-rest l = innermost l.desc ≡ innermost l.rest

abbrev pub decreases-loop-rest : goal.decreases-loop-rest
decreases-loop-rest l = length l.rest
