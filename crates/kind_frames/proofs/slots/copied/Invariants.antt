use Rattle.std.proofs.Common.{◌≡◌, ◌++◌, drop}
use Rattle.kind_frames.proofs.slots.copied.Given as goal

abbrev pub invariant-loop-kind : goal.invariant-loop-kind
invariant-loop-kind l = l.copy.items ++ drop l.kind-index l.kinds ≡ l.kinds
