use Rattle.std.proofs.Common.{◌≡◌, ◌++◌, drop}
use Rattle.kind_effects.proofs.effects.add_all.Given as goal

abbrev pub invariant-loop-kind : goal.invariant-loop-kind
invariant-loop-kind l = l.kinds.items ++ drop l.kind-index l.some ≡ l.initial.kinds.items ++ l.some
