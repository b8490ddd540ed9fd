use Rattle.std.proofs.Common.{◌≡◌, ◌++◌, ◌+◌, ℕ, replicate, false}
use Rattle.null_flow.proofs.effects.add_unknown.Given as goal

abbrev pub invariant-loop : goal.invariant-loop
invariant-loop l = (left : ℕ) × (l.counter + left ≡ l.count) × (l.flags.items ++ replicate left false ≡ l.initial.flags.items ++ replicate l.count false)
