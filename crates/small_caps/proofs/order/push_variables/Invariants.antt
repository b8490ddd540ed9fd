use Rattle.std.proofs.Common.{◌≡◌, ℕ, ℤ, ◌++◌, map, take}
use Rattle.small_caps.proofs.order.push_variables.Given as goal

abbrev pub invariant-loop-term : goal.invariant-loop-term
invariant-loop-term l = l.key.items ≡ l.initial.key.items ++ map (λ (t : ℕ × ℤ). t.0) (take l.term-index l.terms)
