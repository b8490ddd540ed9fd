use Rattle.std.proofs.Common.{◌≡◌, ◌++◌, ◌+◌, ℕ, replicate}
use Rattle.slot_facts.specs.declared.kind.Kind.TheVariants.{Top}
use Rattle.kind_effects.proofs.frames.add_unknown.Given as goal

abbrev pub invariant-loop : goal.invariant-loop
invariant-loop l = (left : ℕ) × (l.counter + left ≡ l.count) × (l.kinds.items ++ replicate left Top ≡ l.initial.kinds.items ++ replicate l.count Top)
