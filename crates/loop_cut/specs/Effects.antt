-- What an instruction stores to (JVMS 6.5).
use Rattle.std.specs.Prelude.{ℕ, ◌+◌, List, [], ◌∷◌}
use Rattle.op_table.specs.declared.acts.Action.{Action}
use Rattle.op_table.specs.declared.acts.Action.TheVariants as acts
use Rattle.op_table.specs.declared.acts.Kind.TheVariants as kinds

-- the locals that an instruction stores to
abbrev pub stored_by : Action → List ℕ
stored_by (acts.Store kinds.Int n) = n ∷ []
stored_by (acts.Store kinds.Long n) = n ∷ (n + 1) ∷ []
stored_by (acts.Store kinds.Reference n) = n ∷ []
stored_by (acts.Increment n amount) = n ∷ []
stored_by action = []
