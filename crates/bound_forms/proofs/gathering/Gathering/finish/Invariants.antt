use Rattle.std.proofs.Common.{◌≡◌, ◌++◌, All}
use Rattle.bound_forms.specs.inside.Entries.{IsKeyed, entries_values}
use Rattle.bound_forms.proofs.gathering.Gathering.finish.Given as goal

abbrev pub invariant-loop-entry : goal.invariant-loop-entry
invariant-loop-entry l = (l.form.items ++ entries_values l.entry-iterator ≡ l.fn.self) × All IsKeyed l.entry-iterator
