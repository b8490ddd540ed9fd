use Rattle.std.proofs.Common.{◌≡◌, ◌++◌, drop}
use Rattle.null_facts.specs.Program.{sizes_of}
use Rattle.null_facts.proofs.building.sizes.Given as goal

abbrev pub invariant-loop-method : goal.invariant-loop-method
invariant-loop-method l = l.sizes.items ++ sizes_of (drop l.method-index l.methods) ≡ sizes_of l.methods
