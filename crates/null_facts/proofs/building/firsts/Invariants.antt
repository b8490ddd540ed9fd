use Rattle.std.proofs.Common.{◌≡◌, ◌++◌, drop}
use Rattle.null_facts.specs.Program.{firsts_from, firsts_of}
use Rattle.null_facts.proofs.building.firsts.Given as goal

abbrev pub invariant-loop-method : goal.invariant-loop-method
invariant-loop-method l = l.firsts.items ++ firsts_from l.first (drop l.method-index l.methods) ≡ firsts_of l.methods
