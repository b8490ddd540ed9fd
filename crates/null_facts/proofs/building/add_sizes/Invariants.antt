use Rattle.std.proofs.Common.{◌≡◌, ◌++◌, drop, map}
use Rattle.null_facts.specs.Program.{size_of}
use Rattle.null_facts.proofs.building.add_sizes.Given as goal

abbrev pub invariant-loop-pc : goal.invariant-loop-pc
invariant-loop-pc l = l.sizes.items ++ map size_of (drop l.pc l.method.kinds.now) ≡ l.initial.sizes.items ++ map size_of l.method.kinds.now
