use Rattle.std.proofs.Common.{◌≡◌, ◌-◌, ◌++◌}
use Rattle.code_blocks.specs.Successors.{case_distances}
use Rattle.code_blocks.proofs.following.add_cases.Given as goal

abbrev pub invariant-loop-i : goal.invariant-loop-i
invariant-loop-i l = l.fn.far.items ++ case_distances l.code l.pc 0 l.count ≡ l.far.items ++ case_distances l.code l.pc l.i (l.count - l.i)
