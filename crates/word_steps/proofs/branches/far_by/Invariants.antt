use Rattle.std.proofs.Common.{◌≡◌, ◌-◌}
use Rattle.word_steps.specs.Branches.{case_from}
use Rattle.word_steps.proofs.branches.far_by.Given as goal

abbrev pub invariant-loop-i : goal.invariant-loop-i
invariant-loop-i l = case_from l.code l.pc l.default l.value 0 l.count ≡ case_from l.code l.pc l.default l.value l.i (l.count - l.i)
