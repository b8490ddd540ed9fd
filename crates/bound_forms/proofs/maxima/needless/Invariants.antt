use Rattle.std.proofs.Common.{◌≡◌, ◌++◌, [], take, drop}
use Rattle.bound_forms.specs.Answered.{coded_forms}
use Rattle.bound_forms.specs.inside.Pruning.{needless_of}
use Rattle.bound_forms.proofs.maxima.needless.Given as goal

abbrev pub invariant-loop-i : goal.invariant-loop-i
invariant-loop-i l = l.flags.items ++ needless_of (coded_forms (take l.i l.operands)) (coded_forms (drop l.i l.operands)) ≡ needless_of [] (coded_forms l.operands)
