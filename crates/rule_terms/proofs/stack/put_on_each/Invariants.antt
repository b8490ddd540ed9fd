use Rattle.std.proofs.Common.{◌≡◌, ◌++◌, take, drop}
use Rattle.rule_terms.specs.Paths.{behind}
use Rattle.rule_terms.proofs.stack.put_on_each.Given as goal

abbrev pub invariant-loop-i : goal.invariant-loop-i
invariant-loop-i l = l.stacks.items ≡ behind l.item (take l.i l.initial.stacks.items) ++ drop l.i l.initial.stacks.items
