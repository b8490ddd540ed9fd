use Rattle.std.proofs.Common.{◌≡◌, true}
use Rattle.op_table.specs.Grammar.{are_rising}
use Rattle.op_table.proofs.switches.are_rising.Given as goal

-- the values of the pairs before k rise
abbrev pub invariant-loop-k : goal.invariant-loop-k
invariant-loop-k l = are_rising l.k l.pairs ≡ true
