use Rattle.std.proofs.Common.{drop}
use Rattle.std.specs.Prelude.{All, FitsSigned}
use Rattle.std.specs.Int.{w128}
use Rattle.bound_normal.proofs.normalizing.see_numbers.Given as goal

abbrev pub invariant-loop-number : goal.invariant-loop-number
invariant-loop-number l = All (FitsSigned w128) (drop l.number-index l.numbers) → All (FitsSigned w128) l.numbers
