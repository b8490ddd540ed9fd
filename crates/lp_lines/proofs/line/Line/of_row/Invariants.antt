use Rattle.std.proofs.Common.{◌≡◌, All}
use Rattle.lp_lines.specs.Numbers.{IsNumber}
use Rattle.lp_lines.specs.inside.First.{coefficients_to}
use Rattle.lp_lines.proofs.line.Line.of_row.Given as goal

abbrev pub invariant-loop-v : goal.invariant-loop-v
invariant-loop-v l = record {
  line : l.numbers.items ≡ coefficients_to l.v l.lin;
  numbers : All IsNumber l.numbers.items;
}
