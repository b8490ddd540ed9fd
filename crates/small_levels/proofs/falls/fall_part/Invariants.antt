use Rattle.std.proofs.Common.{◌≡◌, ◌-ℤ◌, take}
use Rattle.small_levels.specs.Numbers.{value_of, IsBetween}
use Rattle.small_levels.specs.Falls.{first_of, sum_part}
use Rattle.small_levels.proofs.falls.fall_part.Given as goal

abbrev pub invariant-loop-j : goal.invariant-loop-j
invariant-loop-j l = record {
  made : value_of l.fall ≡ first_of l.f l.at -ℤ sum_part (take l.j l.f.coefficients) l.next l.at;
  bounded : IsBetween l.j (value_of l.fall);
}
