use Rattle.std.specs.Prelude.{◌≡◌, pos, ◌*ℤ◌, map}
use Rattle.std.proofs.Common.{take}
use Rattle.small_levels.specs.Measured.{times_in}
use Rattle.small_rank.proofs.ranking.multiple_of.Given as goal

abbrev pub invariant-loop-c : goal.invariant-loop-c
invariant-loop-c l = l.list.items ≡ map (λ c. pos (times_in l.factor) *ℤ c) (take l.c-index l.f.coefficients)
