use Rattle.std.proofs.Common.{arith}
use Rattle.std.proofs.lemmas.Int.{ints}
use Rattle.small_levels.proofs.levels.fall_of.Goals as goal

pub returns : goal.returns
returns c = omega (arith, ints, c.plus.ensures, c.minus.ensures, c.halves_of.ensures)
